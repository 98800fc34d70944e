-- What a draft over a graph stands for, and when it is that of some steps.
use Rattle.std.specs.Prelude.{◌≡◌, ◌||◌, List}
use Rattle.std.specs.List.{list_any}
use Rattle.tg_names.specs.Names.{Name, same_name}
use Rattle.tg_graph.specs.Graphs.{ProtectionGraph}
use Rattle.tg_rows.specs.Rows.{Entries, is_known}
use Rattle.tg_graph.specs.GraphOf.{graph_of}
use Rattle.tg_graph.specs.Drafts.{Changes, laid_over, Fits, IsDraft}
use Rattle.tg_hall.specs.declared.answers.Answered.{Answered}
use Rattle.tg_hall.specs.Answers.{after_steps}
use Rattle.tg_hall.specs.Touches.{writes}

-- the base with what the draft has made of it
abbrev pub drafted : Entries → Changes → ProtectionGraph
drafted base changes = graph_of (laid_over base changes)

-- the draft has a row of each name that it had one of, of each of these names, and of no other
abbrev pub GainsRows : Changes → List Name → Changes → Type 0
GainsRows old names new = (v : Name) → is_known new.0 v ≡ (is_known old.0 v || list_any (same_name v) names)

-- the draft is that of the steps: it stands for the base with them, and has a row of each name that they wrote, and of no other
pub record IsDraftOf (base : Entries) (steps : List Answered) (changes : Changes) : Type 0 where
  pub sound : IsDraft changes
  pub fits : Fits base changes
  pub stands : drafted base changes ≡ after_steps (graph_of base) steps
  pub rows : (v : Name) → is_known changes.0 v ≡ list_any (same_name v) (writes (graph_of base) steps)
