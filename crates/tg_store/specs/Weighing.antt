-- A record that a session comes upon.
use Rattle.std.specs.Prelude.{◌≡◌, ℕ, List, Some}
use Rattle.tg_rows.specs.Rows.{Entries}
use Rattle.tg_graph.specs.GraphOf.{graph_of}
use Rattle.tg_hall.specs.declared.answers.Answered.{Answered}
use Rattle.tg_store.specs.declared.outcomes.CommitFault.TheVariants.{Changed, Crowded}
use Rattle.tg_store.specs.declared.weighing.Weighed.{Weighed}
use Rattle.tg_store.specs.declared.weighing.Weighed.TheVariants.{Clear, Ends}
use Rattle.tg_hall.specs.Drafted.{IsDraftOf}
use Rattle.tg_hall.specs.Touches.{IsClear, IsSpoilt, IsOvercrowded}

-- what the record with these committed steps, at this place, is to a session that rests on the base; whether the record is true is not asked
abbrev pub Weighs : Entries → ℕ → List Answered → List Answered → Weighed → Type 0
Weighs base place committed session (Clear draft) = IsClear (graph_of base) committed (Some session) × IsDraftOf base committed draft
Weighs base place committed session (Ends (Changed at name)) = (at ≡ place) × IsSpoilt (graph_of base) committed (Some session) name
Weighs base place committed session (Ends (Crowded at)) = (at ≡ place) × IsOvercrowded (graph_of base) committed (Some session)
Weighs base place committed session (Ends _) = ⊥
