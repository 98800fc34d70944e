use Rattle.std.proofs.Common.{◌≡◌, take, drop}
use Rattle.std.specs.List.{list_any}
use Rattle.tg_names.specs.Names.{Name, same_name}
use Rattle.tg_rows.specs.Rows.{is_known}
use Rattle.tg_graph.specs.GraphOf.{graph_of}
use Rattle.tg_graph.specs.Drafts.{Fits}
use Rattle.tg_hall.specs.Answers.{after_steps}
use Rattle.tg_hall.specs.Touches.{writes, spoiler}
use Rattle.tg_hall.specs.Drafted.{drafted}
use Rattle.tg_store.proofs.weighing.lay_all_watched.Given as goal

abbrev pub invariant-loop-answered : goal.invariant-loop-answered
invariant-loop-answered l = record {
  fits : Fits l.base l.draft;
  stands : drafted l.base l.draft ≡ after_steps (graph_of l.base) (take l.answered-index l.committed);
  rows : (v : Name) → is_known l.draft.0 v ≡ list_any (same_name v) (writes (graph_of l.base) (take l.answered-index l.committed));
  left : spoiler (drafted l.base l.draft) (drop l.answered-index l.committed) l.session ≡ spoiler (graph_of l.base) l.committed l.session;
}
