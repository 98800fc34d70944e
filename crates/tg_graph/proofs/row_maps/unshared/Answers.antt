use Rattle.std.proofs.Common.{◌∙◌, bytes_eq}
use Rattle.indexmap.specs.IndexMap.{insert_all}
use Rattle.tg_graph.proofs.Drafts.{laid-nothing}
use Rattle.tg_graph.proofs.row_maps.unshared.Goals as goal

pub loop-n-init : goal.loop-n-init
loop-n-init c =
    (λ i. insert_all bytes_eq ((c.in_ok-reserve.ensures.entries ∙ c.new-copy.ensures.empty) i) (c.into_iter-n-iterator.ensures.into_iter_gives.0 i))
    ∙ laid-nothing c.args.rows.now.entries c.len.ensures.unique
