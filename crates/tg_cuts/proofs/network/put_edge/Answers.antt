use Rattle.std.proofs.Common.{sym, ◌∙◌}
use Rattle.tg_islands.proofs.RowEnds.{end-within, is_read}
use Rattle.tg_cuts.proofs.FlowEdges.{row-there, edges-past, edges-idle, edges-next}
use Rattle.tg_cuts.proofs.network.put_edge.Goals as goal

pub name_of-target-requires : goal.name_of-target-requires
name_of-target-requires c = end-within c.args.graph.now c.args.position c.args.place c.in-Some.end c.in-Some.label (sym c.end_in.ensures ∙ c.in-Some.is)

pub name_of-source-requires : goal.name_of-source-requires
name_of-source-requires c =
    let r = is_read c.args.graph.now c.args.position c.args.place c.in-Some.end c.in-Some.label (sym c.end_in.ensures ∙ c.in-Some.is) in
    row-there c.args.graph.now c.args.position c.args.place (r.name, c.in-Some.label) r.read

pub returns-in_default : goal.returns-in_default
returns-in_default c =
    let sought = c.args.sought.now in
    edges-past c.args.graph.now sought.right sought.y sought.kept.now c.args.position c.args.place c.args.network.now c.requires.so_far (sym c.end_in.ensures ∙ c.in_default.is)

pub returns-in_default-role : goal.returns-in_default-role
returns-in_default-role c =
    let sought = c.args.sought.now in
    edges-idle c.args.graph.now sought.right sought.y sought.kept.now c.args.position c.args.place c.args.network.now c.requires.so_far c.in-Some.end c.in-Some.label c.name_of-target.result (sym c.end_in.ensures ∙ c.in-Some.is) c.name_of-target.ensures (sym c.role.ensures ∙ c.in_default-role.is)

pub returns : goal.returns
returns c =
    let sought = c.args.sought.now in
    edges-next c.args.graph.now sought.right sought.y sought.kept.now c.args.position c.args.place c.args.network.now c.requires.so_far c.requires.graph c.in-Some.end c.in-Some.label c.in-Some-role.role c.name_of-source.result c.name_of-target.result c.is_one_of-kept.result c.put.new.self (sym c.end_in.ensures ∙ c.in-Some.is) c.name_of-source.ensures c.name_of-target.ensures (sym c.role.ensures ∙ c.in-Some-role.is) c.is_one_of-kept.ensures c.in_ok-put.ensures.put
