use Rattle.std.proofs.Common.{◌<◌, [], sym, ap, subst, ◌∙◌, length, get_or, arith}
use Rattle.std.specs.Map.{keys_of}
use Rattle.std.proofs.lemmas.List.{length-map}
use Rattle.std.proofs.lemmas.Option.{slice_get-get_or}
use Rattle.tg_rows.specs.Rows.{IsGraph, IsRow, is_known, is_target}
use Rattle.tg_graph.proofs.BuiltGraphs.{is_graph-settled}
use Rattle.tg_graph.proofs.protection.Graph.set_row.Goals as goal

pub invariant_of-self : goal.invariant_of-self
invariant_of-self c =
    let es = c.self.inside.rows.entries in
    let names = keys_of es in
    let source = c.args.source in
    let within : source < length names = omega (arith, c.requires.within, ap length c.self.view_is, length-map es (λ e. e.0)) in
    subst IsGraph (sym c.set_at.ensures.set)
    (is_graph-settled es source (get_or names source []) c.in_ok-row.row c.self.invariant.apart (slice_get-get_or names source [] within) c.self.invariant
    (subst IsRow (sym c.in_ok-row.ensures) c.requires.row)
    (λ v h. ap (λ rows. is_known rows v) c.self.view_is ∙ c.requires.known v (sym (ap (λ row. is_target row v) c.in_ok-row.ensures) ∙ h)))
