use Rattle.std.proofs.Common.{◌∙◌, sym, ap, subst, slice_get}
use Rattle.std.specs.Map.{keys_of}
use Rattle.tg_rows.specs.Rows.{Entries, IsGraph}
use Rattle.tg_graph.specs.GraphOf.{graph_of}
use Rattle.tg_graph.specs.Rules.{without_rights}
use Rattle.tg_rows.proofs.Rows.{on_err_from}
use Rattle.tg_graph.proofs.Graphs.{alters, changes-found, same-found, graph-takes, is_graph-takes}
use Rattle.tg_graph.proofs.TakenOver.{row-at, set_value-at}
use Rattle.tg_graph.proofs.protection.Graph.withdraw.Goals as goal

pub invariant_of-self-in_err-take : goal.invariant_of-self-in_err-take
invariant_of-self-in_err-take c =
    let es = c.self.inside.rows.entries in
    let row = c.in-Some-get_index_mut.row.now in
    let source = c.in-Some.source in
    let here = ap (λ (es : Entries). slice_get (keys_of es) source) c.self.view_is ∙ c.in-Some.ensures.place in
    let found = row-at es source c.args.x row c.self.invariant.apart here (sym c.in-Some-get_index_mut.ensures.value) in
    let put = set_value-at es source c.args.x row c.take.new.self c.self.invariant.apart here found in
    subst IsGraph (sym (same-found es _ c.args.x row c.take.new.self (sym found) put c.in_err-take.ensures.err)) c.self.invariant

pub returns-in_err-take-clause-err : goal.returns-in_err-take-clause-err
returns-in_err-take-clause-err c =
    let es = c.self.inside.rows.entries in
    let row = c.in-Some-get_index_mut.row.now in
    let source = c.in-Some.source in
    let here = ap (λ (es : Entries). slice_get (keys_of es) source) c.self.view_is ∙ c.in-Some.ensures.place in
    let found = row-at es source c.args.x row c.self.invariant.apart here (sym c.in-Some-get_index_mut.ensures.value) in
    let put = set_value-at es source c.args.x row c.take.new.self c.self.invariant.apart here found in
    on_err_from c.from_residual.result (same-found es _ c.args.x row c.take.new.self (sym found) put c.in_err-take.ensures.err ∙ c.self.view_is)

pub invariant_of-self-2 : goal.invariant_of-self-2
invariant_of-self-2 c =
    let es = c.self.inside.rows.entries in
    let row = c.in-Some-get_index_mut.row.now in
    let source = c.in-Some.source in
    let here = ap (λ (es : Entries). slice_get (keys_of es) source) c.self.view_is ∙ c.in-Some.ensures.place in
    let found = row-at es source c.args.x row c.self.invariant.apart here (sym c.in-Some-get_index_mut.ensures.value) in
    let put = set_value-at es source c.args.x row c.take.new.self c.self.invariant.apart here found in
    is_graph-takes es _ c.args.x c.args.y c.args.rights (alters (changes-found es _ c.args.x row c.take.new.self (sym found) put c.in_ok-take.ensures.taken c.in_ok-take.ensures.row)) c.self.invariant

pub returns-clause-taken : goal.returns-clause-taken
returns-clause-taken c =
    let es = c.self.inside.rows.entries in
    let row = c.in-Some-get_index_mut.row.now in
    let source = c.in-Some.source in
    let here = ap (λ (es : Entries). slice_get (keys_of es) source) c.self.view_is ∙ c.in-Some.ensures.place in
    let found = row-at es source c.args.x row c.self.invariant.apart here (sym c.in-Some-get_index_mut.ensures.value) in
    let put = set_value-at es source c.args.x row c.take.new.self c.self.invariant.apart here found in
    graph-takes es _ c.args.x c.args.y c.args.rights (alters (changes-found es _ c.args.x row c.take.new.self (sym found) put c.in_ok-take.ensures.taken c.in_ok-take.ensures.row))
    ∙ ap (λ es. without_rights (graph_of es) c.args.x c.args.y c.args.rights) c.self.view_is
