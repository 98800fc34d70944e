use Rattle.std.proofs.Common.{◌≡◌, ◌∙◌, sym, ap, subst, MatchBool, not}
use Rattle.std.specs.Prelude.{slice_get}
use Rattle.std.specs.Map.{keys_of}
use Rattle.indexmap.specs.Layout.{set_value_at}
use Rattle.tg_rows.specs.Rows.{is_known, IsGraph, Adds}
use Rattle.tg_graph.specs.GraphOf.{graph_of}
use Rattle.tg_graph.specs.Rules.{with_rights}
use Rattle.tg_names.specs.Sets.{is_empty_set}
use Rattle.tg_graph.specs.Additions.{label_between}
use Rattle.tg_graph.proofs.EmptyLabels.{empty-between}
use Rattle.tg_rows.proofs.Rows.{on_err_from}
use Rattle.tg_graph.proofs.Graphs.{joins-found, same-found, graph-joined, is_graph-joined}
use Rattle.tg_graph.proofs.TakenOver.{row-at, set_value-at}
use Rattle.tg_graph.proofs.protection.Graph.join.Goals as goal

pub invariant_of-self-in_err-added : goal.invariant_of-self-in_err-added
invariant_of-self-in_err-added c =
    let es = c.self.inside.rows.entries in
    let here = ap (λ rows. slice_get (keys_of rows) c.args.source) c.self.view_is ∙ c.requires.source in
    let found = row-at es c.args.source c.args.x c.in-Some.row.now c.self.invariant.apart here (sym c.in-Some.ensures.value) in
    let put = set_value-at es c.args.source c.args.x c.in-Some.row.now c.add_new.new.self c.self.invariant.apart here found in
    subst IsGraph (sym (same-found es _ c.args.x c.in-Some.row.now c.add_new.new.self (sym found) put c.in_err-added.ensures.err)) c.self.invariant

pub returns-in_err-added-clause-absent : goal.returns-in_err-added-clause-absent
returns-in_err-added-clause-absent c =
    let es = c.self.inside.rows.entries in
    let here = ap (λ rows. slice_get (keys_of rows) c.args.source) c.self.view_is ∙ c.requires.source in
    let found = row-at es c.args.source c.args.x c.in-Some.row.now c.self.invariant.apart here (sym c.in-Some.ensures.value) in
    on_err_from c.from_residual.result
    (ap (λ es. is_empty_set (label_between (graph_of es) c.args.x c.args.y)) (sym c.self.view_is)
    ∙ empty-between es c.args.x c.args.y c.in-Some.row.now c.self.invariant found
    ∙ ap not c.in_err-added.ensures.absent)

pub returns-in_err-added-clause-err : goal.returns-in_err-added-clause-err
returns-in_err-added-clause-err c =
    let es = c.self.inside.rows.entries in
    let here = ap (λ rows. slice_get (keys_of rows) c.args.source) c.self.view_is ∙ c.requires.source in
    let found = row-at es c.args.source c.args.x c.in-Some.row.now c.self.invariant.apart here (sym c.in-Some.ensures.value) in
    let put = set_value-at es c.args.source c.args.x c.in-Some.row.now c.add_new.new.self c.self.invariant.apart here found in
    on_err_from c.from_residual.result (same-found es _ c.args.x c.in-Some.row.now c.add_new.new.self (sym found) put c.in_err-added.ensures.err ∙ c.self.view_is)

pub invariant_of-self-2 : goal.invariant_of-self-2
invariant_of-self-2 c =
    let es = c.self.inside.rows.entries in
    let here = ap (λ rows. slice_get (keys_of rows) c.args.source) c.self.view_is ∙ c.requires.source in
    let found = row-at es c.args.source c.args.x c.in-Some.row.now c.self.invariant.apart here (sym c.in-Some.ensures.value) in
    let put = set_value-at es c.args.source c.args.x c.in-Some.row.now c.add_new.new.self c.self.invariant.apart here found in
    let added = c.in_ok-added.added in
    let joined = joins-found es _ c.args.x c.in-Some.row.now c.add_new.new.self (sym found) put (λ a b. Adds a b c.args.y c.args.rights) added c.in_ok-added.ensures.added c.in_ok-added.ensures.row in
    is_graph-joined es _ c.args.x c.args.y c.args.rights added joined c.self.invariant (ap (λ rows. is_known rows c.args.y) c.self.view_is ∙ c.requires.target)

pub returns-clause-said : goal.returns-clause-said
returns-clause-said c =
    let es = c.self.inside.rows.entries in
    let here = ap (λ rows. slice_get (keys_of rows) c.args.source) c.self.view_is ∙ c.requires.source in
    let found = row-at es c.args.source c.args.x c.in-Some.row.now c.self.invariant.apart here (sym c.in-Some.ensures.value) in
    c.in_ok-added.ensures.said
    ∙ sym (ap (λ es. is_empty_set (label_between (graph_of es) c.args.x c.args.y)) (sym c.self.view_is) ∙ empty-between es c.args.x c.args.y c.in-Some.row.now c.self.invariant found)

pub returns-clause-joined : goal.returns-clause-joined
returns-clause-joined c =
    let es = c.self.inside.rows.entries in
    let here = ap (λ rows. slice_get (keys_of rows) c.args.source) c.self.view_is ∙ c.requires.source in
    let found = row-at es c.args.source c.args.x c.in-Some.row.now c.self.invariant.apart here (sym c.in-Some.ensures.value) in
    let put = set_value-at es c.args.source c.args.x c.in-Some.row.now c.add_new.new.self c.self.invariant.apart here found in
    let added = c.in_ok-added.added in
    let joined = joins-found es _ c.args.x c.in-Some.row.now c.add_new.new.self (sym found) put (λ a b. Adds a b c.args.y c.args.rights) added c.in_ok-added.ensures.added c.in_ok-added.ensures.row in
    let new = set_value_at es c.args.source c.add_new.new.self in
    subst (λ rows. MatchBool added (graph_of new ≡ with_rights (graph_of rows) c.args.x c.args.y c.args.rights) (new ≡ rows)) c.self.view_is
    (graph-joined es new c.args.x c.args.y c.args.rights added joined)
