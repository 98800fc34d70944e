use Rattle.std.proofs.Common.{◌≡◌, ◌∙◌, sym, ap, Some, slice_get, bytes_eq}
use Rattle.std.specs.Option.{option_map}
use Rattle.std.specs.Map.{keys_of, lookup}
use Rattle.std.proofs.lemmas.Option.{slice_get-map}
use Rattle.std.proofs.lemmas.Result.{IfOk-weaker}
use Rattle.tg_rows.specs.Rows.{Entries}
use Rattle.tg_graph.proofs.TakenOver.{row-at}
use Rattle.tg_graph.proofs.protection.Graph.row_of.Goals as goal

pub returns : goal.returns
returns c =
    let es = c.self.inside.rows.entries in
    let place = c.in-Some.place in
    let here = ap (λ (es : Entries). slice_get (keys_of es) place) c.self.view_is ∙ c.in-Some.ensures.place in
    let row = slice_get-map (λ e. e.1) es place ∙ ap (option_map (λ e. e.1)) (sym c.in-Some-get_index.ensures.entry) in
    let found : lookup (bytes_eq c.args.x) c.args.self.now ≡ Some c.in-Some-get_index.row.now =
    ap (lookup (bytes_eq c.args.x)) (sym c.self.view_is) ∙ row-at es place c.args.x c.in-Some-get_index.row.now c.self.invariant.apart here row in
    record { row = IfOk-weaker c.unshared.result (λ row. row ≡ c.in-Some-get_index.row.now) (λ row. lookup (bytes_eq c.args.x) c.args.self.now ≡ Some row) (λ row e. found ∙ ap Some (sym e)) c.unshared.ensures }
