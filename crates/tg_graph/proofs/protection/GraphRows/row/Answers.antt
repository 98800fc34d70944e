use Rattle.std.proofs.Common.{◌≡◌, ◌∙◌, sym, ap, refl, Option, None, Some, false, slice_get, bytes_eq, is_some, true≢false}
use Rattle.std.specs.Option.{option_map}
use Rattle.std.specs.Map.{keys_of, lookup}
use Rattle.std.proofs.lemmas.Option.{none-some, slice_get-map}
use Rattle.std.proofs.lemmas.Map.Made.{is_some-lookup}
use Rattle.tg_rows.specs.Rows.{Edges, Entries}
use Rattle.tg_graph.proofs.TakenOver.{row-at}
use Rattle.tg_graph.proofs.protection.GraphRows.row.Goals as goal

pub returns-in_default : goal.returns-in_default
returns-in_default c =
    no_row (lookup (bytes_eq c.args.x) c.args.self.now) (is_some-lookup (bytes_eq c.args.x) c.args.self.now ∙ sym c.in_default.ensures.known)
  where
    no_row : (row : Option Edges) → is_some row ≡ false → None ≡ row
    no_row None e = refl
    no_row (Some row) e = absurd (true≢false e)

pub returns-in-Some-get_index : goal.returns-in-Some-get_index
returns-in-Some-get_index c =
    let es = c.self.inside.rows.entries in
    let place = c.in-Some.place in
    let here = ap (λ (es : Entries). slice_get (keys_of es) place) c.self.view_is ∙ c.in-Some.ensures.place in
    let row = slice_get-map (λ e. e.1) es place ∙ ap (option_map (λ e. e.1)) (sym c.in-Some-get_index.ensures.entry) in
    ap Some c.edges.ensures
    ∙ sym (row-at es place c.args.x c.in-Some-get_index.row.now c.self.invariant.apart here row)
    ∙ ap (lookup (bytes_eq c.args.x)) c.self.view_is

pub returns-in-None : goal.returns-in-None
returns-in-None c =
    let es = c.self.inside.rows.entries in
    let place = c.in-Some.place in
    let here = ap (λ (es : Entries). slice_get (keys_of es) place) c.self.view_is ∙ c.in-Some.ensures.place in
    let none = slice_get-map (λ e. e.0) es place ∙ ap (option_map (λ e. e.0)) (sym c.in-None.ensures.entry) in
    absurd (none-some c.args.x (sym none ∙ here))
