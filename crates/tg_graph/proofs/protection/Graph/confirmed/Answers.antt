use Rattle.std.proofs.Common.{sym, ap, subst, ◌∙◌, bytes_eq, slice_get}
use Rattle.std.specs.List.{IsDistinct}
use Rattle.std.specs.Map.{keys_of}
use Rattle.tg_rows.specs.Rows.{Entries}
use Rattle.tg_graph.proofs.TakenOver.{position-at}
use Rattle.tg_graph.proofs.protection.Graph.confirmed.Goals as goal

pub returns-in-Some : goal.returns-in-Some
returns-in-Some c = position-at (keys_of c.args.self.now) c.in-Some.number c.args.name
    (subst (λ (es : Entries). IsDistinct bytes_eq (keys_of es)) c.self.view_is c.stands_at.ensures.apart)
    (ap (λ (es : Entries). slice_get (keys_of es) c.in-Some.number) (sym c.self.view_is) ∙ c.stands_at.ensures.stands c.if-stands_at.true)
