use Rattle.std.proofs.Common.{◌≡◌, Some, None, get_or, set, length-set, is_some, refl, sym, ap, ◌∙◌}
use Rattle.std.proofs.lemmas.List.{get_or_default, get_or-set_same, get_or-set_other}
use Rattle.std.proofs.lemmas.Option.{slice_get-get_or}
use Rattle.tg_analysis.specs.Cases.{place_at}
use Rattle.tg_analysis.proofs.NumberKeys.{some_of, none_of}
use Rattle.tg_analysis.proofs.Claims.{heads-known, heads-new}
use Rattle.tg_analysis.proofs.heads.Heads.add.Goals as goal

pub returns-then-is_some : goal.returns-then-is_some
returns-then-is_some c =
    let numbers = c.args.numbers.now in
    let number = get_or numbers c.args.place 0 in
    let here = slice_get-get_or numbers c.args.place 0 c.requires.within in
    let places = c.args.self.now.places.items in
    let read : c.index.result.now ≡ place_at places number = c.index.ensures ∙ get_or_default places number c.index.result.now None c.requires.number in
    let known = some_of (place_at places number) (ap is_some (sym read) ∙ sym c.is_some.ensures ∙ c.if-is_some.true) in
    record { heads = heads-known numbers c.args.place number here places c.args.self.now.order.items c.requires.so_far known.0 known.1; len = refl }

pub returns : goal.returns
returns c =
    let numbers = c.args.numbers.now in
    let place = c.args.place in
    let number = get_or numbers place 0 in
    let here = slice_get-get_or numbers place 0 c.requires.within in
    let places = c.args.self.now.places.items in
    let read : c.index.result.now ≡ place_at places number = c.index.ensures ∙ get_or_default places number c.index.result.now None c.requires.number in
    let absent = none_of (place_at places number) (ap is_some (sym read) ∙ sym c.is_some.ensures ∙ c.if-is_some.false) in
    record {
      heads = heads-new numbers place number here places c.args.self.now.order.items c.requires.so_far (set places number (Some place)) c.push.new.self.items absent (get_or-set_same places number (Some place) None c.requires.number) (λ q other. get_or-set_other places number q (Some place) None (λ e. other (sym e))) c.in_ok-push.ensures.items;
      len = length-set places number (Some place);
    }
