use Rattle.std.proofs.Common.{◌≡◌, ◌∙◌, sym, ap, bytes_eq, [], ◌∷◌, ◌++◌, false, if◌then◌else◌}
use Rattle.std.specs.List.{list_any}
use Rattle.std.specs.Map.{keys_of, lookup}
use Rattle.indexmap.proofs.CallerLemmas.{insert_entry-new}
use Rattle.tg_sharing.specs.Searches.{Visits}
use Rattle.tg_sharing.proofs.Searched.{none-met}
use Rattle.tg_sharing.proofs.met.Met.meet.Goals as goal

pub returns : goal.returns
returns c =
    let met : Visits = c.args.self.now in
    let new : list_any (bytes_eq c.args.name) (keys_of met) ≡ false = sym c.has.ensures ∙ c.if-has.false in
    c.in_ok-insert.ensures.entries
    ∙ insert_entry-new bytes_eq c.self.inside.places c.args.name c.args.from (ap (lookup (bytes_eq c.args.name)) c.self.view_is ∙ none-met met c.args.name new)
    ∙ ap (λ es. es ++ (c.args.name, c.args.from) ∷ []) c.self.view_is
    ∙ sym (ap (λ b. if b then met else met ++ (c.args.name, c.args.from) ∷ []) new)
