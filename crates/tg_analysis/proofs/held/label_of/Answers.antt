use Rattle.std.proofs.Common.{◌≡◌, ◌↔◌, IsTrue, Result, ℕ, length, rules, subst, sym}
use Rattle.std.specs.List.Sorted.{IsSearchInRange, IsBinarySearchResult}
use Rattle.std.specs.Ordering.{nat_cmp}
use Rattle.std.proofs.lemmas.List.Sorted.{answers_always}
use Rattle.tg_names.specs.declared.right_sets.Right.{Right}
use Rattle.tg_names.specs.declared.right_sets.Rights.{Rights}
use Rattle.tg_names.specs.Sets.{member, nothing}
use Rattle.tg_index.specs.HeldInto.{IsSaid}
use Rattle.tg_analysis.proofs.RisingEntries.{searched-says, searched-in-vain}
use Rattle.tg_analysis.proofs.held.label_of.Goals as goal

pub returns-in-Ok : goal.returns-in-Ok
returns-in-Ok c =
    let entries = c.args.entries.now in
    let facts = c.binary_search_by_key.ensures in
    let by_key = facts.position (λ entry. entry.number) (answers_always _ _ _ (λ f a r g called. search rules)) in
    searched-says entries c.requires c.args.number c.in-Ok.place (subst (λ (r : Result ℕ ℕ). IsSearchInRange r (length entries)) c.in-Ok.is facts.bound) (subst (λ (r : Result ℕ ℕ). IsBinarySearchResult (λ entry. nat_cmp entry.number c.args.number) entries r) c.in-Ok.is by_key)

pub returns-in-Err : goal.returns-in-Err
returns-in-Err c =
    let entries = c.args.entries.now in
    let facts = c.binary_search_by_key.ensures in
    let by_key = facts.position (λ entry. entry.number) (answers_always _ _ _ (λ f a r g called. search rules)) in
    let none : c.empty.result ≡ nothing = (λ n. record { 0 = c.empty.ensures tt n }) in
    subst (λ (rights : Rights). (right : Right) → IsTrue (member rights right) ↔ IsSaid entries right c.args.number) (sym none) (searched-in-vain entries c.requires c.args.number c.in-Err.field-0 (subst (λ (r : Result ℕ ℕ). IsSearchInRange r (length entries)) c.in-Err.is facts.bound) (subst (λ (r : Result ℕ ℕ). IsBinarySearchResult (λ entry. nat_cmp entry.number c.args.number) entries r) c.in-Err.is by_key))
