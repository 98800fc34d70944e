-- Rules that are accepted create new names.
use Rattle.std.proofs.Common.{◌≡◌, false, ◌||◌, List, [], ◌∷◌, refl, ap, ◌∙◌, subst, IsTrue}
use Rattle.std.proofs.lemmas.Bool.{both_ways, or_left, or_right}
use Rattle.std.specs.List.{list_any}
use Rattle.tg_names.specs.declared.right_sets.Rights.{Rights}
use Rattle.tg_graph.specs.declared.rules.Rule.{Rule}
use Rattle.tg_graph.specs.declared.rules.Rule.TheVariants.{Take, Grant, Create, Remove}
use Rattle.tg_names.specs.Names.{Name, same_name}
use Rattle.tg_graph.specs.Graphs.{ProtectionGraph, has_vertex}
use Rattle.tg_graph.specs.Rules.{after}
use Rattle.tg_graph.specs.RuleLists.{AllAccepted}
use Rattle.tg_islands.specs.Sharing.{NoRepeat}
use Rattle.tg_sharing.specs.SetDerivations.{created_by, CreatedAreNew}
use Rattle.tg_islands.proofs.NameTests.{same_refl, same_false, any_push}
use Rattle.tg_islands.proofs.Accepted.{create_facts}

still_there : (g : ProtectionGraph) (rule : Rule) (v : Name) → IsTrue (has_vertex g v) → IsTrue (has_vertex (after g rule) v)
unfolding after
still_there g (Take x y z s) v there = there
still_there g (Grant x y z s) v there = there
still_there g (Create x n s) v there = any_push (same_name v) g.vertices n ∙ or_left (has_vertex g v) (same_name v n) there
still_there g (Remove x y s) v there = there

created_there : (g : ProtectionGraph) (x n : Name) (s : Rights) → IsTrue (has_vertex (after g (Create x n s)) n)
unfolding after
created_there g x n s = any_push (same_name n) g.vertices n ∙ or_right (has_vertex g n) (same_name n n) (same_refl n)

none_there : (g : ProtectionGraph) (rules : List Rule) → AllAccepted g rules → (v : Name) → IsTrue (has_vertex g v) → list_any (same_name v) (created_by rules) ≡ false
none_there g [] a v there = refl
none_there g (Take x y z s ∷ rules) a v there = none_there (after g (Take x y z s)) rules a.2 v (still_there g (Take x y z s) v there)
none_there g (Grant x y z s ∷ rules) a v there = none_there (after g (Grant x y z s)) rules a.2 v (still_there g (Grant x y z s) v there)
none_there g (Create x n s ∷ rules) a v there =
    let other = same_false v n (λ same. both_ways (has_vertex g n) (create_facts g x n s a.1).n_new (subst (λ w. IsTrue (has_vertex g w)) same there)) in
    ap (λ b. b || list_any (same_name v) (created_by rules)) other ∙ none_there (after g (Create x n s)) rules a.2 v (still_there g (Create x n s) v there)
none_there g (Remove x y s ∷ rules) a v there = none_there (after g (Remove x y s)) rules a.2 v (still_there g (Remove x y s) v there)

apart : (g : ProtectionGraph) (rules : List Rule) → AllAccepted g rules → NoRepeat (created_by rules)
apart g [] a = tt
apart g (Take x y z s ∷ rules) a = apart (after g (Take x y z s)) rules a.2
apart g (Grant x y z s ∷ rules) a = apart (after g (Grant x y z s)) rules a.2
apart g (Create x n s ∷ rules) a = (none_there (after g (Create x n s)) rules a.2 n (created_there g x n s), apart (after g (Create x n s)) rules a.2)
apart g (Remove x y s ∷ rules) a = apart (after g (Remove x y s)) rules a.2

pub created_are_new : CreatedAreNew
created_are_new g rules a = (apart g rules a, none_there g rules a)
