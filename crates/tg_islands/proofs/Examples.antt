-- Examples: derivations that the rules accept, and a right that can't be shared.
use Rattle.std.proofs.Common.{◌≡◌, Bool, true, false, ◌&&◌, ◌||◌, List, [], ◌∷◌, refl, sym, subst, IsTrue, codes, lit<, lit≤}
use Rattle.std.proofs.lemmas.Bool.{both_ways}
use Rattle.tg_names.specs.declared.right_sets.Right.{Right}
use Rattle.tg_names.specs.declared.right_sets.Right.TheVariants.{T, G, R, W}
use Rattle.tg_graph.specs.declared.rules.Rule.{Rule}
use Rattle.tg_graph.specs.declared.rules.Rule.TheVariants.{Take, Grant, Create}
use Rattle.tg_names.specs.Names.{IsName, Name, same_name}
use Rattle.tg_graph.specs.Graphs.{ProtectionGraph}
use Rattle.tg_graph.specs.Rules.{refusal_of, after, with_edge}
use Rattle.tg_graph.specs.RuleLists.{AllAccepted, after_all}
use Rattle.tg_islands.specs.Sharing.{linked, HeldInIsland}
use Rattle.tg_islands.specs.Moves.{only, take_and_grant}
use Rattle.tg_islands.proofs.Floods.{flood_has_island}
use Rattle.tg_rows.proofs.Rows.{same_bytes}

abbrev none : Name → Right → Name → Bool
none u right v = false

abbrev a : Name
a = codes "a"

abbrev b : Name
b = codes "b"

abbrev c : Name
c = codes "c"

abbrev d : Name
d = codes "d"

abbrev helper : Name
helper = codes "_0"

is_a : IsName a
is_a = record { some = lit< tt; within = lit≤ tt; fit = refl }

is_b : IsName b
is_b = record { some = lit< tt; within = lit≤ tt; fit = refl }

is_c : IsName c
is_c = record { some = lit< tt; within = lit≤ tt; fit = refl }

is_d : IsName d
is_d = record { some = lit< tt; within = lit≤ tt; fit = refl }

is_helper : IsName helper
is_helper = record { some = lit< tt; within = lit≤ tt; fit = refl }

-- a has grant over b, and b has read over c: a helper carries the right against the grant
abbrev granting : ProtectionGraph
granting = record { vertices = a ∷ b ∷ c ∷ []; holds = with_edge (with_edge none a b (only G)) b c (only R) }

abbrev by_a_helper : List Rule
by_a_helper = Create a helper take_and_grant ∷ Grant a b helper (only G) ∷ Grant b helper c (only R) ∷ Take a helper c (only R) ∷ []

by_a_helper_accepted : AllAccepted granting by_a_helper
unfolding refusal_of after
by_a_helper_accepted = (
  (is_a, is_helper, lit< tt),
  refl,
  (
    (is_a, is_b, is_helper, lit< tt),
    refl,
    (
      (is_b, is_helper, is_c, lit< tt),
      refl,
      ((is_a, is_helper, is_c, lit< tt), refl, tt),
    ),
  ),
)

by_a_helper_gives : IsTrue ((after_all granting by_a_helper).holds a R c)
unfolding after
by_a_helper_gives = refl

-- a and c have take over b, and c has read over d: the right goes from c over b to a
abbrev meeting : ProtectionGraph
meeting = record { vertices = a ∷ b ∷ c ∷ d ∷ []; holds = with_edge (with_edge (with_edge none a b (only T)) c b (only T)) c d (only R) }

abbrev over_the_middle : List Rule
over_the_middle = Create b helper take_and_grant ∷ Take c b helper (only G) ∷ Grant c helper d (only R) ∷ Take b helper d (only R) ∷ Take a b d (only R) ∷ []

over_the_middle_accepted : AllAccepted meeting over_the_middle
unfolding refusal_of after
over_the_middle_accepted = (
  (is_b, is_helper, lit< tt),
  refl,
  (
    (is_c, is_b, is_helper, lit< tt),
    refl,
    (
      (is_c, is_helper, is_d, lit< tt),
      refl,
      (
        (is_b, is_helper, is_d, lit< tt),
        refl,
        ((is_a, is_b, is_d, lit< tt), refl, tt),
      ),
    ),
  ),
)

over_the_middle_gives : IsTrue ((after_all meeting over_the_middle).holds a R d)
unfolding after
over_the_middle_gives = refl

-- a has read over b, and b has write over c: read is no link, so a can't come to write c
abbrev reading : ProtectionGraph
reading = record { vertices = a ∷ b ∷ c ∷ []; holds = with_edge (with_edge none a b (only R)) b c (only W) }

no_link : (x y : Bool) → ((false || (x && false)) || (y && false)) ≡ false
no_link true true = refl
no_link true false = refl
no_link false true = refl
no_link false false = refl

reading_links_none : (u v : Name) → linked reading u v ≡ false
reading_links_none u v i =
    let one = λ (u v : Name). no_link (same_name u a && same_name v b) (same_name u b && same_name v c) in
    one u v i || one u v i || one v u i || one v u i

reading_shares_nothing : HeldInIsland reading W a c → ⊥
reading_shares_nothing held = go (held.0) (flood_has_island reading (same_name a) a held.0 (λ u v met there link. absurd (both_ways (linked reading u v) (reading_links_none u v) link)) refl held.2) held.1
  where
    go : (s : Name) → IsTrue (same_name a s) → IsTrue (reading.holds s W c) → ⊥
    go s here has = both_ways (reading.holds a W c) refl (subst (λ w. IsTrue (reading.holds w W c)) (sym (same_bytes a s here)) has)
