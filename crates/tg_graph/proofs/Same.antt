-- Graphs with the same vertices and triples are treated alike.
use Rattle.std.proofs.Common.{◌≡◌, ℕ, List, [], ◌∷◌, ◌++◌, ◌&&◌, ◌||◌, not, None, sym, subst, ◌∙◌, bytes_eq}
use Rattle.std.specs.List.{list_any}
use Rattle.std.proofs.lemmas.List.Folds.{list_any-append}
use Rattle.tg_names.specs.declared.right_sets.Right.TheVariants.{T, G}
use Rattle.tg_graph.specs.declared.rules.Rule.{Rule}
use Rattle.tg_graph.specs.declared.rules.Rule.TheVariants.{Take, Grant, Create, Remove}
use Rattle.tg_graph.specs.declared.rules.Refusal.TheVariants.{Unknown, Taken, Empty, NoTake, NoGrant}
use Rattle.tg_names.specs.Sets.{member, rights_where, is_empty_set}
use Rattle.tg_graph.specs.Graphs.{ProtectionGraph, SameGraph}
use Rattle.tg_graph.specs.Rules.{refusal_of, after, refused_if, not_held, with_edge, without_edge}
use Rattle.tg_graph.specs.Additions.{Leads}

module _ (g h : ProtectionGraph) (s : SameGraph g h) where
  -- what decides a refusal is read at the two tests alone
  pub refusal-same : (rule : Rule) → refusal_of g rule ≡ refusal_of h rule
  unfolding refusal_of
  refusal-same (Take x y z r) = λ i.
      refused_if (not (s.vertices x i)) (Unknown x) (refused_if (not (s.vertices y i)) (Unknown y) (refused_if (not (s.vertices z i)) (Unknown z)
      (refused_if (is_empty_set r) Empty (refused_if (not (s.triples x T y i)) NoTake (not_held (rights_where (λ right. member r right && not (s.triples y right z i))))))))
  refusal-same (Grant x y z r) = λ i.
      refused_if (not (s.vertices x i)) (Unknown x) (refused_if (not (s.vertices y i)) (Unknown y) (refused_if (not (s.vertices z i)) (Unknown z)
      (refused_if (is_empty_set r) Empty (refused_if (not (s.triples x G y i)) NoGrant (not_held (rights_where (λ right. member r right && not (s.triples x right z i))))))))
  refusal-same (Create x n r) = λ i. refused_if (not (s.vertices x i)) (Unknown x) (refused_if (s.vertices n i) (Taken n) None)
  refusal-same (Remove x y r) = λ i. refused_if (not (s.vertices x i)) (Unknown x) (refused_if (not (s.vertices y i)) (Unknown y) (refused_if (is_empty_set r) Empty None))

  pushed-same : (n v : List ℕ) → list_any (bytes_eq v) (g.vertices ++ n ∷ []) ≡ list_any (bytes_eq v) (h.vertices ++ n ∷ [])
  pushed-same n v = list_any-append (bytes_eq v) g.vertices (n ∷ []) ∙ (λ i. s.vertices v i || list_any (bytes_eq v) (n ∷ [])) ∙ sym (list_any-append (bytes_eq v) h.vertices (n ∷ []))

  pub after-same : (rule : Rule) → SameGraph (after g rule) (after h rule)
  unfolding after
  after-same (Take x y z r) = record { vertices = s.vertices; triples = λ u right v i. with_edge (λ u right v. s.triples u right v i) x z r u right v }
  after-same (Grant x y z r) = record { vertices = s.vertices; triples = λ u right v i. with_edge (λ u right v. s.triples u right v i) y z r u right v }
  after-same (Create x n r) = record { vertices = pushed-same n; triples = λ u right v i. with_edge (λ u right v. s.triples u right v i) x n r u right v }
  after-same (Remove x y r) = record { vertices = s.vertices; triples = λ u right v i. without_edge (λ u right v. s.triples u right v i) x y r u right v }

-- rules in two parts
pub leads-append : (g h k : ProtectionGraph) (rules more : List Rule) → Leads g rules h → Leads h more k → Leads g (rules ++ more) k
leads-append g h k [] more e l = subst (λ g. Leads g more k) e l
leads-append g h k (rule ∷ rules) more l m = (l.0, leads-append (after g rule) h k rules more l.1 m)
