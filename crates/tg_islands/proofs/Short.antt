-- Each chain can be cut to one without a repeated vertex, which is no longer than the list of vertices.
use Rattle.std.proofs.Common.{◌≡◌, ◌<◌, Bool, true, false, ◌⊎◌, inl, inr, List, [], ◌∷◌, length, refl, sym, subst, IsTrue}
use Rattle.std.proofs.lemmas.Bool.{or_cases, both_ways, cases_Bool}
use Rattle.tg_names.specs.Names.{Name, same_name}
use Rattle.tg_graph.specs.Graphs.{ProtectionGraph, has_vertex}
use Rattle.tg_islands.specs.Sharing.{IsChain, NoRepeat}
use Rattle.tg_rows.proofs.Rows.{same_bytes}
use Rattle.tg_islands.proofs.NameTests.{same_refl}
use Rattle.tg_islands.proofs.Counts.{has, Distinct, distinct_le}

abbrev pub meets : Name → List Name → Bool
meets v vs = has same_name same_bytes v vs

cut_here : (g : ProtectionGraph) (u w : Name) (ws : List Name) (v : Name) → same_name u w ≡ true → IsChain g w ws v → NoRepeat (w ∷ ws) → (short : List Name) × IsChain g u short v × NoRepeat (u ∷ short)
cut_here g u w ws v e c d = (ws, subst (λ t. IsChain g t ws v) (sym (same_bytes u w e)) c, subst (λ t. NoRepeat (t ∷ ws)) (sym (same_bytes u w e)) d)

cut : (g : ProtectionGraph) (u w : Name) (ws : List Name) (v : Name) → meets u (w ∷ ws) ≡ true → IsChain g w ws v → NoRepeat (w ∷ ws) → (short : List Name) × IsChain g u short v × NoRepeat (u ∷ short)
cut g u w [] v h c d = elim (or_cases (same_name u w) false h) [ inl e ↦ cut_here g u w [] v e c d | inr e ↦ absurd (both_ways false refl e) ]
cut g u w (t ∷ ts) v h c d = go (or_cases (same_name u w) (meets u (t ∷ ts)) h) (λ later. cut g u t ts v later c.2 d.1)
  where
    go : (same_name u w ≡ true) ⊎ (meets u (t ∷ ts) ≡ true) → (meets u (t ∷ ts) ≡ true → (short : List Name) × IsChain g u short v × NoRepeat (u ∷ short)) → (short : List Name) × IsChain g u short v × NoRepeat (u ∷ short)
    go (inl e) ih = cut_here g u w (t ∷ ts) v e c d
    go (inr e) ih = ih e

pub cut_short : (g : ProtectionGraph) (u : Name) (ws : List Name) (v : Name) → IsChain g u ws v → (short : List Name) × IsChain g u short v × NoRepeat (u ∷ short)
cut_short g u [] v c = ([], c, (refl, tt))
cut_short g u (w ∷ ws) v c = go (cut_short g w ws v c.2)
  where
    go : (short : List Name) × IsChain g w short v × NoRepeat (w ∷ short) → (short : List Name) × IsChain g u short v × NoRepeat (u ∷ short)
    go r = elim (cases_Bool (meets u (w ∷ r.0))) [ inl e ↦ cut g u w r.0 v e r.1 r.2 | inr e ↦ (w ∷ r.0, (c.0, c.1, r.1), (e, r.2)) ]

in_chain : (g : ProtectionGraph) (u : Name) (ws : List Name) (v t : Name) → IsChain g u ws v → meets t (u ∷ ws) ≡ true → IsTrue (has_vertex g t)
in_chain g u [] v t c h = go (or_cases (same_name t u) false h)
  where
    go : (same_name t u ≡ true) ⊎ (false ≡ true) → IsTrue (has_vertex g t)
    go (inl e) = subst (λ w. IsTrue (has_vertex g w)) (sym (same_bytes t u e)) c.1
    go (inr e) = absurd (both_ways false refl e)
in_chain g u (w ∷ ws) v t c h = go (or_cases (same_name t u) (meets t (w ∷ ws)) h) (in_chain g w ws v t c.2)
  where
    go : (same_name t u ≡ true) ⊎ (meets t (w ∷ ws) ≡ true) → (meets t (w ∷ ws) ≡ true → IsTrue (has_vertex g t)) → IsTrue (has_vertex g t)
    go (inl e) ih = subst (λ w. IsTrue (has_vertex g w)) (sym (same_bytes t u e)) c.0
    go (inr e) ih = ih e

-- the two words for it
distinct_NoRepeat : (vs : List Name) → NoRepeat vs → Distinct same_name same_bytes vs
distinct_NoRepeat [] d = tt
distinct_NoRepeat (v ∷ vs) d = (d.0, distinct_NoRepeat vs d.1)

pub short_enough : (g : ProtectionGraph) (u : Name) (ws : List Name) (v : Name) → IsChain g u ws v → NoRepeat (u ∷ ws) → length ws < length g.vertices
short_enough g u ws v c d = distinct_le same_name same_bytes same_refl (u ∷ ws) g.vertices (distinct_NoRepeat (u ∷ ws) d) (λ t h. in_chain g u ws v t c h)
