-- Names, sets of rights and lists of vertices, as tests.
use Rattle.std.proofs.Common.{◌≡◌, Bool, true, false, ◌&&◌, ◌||◌, List, [], ◌∷◌, ◌++◌, refl, ap, ◌∙◌, inl, inr, ◌⊎◌}
use Rattle.std.proofs.lemmas.Bool.{and_parts, or_cases, cases_Bool, eqb-true}
use Rattle.std.proofs.lemmas.Slice.Eq.{bytes_eq-Decides}
use Rattle.std.specs.List.{list_any}
use Rattle.tg_names.specs.declared.right_sets.Right.{Right}
use Rattle.tg_names.specs.declared.right_sets.Rights.{Rights}
use Rattle.tg_names.specs.Sets.{member, is_empty_set}
use Rattle.tg_rows.proofs.Rows.{same_bytes}
use Rattle.tg_names.proofs.Sets.{member-nothing}
use Rattle.tg_graph.specs.Rules.{with_edge}
use Rattle.tg_names.specs.Names.{Name, same_name}

pub same_refl : (a : Name) → same_name a a ≡ true
same_refl a = (bytes_eq-Decides a a).1 refl

pub same_false : (a b : Name) → (a ≡ b → ⊥) → same_name a b ≡ false
same_false a b other = elim (cases_Bool (same_name a b)) [ inl e ↦ absurd (other (same_bytes a b e)) | inr e ↦ e ]

pub any_push : (t : Name → Bool) (vs : List Name) (n : Name) → list_any t (vs ++ n ∷ []) ≡ (list_any t vs || t n)
any_push t [] n = elim (t n) as (λ b. (b || false) ≡ (false || b)) [ true ↦ refl | false ↦ refl ]
any_push t (v ∷ vs) n = elim (t v) as (λ b. (b || list_any t (vs ++ n ∷ [])) ≡ ((b || list_any t vs) || t n)) [ true ↦ refl | false ↦ any_push t vs n ]

pub none_member : (s : Rights) → is_empty_set s ≡ true → (right : Right) → member s right ≡ false
none_member s h right = ap (λ n. member (record { 0 = n }) right) (eqb-true s.0 0 h) ∙ member-nothing right

-- an old triple, or a new one
pub edge_cases : (holds : Name → Right → Name → Bool) (x z : Name) (s : Rights) (u : Name) (right : Right) (v : Name) → with_edge holds x z s u right v ≡ true → (holds u right v ≡ true) ⊎ ((u ≡ x) × (v ≡ z) × (member s right ≡ true))
edge_cases holds x z s u right v h = go (or_cases (holds u right v) (same_name u x && same_name v z && member s right) h)
  where
    go : (holds u right v ≡ true) ⊎ ((same_name u x && same_name v z && member s right) ≡ true) → (holds u right v ≡ true) ⊎ ((u ≡ x) × (v ≡ z) × (member s right ≡ true))
    go (inl e) = inl e
    go (inr e) =
        let p = and_parts (same_name u x && same_name v z) (member s right) e in
        let q = and_parts (same_name u x) (same_name v z) p.0 in
        inr (same_bytes u x q.0, same_bytes v z q.1, p.1)
