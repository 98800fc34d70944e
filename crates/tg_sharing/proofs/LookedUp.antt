-- Which rights are held over one vertex, row by row.
use Rattle.std.proofs.Common.{◌≡◌, ℕ, ◌<◌, ◌≤◌, ◌+◌, Bool, true, false, ◌&&◌, [], refl, sym, ap, subst, ◌∙◌, IsTrue, length, get_or, arith, lit<, inl, inr, ◌⊎◌}
use Rattle.std.specs.Prelude.{not}
use Rattle.std.specs.Map.{keys_of}
use Rattle.std.proofs.lemmas.Bool.{true≢false, cases_Bool, cases_lt}
use Rattle.std.proofs.lemmas.Option.{slice_get_within, slice_get-get_or}
use Rattle.tg_names.specs.declared.right_sets.Right.{Right}
use Rattle.tg_names.specs.declared.right_sets.Rights.{Rights}
use Rattle.tg_names.specs.Sets.{member, rights_where, is_empty_set, nothing, IsNamed}
use Rattle.tg_names.proofs.Sets.{member-where, member-nothing, named-where, same_set}
use Rattle.tg_names.specs.Names.{Name}
use Rattle.tg_graph.specs.Graphs.{WellFormed}
use Rattle.tg_graph.specs.GraphOf.{graph_of}
use Rattle.tg_rows.specs.Rows.{Entries, IsGraph, row_number, label_in}
use Rattle.tg_islands.specs.Sharing.{HeldInIsland}
use Rattle.tg_sharing.specs.Holders.{IsHeld, AreHeld}
use Rattle.tg_islands.proofs.Places.{place_of, holds-row}

-- the rights that no row in front of the position holds over y, and no others, are missing
pub record LookedUpTo (es : Entries) (rights : Rights) (y : Name) (missing : Rights) (position : ℕ) : Type 0 where
  pub named : IsNamed missing
  pub among : (right : Right) → IsTrue (member missing right) → IsTrue (member rights right)
  pub found : (right : Right) → IsTrue (member rights right) → IsTrue (member missing right) ⊎ IsHeld (graph_of es) right y
  pub none : (a : ℕ) → a < position → (right : Right) → IsTrue (member missing right) → member (label_in (row_number es a) y) right ≡ false

pub looked-none : (es : Entries) (rights missing : Rights) (y : Name) → IsNamed missing → ((right : Right) → member missing right ≡ member rights right) → LookedUpTo es rights y missing 0
looked-none es rights missing y named same = record { named = named; among = λ right m. sym (same right) ∙ m; found = λ right m. inl (same right ∙ m); none = λ a low right m. absurd (omega arith) }

module _ (es : Entries) (ok : IsGraph es) (rights : Rights) (y : Name) where
  -- one more row
  module _ (missing held left : Rights) (position : ℕ) (is_held : held ≡ label_in (row_number es position) y) (is_left : left ≡ rights_where (λ right. member missing right && not (member held right))) (low : position < length (keys_of es)) (so_far : LookedUpTo es rights y missing position) where
    left_has : (right : Right) → member left right ≡ (member missing right && not (member held right))
    left_has right = ap (λ s. member s right) is_left ∙ member-where (λ one. member missing one && not (member held one)) right

    of_left : (right : Right) → IsTrue (member left right) → IsTrue (member missing right) × (member held right ≡ false)
    of_left right m = parts (member missing right) (member held right) (sym (left_has right) ∙ m)
      where
        parts : (a b : Bool) → (a && not b) ≡ true → (a ≡ true) × (b ≡ false)
        parts true false h = (refl, refl)
        parts true true h = absurd (true≢false (sym h))
        parts false b h = absurd (true≢false (sym h))

    here : (right : Right) → member held right ≡ true → IsHeld (graph_of es) right y
    here right m =
        let u = get_or (keys_of es) position [] in
        (u, holds-row es ok position u (slice_get-get_or (keys_of es) position [] low) right y ∙ ap (λ s. member s right) (sym is_held) ∙ m)

    pub looked-next : LookedUpTo es rights y left (position + 1)
    looked-next = record {
      named = subst IsNamed (sym is_left) (named-where (λ right. member missing right && not (member held right)));
      among = λ right m. so_far.among right (of_left right m).0;
      found = λ right m. by right (so_far.found right m);
      none = λ a lt right m. before a right m lt (cases_lt a position);
    }
      where
        by : (right : Right) → IsTrue (member missing right) ⊎ IsHeld (graph_of es) right y → IsTrue (member left right) ⊎ IsHeld (graph_of es) right y
        by right (inl m) = elim (cases_Bool (member held right)) [ inl e ↦ inr (here right e) | inr e ↦ inl (left_has right ∙ (λ i. m i && not (e i))) ]
        by right (inr h) = inr h

        before : (a : ℕ) (right : Right) → IsTrue (member left right) → a < position + 1 → (a < position) ⊎ (position ≤ a) → member (label_in (row_number es a) y) right ≡ false
        before a right m lt (inl l) = so_far.none a l right (of_left right m).0
        before a right m lt (inr r) =
            let is : a ≡ position = omega arith in
            ap (λ n. member (label_in (row_number es n) y) right) is ∙ ap (λ s. member s right) (sym is_held) ∙ (of_left right m).1

  -- all rows were looked at
  pub looked-whole : WellFormed (graph_of es) → (missing : Rights) (position : ℕ) → length (keys_of es) ≤ position → LookedUpTo es rights y missing position → AreHeld (graph_of es) rights y → IsTrue (is_empty_set missing)
  looked-whole well missing position end so_far held = ap is_empty_set (same_set missing nothing none so_far.named (lit< tt))
    where
      unheld : (right : Right) → IsTrue (member missing right) → IsHeld (graph_of es) right y → ⊥
      unheld right m (s, h) =
          let at = place_of (keys_of es) s (well.ends s right y h).0 in
          let low = slice_get_within (keys_of es) at.0 s at.1 in
          true≢false (sym h ∙ holds-row es ok at.0 s at.1 right y ∙ so_far.none at.0 (omega arith) right m)

      none : (right : Right) → member missing right ≡ member nothing right
      none right = elim (cases_Bool (member missing right)) [ inl m ↦ absurd (unheld right m (held right (so_far.among right m))) | inr e ↦ e ∙ sym (member-nothing right) ]

-- what an island holds is held
pub island-held : (es : Entries) (rights : Rights) (x y : Name) → ((right : Right) → IsTrue (member rights right) → HeldInIsland (graph_of es) right x y) → AreHeld (graph_of es) rights y
island-held es rights x y all right m = let h = all right m in (h.0, h.1)
