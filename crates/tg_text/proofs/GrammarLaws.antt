-- Reading line by line gives what the grammar says, and stops at the first line to which it gives nothing.
use Rattle.std.proofs.Common.{◌≡◌, refl, sym, ◌∙◌, ap, inl, inr, ◌⊎◌, ℕ, zero, suc, ◌+◌, Bool, true, false, cond, ltb, List, [], ◌∷◌, length, take, Some, Result, Ok, Err, arith}
use Rattle.std.specs.Bool.{MatchBool}
use Rattle.std.specs.List.{slice_get}
use Rattle.std.proofs.lemmas.Bool.{ltb-false, le-ltb}
use Rattle.tg_words.specs.declared.faults.TextKind.{TextKind}
use Rattle.tg_words.specs.declared.faults.TextKind.TheVariants.{LineTooLong}
use Rattle.tg_words.specs.Lines.{words_of, is_skipped}
use Rattle.tg_words.specs.Words.{Word}
use Rattle.tg_words.specs.Reading.{◌>>=◌, on_line, after_line, after_lines}
use Rattle.tg_text.specs.Grammar.{IsLine, AreLines, IsFirstFault}
use Rattle.tg_text.proofs.Steps.{ok_is, else_ok}
use Rattle.tg_words.specs.Limits.{most_line_bytes}

pub cases_result : {A E : Type 0} (r : Result A E) → ((x : A) × (r ≡ Ok x)) ⊎ ((e : E) × (r ≡ Err e))
cases_result (Ok x) = inl (x, refl)
cases_result (Err kind) = inr (kind, refl)

abbrev pub numbered : {A : Type 0} → A → Result A (ℕ × TextKind)
numbered x = Ok x

on_line_ok : {A B : Type 0} (n : ℕ) (r : Result A TextKind) (f : A → Result B (ℕ × TextKind)) (y : B) → (on_line n r >>= f) ≡ Ok y → (x : A) × (r ≡ Ok x) × (f x ≡ Ok y)
on_line_ok n (Ok x) f y e = (x, refl, e)
on_line_ok n (Err kind) f y e = absurd cc

pub same_value : {A : Type 0} (x y : A) → numbered x ≡ numbered y → x ≡ y
same_value x y e = cc

abbrev pub failed : (A : Type 0) → ℕ × TextKind → Result A (ℕ × TextKind)
failed A x = Err x

pub same_fault : (A : Type 0) (x y : ℕ × TextKind) → failed A x ≡ failed A y → x ≡ y
same_fault A x y e = cc

pub same_number : {A : Type 0} (r : Result A (ℕ × TextKind)) (m n : ℕ) (j k : TextKind) → r ≡ Err (n, j) → r ≡ Err (m, k) → n ≡ m
same_number {A} r m n j k e f = ap (λ (x : ℕ × TextKind). x.0) (same_fault A (n, j) (m, k) (sym e ∙ f))

skipped_or_not : {A : Type 0} (b : Bool) (x y z : Result A TextKind) {P Q : Type 0} → cond b x y ≡ z → (x ≡ z → P) → (y ≡ z → Q) → MatchBool b P Q
skipped_or_not true x y z e p q = p e
skipped_or_not false x y z e p q = q e

chosen_from : {A : Type 0} (b : Bool) (x y z : Result A TextKind) {P Q : Type 0} → MatchBool b P Q → (P → x ≡ z) → (Q → y ≡ z) → cond b x y ≡ z
chosen_from true x y z h p q = p h
chosen_from false x y z h p q = q h

-- the items of a text, as reading and as the grammar have them
module _ {A : Type 0} (f : ℕ → A → List Word → Result A TextKind) (R : ℕ → A → List Word → A → Type 0)
    (into : (n : ℕ) (a : A) (words : List Word) (b : A) → f n a words ≡ Ok b → R n a words b)
    (back : (n : ℕ) (a : A) (words : List Word) (b : A) → R n a words b → f n a words ≡ Ok b) where
  line_ok : (n : ℕ) (a : A) (line : List ℕ) (b : A) → after_line (f n) a line ≡ Ok b → IsLine (R n) a line b
  line_ok n a line b e =
      let g = else_ok (ltb most_line_bytes (length line)) LineTooLong (cond (is_skipped (words_of line)) (Ok a) (f n a (words_of line))) b e in
      record {
        short = ltb-false most_line_bytes (length line) g.0;
        means = skipped_or_not (is_skipped (words_of line)) (Ok a) (f n a (words_of line)) (Ok b) g.1 (λ same. sym (ok_is a b same)) (λ item. into n a (words_of line) b item);
      }

  line_from : (n : ℕ) (a : A) (line : List ℕ) (b : A) → IsLine (R n) a line b → after_line (f n) a line ≡ Ok b
  line_from n a line b h =
      let short : ltb most_line_bytes (length line) ≡ false = le-ltb most_line_bytes (length line) h.short in
      let rest : cond (is_skipped (words_of line)) (Ok a) (f n a (words_of line)) ≡ Ok b = chosen_from (is_skipped (words_of line)) (Ok a) (f n a (words_of line)) (Ok b) h.means (λ same. ap Ok (sym same)) (λ item. back n a (words_of line) b item) in
      ap (λ (t : Bool). cond t (Err LineTooLong) (cond (is_skipped (words_of line)) (Ok a) (f n a (words_of line)))) short ∙ rest

  -- reading goes on after a line
  step : (n : ℕ) (a : A) (line : List ℕ) (lines : List (List ℕ)) (r : Result A TextKind) → after_line (f n) a line ≡ r → after_lines f n a (line ∷ lines) ≡ (on_line n r >>= λ b. after_lines f (n + 1) b lines)
  step n a line lines r e = ap (λ (q : Result A TextKind). on_line n q >>= λ b. after_lines f (n + 1) b lines) e

  pub lines_ok : (n : ℕ) (a : A) (lines : List (List ℕ)) (b : A) → after_lines f n a lines ≡ Ok b → AreLines R n a lines b
  lines_ok n a [] b e = sym (same_value a b e)
  lines_ok n a (line ∷ lines) b e =
      let c = on_line_ok n (after_line (f n) a line) (λ c. after_lines f (n + 1) c lines) b e in
      (c.0, line_ok n a line c.0 c.1, lines_ok (n + 1) c.0 lines b c.2)

  pub lines_from : (n : ℕ) (a : A) (lines : List (List ℕ)) (b : A) → AreLines R n a lines b → after_lines f n a lines ≡ Ok b
  lines_from n a [] b h = ap Ok (sym h)
  lines_from n a (line ∷ lines) b h = step n a line lines (Ok h.0) (line_from n a line h.0 h.1) ∙ lines_from (n + 1) h.0 lines b h.2

  -- the first faulty line, and that reading refuses it for this kind
  pub lines_fault_kind : (n : ℕ) (a : A) (lines : List (List ℕ)) (m : ℕ) (kind : TextKind) → after_lines f n a lines ≡ Err (m, kind) → (first : IsFirstFault R n a lines m) × (after_line (f m) first.before first.line ≡ Err kind)
  lines_fault_kind n a [] m kind e = absurd cc
  lines_fault_kind n a (line ∷ lines) m kind e =
      elim (cases_result (after_line (f n) a line)) [
        | inl c ↦ (
            let further = lines_fault_kind (n + 1) c.0 lines m kind (sym (step n a line lines (Ok c.0) c.1) ∙ e) in
            let later = further.0 in (
              record {
                place = suc later.place;
                number = omega (arith, later.number);
                line = later.line;
                found = later.found;
                before = later.before;
                earlier = (c.0, line_ok n a line c.0 c.1, later.earlier);
                nowhere = later.nowhere;
              },
              further.1,
            ))
        | inr d ↦ (
            let stopped = sym (step n a line lines (Err d.0) d.1) ∙ e in
            let same : n ≡ m = same_number (after_lines f n a (line ∷ lines)) m n d.0 kind (step n a line lines (Err d.0) d.1) e in
            let refused : after_line (f m) a line ≡ Err d.0 = rw (← same) d.1 in (
              record {
                place = 0;
                number = omega arith;
                line = line;
                found = refl;
                before = a;
                earlier = refl;
                nowhere = λ b h. let read : after_line (f m) a line ≡ Ok b = line_from m a line b h in cc;
              },
              refused ∙ ap Err (ap (λ (x : ℕ × TextKind). x.1) (same_fault A (n, d.0) (m, kind) stopped)),
            ))
      ]

  pub lines_fault : (n : ℕ) (a : A) (lines : List (List ℕ)) (m : ℕ) (kind : TextKind) → after_lines f n a lines ≡ Err (m, kind) → IsFirstFault R n a lines m
  lines_fault n a lines m kind e = (lines_fault_kind n a lines m kind e).0

  reach : (n : ℕ) (a : A) (lines : List (List ℕ)) (place : ℕ) (line : List ℕ) (before : A) (kind : TextKind) → slice_get lines place ≡ Some line → after_lines f n a (take place lines) ≡ Ok before → after_line (f (n + place)) before line ≡ Err kind
      → after_lines f n a lines ≡ Err (n + place, kind)
  reach n a [] place line before kind found read refused = absurd cc
  reach n a (l ∷ lines) zero line before kind found read refused =
      let same : l ≡ line = cc in
      let here : a ≡ before = same_value a before read in
      let number : n + 0 ≡ n = omega arith in
      let stopped : after_line (f n) a l ≡ Err kind = (λ i. after_line (f (sym number i)) (here i) (same i)) ∙ refused in
      step n a l lines (Err kind) stopped ∙ (λ i. failed A (sym number i, kind))
  reach n a (l ∷ lines) (suc place) line before kind found read refused =
      let c = on_line_ok n (after_line (f n) a l) (λ c. after_lines f (n + 1) c (take place lines)) before read in
      let number : n + suc place ≡ n + 1 + place = omega arith in
      let later = reach (n + 1) c.0 lines place line before kind found c.2 ((λ i. after_line (f (sym number i)) before line) ∙ refused) in
      step n a l lines (Ok c.0) c.1 ∙ (later ∙ (λ i. failed A (sym number i, kind)))

  -- a text is refused at its first faulty line
  pub fault_from : (a : A) (lines : List (List ℕ)) (m : ℕ) (kind : TextKind) (first : IsFirstFault R 1 a lines m) → after_line (f m) first.before first.line ≡ Err kind → after_lines f 1 a lines ≡ Err (m, kind)
  fault_from a lines m kind first refused =
      let number = first.number in
      reach 1 a lines first.place first.line first.before kind first.found (lines_from 1 a (take first.place lines) first.before first.earlier) ((λ i. after_line (f (sym number i)) first.before first.line) ∙ refused)
      ∙ (λ i. failed A (sym number i, kind))
