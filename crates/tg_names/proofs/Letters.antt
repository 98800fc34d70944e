-- Letters read one by one.
use Rattle.std.proofs.Common.{◌≡◌, ℕ, ◌+◌, ◌<◌, true, false, List, [], ◌∷◌, drop, length, get_or, Option, None, Some, refl, sym, ap, ◌∙◌, if◌then◌else◌, bit_or, ◌^◌, Bool, true≢false, lit<}
use Rattle.std.proofs.lemmas.List.{at_drop_more}
use Rattle.tg_names.specs.declared.right_sets.Right.{Right}
use Rattle.tg_names.specs.declared.right_sets.Rights.{Rights}
use Rattle.tg_names.specs.declared.right_sets.Right.TheVariants.{T, G, R, W, E, A, D}
use Rattle.tg_names.specs.Sets.{member, right_of_letter, bit_of, is_empty_set, IsNamed}
use Rattle.tg_names.specs.Letters.{set_of_right, with_letters, with_new_right, with_right}

pub none-letters : (bs : List ℕ) → with_letters None bs ≡ None
none-letters [] = refl
none-letters (b ∷ bs) = refl

pub letters-step : (s : Rights) (bs : List ℕ) (i b : ℕ) → i < length bs → b ≡ get_or bs i 0 → with_letters (Some s) (drop i bs) ≡ with_letters (with_new_right s (right_of_letter b)) (drop (i + 1) bs)
letters-step s bs i b h e = at_drop_more (with_letters (Some s)) bs i 0 h ∙ ap (λ b. with_letters (with_new_right s (right_of_letter b)) (drop (i + 1) bs)) (sym e)

pub taken-step : (s : Rights) (r : Option Right) (right : Right) → r ≡ Some right → member s right ≡ true → with_new_right s r ≡ None
taken-step s r right e m = ap (with_new_right s) e ∙ ap (λ b. if b then None else Some (with_right s right)) m

pub new-step : (s : Rights) (r : Option Right) (right : Right) → r ≡ Some right → member s right ≡ false → with_new_right s r ≡ Some (with_right s right)
new-step s r right e m = ap (with_new_right s) e ∙ ap (λ b. if b then None else Some (with_right s right)) m

pub same_union : (s one u : Rights) (right : Right) → u.0 ≡ bit_or s.0 one.0 → one.0 ≡ 2 ^ bit_of right → with_right s right ≡ u
same_union s one u right e f = λ i. record { 0 = sym (e ∙ ap (bit_or s.0) f) i }

-- the tests of a byte, in turn
pub chosen_letter : (t g r w e a d : Bool) → (if t then 1 else (if g then 2 else (if r then 4 else (if w then 8 else (if e then 16 else (if a then 32 else (if d then 64 else 0))))))) ≡ (set_of_right (if t then Some T else (if g then Some G else (if r then Some R else (if w then Some W else (if e then Some E else (if a then Some A else (if d then Some D else None)))))))).0
chosen_letter true g r w e a d = refl
chosen_letter false true r w e a d = refl
chosen_letter false false true w e a d = refl
chosen_letter false false false true e a d = refl
chosen_letter false false false false true a d = refl
chosen_letter false false false false false true d = refl
chosen_letter false false false false false false true = refl
chosen_letter false false false false false false false = refl

pub named_letter : (r : Option Right) → IsNamed (set_of_right r)
named_letter None = lit< tt
named_letter (Some T) = lit< tt
named_letter (Some G) = lit< tt
named_letter (Some R) = lit< tt
named_letter (Some W) = lit< tt
named_letter (Some E) = lit< tt
named_letter (Some A) = lit< tt
named_letter (Some D) = lit< tt

-- the set of a right is not empty
right_there : (right : Right) → is_empty_set (set_of_right (Some right)) ≡ false
right_there T = refl
right_there G = refl
right_there R = refl
right_there W = refl
right_there E = refl
right_there A = refl
right_there D = refl

pub no_letter : (s : Rights) (r : Option Right) → is_empty_set (set_of_right r) ≡ true → None ≡ with_new_right s r
no_letter s None h = refl
no_letter s (Some right) h = absurd (true≢false (sym h ∙ right_there right))

pub a_letter : (r : Option Right) → is_empty_set (set_of_right r) ≡ false → (right : Right) × (r ≡ Some right)
a_letter None h = absurd (true≢false h)
a_letter (Some right) h = (right, refl)
