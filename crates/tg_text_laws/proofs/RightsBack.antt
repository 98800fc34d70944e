-- The letters of a set are read as the set.
use Rattle.std.proofs.Common.{◌≡◌, ℕ, ◌+◌, ◌<◌, Bool, true, false, ◌==◌, Option, Some, None, refl, sym, ap, ◌∙◌, true≢false, arith}
use Rattle.std.specs.List.{list_all, range_with_len}
use Rattle.std.specs.Option.{option_map_or}
use Rattle.std.proofs.lemmas.Bool.Decides.{Decides-eqb}
use Rattle.std.proofs.lemmas.List.Folds.{list_all_at}
use Rattle.std.proofs.lemmas.List.FromFn.{get_or-range_with_len, length-range_with_len}
use Rattle.tg_names.specs.declared.right_sets.Rights.{Rights}
use Rattle.tg_names.specs.Sets.{IsNamed}
use Rattle.tg_names.specs.Letters.{set_of_letters}
use Rattle.tg_words.specs.Spelling.{rights_text}

abbrev set_with : ℕ → Rights
set_with n = record { 0 = n }

abbrev comes_back : ℕ → Bool
comes_back n = option_map_or (λ (s : Rights). s.0 == n) (set_of_letters (rights_text (set_with n))) false

each_comes_back : list_all comes_back (range_with_len 0 128) ≡ true
each_comes_back = refl

comes_back-below : (n : ℕ) → n < 128 → comes_back n ≡ true
comes_back-below n h = by (comes_back n) refl
  where
    by : (b : Bool) → comes_back n ≡ b → comes_back n ≡ true
    by true e = e
    by false e =
        let same : 0 + n ≡ n = omega arith in
        absurd (true≢false (sym each_comes_back ∙ list_all_at comes_back (range_with_len 0 128) n 0 (omega (arith, length-range_with_len 0 128)) (ap comes_back (get_or-range_with_len 0 128 n 0 h ∙ same) ∙ e)))

pub rights-back : (s : Rights) → IsNamed s → set_of_letters (rights_text s) ≡ Some s
rights-back s h = by (set_of_letters (rights_text s)) (comes_back-below s.0 h)
  where
    by : (o : Option Rights) → option_map_or (λ (r : Rights). r.0 == s.0) o false ≡ true → o ≡ Some s
    by None e = absurd (true≢false (sym e))
    by (Some r) e = λ i. Some (record { 0 = (Decides-eqb r.0 s.0).0 e i })
