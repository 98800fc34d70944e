-- The lines of a policy that was read are no more, and as text no longer, than a policy may have.
use Rattle.std.proofs.Common.{◌≡◌, refl, sym, ◌∙◌, ap, subst, ℕ, suc, ◌+◌, ◌<◌, ◌≤◌, Bool, true, false, cond, not, ◌&&◌, leb, ltb, List, [], ◌∷◌, ◌++◌, map, length, Option, None, Some, arith, true≢false}
use Rattle.std.specs.Prelude.{codes, bytes_eq}
use Rattle.std.specs.Bool.{MatchBool}
use Rattle.std.specs.List.{AllByRecursion, list_all, flat_map, range_with_len, onto_first}
use Rattle.std.proofs.lemmas.Bool.{and_parts}
use Rattle.std.proofs.lemmas.Bool.Decides.{nat_tests}
use Rattle.std.proofs.lemmas.List.{length-append}
use Rattle.std.proofs.lemmas.List.Folds.{list_all_at}
use Rattle.std.proofs.lemmas.List.FromFn.{get_or-range_with_len, length-range_with_len}
use Rattle.std.proofs.lemmas.Slice.Eq.{bytes_eq-Decides}
use Rattle.tg_names.specs.declared.right_sets.Right.{Right}
use Rattle.tg_names.specs.declared.right_sets.Right.TheVariants.{T, G, R, W, E, A, D}
use Rattle.tg_names.specs.declared.right_sets.Rights.{Rights}
use Rattle.tg_names.specs.Sets.{IsNamed, member, nothing, right_of_letter}
use Rattle.tg_names.specs.Letters.{letters_of, with_right, with_new_right, with_letters, set_of_letters}
use Rattle.tg_graph.specs.Graphs.{ProtectionGraph}
use Rattle.tg_names.proofs.Letters.{none-letters}
use Rattle.tg_text.specs.declared.policy_text.Operand.{Operand}
use Rattle.tg_text.specs.declared.policy_text.Claim.{Claim}
use Rattle.tg_text.specs.declared.policy_text.Claim.TheVariants as claim
use Rattle.tg_words.specs.Lines.{lines_of, words_of, is_skipped, is_blank, begins_with_word}
use Rattle.tg_words.specs.Words.{Word}
use Rattle.tg_text.specs.Grammar.{AreLines}
use Rattle.tg_words.specs.Spelling.{rights_text, or_dash, spaced}
use Rattle.tg_text.specs.PolicyText.{PolicyLineOf}
use Rattle.tg_text.specs.PolicyGrammar.{operand_word, WritesClaim, IsPolicyItem}
use Rattle.tg_text.specs.PolicyTrips.{claim_words, policy_words, FitsText, ReadPoliciesFit}
use Rattle.tg_words.specs.Limits.{most_line_bytes, most_policy_lines}
use Rattle.tg_text.proofs.PolicyLaws.{policy_texts_are_those, all-from, all-to}
use Rattle.tg_text.proofs.PolicySound.{policies_sound}
use Rattle.tg_text.proofs.PolicyWords.{spaced-more}

-- ---- words take no more bytes than the line

onto-length : (b : ℕ) (words : List Word) → length (spaced (onto_first b words)) ≤ length (spaced words) + 1
onto-length b [] = omega arith
onto-length b (word ∷ []) = omega arith
onto-length b (word ∷ next ∷ words) = omega (arith, length-append (b ∷ word) (32 ∷ spaced (next ∷ words)), length-append word (32 ∷ spaced (next ∷ words)))

alone-length : (b : ℕ) (words : List Word) → length (spaced ((b ∷ []) ∷ words)) ≤ length (spaced words) + 2
alone-length b [] = omega arith
alone-length b (word ∷ words) = omega arith

words-length : (line : List ℕ) → length (spaced (words_of line)) ≤ length line
words-length [] = omega arith
words-length (b ∷ []) = by (is_blank b)
  where
    by : (t : Bool) → length (spaced (cond t [] ((b ∷ []) ∷ []))) ≤ length (b ∷ [])
    by true = omega arith
    by false = omega arith
words-length (b ∷ c ∷ cs) = by (is_blank b) (is_blank c) refl (words-length (c ∷ cs)) (words-length cs)
  where
    by : (t u : Bool) → is_blank c ≡ u → length (spaced (words_of (c ∷ cs))) ≤ length (c ∷ cs) → length (spaced (words_of cs)) ≤ length cs
        → length (spaced (cond t (words_of (c ∷ cs)) (cond (not u) (onto_first b (words_of (c ∷ cs))) ((b ∷ []) ∷ words_of (c ∷ cs))))) ≤ length (b ∷ c ∷ cs)
    by true u e h k = omega arith
    by false false e h k = omega (arith, onto-length b (words_of (c ∷ cs)))
    by false true e h k =
        let same : words_of (c ∷ cs) ≡ words_of cs = ap (λ (x : Bool). cond x (words_of cs) (cond (begins_with_word cs) (onto_first c (words_of cs)) ((c ∷ []) ∷ words_of cs))) e in
        omega (arith, alone-length b (words_of (c ∷ cs)), ap (λ (ws : List Word). length (spaced ws)) same)

-- ---- letters take no more bytes than those that were read

abbrev set_with : ℕ → Rights
set_with n = record { 0 = n }

-- one right more is named still, and has one letter more at most
abbrev grows_by : ℕ → Right → Bool
grows_by n right = ltb (with_right (set_with n) right).0 128 && leb (length (letters_of (with_right (set_with n) right))) (suc (length (letters_of (set_with n))))

each_grows : (right : Right) → list_all (λ n. grows_by n right) (range_with_len 0 128) ≡ true
each_grows T = refl
each_grows G = refl
each_grows R = refl
each_grows W = refl
each_grows E = refl
each_grows A = refl
each_grows D = refl

grows-below : (n : ℕ) (right : Right) → n < 128 → grows_by n right ≡ true
grows-below n right h = by (grows_by n right) refl
  where
    by : (b : Bool) → grows_by n right ≡ b → grows_by n right ≡ true
    by true e = e
    by false e =
        let same : 0 + n ≡ n = omega arith in
        let grown : ℕ → Bool = λ k. grows_by k right in
        absurd (true≢false (sym (each_grows right) ∙ list_all_at grown (range_with_len 0 128) n 0 (omega (arith, length-range_with_len 0 128)) (ap grown (get_or-range_with_len 0 128 n 0 h ∙ same) ∙ e)))

with-length : (s : Rights) (right : Right) → IsNamed s → IsNamed (with_right s right) × (length (letters_of (with_right s right)) ≤ length (letters_of s) + 1)
with-length s right h =
    let both = and_parts (ltb (with_right s right).0 128) (leb (length (letters_of (with_right s right))) (suc (length (letters_of s)))) (grows-below s.0 right h) in
    let below = both.0 in
    let more = both.1 in
    (grind (arith, nat_tests), grind (arith, nat_tests))

abbrev Later : List ℕ → Rights → Type 0
Later bs u = (next : Rights) → IsNamed next → with_letters (Some next) bs ≡ Some u → length (letters_of u) ≤ length (letters_of next) + length bs

-- letters that are added one by one
added-length : (bs : List ℕ) (s u : Rights) → IsNamed s → with_letters (Some s) bs ≡ Some u → length (letters_of u) ≤ length (letters_of s) + length bs
added-length [] s u h e = let same : s ≡ u = cc in omega (arith, ap (λ (r : Rights). length (letters_of r)) same)
added-length (b ∷ bs) s u h e = by (λ next named more. added-length bs next u named more) (right_of_letter b) e
  where
    seen : Later bs u → (right : Right) (t : Bool) → with_letters (cond t None (Some (with_right s right))) bs ≡ Some u → length (letters_of u) ≤ length (letters_of s) + length (b ∷ bs)
    seen later right true f = absurd (let none = none-letters bs in cc)
    seen later right false f = let more = with-length s right h in omega (arith, more.1, later (with_right s right) more.0 f)

    by : Later bs u → (o : Option Right) → with_letters (with_new_right s o) bs ≡ Some u → length (letters_of u) ≤ length (letters_of s) + length (b ∷ bs)
    by later None f = absurd (let none = none-letters bs in cc)
    by later (Some right) f = seen later right (member s right) f

dash-length : (bs : List ℕ) (n : ℕ) → length bs ≤ n → 0 < n → length (or_dash bs) ≤ n
dash-length [] n h some = omega arith
dash-length (b ∷ bs) n h some = h

rights-length : (word : Word) (s : Rights) → set_of_letters word ≡ Some s → length (rights_text s) ≤ length word
rights-length word s e = by word (bytes_eq word (45 ∷ [])) refl e
  where
    by : (word : Word) (t : Bool) → bytes_eq word (45 ∷ []) ≡ t → cond t (Some nothing) (cond (bytes_eq word []) None (with_letters (Some nothing) word)) ≡ Some s → length (rights_text s) ≤ length word
    by word true t f =
        let same : nothing ≡ s = cc in
        omega (arith, ap (λ (r : Rights). length (rights_text r)) same, ap (λ (bs : List ℕ). length bs) ((bytes_eq-Decides word (45 ∷ [])).0 t))
    by [] false t f = absurd cc
    by (b ∷ bs) false t f = dash-length (letters_of s) (length (b ∷ bs)) (let more = added-length (b ∷ bs) nothing s (omega arith) f in omega (arith, more)) (omega arith)

-- ---- a line that was read

-- the first two words, as they are written, are no longer than those that were read
first-length : (keyword word : Word) (says : Claim) (xs : List Operand) → WritesClaim keyword word says → length (spaced (claim_words says ++ map operand_word xs)) ≤ length (spaced (keyword ∷ word ∷ map operand_word xs))
first-length keyword word says xs h = by says h
  where
    longer : (name letters : Word) (s : Rights) → keyword ≡ name → set_of_letters letters ≡ Some s → length (spaced (name ∷ rights_text s ∷ map operand_word xs)) ≤ length (spaced (keyword ∷ letters ∷ map operand_word xs))
    longer name letters s e f =
        omega (
          arith,
          rights-length letters s f,
          ap (λ (w : Word). length w) e,
          ap (λ (bs : List ℕ). length bs) (spaced-more (rights_text s) (map operand_word xs)),
          length-append (rights_text s) (flat_map (λ w. 32 ∷ w) (map operand_word xs)),
          ap (λ (bs : List ℕ). length bs) (spaced-more letters (map operand_word xs)),
          length-append letters (flat_map (λ w. 32 ∷ w) (map operand_word xs)),
          length-append name (32 ∷ spaced (rights_text s ∷ map operand_word xs)),
          length-append keyword (32 ∷ spaced (letters ∷ map operand_word xs)),
        )

    by : (says : Claim) → WritesClaim keyword word says → length (spaced (claim_words says ++ map operand_word xs)) ≤ length (spaced (keyword ∷ word ∷ map operand_word xs))
    by (claim.Group n) h = omega (arith, ap (λ (w : Word). length (spaced (w ∷ word ∷ map operand_word xs))) h.0, ap (λ (w : Word). length (spaced (codes "group" ∷ w ∷ map operand_word xs))) h.1)
    by (claim.Never s) h = longer (codes "never") word s h.0 h.1.rights
    by (claim.May s) h = longer (codes "may") word s h.0 h.1.rights
    by (claim.Only s) h = longer (codes "only") word s h.0 h.1.rights

abbrev IsShort : PolicyLineOf → Type 0
IsShort line = length (spaced (policy_words line)) ≤ most_line_bytes

one-more-each : {X : Type 0} (P : X → Type 0) (xs : List X) (x : X) → AllByRecursion P xs → P x → AllByRecursion P (xs ++ x ∷ [])
one-more-each P [] x h p = (p, tt)
one-more-each P (y ∷ xs) x h p = (h.0, one-more-each P xs x h.1 p)

module _ (g : ProtectionGraph) where
  fits-item : (n : ℕ) (lines : List PolicyLineOf) (line : List ℕ) (more : List PolicyLineOf) → length line ≤ most_line_bytes → FitsText lines → IsPolicyItem g n lines (words_of line) more → FitsText more
  fits-item n lines line more short fits h =
      let next : PolicyLineOf = record { line = n; claim = h.claim; operands = h.operands } in
      let few : length (lines ++ next ∷ []) ≤ most_policy_lines = omega (arith, h.room, length-append lines (next ∷ [])) in
      let here : IsShort next = omega (arith, short, words-length line, ap (λ (ws : List Word). length (spaced ws)) h.spelled, first-length h.keyword h.word h.claim h.operands h.writes) in
      let each = one-more-each IsShort lines next (all-to IsShort lines fits.short) here in
      subst FitsText (sym h.makes) (record { few = few; short = all-from IsShort (lines ++ next ∷ []) each })

  fits-text : (n : ℕ) (lines : List PolicyLineOf) (text : List (List ℕ)) (more : List PolicyLineOf) → FitsText lines → AreLines (IsPolicyItem g) n lines text more → FitsText more
  fits-text n lines [] more fits h = subst FitsText (sym h) fits
  fits-text n lines (line ∷ text) more fits h = fits-text (n + 1) h.0 text more (by (is_skipped (words_of line)) h.1.means) h.2
    where
      by : (skipped : Bool) → MatchBool skipped (h.0 ≡ lines) (IsPolicyItem g n lines (words_of line) h.0) → FitsText h.0
      by true same = subst FitsText (sym same) fits
      by false item = fits-item n lines line h.0 h.1.short fits item

pub read-policies-fit : ReadPoliciesFit
read-policies-fit g text lines e =
    let none : FitsText [] = record { few = omega arith; short = λ k d l. absurd (omega arith) } in
    let are = (policy_texts_are_those g text lines).0 e in
    (policies_sound g text lines e, fits-text g 1 [] (lines_of text) lines none are.written, are.claim)
