-- Lines of a policy are read as they were written.
use Rattle.std.proofs.Common.{◌≡◌, ℕ, ◌+◌, ◌<◌, ◌≤◌, Bool, false, ◌||◌, List, [], ◌∷◌, ◌++◌, map, length, get_or, Some, Result, Ok, refl, sym, ap, subst, ◌∙◌, arith, append_assoc}
use Rattle.std.specs.Prelude.{codes, slice_get, ⊤}
use Rattle.std.specs.List.{AllByRecursion}
use Rattle.std.proofs.lemmas.List.{append-nil, length-append}
use Rattle.std.proofs.lemmas.List.Folds.{list_any-append}
use Rattle.std.proofs.Math.Seq.{take-append_seam}
use Rattle.tg_names.specs.Names.{Name}
use Rattle.tg_graph.specs.Graphs.{ProtectionGraph}
use Rattle.tg_words.specs.declared.faults.TextKind.{TextKind}
use Rattle.tg_text.specs.declared.policy_text.Operand.{Operand}
use Rattle.tg_text.specs.declared.policy_text.Operand.TheVariants as operand
use Rattle.tg_text.specs.declared.policy_text.Claim.{Claim}
use Rattle.tg_text.specs.declared.policy_text.Claim.TheVariants as claim
use Rattle.tg_words.specs.Lines.{lines_of, is_skipped}
use Rattle.tg_words.specs.Words.{Word}
use Rattle.tg_words.specs.Reading.{◌>>=◌, on_line, after_lines}
use Rattle.tg_words.specs.Spelling.{rights_text, spaced}
use Rattle.tg_text.specs.PolicyText.{PolicyLineOf, makes_group, has_group, policy_item, policy_lines, IsClaim, IsKnown, IsPolicyLine, ArePolicyLines}
use Rattle.tg_text.specs.PolicyGrammar.{operand_word, WritesClaim}
use Rattle.tg_text.specs.PolicyTrips.{claim_words, policy_words, lines_of_policy, renumbered, PoliciesAreReadAsWritten}
use Rattle.tg_words.specs.Limits.{most_line_bytes, most_policy_lines}
use Rattle.tg_text.proofs.PlainWords.{IsPlainWord, word_from_test, name_word, lines-spaced, line-is}
use Rattle.tg_text_laws.proofs.PlainRights.{rights_word}
use Rattle.tg_text_laws.proofs.RightsBack.{rights-back}
use Rattle.tg_text.proofs.PolicyLaws.{all-to, policy_item_from}
use Rattle.tg_text.proofs.PolicyClaims.{policy-stated, has_claim-renumbered}

abbrev line_with : ℕ → Claim → List Operand → PolicyLineOf
line_with n says operands = record { line = n; claim = says; operands = operands }

-- ---- the first two words

abbrev keyword_of : Claim → Word
keyword_of (claim.Group n) = codes "group"
keyword_of (claim.Never s) = codes "never"
keyword_of (claim.May s) = codes "may"
keyword_of (claim.Only s) = codes "only"

abbrev word_of : Claim → Word
word_of (claim.Group n) = n
word_of (claim.Never s) = rights_text s
word_of (claim.May s) = rights_text s
word_of (claim.Only s) = rights_text s

two-first : (says : Claim) (words : List Word) → claim_words says ++ words ≡ keyword_of says ∷ word_of says ∷ words
two-first (claim.Group n) words = refl
two-first (claim.Never s) words = refl
two-first (claim.May s) words = refl
two-first (claim.Only s) words = refl

writes : (says : Claim) → IsClaim says → WritesClaim (keyword_of says) (word_of says) says
writes (claim.Group n) h = (refl, refl, h)
writes (claim.Never s) h = (refl, record { rights = rights-back s h.0; some = h.1 })
writes (claim.May s) h = (refl, record { rights = rights-back s h.0; some = h.1 })
writes (claim.Only s) h = (refl, record { rights = rights-back s h.0; some = h.1 })

plain-first : (says : Claim) → IsClaim says → IsPlainWord (keyword_of says) × IsPlainWord (word_of says)
plain-first (claim.Group n) h = (word_from_test (codes "group") refl refl, name_word n h)
plain-first (claim.Never s) h = (word_from_test (codes "never") refl refl, rights_word s)
plain-first (claim.May s) h = (word_from_test (codes "may") refl refl, rights_word s)
plain-first (claim.Only s) h = (word_from_test (codes "only") refl refl, rights_word s)

not_skipped : (says : Claim) (words : List Word) → is_skipped (claim_words says ++ words) ≡ false
not_skipped (claim.Group n) words = refl
not_skipped (claim.Never s) words = refl
not_skipped (claim.May s) words = refl
not_skipped (claim.Only s) words = refl

-- ---- one line

module _ (g : ProtectionGraph) where
  plain-operands : (lines : List PolicyLineOf) (xs : List Operand) → AllByRecursion (IsKnown g lines) xs → AllByRecursion IsPlainWord (map operand_word xs)
  plain-operands lines [] h = tt
  plain-operands lines (operand.Vertex v ∷ xs) h = (name_word v h.0.0, plain-operands lines xs h.1)
  plain-operands lines (operand.Group n ∷ xs) h = (record { some = omega arith; plain = (refl, (name_word n h.0.0).plain) }, plain-operands lines xs h.1)

  plain-line : (earlier : List PolicyLineOf) (line : PolicyLineOf) → IsPolicyLine g earlier line → AllByRecursion IsPlainWord (policy_words line)
  plain-line earlier line h =
      let first = plain-first line.claim h.claim in
      let others = plain-operands earlier line.operands (all-to (IsKnown g earlier) line.operands h.known) in
      subst (AllByRecursion IsPlainWord) (sym (two-first line.claim (map operand_word line.operands))) (first.0, (first.1, others))

  -- lines that make the same groups
  abbrev Alike : List PolicyLineOf → List PolicyLineOf → Type 0
  Alike earlier made = (q : Name) → has_group made q ≡ has_group earlier q

  known-alike : (earlier made : List PolicyLineOf) → Alike earlier made → (x : Operand) → IsKnown g earlier x → IsKnown g made x
  known-alike earlier made alike (operand.Vertex v) h = h
  known-alike earlier made alike (operand.Group n) h = (h.0, alike n ∙ h.1)

  item-is : (n : ℕ) (earlier made : List PolicyLineOf) (line : PolicyLineOf) → Alike earlier made → IsPolicyLine g earlier line → length made < most_policy_lines
      → policy_item g n made (policy_words line) ≡ Ok (made ++ line_with n line.claim line.operands ∷ [])
  item-is n earlier made line alike h room =
      policy_item_from g n made (policy_words line) (made ++ line_with n line.claim line.operands ∷ []) (record {
        keyword = keyword_of line.claim;
        word = word_of line.claim;
        claim = line.claim;
        operands = line.operands;
        spelled = two-first line.claim (map operand_word line.operands);
        writes = writes line.claim h.claim;
        count = h.count;
        known = λ k d l. known-alike earlier made alike (get_or line.operands k d) (h.known k d l);
        room = room;
        makes = refl;
      })

  alike-more : (earlier made : List PolicyLineOf) (n : ℕ) (line : PolicyLineOf) → Alike earlier made → Alike (earlier ++ line ∷ []) (made ++ line_with n line.claim line.operands ∷ [])
  alike-more earlier made n line alike q =
      let makes : PolicyLineOf → Bool = λ l. makes_group q l.claim in
      list_any-append makes made (line_with n line.claim line.operands ∷ [])
      ∙ (ap (λ (b : Bool). b || (makes_group q line.claim || false)) (alike q)
      ∙ sym (list_any-append makes earlier (line ∷ [])))

  -- ---- all lines

  abbrev Next : List PolicyLineOf → List PolicyLineOf → Type 0
  Next earlier [] = ⊤
  Next earlier (line ∷ lines) = IsPolicyLine g earlier line × Next (earlier ++ line ∷ []) lines

  at-seam : (earlier : List PolicyLineOf) (line : PolicyLineOf) (lines : List PolicyLineOf) → slice_get (earlier ++ line ∷ lines) (length earlier) ≡ Some line
  at-seam [] line lines = refl
  at-seam (one ∷ earlier) line lines = at-seam earlier line lines

  next-from : (earlier lines : List PolicyLineOf) → ArePolicyLines g (earlier ++ lines) → Next earlier lines
  next-from earlier [] h = tt
  next-from earlier (line ∷ lines) h = (
    subst (λ (before : List PolicyLineOf). IsPolicyLine g before line) (take-append_seam earlier (line ∷ lines)) (h (length earlier) line (at-seam earlier line lines)),
    next-from (earlier ++ line ∷ []) lines (subst (ArePolicyLines g) (sym (append_assoc earlier (line ∷ []) lines)) h),
  )

  abbrev IsShort : PolicyLineOf → Type 0
  IsShort line = length (spaced (policy_words line)) ≤ most_line_bytes

  policy-read : (n : ℕ) (earlier made lines : List PolicyLineOf) → Alike earlier made → Next earlier lines → AllByRecursion IsShort lines → length made + length lines ≤ most_policy_lines
      → after_lines (policy_item g) n made (lines_of (lines_of_policy lines)) ≡ Ok (made ++ renumbered n lines)
  policy-read n earlier made [] alike h short few = ap Ok (sym (append-nil made))
  policy-read n earlier made (line ∷ lines) alike h short few =
      let words = policy_words line in
      let rest = lines_of_policy lines in
      let plain = plain-line earlier line h.0 in
      let next : PolicyLineOf = line_with n line.claim line.operands in
      let room : length made < most_policy_lines = omega (arith, few) in
      let fewer : length (made ++ next ∷ []) + length lines ≤ most_policy_lines = omega (arith, few, length-append made (next ∷ [])) in
      ap (after_lines (policy_item g) n made) (lines-spaced words rest plain)
      ∙ (ap (λ (r : Result (List PolicyLineOf) TextKind). on_line n r >>= λ b. after_lines (policy_item g) (n + 1) b (lines_of rest))
      (line-is (policy_item g n) made words plain short.0 (not_skipped line.claim (map operand_word line.operands)) ∙ item-is n earlier made line alike h.0 room)
      ∙ (policy-read (n + 1) (earlier ++ line ∷ []) (made ++ next ∷ []) lines (alike-more earlier made n line alike) h.1 short.1 fewer
      ∙ ap Ok (append_assoc made (next ∷ []) (renumbered (n + 1) lines))))

pub policies-back : PoliciesAreReadAsWritten
unfolding policy_lines
policies-back g lines sound fits claim =
    policy-stated g (lines_of_policy lines) (renumbered 1 lines)
    (policy-read g 1 [] [] lines (λ q. refl) (next-from g [] lines sound) (all-to (IsShort g) lines fits.short) (omega (arith, fits.few)))
    (has_claim-renumbered 1 lines ∙ claim)
