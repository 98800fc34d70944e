-- What is true of the lines of a policy that was read.
use Rattle.std.proofs.Common.{◌≡◌, refl, sym, ap, subst, inl, inr, ◌⊎◌, ℕ, zero, suc, ◌+◌, Bool, true, false, List, [], ◌∷◌, ◌++◌, take, Option, Some, Ok}
use Rattle.std.specs.Prelude.{slice_get, MatchOption}
use Rattle.std.specs.Bool.{MatchBool}
use Rattle.tg_names.specs.declared.right_sets.Rights.{Rights}
use Rattle.tg_names.specs.Sets.{IsNamed}
use Rattle.tg_names.specs.Letters.{set_of_letters}
use Rattle.tg_names.specs.RightsWords.{IsRightsWord, IsSetOf}
use Rattle.tg_graph.specs.Graphs.{ProtectionGraph}
use Rattle.tg_names.proofs.RightsWords.{rights_words_exactly}
use Rattle.tg_text.specs.declared.policy_text.Claim.{Claim}
use Rattle.tg_text.specs.declared.policy_text.Claim.TheVariants as claim
use Rattle.tg_words.specs.Lines.{lines_of, words_of, is_skipped}
use Rattle.tg_words.specs.Words.{Word}
use Rattle.tg_text.specs.Grammar.{AreLines}
use Rattle.tg_text.specs.PolicyText.{PolicyLineOf, policy_text, IsClaim, IsPolicyLine, ArePolicyLines}
use Rattle.tg_text.specs.PolicyGrammar.{WritesClaim, IsPolicyItem}
use Rattle.tg_text.proofs.PolicyLaws.{policy_texts_are_those}

abbrev some : {A : Type 0} → A → Option A
some x = Some x

some_is : {A : Type 0} (x y : A) → some x ≡ some y → x ≡ y
some_is x y e = cc

-- what stands in a list with one more element
pub one_more : {X : Type 0} (xs : List X) (x : X) (k : ℕ) (y : X) → slice_get (xs ++ x ∷ []) k ≡ Some y
    → ((slice_get xs k ≡ Some y) × (take k (xs ++ x ∷ []) ≡ take k xs)) ⊎ ((x ≡ y) × (take k (xs ++ x ∷ []) ≡ xs))
one_more [] x zero y e = inr (some_is x y e, refl)
one_more [] x (suc k) y e = absurd cc
one_more (a ∷ xs) x zero y e = inl (e, refl)
one_more {X} (a ∷ xs) x (suc k) y e =
    elim (one_more xs x k y e) [
      | inl p ↦ inl (p.0, ap (λ (zs : List X). a ∷ zs) p.1)
      | inr p ↦ inr (p.0, ap (λ (zs : List X). a ∷ zs) p.1)
    ]

named : (word : Word) (s : Rights) → set_of_letters word ≡ Some s → IsNamed s
named word s e =
    let P : Option Rights → Type 0 = λ o. MatchOption o (¬ IsRightsWord word) (λ r. IsRightsWord word × IsSetOf word r) in
    (subst P e (rights_words_exactly word)).1.named

is_claim : (keyword word : Word) (says : Claim) → WritesClaim keyword word says → IsClaim says
is_claim keyword word (claim.Group n) h = h.2
is_claim keyword word (claim.Never s) h = (named word s h.1.rights, h.1.some)
is_claim keyword word (claim.May s) h = (named word s h.1.rights, h.1.some)
is_claim keyword word (claim.Only s) h = (named word s h.1.rights, h.1.some)

module _ (g : ProtectionGraph) where
  none : ArePolicyLines g []
  none place line e = absurd cc

  pub with_line : (lines : List PolicyLineOf) (line : PolicyLineOf) → ArePolicyLines g lines → IsPolicyLine g lines line → ArePolicyLines g (lines ++ line ∷ [])
  with_line lines line all here place found e =
      elim (one_more lines line place found e) [
        | inl p ↦ subst (λ (earlier : List PolicyLineOf). IsPolicyLine g earlier found) (sym p.1) (all place found p.0)
        | inr p ↦ subst (λ (earlier : List PolicyLineOf). IsPolicyLine g earlier found) (sym p.1) (subst (IsPolicyLine g lines) p.0 here)
      ]

  after_item : (n : ℕ) (lines : List PolicyLineOf) (words : List Word) (more : List PolicyLineOf) → ArePolicyLines g lines → IsPolicyItem g n lines words more → ArePolicyLines g more
  after_item n lines words more all h =
      let line : PolicyLineOf = record { line = n; claim = h.claim; operands = h.operands } in
      let here : IsPolicyLine g lines line = record { claim = is_claim h.keyword h.word h.claim h.writes; count = h.count; known = h.known } in
      subst (ArePolicyLines g) (sym h.makes) (with_line lines line all here)

  after_text : (n : ℕ) (lines : List PolicyLineOf) (text : List (List ℕ)) (more : List PolicyLineOf) → ArePolicyLines g lines → AreLines (IsPolicyItem g) n lines text more → ArePolicyLines g more
  after_text n lines [] more all h = subst (ArePolicyLines g) (sym h) all
  after_text n lines (line ∷ text) more all h = after_text (n + 1) h.0 text more (by (is_skipped (words_of line)) h.1.means) h.2
    where
      by : (skipped : Bool) → MatchBool skipped (h.0 ≡ lines) (IsPolicyItem g n lines (words_of line) h.0) → ArePolicyLines g h.0
      by true same = subst (ArePolicyLines g) (sym same) all
      by false item = after_item n lines (words_of line) h.0 all item

  pub policies_sound : (text : List ℕ) (lines : List PolicyLineOf) → policy_text g text ≡ Ok lines → ArePolicyLines g lines
  policies_sound text lines e = after_text 1 [] (lines_of text) lines none ((policy_texts_are_those g text lines).0 e).written
