-- A policy states something: its lines, or the fault behind the last.
use Rattle.std.proofs.Common.{◌≡◌, refl, sym, ◌∙◌, ap, inl, inr, ℕ, ◌+◌, Bool, true, false, cond, ◌||◌, List, [], ◌∷◌, length, Result, Ok, Err}
use Rattle.std.specs.List.{list_any}
use Rattle.tg_graph.specs.Graphs.{ProtectionGraph}
use Rattle.tg_words.specs.declared.faults.TextKind.{TextKind}
use Rattle.tg_words.specs.declared.faults.TextKind.TheVariants.{NoClaim}
use Rattle.tg_text.specs.declared.policy_text.PolicyLine.{PolicyLine}
use Rattle.tg_words.specs.Lines.{lines_of}
use Rattle.tg_words.specs.Reading.{◌>>=◌}
use Rattle.tg_text.specs.PolicyText.{PolicyLineOf, policy_of, states, has_claim, with_claim, policy_lines, policy_text}
use Rattle.tg_text.specs.PolicyTrips.{renumbered}
use Rattle.tg_text.proofs.Steps.{chosen}
use Rattle.tg_text.proofs.GrammarLaws.{same_value, same_fault}

abbrev pub Policy : Type 0
Policy = Result (List PolicyLineOf) (ℕ × TextKind)

abbrev pub refused : ℕ → TextKind → Policy
refused m kind = Err (m, kind)

-- what lines of a text come to
abbrev pub ended : List ℕ → Policy → Policy
ended text read = read >>= λ lines. with_claim (length (lines_of text) + 1) lines

-- ---- lines that state something, or nothing

pub claim_from : (end : ℕ) (lines : List PolicyLineOf) → has_claim lines ≡ true → with_claim end lines ≡ Ok lines
claim_from end lines h = ap (λ (b : Bool). cond b (Ok lines) (refused end NoClaim)) h

pub no_claim_from : (end : ℕ) (lines : List PolicyLineOf) → has_claim lines ≡ false → with_claim end lines ≡ refused end NoClaim
no_claim_from end lines h = ap (λ (b : Bool). cond b (Ok lines) (refused end NoClaim)) h

pub claim_ok : (end : ℕ) (lines found : List PolicyLineOf) → with_claim end lines ≡ Ok found → (lines ≡ found) × (has_claim found ≡ true)
claim_ok end lines found e =
    elim (chosen (has_claim lines) (Ok lines) (refused end NoClaim) (Ok found) e) [
      | inl p ↦ (let same : lines ≡ found = same_value lines found p.1 in (same, sym (ap has_claim same) ∙ p.0))
      | inr p ↦ absurd (let other : refused end NoClaim ≡ Ok found = p.1 in cc)
    ]

pub claim_fault : (end : ℕ) (lines : List PolicyLineOf) (m : ℕ) (kind : TextKind) → with_claim end lines ≡ refused m kind → (m ≡ end) × (kind ≡ NoClaim) × (has_claim lines ≡ false)
claim_fault end lines m kind e =
    elim (chosen (has_claim lines) (Ok lines) (refused end NoClaim) (refused m kind) e) [
      | inl p ↦ absurd (let other : ◌≡◌ {A = Policy} (Ok lines) (refused m kind) = p.1 in cc)
      | inr p ↦ (
          let same = same_fault (List PolicyLineOf) (end, NoClaim) (m, kind) p.1 in
          (sym (ap (λ (x : ℕ × TextKind). x.0) same), sym (ap (λ (x : ℕ × TextKind). x.1) same), p.0))
    ]

-- ---- a text whose lines were read

pub policy-stated : (g : ProtectionGraph) (text : List ℕ) (lines : List PolicyLineOf) → policy_lines g text ≡ Ok lines → has_claim lines ≡ true → policy_text g text ≡ Ok lines
unfolding policy_text
policy-stated g text lines e h = ap (ended text) e ∙ claim_from (length (lines_of text) + 1) lines h

pub policy-unstated : (g : ProtectionGraph) (text : List ℕ) (lines : List PolicyLineOf) (count : ℕ) → policy_lines g text ≡ Ok lines → count ≡ length (lines_of text) → has_claim lines ≡ false → policy_text g text ≡ refused (count + 1) NoClaim
unfolding policy_text
policy-unstated g text lines count e same h = ap (ended text) e ∙ (no_claim_from (length (lines_of text) + 1) lines h ∙ ap (λ (n : ℕ). refused (n + 1) NoClaim) (sym same))

pub policy-faulty : (g : ProtectionGraph) (text : List ℕ) (m : ℕ) (kind : TextKind) → policy_lines g text ≡ refused m kind → policy_text g text ≡ refused m kind
unfolding policy_text
policy-faulty g text m kind e = ap (ended text) e

-- ---- the same lines elsewhere

pub has_claim-renumbered : (n : ℕ) (lines : List PolicyLineOf) → has_claim (renumbered n lines) ≡ has_claim lines
has_claim-renumbered n [] = refl
has_claim-renumbered n (line ∷ lines) = ap (λ (b : Bool). states line.claim || b) (has_claim-renumbered (n + 1) lines)

has_claim-policy_of : (lines : List PolicyLine) → has_claim (policy_of lines) ≡ list_any (λ line. states line.claim) lines
has_claim-policy_of [] = refl
has_claim-policy_of (line ∷ lines) = ap (λ (b : Bool). states line.claim || b) (has_claim-policy_of lines)

pub has_claim-told : (lines items : List PolicyLine) (told : Bool) → lines ≡ items → told ≡ list_any (λ line. states line.claim) lines → has_claim (policy_of items) ≡ told
has_claim-told lines items told same is = has_claim-policy_of items ∙ (ap (λ (ls : List PolicyLine). list_any (λ line. states line.claim) ls) (sym same) ∙ sym is)
