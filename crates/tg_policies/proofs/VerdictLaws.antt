-- A policy's verdicts are one, and it is kept exactly where each line holds.
use Rattle.std.proofs.Common.{◌≡◌, ℕ, zero, suc, ◌+◌, Bool, true, false, cond, List, [], ◌∷◌, ◌++◌, map, Option, Some, None, nat_eq, refl, sym, ap, subst, ◌∙◌, arith, inl, inr, ◌⊎◌, append_assoc}
use Rattle.std.specs.Prelude.{◌↔◌, is_some, codes, decimal, if◌then◌else◌}
use Rattle.std.specs.Cmp.Lexicographic.{nat_list_cmp_total}
use Rattle.std.specs.declared.cmp.Ordering.TheVariants.{Less}
use Rattle.std.specs.Ordering.{ordering_reverse}
use Rattle.std.proofs.lemmas.Bool.{eqb-true}
use Rattle.std.proofs.lemmas.List.{append-nil}
use Rattle.std.proofs.lemmas.List.Sums.{sum_by-cons, sum_by_push}
use Rattle.tg_names.specs.Sets.{bit_of}
use Rattle.tg_names.specs.Names.{Name}
use Rattle.tg_graph.specs.Graphs.{ProtectionGraph}
use Rattle.tg_text.specs.declared.policy_text.Operand.{Operand}
use Rattle.tg_text.specs.declared.policy_text.Claim.{Claim}
use Rattle.tg_text.specs.PolicyText.{PolicyLineOf}
use Rattle.tg_words.specs.Spelling.{line_of}
use Rattle.tg_analysis.specs.declared.cases.Case.{Case}
use Rattle.tg_inputs.specs.Readings.{ReportText}
use Rattle.tg_policies.specs.Policies.{Membership, no_members, members_after, members_behind, IsBelow, ComesBefore, ByRight, ByFirst, BySecond, IsVerdict, Finding, IsFinding, AreFindings, told_of, told_of_all, broken_count, verified_report, Holds, AllHold, IsKept, KeptExactly, VerdictsAreOne}

-- ---- the order of cases
below-asym : (v w : Name) → IsBelow v w → IsBelow w v → ⊥
below-asym v w h k =
    let turned : Less ≡ ordering_reverse Less = sym h ∙ nat_list_cmp_total.antisymm v w ∙ ap ordering_reverse k in
    absurd cc

below-same : (v w : Name) → v ≡ w → IsBelow v w → ⊥
below-same v w e h = below-asym v w h (subst (λ u. IsBelow w u) (sym e) (subst (λ u. IsBelow u w) e h))

before-asym : (a b : Case) → ComesBefore a b → ComesBefore b a → ⊥
before-asym a b (ByRight l) (ByRight m) = omega (arith, l, m)
before-asym a b (ByRight l) (ByFirst q m) = omega (arith, l, ap bit_of q)
before-asym a b (ByRight l) (BySecond q e m) = omega (arith, l, ap bit_of q)
before-asym a b (ByFirst q l) (ByRight m) = omega (arith, m, ap bit_of q)
before-asym a b (ByFirst q l) (ByFirst r m) = below-asym a.x b.x l m
before-asym a b (ByFirst q l) (BySecond r e m) = below-same a.x b.x (sym e) l
before-asym a b (BySecond q e l) (ByRight m) = omega (arith, m, ap bit_of q)
before-asym a b (BySecond q e l) (ByFirst r m) = below-same b.x a.x (sym e) m
before-asym a b (BySecond q e l) (BySecond r f m) = below-asym a.y b.y l m

-- ---- one verdict
module _ (g : ProtectionGraph) (in_group : Membership) (says : Claim) (operands : List Operand) where
  pub verdict_one : (a b : Option Case) → IsVerdict g in_group says operands a → IsVerdict g in_group says operands b → a ≡ b
  verdict_one None None h k = refl
  verdict_one None (Some c) h k = absurd (h c k.breaks)
  verdict_one (Some b) None h k = absurd (k b h.breaks)
  verdict_one (Some b) (Some c) h k = ap Some (by (h.first c k.breaks) (k.first b h.breaks))
    where
      by : (c ≡ b) ⊎ ComesBefore b c → (b ≡ c) ⊎ ComesBefore c b → b ≡ c
      by (inl e) other = sym e
      by (inr l) (inl e) = e
      by (inr l) (inr m) = absurd (before-asym b c l m)

module _ (why other : Bool) (g : ProtectionGraph) where
  verdicts_from : (in_group : Membership) (lines : List PolicyLineOf) (found more : List Finding) → AreFindings why g in_group lines found → AreFindings other g in_group lines more → map (λ f. f.verdict) found ≡ map (λ f. f.verdict) more
  verdicts_from in_group [] [] [] h k = refl
  verdicts_from in_group [] [] (one ∷ more) h k = absurd k
  verdicts_from in_group [] (one ∷ found) more h k = absurd h
  verdicts_from in_group (line ∷ lines) [] more h k = absurd h
  verdicts_from in_group (line ∷ lines) (one ∷ found) [] h k = absurd k
  verdicts_from in_group (line ∷ lines) (one ∷ found) (two ∷ more) h k =
      ap (λ (v : Option Case). v ∷ map (λ f. f.verdict) found) (verdict_one g in_group line.claim line.operands one.verdict two.verdict h.0.verdict k.0.verdict)
      ∙ ap (λ (vs : List (Option Case)). two.verdict ∷ vs) (verdicts_from (members_after in_group line.claim line.operands) lines found more h.1 k.1)

pub verdicts_are_one : VerdictsAreOne
verdicts_are_one why other g lines found more h k = verdicts_from why other g no_members lines found more h k

-- ---- kept
-- the end of a report, where each line holds or not
abbrev ended : Bool → List ℕ → ℕ → ReportText
ended t text n = if t then record { bytes = text ++ line_of (codes "kept" ∷ []); status = 0 } else record { bytes = text ++ line_of (codes "broken" ∷ decimal n ∷ []); status = 1 }

status-of : (text : List ℕ) (n : ℕ) → ((verified_report text n).status ≡ 0) ↔ (n ≡ 0)
status-of text n = by (nat_eq n 0) refl
  where
    by : (t : Bool) → nat_eq n 0 ≡ t → ((verified_report text n).status ≡ 0) ↔ (n ≡ 0)
    by true e =
        let zero_is = eqb-true n 0 e in
        (λ s. zero_is, λ z. ap (λ m. (verified_report text m).status) z)
    by false e =
        let one : (verified_report text n).status ≡ 1 = ap (λ (t : Bool). (ended t text n).status) e in
        (λ s. absurd (let both : 1 ≡ 0 = sym one ∙ s in omega (arith, both)), λ z. ap (λ m. (verified_report text m).status) z)

-- the first line, and those behind it
pub count-first : (one : Finding) (found : List Finding) → broken_count (one ∷ found) ≡ cond (is_some one.verdict) 1 0 + broken_count found
count-first one found = sum_by-cons (λ (f : Finding). cond (is_some f.verdict) 1 0) one found

module _ (why : Bool) (g : ProtectionGraph) where
  none-broken : (in_group : Membership) (lines : List PolicyLineOf) (found : List Finding) → AreFindings why g in_group lines found → broken_count found ≡ 0 → AllHold g in_group lines
  none-broken in_group [] [] h e place line s = absurd cc
  none-broken in_group [] (one ∷ found) h e place line s = absurd h
  none-broken in_group (first ∷ lines) [] h e place line s = absurd h
  none-broken in_group (first ∷ lines) (one ∷ found) h e zero line s = by one.verdict refl h.0.verdict
    where
      by : (v : Option Case) → one.verdict ≡ v → IsVerdict g in_group first.claim first.operands v → Holds g in_group line
      by None f holds = let same : first ≡ line = cc in subst (Holds g in_group) same holds
      by (Some b) f breaks = absurd (let counted = ap is_some f in omega (arith, e, count-first one found, ap {B = ℕ} (λ t. cond t 1 0) counted))
  none-broken in_group (first ∷ lines) (one ∷ found) h e (suc place) line s =
      none-broken (members_after in_group first.claim first.operands) lines found h.1 (omega (arith, e, count-first one found)) place line s

  all-hold : (in_group : Membership) (lines : List PolicyLineOf) (found : List Finding) → AreFindings why g in_group lines found → AllHold g in_group lines → broken_count found ≡ 0
  all-hold in_group [] [] h k = refl
  all-hold in_group [] (one ∷ found) h k = absurd h
  all-hold in_group (first ∷ lines) [] h k = absurd h
  all-hold in_group (first ∷ lines) (one ∷ found) h k =
      let rest : broken_count found ≡ 0 = all-hold (members_after in_group first.claim first.operands) lines found h.1 (λ place line s. k (suc place) line s) in
      by one.verdict refl h.0.verdict rest
    where
      by : (v : Option Case) → one.verdict ≡ v → IsVerdict g in_group first.claim first.operands v → broken_count found ≡ 0 → broken_count (one ∷ found) ≡ 0
      by None f holds rest = omega (arith, rest, count-first one found, ap {B = ℕ} (λ (o : Option Case). cond (is_some o) 1 0) f)
      by (Some b) f breaks rest = absurd (k 0 first refl b breaks.breaks)

pub kept_exactly : KeptExactly
kept_exactly why g lines report h = ((λ k. holds (to_status k), λ all. to_kept (status ∙ zero_is.1 (all-hold why g no_members lines h.0 h.1 all))), (to_kept, to_status))
  where
    n : ℕ
    n = broken_count h.0

    text : List ℕ
    text = told_of_all lines h.0

    status : report.status ≡ (verified_report text n).status
    status = ap (λ (r : ReportText). r.status) h.2

    zero_is : ((verified_report text n).status ≡ 0) ↔ (n ≡ 0)
    zero_is = status-of text n

    holds : report.status ≡ 0 → AllHold g no_members lines
    holds s = none-broken why g no_members lines h.0 h.1 (zero_is.0 (sym status ∙ s))

    to_status : IsKept report → report.status ≡ 0
    to_status k = ap (λ (r : ReportText). r.status) k.1

    to_kept : report.status ≡ 0 → IsKept report
    to_kept s = (text, h.2 ∙ ap (λ m. verified_report text m) (zero_is.0 (sym status ∙ s)))

-- ---- one line more
pub behind-more : (in_group : Membership) (lines : List PolicyLineOf) (line : PolicyLineOf) → members_behind in_group (lines ++ line ∷ []) ≡ members_after (members_behind in_group lines) line.claim line.operands
behind-more in_group [] line = refl
behind-more in_group (first ∷ lines) line = behind-more (members_after in_group first.claim first.operands) lines line

module _ (why : Bool) (g : ProtectionGraph) (line : PolicyLineOf) (last : Finding) where
  pub findings-more : (in_group : Membership) (lines : List PolicyLineOf) (found : List Finding) → AreFindings why g in_group lines found → IsFinding why g (members_behind in_group lines) line last → AreFindings why g in_group (lines ++ line ∷ []) (found ++ last ∷ [])
  findings-more in_group [] [] h k = (k, tt)
  findings-more in_group [] (one ∷ found) h k = absurd h
  findings-more in_group (first ∷ lines) [] h k = absurd h
  findings-more in_group (first ∷ lines) (one ∷ found) h k = (h.0, findings-more (members_after in_group first.claim first.operands) lines found h.1 k)

  pub told-more : (in_group : Membership) (lines : List PolicyLineOf) (found : List Finding) → AreFindings why g in_group lines found → told_of_all (lines ++ line ∷ []) (found ++ last ∷ []) ≡ told_of_all lines found ++ told_of line line.claim last
  told-more in_group [] [] h = append-nil (told_of line line.claim last)
  told-more in_group [] (one ∷ found) h = absurd h
  told-more in_group (first ∷ lines) [] h = absurd h
  told-more in_group (first ∷ lines) (one ∷ found) h =
      ap (λ (bs : List ℕ). told_of first first.claim one ++ bs) (told-more (members_after in_group first.claim first.operands) lines found h.1)
      ∙ sym (append_assoc (told_of first first.claim one) (told_of_all lines found) (told_of line line.claim last))

  pub count-more : (found : List Finding) → broken_count (found ++ last ∷ []) ≡ broken_count found + cond (is_some last.verdict) 1 0
  count-more found = sum_by_push (λ (f : Finding). cond (is_some f.verdict) 1 0) found last
