-- The reports of a policy are one, but that other rules may stand below a line.
use Rattle.std.proofs.Common.{◌≡◌, ℕ, ◌+◌, cond, Bool, true, false, List, [], ◌∷◌, ◌++◌, Option, Some, None, refl, sym, ap, subst, ◌∙◌, inl, inr, ◌⊎◌, append_assoc}
use Rattle.std.specs.Prelude.{is_some, codes, decimal, nat_eq}
use Rattle.std.proofs.lemmas.List.{append-nil}
use Rattle.tg_names.specs.declared.right_sets.Right.{Right}
use Rattle.tg_graph.specs.declared.rules.Rule.{Rule}
use Rattle.tg_names.specs.Names.{Name}
use Rattle.tg_graph.specs.Graphs.{ProtectionGraph}
use Rattle.tg_text.specs.declared.policy_text.Claim.{Claim}
use Rattle.tg_text.specs.declared.policy_text.Claim.TheVariants as claim
use Rattle.tg_text.specs.PolicyText.{PolicyLineOf}
use Rattle.tg_words.specs.Spelling.{line_of}
use Rattle.tg_analysis.specs.declared.cases.Case.{Case}
use Rattle.tg_sharing.specs.Derivations.{IsDerivation}
use Rattle.tg_inputs.specs.Readings.{ReportText}
use Rattle.tg_policies.specs.Derived.{derivation_report}
use Rattle.tg_policies.specs.Policies.{Membership, no_members, members_after, Finding, AreFindings, IsWhy, verdict_line, told_of, told_of_all, broken_count, verified_report, IsVerified}
use Rattle.tg_policies.proofs.VerdictLaws.{verdict_one, count-first}

module _ (g : ProtectionGraph) where
  -- rules that were found stand in the text
  abbrev pub Has : List ℕ → Type 0
  Has text = (right : Right) × (x : Name) × (y : Name) × (rules : List Rule) × (before : List ℕ) × (behind : List ℕ) × IsDerivation g right x y rules × (text ≡ before ++ (derivation_report rules).bytes ++ behind)

  has-behind : (front text : List ℕ) → Has text → Has (front ++ text)
  has-behind front text h =
      (h.0, h.1, h.2, h.3, front ++ h.4, h.5, h.6, ap (λ (bs : List ℕ). front ++ bs) h.7 ∙ (sym (append_assoc front (h.4 ++ (derivation_report h.3).bytes) h.5) ∙ ap (λ (bs : List ℕ). bs ++ h.5) (sym (append_assoc front h.4 (derivation_report h.3).bytes))))

  has-before : (text back : List ℕ) → Has text → Has (text ++ back)
  has-before text back h =
      (h.0, h.1, h.2, h.3, h.4, h.5 ++ back, h.6, ap (λ (bs : List ℕ). bs ++ back) h.7 ∙ append_assoc (h.4 ++ (derivation_report h.3).bytes) h.5 back)

  abbrev Alike : List ℕ → List ℕ → Type 0
  Alike s t = (s ≡ t) ⊎ (Has s × Has t)

  behind-alike : (front s t : List ℕ) → Alike s t → Alike (front ++ s) (front ++ t)
  behind-alike front s t (inl e) = inl (ap (λ (bs : List ℕ). front ++ bs) e)
  behind-alike front s t (inr h) = inr (has-behind front s h.0, has-behind front t h.1)

  both-alike : (s t u v : List ℕ) → Alike s t → Alike u v → Alike (s ++ u) (t ++ v)
  both-alike s t u v (inr h) other = inr (has-before s u h.0, has-before t v h.1)
  both-alike s t u v (inl e) (inl f) = inl (ap (λ (bs : List ℕ). bs ++ u) e ∙ ap (λ (bs : List ℕ). t ++ bs) f)
  both-alike s t u v (inl e) (inr h) = inr (has-behind s u h.0, has-behind t v h.1)

  Derives : List ℕ → Type 0
  Derives text = (right : Right) × (x : Name) × (y : Name) × (rules : List Rule) × IsDerivation g right x y rules × (text ≡ (derivation_report rules).bytes)

  has-alone : (text : List ℕ) → Derives text → Has text
  unfolding Derives
  has-alone text h = (h.0, h.1, h.2, h.3, [], [], h.4, h.5 ∙ sym (append-nil (derivation_report h.3).bytes))

  why_one : (why : Bool) (says : Claim) (verdict : Option Case) (s t : List ℕ) → IsWhy why g says verdict s → IsWhy why g says verdict t → Alike s t
  unfolding Derives
  why_one true (claim.Never rights) (Some b) s t h k = inr (has-alone s (b.right, b.x, b.y, h.0, h.1, h.2), has-alone t (b.right, b.x, b.y, k.0, k.1, k.2))
  why_one true (claim.Only rights) (Some b) s t h k = inr (has-alone s (b.right, b.x, b.y, h.0, h.1, h.2), has-alone t (b.right, b.x, b.y, k.0, k.1, k.2))
  why_one true (claim.Never rights) None s t h k = inl (h ∙ sym k)
  why_one true (claim.Only rights) None s t h k = inl (h ∙ sym k)
  why_one true (claim.May rights) (Some b) s t h k = inl (h ∙ sym k)
  why_one true (claim.May rights) None s t h k = inl (h ∙ sym k)
  why_one true (claim.Group n) (Some b) s t h k = inl (h ∙ sym k)
  why_one true (claim.Group n) None s t h k = inl (h ∙ sym k)
  why_one false (claim.Never rights) (Some b) s t h k = inl (h ∙ sym k)
  why_one false (claim.Never rights) None s t h k = inl (h ∙ sym k)
  why_one false (claim.May rights) (Some b) s t h k = inl (h ∙ sym k)
  why_one false (claim.May rights) None s t h k = inl (h ∙ sym k)
  why_one false (claim.Only rights) (Some b) s t h k = inl (h ∙ sym k)
  why_one false (claim.Only rights) None s t h k = inl (h ∙ sym k)
  why_one false (claim.Group n) (Some b) s t h k = inl (h ∙ sym k)
  why_one false (claim.Group n) None s t h k = inl (h ∙ sym k)

  -- a line with one verdict, and what stands below it
  stated-alike : (n : ℕ) (v w : Option Case) (s t : List ℕ) → v ≡ w → Alike s t → Alike (verdict_line n v ++ s) (verdict_line n w ++ t)
  stated-alike n v w s t e a = subst (λ (u : Option Case). Alike (verdict_line n v ++ s) (verdict_line n u ++ t)) e (behind-alike (verdict_line n v) s t a)

  told_one : (why : Bool) (in_group : Membership) (line : PolicyLineOf) (says : Claim) (one two : Finding) → one.verdict ≡ two.verdict → IsWhy why g says one.verdict one.why → IsWhy why g says two.verdict two.why → Alike (told_of line says one) (told_of line says two)
  told_one why in_group line (claim.Group n) one two e h k = inl refl
  told_one why in_group line (claim.Never rights) one two e h k = stated-alike line.line one.verdict two.verdict one.why two.why e (why_one why (claim.Never rights) two.verdict one.why two.why (subst (λ v. IsWhy why g (claim.Never rights) v one.why) e h) k)
  told_one why in_group line (claim.May rights) one two e h k = stated-alike line.line one.verdict two.verdict one.why two.why e (why_one why (claim.May rights) two.verdict one.why two.why (subst (λ v. IsWhy why g (claim.May rights) v one.why) e h) k)
  told_one why in_group line (claim.Only rights) one two e h k = stated-alike line.line one.verdict two.verdict one.why two.why e (why_one why (claim.Only rights) two.verdict one.why two.why (subst (λ v. IsWhy why g (claim.Only rights) v one.why) e h) k)

  told_all_one : (why : Bool) (in_group : Membership) (lines : List PolicyLineOf) (found more : List Finding) → AreFindings why g in_group lines found → AreFindings why g in_group lines more → Alike (told_of_all lines found) (told_of_all lines more) × (broken_count found ≡ broken_count more)
  told_all_one why in_group [] [] [] h k = (inl refl, refl)
  told_all_one why in_group [] [] (two ∷ more) h k = absurd k
  told_all_one why in_group [] (one ∷ found) more h k = absurd h
  told_all_one why in_group (line ∷ lines) [] more h k = absurd h
  told_all_one why in_group (line ∷ lines) (one ∷ found) [] h k = absurd k
  told_all_one why in_group (line ∷ lines) (one ∷ found) (two ∷ more) h k =
      let same : one.verdict ≡ two.verdict = verdict_one g in_group line.claim line.operands one.verdict two.verdict h.0.verdict k.0.verdict in
      let rest = told_all_one why (members_after in_group line.claim line.operands) lines found more h.1 k.1 in
      let here = told_one why in_group line line.claim one two same h.0.why k.0.why in (
        both-alike (told_of line line.claim one) (told_of line line.claim two) (told_of_all lines found) (told_of_all lines more) here rest.0,
        count-first one found ∙ ap {B = ℕ} (λ (v : Option Case). cond (is_some v) 1 0 + broken_count found) same ∙ ap (λ n. cond (is_some two.verdict) 1 0 + n) rest.1 ∙ sym (count-first two more),
      )

  abbrev kept : List ℕ → ReportText
  kept bs = record { bytes = bs ++ line_of (codes "kept" ∷ []); status = 0 }

  abbrev broken : ℕ → List ℕ → ReportText
  broken n bs = record { bytes = bs ++ line_of (codes "broken" ∷ decimal n ∷ []); status = 1 }

  has-ended : (n : ℕ) (bs : List ℕ) (test : Bool) → Has bs → Has (cond test (kept bs) (broken n bs)).bytes
  has-ended n bs true h = has-before bs (line_of (codes "kept" ∷ [])) h
  has-ended n bs false h = has-before bs (line_of (codes "broken" ∷ decimal n ∷ [])) h

  ends-alike : (s t : List ℕ) (n : ℕ) → Alike s t → (verified_report s n ≡ verified_report t n) ⊎ (Has (verified_report s n).bytes × Has (verified_report t n).bytes)
  ends-alike s t n (inl e) = inl (ap (λ (bs : List ℕ). verified_report bs n) e)
  ends-alike s t n (inr h) = inr (has-ended n s (nat_eq n 0) h.0, has-ended n t (nat_eq n 0) h.1)

-- ---- without derivations
why_empty : (g : ProtectionGraph) (says : Claim) (verdict : Option Case) (text : List ℕ) → IsWhy false g says verdict text → text ≡ []
why_empty g (claim.Group n) None text h = h
why_empty g (claim.Group n) (Some b) text h = h
why_empty g (claim.Never s) None text h = h
why_empty g (claim.Never s) (Some b) text h = h
why_empty g (claim.May s) None text h = h
why_empty g (claim.May s) (Some b) text h = h
why_empty g (claim.Only s) None text h = h
why_empty g (claim.Only s) (Some b) text h = h

findings_same : (g : ProtectionGraph) (in_group : Membership) (lines : List PolicyLineOf) (found more : List Finding) → AreFindings false g in_group lines found → AreFindings false g in_group lines more → found ≡ more
findings_same g in_group [] [] [] h k = refl
findings_same g in_group [] [] (two ∷ more) h k = absurd k
findings_same g in_group [] (one ∷ found) more h k = absurd h
findings_same g in_group (line ∷ lines) [] more h k = absurd h
findings_same g in_group (line ∷ lines) (one ∷ found) [] h k = absurd k
findings_same g in_group (line ∷ lines) (one ∷ found) (two ∷ more) h k =
    let verdict : one.verdict ≡ two.verdict = verdict_one g in_group line.claim line.operands one.verdict two.verdict h.0.verdict k.0.verdict in
    let why : one.why ≡ two.why = why_empty g line.claim one.verdict one.why h.0.why ∙ sym (why_empty g line.claim two.verdict two.why k.0.why) in
    let rest = findings_same g (members_after in_group line.claim line.operands) lines found more h.1 k.1 in
    λ i. record { verdict = verdict i; why = why i } ∷ rest i

pub verified_same : (g : ProtectionGraph) (lines : List PolicyLineOf) (a b : ReportText) → IsVerified false g lines a → IsVerified false g lines b → a ≡ b
verified_same g lines a b h k =
    h.2 ∙ ap (λ (found : List Finding). verified_report (told_of_all lines found) (broken_count found)) (findings_same g no_members lines h.0 k.0 h.1 k.1) ∙ sym k.2

pub verified_one : (why : Bool) (g : ProtectionGraph) (lines : List PolicyLineOf) (a b : ReportText) → IsVerified why g lines a → IsVerified why g lines b → (a ≡ b) ⊎ (Has g a.bytes × Has g b.bytes)
verified_one why g lines a b h k =
    let both = told_all_one g why no_members lines h.0 k.0 h.1 k.1 in
    let n = broken_count h.0 in
    let s = told_of_all lines h.0 in
    let t = told_of_all lines k.0 in
    joined g a b (verified_report s n) (verified_report t n) h.2 (k.2 ∙ ap (verified_report t) (sym both.1)) (ends-alike g s t n both.0)
  where
    joined : (g : ProtectionGraph) (a b c d : ReportText) → a ≡ c → b ≡ d → (c ≡ d) ⊎ (Has g c.bytes × Has g d.bytes) → (a ≡ b) ⊎ (Has g a.bytes × Has g b.bytes)
    joined g a b c d e f (inl same) = inl (e ∙ (same ∙ sym f))
    joined g a b c d e f (inr p) = inr (subst (λ (r : ReportText). Has g r.bytes) (sym e) p.0, subst (λ (r : ReportText). Has g r.bytes) (sym f) p.1)
