-- The kind of a fault of a policy is the least one whose condition holds.
use Rattle.std.proofs.Common.{◌≡◌, refl, sym, ◌∙◌, ap, subst, inl, inr, ◌⊎◌, ℕ, Bool, false, not, ◌&&◌, List, [], length, Err, arith}
use Rattle.std.specs.Prelude.{Contains, IsTrue}
use Rattle.std.proofs.lemmas.Bool.{false≢true, and_parts}
use Rattle.tg_graph.specs.Graphs.{ProtectionGraph}
use Rattle.tg_words.specs.declared.faults.TextKind.{TextKind}
use Rattle.tg_words.specs.declared.faults.TextKind.TheVariants.{LineTooLong, BadWord, WordCount, BadNumber, BadName, BadRights, DuplicateVertex, TooManyVertices, UnknownVertex, UnknownGroup, DuplicateEdge, TooMany, NoHeader, NoClaim}
use Rattle.tg_words.specs.Lines.{lines_of, words_of, is_skipped}
use Rattle.tg_words.specs.Reading.{after_line}
use Rattle.tg_text_laws.specs.FaultKinds.{IsFaultOf, of_line}
use Rattle.tg_text.specs.PolicyText.{PolicyLineOf, policy_item, policy_lines, policy_text}
use Rattle.tg_text.specs.PolicyGrammar.{IsPolicyItem, StatesNothing}
use Rattle.tg_text_laws.specs.PolicyKinds.{policy_condition, policy_kinds, PolicyLineKinds, PolicyTextKinds, NoClaimIsStatesNothing, PolicyHasTheseKinds}
use Rattle.tg_text_laws.proofs.LeastKind.{exactly_least}
use Rattle.tg_text.proofs.GrammarLaws.{lines_fault_kind, fault_from}
use Rattle.tg_text_laws.proofs.KindLaws.{line_kinds}
use Rattle.tg_text.proofs.PolicyClaims.{refused, policy-unstated, policy-faulty}
use Rattle.tg_text.proofs.PolicyLaws.{policy_item_ok, policy_item_from, policy_lines_from, policy_fault}
use Rattle.tg_text_laws.proofs.PolicyFaults.{policy_item_kinds}

pub policy_line_kinds : PolicyLineKinds
policy_line_kinds g n lines line kind =
    exactly_least (after_line (policy_item g n) lines line) (of_line (policy_condition g lines) line) (line_kinds (policy_item g n) (policy_condition g lines) lines line (policy_item_kinds g n lines (words_of line))) kind

never : (skipped : Bool) → IsTrue (not skipped && false) → ⊥
never skipped h = false≢true (and_parts (not skipped) false h).1

policy_fault_kind : (g : ProtectionGraph) (text : List ℕ) (m : ℕ) (kind : TextKind) → policy_text g text ≡ Err (m, kind) → IsFaultOf (IsPolicyItem g) (policy_condition g) [] (lines_of text) m kind ⊎ ((kind ≡ NoClaim) × StatesNothing g (lines_of text) m)
unfolding policy_lines
policy_fault_kind g text m kind e =
    elim (policy_fault g text m kind e) [
      | inl f ↦ (
          let found = lines_fault_kind (policy_item g) (IsPolicyItem g) (policy_item_ok g) (policy_item_from g) 1 [] (lines_of text) m kind f in
          inl (record { first = found.0; kind_of_line = (policy_line_kinds g m found.0.before found.0.line kind).0 found.1 }))
      | inr h ↦ inr h
    ]

pub no_claim_is_states_nothing : NoClaimIsStatesNothing
no_claim_is_states_nothing g text m = (
  λ e. elim (policy_fault_kind g text m NoClaim e) [
    | inl f ↦ absurd (never (is_skipped (words_of f.first.line)) f.kind_of_line.holds)
    | inr h ↦ h.1
  ],
  λ h.
      policy-unstated g text h.lines (length (lines_of text)) (policy_lines_from g text h.lines h.written) refl h.none
      ∙ ap (λ (n : ℕ). refused n NoClaim) (sym h.number),
)

pub policy_text_kinds : PolicyTextKinds
unfolding policy_lines
policy_text_kinds g text m kind = (
  policy_fault_kind g text m kind,
  λ h. elim h [
    | inl f ↦ policy-faulty g text m kind (fault_from (policy_item g) (IsPolicyItem g) (policy_item_ok g) (policy_item_from g) [] (lines_of text) m kind f.first ((policy_line_kinds g m f.first.before f.first.line kind).1 f.kind_of_line))
    | inr (none, nothing) ↦ (no_claim_is_states_nothing g text m).1 nothing ∙ ap (λ (k : TextKind). refused m k) (sym none)
  ],
)

of_policy : (g : ProtectionGraph) (lines : List PolicyLineOf) (line : List ℕ) (kind : TextKind) → IsTrue (of_line (policy_condition g lines) line kind) → Contains policy_kinds kind
of_policy g lines line LineTooLong h = (0, omega arith, refl)
of_policy g lines line BadWord h = (1, omega arith, refl)
of_policy g lines line WordCount h = (2, omega arith, refl)
of_policy g lines line BadNumber h = absurd (never (is_skipped (words_of line)) h)
of_policy g lines line BadName h = (3, omega arith, refl)
of_policy g lines line BadRights h = (4, omega arith, refl)
of_policy g lines line DuplicateVertex h = absurd (never (is_skipped (words_of line)) h)
of_policy g lines line TooManyVertices h = absurd (never (is_skipped (words_of line)) h)
of_policy g lines line UnknownVertex h = (5, omega arith, refl)
of_policy g lines line UnknownGroup h = (6, omega arith, refl)
of_policy g lines line DuplicateEdge h = absurd (never (is_skipped (words_of line)) h)
of_policy g lines line TooMany h = (7, omega arith, refl)
of_policy g lines line NoHeader h = absurd (never (is_skipped (words_of line)) h)
of_policy g lines line NoClaim h = absurd (never (is_skipped (words_of line)) h)

only_no_claim : (kind : TextKind) → kind ≡ NoClaim → Contains policy_kinds kind
only_no_claim kind e = subst (Contains policy_kinds) (sym e) (8, omega arith, refl)

pub policy_has_these_kinds : PolicyHasTheseKinds
policy_has_these_kinds g text m kind e =
    elim ((policy_text_kinds g text m kind).0 e) [
      | inl f ↦ of_policy g f.first.before f.first.line kind f.kind_of_line.holds
      | inr h ↦ only_no_claim kind h.0
    ]
