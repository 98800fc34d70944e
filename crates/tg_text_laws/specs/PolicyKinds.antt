-- The kinds of fault of the text of a policy: of each by itself, when it holds of a line.
use Rattle.std.specs.Prelude.{◌∷◌, ◌≡◌, ◌↔◌, ◌⊎◌, ℕ, ◌==◌, nat_lt, nat_le, not, ◌||◌, Bool, false, List, [], length, drop, codes, is_some, is_ok, bytes_eq, Option, None, Err, Contains}
use Rattle.std.specs.List.{list_any}
use Rattle.std.specs.Map.{lookup}
use Rattle.std.specs.Option.{option_map_or}
use Rattle.std.specs.Result.{result_ok}
use Rattle.tg_graph.specs.Graphs.{ProtectionGraph}
use Rattle.tg_words.specs.declared.faults.TextKind.{TextKind}
use Rattle.tg_words.specs.declared.faults.TextKind.TheVariants.{LineTooLong, BadWord, WordCount, BadName, BadRights, UnknownVertex, UnknownGroup, TooMany, NoClaim}
use Rattle.tg_text.specs.declared.policy_text.Operand.{Operand}
use Rattle.tg_words.specs.declared.versions.Version.TheVariants.{Two}
use Rattle.tg_words.specs.Lines.{lines_of}
use Rattle.tg_words.specs.Words.{Word}
use Rattle.tg_words.specs.Reading.{after_line}
use Rattle.tg_text_laws.specs.Forms.{Place, is_bad_name, are_bad_rights}
use Rattle.tg_text_laws.specs.Forms.Place.{AName, ALabel}
use Rattle.tg_text_laws.specs.FaultKinds.{IsLeastKind, IsFaultOf, of_line, passes_at}
use Rattle.tg_text.specs.PolicyText.{PolicyLineOf, operand_at, lacks_vertex, lacks_group, policy_item, policy_text}
use Rattle.tg_text.specs.PolicyGrammar.{IsPolicyItem, StatesNothing}
use Rattle.tg_words.specs.Limits.{most_policy_lines}

-- the form of a line: what its second word is, and of how many operands behind that word the line may be
pub record PolicyForm : Type 0 where
  pub second : Place
  pub allows : ℕ → Bool

abbrev pub some_operands : ℕ → Bool
some_operands count = nat_lt 0 count

abbrev pub two_operands : ℕ → Bool
two_operands count = count == 2

-- a set of rights that is not empty, in letters of version 2, which has all
abbrev pub some_rights : Place
some_rights = ALabel Two

-- the lines of a policy, by their first word
abbrev pub policy_forms : List (Word × PolicyForm)
policy_forms =
    (codes "group", record { second = AName; allows = some_operands })
    ∷ (codes "never", record { second = some_rights; allows = two_operands })
    ∷ (codes "may", record { second = some_rights; allows = two_operands })
    ∷ (codes "only", record { second = some_rights; allows = some_operands })
    ∷ []

-- the form that the first word decides
abbrev pub policy_form : List Word → Option PolicyForm
policy_form [] = None
policy_form (word ∷ words) = lookup (bytes_eq word) policy_forms

-- the words behind the second: each is for an operand
abbrev pub operand_words : List Word → List Word
operand_words words = drop 2 words

-- the line has a form, which has the property
abbrev pub has_form : (PolicyForm → Bool) → List Word → Bool
has_form property words = option_map_or property (policy_form words) false

-- whether some word for an operand names one with the property
abbrev pub some_operand : (Operand → Bool) → List Word → Bool
some_operand property words = list_any (λ word. option_map_or property (result_ok (operand_at word)) false) (operand_words words)

-- whether a word for an operand names none
abbrev pub is_bad_operand : Word → Bool
is_bad_operand word = not (is_ok (operand_at word))

-- of the words of a line of a policy
abbrev pub policy_condition : ProtectionGraph → List PolicyLineOf → List Word → TextKind → Bool
policy_condition g lines words BadWord = not (is_some (policy_form words))
policy_condition g lines words WordCount = has_form (λ form. not (form.allows (length (operand_words words)))) words
policy_condition g lines words BadName = has_form (λ form. passes_at 1 (is_bad_name form.second) words || list_any is_bad_operand (operand_words words)) words
policy_condition g lines words BadRights = has_form (λ form. passes_at 1 (are_bad_rights form.second) words) words
policy_condition g lines words UnknownVertex = some_operand (lacks_vertex g) words
policy_condition g lines words UnknownGroup = some_operand (lacks_group lines) words
policy_condition g lines words TooMany = nat_le most_policy_lines (length lines)
policy_condition g lines words _ = false

-- a line of a policy is refused exactly with the least kind
abbrev pub PolicyLineKinds : Type 0
PolicyLineKinds = (g : ProtectionGraph) (n : ℕ) (lines : List PolicyLineOf) (line : List ℕ) (kind : TextKind) → (after_line (policy_item g n) lines line ≡ Err kind) ↔ IsLeastKind (of_line (policy_condition g lines) line) kind

-- and a text exactly with its first faulty line and the least kind of that line, or where it states nothing
abbrev pub PolicyTextKinds : Type 0
PolicyTextKinds = (g : ProtectionGraph) (text : List ℕ) (m : ℕ) (kind : TextKind) → (policy_text g text ≡ Err (m, kind)) ↔ (IsFaultOf (IsPolicyItem g) (policy_condition g) [] (lines_of text) m kind ⊎ ((kind ≡ NoClaim) × StatesNothing g (lines_of text) m))

-- `NoClaim` comes exactly where no line is faulty, and none states anything
abbrev pub NoClaimIsStatesNothing : Type 0
NoClaimIsStatesNothing = (g : ProtectionGraph) (text : List ℕ) (m : ℕ) → (policy_text g text ≡ Err (m, NoClaim)) ↔ StatesNothing g (lines_of text) m

-- the kinds that a policy has
abbrev pub policy_kinds : List TextKind
policy_kinds = LineTooLong ∷ BadWord ∷ WordCount ∷ BadName ∷ BadRights ∷ UnknownVertex ∷ UnknownGroup ∷ TooMany ∷ NoClaim ∷ []

-- a policy has no fault of another kind
abbrev pub PolicyHasTheseKinds : Type 0
PolicyHasTheseKinds = (g : ProtectionGraph) (text : List ℕ) (m : ℕ) (kind : TextKind) → policy_text g text ≡ Err (m, kind) → Contains policy_kinds kind
