-- The text of a policy.
use Rattle.std.specs.Prelude.{◌≡◌, ℕ, ◌+◌, ◌==◌, ◌<◌, not, Bool, false, true, All, List, [], ◌∷◌, length, map, take, slice_get, codes, Some, Result, Ok, Err, if◌then◌else◌}
use Rattle.std.specs.List.{list_any}
use Rattle.tg_names.specs.declared.right_sets.Rights.{Rights}
use Rattle.tg_names.specs.Names.{IsName, Name, same_name}
use Rattle.tg_names.specs.Sets.{IsNamed, is_empty_set}
use Rattle.tg_graph.specs.Graphs.{ProtectionGraph, has_vertex}
use Rattle.tg_words.specs.declared.faults.TextKind.{TextKind}
use Rattle.tg_words.specs.declared.faults.TextKind.TheVariants.{BadWord, BadName, UnknownVertex, UnknownGroup, NoClaim}
use Rattle.tg_text.specs.declared.policy_text.Operand.{Operand}
use Rattle.tg_text.specs.declared.policy_text.Operand.TheVariants as operand
use Rattle.tg_text.specs.declared.policy_text.Claim.{Claim}
use Rattle.tg_text.specs.declared.policy_text.Claim.TheVariants as claim
use Rattle.tg_text.specs.declared.policy_text.PolicyLine.{PolicyLine}
use Rattle.tg_words.specs.Lines.{lines_of}
use Rattle.tg_words.specs.Reading.{◌>>=◌, after_lines, with_item}
use Rattle.tg_words.specs.Words.{Word, is_word, name_at, some_rights_at, word_and_some, word_and_two}
use Rattle.tg_words.specs.Limits.{most_policy_lines}

-- a line of a policy without where it lies in memory
pub record PolicyLineOf : Type 0 where
  pub line : ℕ
  pub claim : Claim
  pub operands : List Operand

abbrev pub line_of_policy : PolicyLine → PolicyLineOf
line_of_policy line = record { line = line.line; claim = line.claim; operands = line.operands.items }

abbrev pub policy_of : List PolicyLine → List PolicyLineOf
policy_of lines = map line_of_policy lines

-- ---- words

-- `@` and the name of a group, or the name of a vertex
abbrev pub operand_at : Word → Result Operand TextKind
operand_at [] = Err BadName
operand_at (b ∷ bs) = if b == 64 then (name_at bs >>= λ n. Ok (operand.Group n)) else (name_at (b ∷ bs) >>= λ v. Ok (operand.Vertex v))

-- an operand for each word
abbrev pub operands_at : List Word → Result (List Operand) TextKind
operands_at [] = Ok []
operands_at (word ∷ words) = do
  first ← operand_at word
  others ← operands_at words
  Ok (first ∷ others)

-- what a line says of which operands
abbrev pub Said : Type 0
Said = Claim × List Operand

-- a word for a name, and the words of operands
unfoldable pub group_of_words : Word × List Word → Result Said TextKind
group_of_words w = do
  name ← name_at w.0
  operands ← operands_at w.1
  Ok (claim.Group name, operands)

-- a word for rights, and the words of operands
unfoldable pub rights_and_operands : Word × List Word → Result (Rights × List Operand) TextKind
rights_and_operands w = do
  operands ← operands_at w.1
  s ← some_rights_at w.0
  Ok (s, operands)

-- what the words of a line say
unfoldable pub said_by_words : List Word → Result Said TextKind
said_by_words [] = Err BadWord
said_by_words (word ∷ words) =
    if is_word word (codes "group") then (word_and_some words >>= λ w. group_of_words w)
    else (if is_word word (codes "never") then (word_and_two words >>= λ w. rights_and_operands w >>= λ a. Ok (claim.Never a.0, a.1))
    else (if is_word word (codes "may") then (word_and_two words >>= λ w. rights_and_operands w >>= λ a. Ok (claim.May a.0, a.1))
    else (if is_word word (codes "only") then (word_and_some words >>= λ w. rights_and_operands w >>= λ a. Ok (claim.Only a.0, a.1))
    else Err BadWord)))

-- ---- what is known

-- whether the claim makes the group of this name
abbrev pub makes_group : Name → Claim → Bool
makes_group n (claim.Group name) = same_name n name
makes_group n (claim.Never s) = false
makes_group n (claim.May s) = false
makes_group n (claim.Only s) = false

-- whether one of the lines makes the group of this name
abbrev pub has_group : List PolicyLineOf → Name → Bool
has_group lines n = list_any (λ line. makes_group n line.claim) lines

-- whether the operand is a vertex that the graph has not
abbrev pub lacks_vertex : ProtectionGraph → Operand → Bool
lacks_vertex g (operand.Vertex v) = not (has_vertex g v)
lacks_vertex g (operand.Group n) = false

-- whether the operand is a group that none of the lines makes
abbrev pub lacks_group : List PolicyLineOf → Operand → Bool
lacks_group lines (operand.Vertex v) = false
lacks_group lines (operand.Group n) = not (has_group lines n)

-- the operands, if the graph has each vertex, and the lines make each group, that is among them
abbrev pub known_operands : ProtectionGraph → List PolicyLineOf → List Operand → Result (List Operand) TextKind
known_operands g lines operands =
    if list_any (lacks_vertex g) operands then Err UnknownVertex
    else (if list_any (lacks_group lines) operands then Err UnknownGroup
    else Ok operands)

-- ---- lines

-- the line with this number, behind earlier lines
unfoldable pub policy_line : ProtectionGraph → ℕ → List PolicyLineOf → List Word → Result PolicyLineOf TextKind
policy_line g n lines words = do
  said ← said_by_words words
  operands ← known_operands g lines said.1
  Ok (record { line = n; claim = said.0; operands = operands })

-- one more line, with this number
unfoldable pub policy_item : ProtectionGraph → ℕ → List PolicyLineOf → List Word → Result (List PolicyLineOf) TextKind
policy_item g n lines words = with_item most_policy_lines lines (policy_line g n lines words)

-- whether the claim states who can or can't come to have a right; a group only gathers vertices
abbrev pub states : Claim → Bool
states (claim.Group n) = false
states (claim.Never s) = true
states (claim.May s) = true
states (claim.Only s) = true

-- whether one of the lines states something
abbrev pub has_claim : List PolicyLineOf → Bool
has_claim lines = list_any (λ line. states line.claim) lines

-- a policy states something; where it does not, the fault is on the line after the last
abbrev pub with_claim : ℕ → List PolicyLineOf → Result (List PolicyLineOf) (ℕ × TextKind)
with_claim end lines = if has_claim lines then Ok lines else Err (end, NoClaim)

-- the lines of a text over a graph, whatever they state, or the first faulty line and what is wrong with it
unfoldable pub policy_lines : ProtectionGraph → List ℕ → Result (List PolicyLineOf) (ℕ × TextKind)
policy_lines g bytes = after_lines (policy_item g) 1 [] (lines_of bytes)

-- the lines of a policy over a graph, or the first fault
unfoldable pub policy_text : ProtectionGraph → List ℕ → Result (List PolicyLineOf) (ℕ × TextKind)
policy_text g bytes = policy_lines g bytes >>= λ lines. with_claim (length (lines_of bytes) + 1) lines

-- ---- what is true of all lines

-- the name of a group, or a set of rights that is not empty and has no unnamed bit
abbrev pub IsClaim : Claim → Type 0
IsClaim (claim.Group n) = IsName n
IsClaim (claim.Never s) = IsNamed s × (is_empty_set s ≡ false)
IsClaim (claim.May s) = IsNamed s × (is_empty_set s ≡ false)
IsClaim (claim.Only s) = IsNamed s × (is_empty_set s ≡ false)

-- a claim may have so many operands
abbrev pub MayHave : Claim → ℕ → Type 0
MayHave (claim.Group n) count = 0 < count
MayHave (claim.Never s) count = count ≡ 2
MayHave (claim.May s) count = count ≡ 2
MayHave (claim.Only s) count = 0 < count

-- a vertex of the graph, or a group that one of the lines makes
abbrev pub IsKnown : ProtectionGraph → List PolicyLineOf → Operand → Type 0
IsKnown g lines (operand.Vertex v) = IsName v × (has_vertex g v ≡ true)
IsKnown g lines (operand.Group n) = IsName n × (has_group lines n ≡ true)

-- what a line behind earlier ones is
pub record IsPolicyLine (g : ProtectionGraph) (earlier : List PolicyLineOf) (line : PolicyLineOf) : Type 0 where
  pub claim : IsClaim line.claim
  pub count : MayHave line.claim (length line.operands)
  pub known : All (IsKnown g earlier) line.operands

-- each line is one behind those before it
abbrev pub ArePolicyLines : ProtectionGraph → List PolicyLineOf → Type 0
ArePolicyLines g lines = (place : ℕ) (line : PolicyLineOf) → slice_get lines place ≡ Some line → IsPolicyLine g (take place lines) line
