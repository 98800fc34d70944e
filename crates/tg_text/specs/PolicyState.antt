-- What the reader of a policy holds.
use Rattle.std.specs.Prelude.{◌≡◌, ℕ, not, Bool, false, List, Option, None, Some, Result, Ok, Err, if◌then◌else◌}
use Rattle.std.specs.List.{list_any}
use Rattle.std.specs.BTreeSet.{BTreeSet, contains}
use Rattle.tg_names.specs.Names.{Name}
use Rattle.tg_graph.specs.Graphs.{ProtectionGraph}
use Rattle.tg_words.specs.declared.faults.TextKind.{TextKind}
use Rattle.tg_words.specs.declared.faults.TextKind.TheVariants.{UnknownVertex, UnknownGroup}
use Rattle.tg_text.specs.declared.policy_text.Operand.{Operand}
use Rattle.tg_text.specs.declared.policy_text.Operand.TheVariants as operand
use Rattle.tg_words.specs.Reading.{◌>>=◌}
use Rattle.tg_words.specs.Words.{Word}
use Rattle.tg_text.specs.Canonical.{name_cmp}
use Rattle.tg_text.specs.PolicyText.{PolicyLineOf, has_group, lacks_vertex, policy_item}

-- one more line, beside the graph, which stays
abbrev pub item_over : ℕ → ProtectionGraph × List PolicyLineOf → List Word → Result (ProtectionGraph × List PolicyLineOf) TextKind
item_over n made words = policy_item made.0 n made.1 words >>= λ more. Ok (made.0, more)

-- the set has exactly the names of the groups that the lines make
abbrev pub HasGroupsOf : BTreeSet Name → List PolicyLineOf → Type 0
HasGroupsOf groups lines = (n : Name) → contains name_cmp groups n ≡ has_group lines n

-- whether the operand is a group whose name is not in the set
abbrev pub lacks_name : BTreeSet Name → Operand → Bool
lacks_name groups (operand.Vertex v) = false
lacks_name groups (operand.Group n) = not (contains name_cmp groups n)

-- what is wrong with operands, if some are not known by the graph and the set
abbrev pub known_to : ProtectionGraph → BTreeSet Name → List Operand → Option TextKind
known_to g groups operands =
    if list_any (lacks_vertex g) operands then Some UnknownVertex
    else (if list_any (lacks_name groups) operands then Some UnknownGroup
    else None)

-- an outcome of looking for what is wrong: the kind of fault that there is, or that there is none
abbrev pub IsFound : Result (Unit {0}) TextKind → Option TextKind → Type 0
IsFound (Ok x) found = found ≡ None
IsFound (Err kind) found = found ≡ Some kind
