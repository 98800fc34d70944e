-- How a policy is read: the operands of a line one by one, and the lines beside the names of their groups.
use Rattle.std.proofs.Common.{◌≡◌, ℕ, ◌+◌, ◌<◌, ◌≤◌, Bool, true, false, cond, not, ◌||◌, nat_lt, nat_le, if◌then◌else◌, List, [], ◌∷◌, ◌++◌, length, Option, None, Some, Result, Ok, Err, refl, sym, ap, ◌∙◌, append_assoc, arith}
use Rattle.std.specs.Prelude.{bytes_eq}
use Rattle.std.specs.List.{list_any}
use Rattle.std.specs.BTreeSet.{BTreeSet, contains, Updates}
use Rattle.std.specs.Cmp.Lexicographic.{nat_list_eq_equiv}
use Rattle.std.proofs.lemmas.List.{append-nil, map-append, length-map}
use Rattle.std.proofs.lemmas.Bool.{lt-leb}
use Rattle.std.proofs.lemmas.Bool.Decides.{nat_tests}
use Rattle.std.proofs.lemmas.List.Folds.{list_any-append}
use Rattle.std.proofs.lemmas.Map.Text.{is_eq-slice_cmp}
use Rattle.tg_names.specs.Names.{Name}
use Rattle.tg_graph.specs.Graphs.{ProtectionGraph}
use Rattle.tg_words.specs.declared.faults.TextKind.{TextKind}
use Rattle.tg_words.specs.declared.faults.TextKind.TheVariants.{LineTooLong, UnknownVertex, UnknownGroup, TooMany}
use Rattle.tg_words.specs.declared.faults.LineFault.{LineFault}
use Rattle.tg_words.specs.declared.faults.LineFault.TheVariants as line
use Rattle.tg_words.specs.declared.faults.TextFault.{TextFault}
use Rattle.tg_words.specs.declared.faults.TextFault.TheVariants.{At, Memory}
use Rattle.tg_text.specs.declared.policy_text.Operand.{Operand}
use Rattle.tg_text.specs.declared.policy_text.Operand.TheVariants as operand
use Rattle.tg_text.specs.declared.policy_text.Claim.{Claim}
use Rattle.tg_text.specs.declared.policy_text.Claim.TheVariants as claim
use Rattle.tg_text.specs.declared.policy_text.PolicyLine.{PolicyLine}
use Rattle.tg_words.specs.Limits.{most_line_bytes, most_policy_lines}
use Rattle.tg_words.specs.Lines.{lines_of, words_of, is_skipped}
use Rattle.tg_words.specs.Words.{Word}
use Rattle.tg_words.specs.Reading.{◌>>=◌, on_line, after_line, after_lines, with_item, Makes, MakesAll, Reads}
use Rattle.tg_text.specs.Canonical.{name_cmp}
use Rattle.tg_text.specs.PolicyText.{PolicyLineOf, line_of_policy, policy_of, Said, operand_at, operands_at, said_by_words, makes_group, has_group, lacks_vertex, lacks_group, known_operands, policy_line, policy_item, policy_lines, policy_text}
use Rattle.tg_text.specs.PolicyState.{item_over, HasGroupsOf, lacks_name, known_to}
use Rattle.tg_text.proofs.PolicyClaims.{policy-faulty}

-- ---- operands

abbrev pub Operands : Type 0
Operands = Result (List Operand) TextKind

-- the operands, and behind them those that the words name, one by one
abbrev pub operands_behind : List Operand → List Word → Operands
operands_behind front [] = Ok front
operands_behind front (word ∷ words) = operand_at word >>= λ x. operands_behind (front ++ x ∷ []) words

abbrev joined : List Operand → Operands → Operands
joined front read = read >>= λ more. Ok (front ++ more)

operands-joined : (words : List Word) (front : List Operand) → operands_behind front words ≡ joined front (operands_at words)
operands-joined [] front = ap Ok (sym (append-nil front))
operands-joined (word ∷ words) front = by (λ next. operands-joined words next) (operand_at word)
  where
    more : (x : Operand) (r : Operands) → joined (front ++ x ∷ []) r ≡ joined front (r >>= λ others. Ok (x ∷ others))
    more x (Ok others) = ap Ok (append_assoc front (x ∷ []) others)
    more x (Err kind) = refl

    by : ((next : List Operand) → operands_behind next words ≡ joined next (operands_at words))
        → (r : Result Operand TextKind) → (r >>= λ x. operands_behind (front ++ x ∷ []) words) ≡ joined front (r >>= λ first. operands_at words >>= λ others. Ok (first ∷ others))
    by later (Ok x) = later (front ++ x ∷ []) ∙ more x (operands_at words)
    by later (Err kind) = refl

joined-none : (read : Operands) → joined [] read ≡ read
joined-none (Ok more) = refl
joined-none (Err kind) = refl

-- behind none they are all
pub operands_alike : (words : List Word) → operands_behind [] words ≡ operands_at words
operands_alike words = operands-joined words [] ∙ joined-none (operands_at words)

-- ---- the names of groups

module _ (groups next : BTreeSet Name) (lines : List PolicyLineOf) (h : HasGroupsOf groups lines) where
  either : (b c : Bool) → cond b true c ≡ (c || (b || false))
  either true true = refl
  either true false = refl
  either false true = refl
  either false false = refl

  -- a group that joins the set, and a line that makes it
  pub group-joins : (n : ℕ) (name : Name) (operands : List Operand) → Updates name_cmp groups next name true → HasGroupsOf next (lines ++ record { line = n; claim = claim.Group name; operands = operands } ∷ [])
  group-joins n name operands u q =
      let line : PolicyLineOf = record { line = n; claim = claim.Group name; operands = operands } in
      u.0 q
      ∙ ap (λ b. cond b true (contains name_cmp groups q)) (is_eq-slice_cmp name q)
      ∙ ap (λ b. cond (bytes_eq name q) true b) (h q)
      ∙ either (bytes_eq name q) (has_group lines q)
      ∙ ap (λ b. has_group lines q || (b || false)) (nat_list_eq_equiv.symm name q)
      ∙ sym (list_any-append (λ line. makes_group q line.claim) lines (line ∷ []))

  last_false : (b : Bool) → b ≡ (b || (false || false))
  last_false true = refl
  last_false false = refl

  -- another line
  pub no-group-joins : (line : PolicyLineOf) → ((q : Name) → makes_group q line.claim ≡ false) → HasGroupsOf groups (lines ++ line ∷ [])
  no-group-joins line other q =
      h q ∙ last_false (has_group lines q)
      ∙ ap (λ b. has_group lines q || (b || false)) (sym (other q))
      ∙ sym (list_any-append (λ line. makes_group q line.claim) lines (line ∷ []))

  pub lacks-alike : (operands : List Operand) → list_any (lacks_name groups) operands ≡ list_any (lacks_group lines) operands
  lacks-alike [] = refl
  lacks-alike (operand.Vertex v ∷ operands) = lacks-alike operands
  lacks-alike (operand.Group n ∷ operands) = λ i. not (h n i) || lacks-alike operands i

-- a claim that is about no group makes none
pub not-group : (says : Claim) → ((n : Name) → says ≡ claim.Group n → ⊥) → (q : Name) → makes_group q says ≡ false
not-group (claim.Group n) never q = absurd (never n refl)
not-group (claim.Never s) never q = refl
not-group (claim.May s) never q = refl
not-group (claim.Only s) never q = refl

-- ---- room

pub policy-pushed : (lines : List PolicyLine) (line : PolicyLine) → policy_of (lines ++ line ∷ []) ≡ policy_of lines ++ line_of_policy line ∷ []
policy-pushed lines line = map-append line_of_policy lines (line ∷ [])

pub push-room : (lines : List PolicyLine) (x : PolicyLineOf) → length lines < most_policy_lines → with_item most_policy_lines (policy_of lines) (Ok x) ≡ Ok (policy_of lines ++ x ∷ [])
push-room lines x room =
    let fewer : length (policy_of lines) < most_policy_lines = omega (arith, room, length-map lines line_of_policy) in
    ap (λ (b : Bool). cond b (Err TooMany) (Ok (policy_of lines ++ x ∷ []))) (lt-leb most_policy_lines (length (policy_of lines)) fewer)

pub push-full : (lines : List PolicyLine) (x : PolicyLineOf) → most_policy_lines ≤ length lines → with_item most_policy_lines (policy_of lines) (Ok x) ≡ Err TooMany
push-full lines x full =
    let enough : most_policy_lines ≤ length (policy_of lines) = omega (arith, full, length-map lines line_of_policy) in
    let test : nat_le most_policy_lines (length (policy_of lines)) ≡ true = grind (arith, nat_tests) in
    ap (λ (b : Bool). cond b (Err TooMany) (Ok (policy_of lines ++ x ∷ []))) test

-- ---- lines

abbrev outcome_of : List Operand → Option TextKind → Operands
outcome_of operands None = Ok operands
outcome_of operands (Some kind) = Err kind

known-is : (g : ProtectionGraph) (groups : BTreeSet Name) (lines : List PolicyLineOf) → HasGroupsOf groups lines → (operands : List Operand) → known_operands g lines operands ≡ outcome_of operands (known_to g groups operands)
known-is g groups lines h operands =
    ap (λ b. cond (list_any (lacks_vertex g) operands) (Err UnknownVertex) (cond b (Err UnknownGroup) (Ok operands))) (sym (lacks-alike groups groups lines h operands))
    ∙ by (list_any (lacks_vertex g) operands) (list_any (lacks_name groups) operands)
  where
    by : (v w : Bool) → cond v (Err UnknownVertex) (cond w (Err UnknownGroup) (Ok operands)) ≡ outcome_of operands (cond v (Some UnknownVertex) (cond w (Some UnknownGroup) None))
    by true w = refl
    by false true = refl
    by false false = refl

abbrev pub line_with : ℕ → Claim → List Operand → PolicyLineOf
line_with n says operands = record { line = n; claim = says; operands = operands }

module _ (g : ProtectionGraph) (groups : BTreeSet Name) (n : ℕ) (lines : List PolicyLineOf) (h : HasGroupsOf groups lines) (words : List Word) where
  abbrev over : Operands → Said → Result PolicyLineOf TextKind
  over known said = known >>= λ operands. Ok (line_with n said.0 operands)

  abbrev added : Result PolicyLineOf TextKind → Result (ProtectionGraph × List PolicyLineOf) TextKind
  added line = with_item most_policy_lines lines line >>= λ more. Ok (g, more)

  -- words that say nothing
  pub item-unsaid : (kind : TextKind) → said_by_words words ≡ Err kind → item_over n (g, lines) words ≡ Err kind
  unfolding policy_item policy_line
  item-unsaid kind e = ap (λ (r : Result Said TextKind). added (r >>= λ said. over (known_operands g lines said.1) said)) e

  -- operands of which one is not known
  pub item-unknown : (said : Said) (kind : TextKind) → said_by_words words ≡ Ok said → known_to g groups said.1 ≡ Some kind → item_over n (g, lines) words ≡ Err kind
  unfolding policy_item policy_line
  item-unknown said kind e k =
      ap (λ (r : Result Said TextKind). added (r >>= λ said. over (known_operands g lines said.1) said)) e
      ∙ ap (λ (r : Operands). added (over r said)) (known-is g groups lines h said.1 ∙ ap (outcome_of said.1) k)

  -- what is known is added, if there is room
  pub item-known : (said : Said) → said_by_words words ≡ Ok said → known_to g groups said.1 ≡ None → item_over n (g, lines) words ≡ added (Ok (line_with n said.0 said.1))
  unfolding policy_item policy_line
  item-known said e k =
      ap (λ (r : Result Said TextKind). added (r >>= λ said. over (known_operands g lines said.1) said)) e
      ∙ ap (λ (r : Operands). added (over r said)) (known-is g groups lines h said.1 ∙ ap (outcome_of said.1) k)

-- what is made of a list is made of it beside the graph
pub makes-beside : (g : ProtectionGraph) (r : Result (List PolicyLineOf) TextKind) (result : Result (Unit {0}) LineFault) (new : List PolicyLineOf) → Makes r result new → Makes {A = ProtectionGraph × List PolicyLineOf} (r >>= λ more. Ok (g, more)) result (g, new)
makes-beside g r (Ok x) new e = ap (λ (q : Result (List PolicyLineOf) TextKind). q >>= λ more. Ok (g, more)) e
makes-beside g r (Err (line.Kind kind)) new e = ap (λ (q : Result (List PolicyLineOf) TextKind). q >>= λ more. Ok (g, more)) e
makes-beside g r (Err line.Memory) new e = tt

-- ---- the whole

abbrev Beside : Type 0
Beside = ProtectionGraph × List PolicyLineOf

module _ (g : ProtectionGraph) where
  abbrev with_graph : List PolicyLineOf → Beside
  with_graph more = (g, more)

  abbrev beside : Result (List PolicyLineOf) TextKind → Result (ProtectionGraph × List PolicyLineOf) TextKind
  beside read = read >>= λ more. Ok (with_graph more)

  line-over : (n : ℕ) (made : List PolicyLineOf) (line : List ℕ) → after_line (item_over n) (g, made) line ≡ beside (after_line (policy_item g n) made line)
  line-over n made line = by (nat_lt most_line_bytes (length line)) (is_skipped (words_of line))
    where
      by : (long skipped : Bool) → (if long then Err LineTooLong else (if skipped then Ok (g, made) else item_over n (g, made) (words_of line))) ≡ beside (if long then Err LineTooLong else (if skipped then Ok made else policy_item g n made (words_of line)))
      by true skipped = refl
      by false true = refl
      by false false = refl

  lines-over : (lines : List (List ℕ)) (n : ℕ) (made : List PolicyLineOf) → after_lines item_over n (g, made) lines ≡ (after_lines (policy_item g) n made lines >>= λ all. Ok (with_graph all))
  lines-over [] n made = refl
  lines-over (line ∷ lines) n made =
      ap (λ r. on_line n r >>= λ b. after_lines item_over (n + 1) b lines) (line-over n made line)
      ∙ by (λ more. lines-over lines (n + 1) more) (after_line (policy_item g n) made line)
    where
      by : ((more : List PolicyLineOf) → after_lines item_over (n + 1) (g, more) lines ≡ (after_lines (policy_item g) (n + 1) more lines >>= λ all. Ok (with_graph all)))
          → (r : Result (List PolicyLineOf) TextKind) → (on_line n (beside r) >>= λ b. after_lines item_over (n + 1) b lines) ≡ ((on_line n r >>= λ b. after_lines (policy_item g) (n + 1) b lines) >>= λ all. Ok (with_graph all))
      by later (Ok more) = later more
      by later (Err kind) = refl

  -- the lines of a text are those that are made beside the graph
  pub policy-made : (text : List ℕ) → policy_lines g text ≡ (after_lines item_over 1 (g, []) (lines_of text) >>= λ made. Ok made.1)
  unfolding policy_lines
  policy-made text = by (after_lines (policy_item g) 1 [] (lines_of text)) ∙ ap (λ r. r >>= λ made. Ok made.1) (sym (lines-over (lines_of text) 1 []))
    where
      by : (r : Result (List PolicyLineOf) (ℕ × TextKind)) → r ≡ ((r >>= λ all. Ok (with_graph all)) >>= λ made. Ok made.1)
      by (Ok lines) = refl
      by (Err fault) = refl

  -- the same from lines that are none
  abbrev Start : List PolicyLineOf → List ℕ → Result Beside (ℕ × TextKind)
  Start start text = after_lines item_over 1 (with_graph start) (lines_of text)

  pub policy-made-from : (text : List ℕ) (start : List PolicyLineOf) → start ≡ [] → policy_lines g text ≡ (Start start text >>= λ made. Ok made.1)
  policy-made-from text start none = policy-made text ∙ ap (λ (s : List PolicyLineOf). Start s text >>= λ made. Ok made.1) (sym none)

  pub policy-fault-from : {X : Type 0} (view : X → List PolicyLineOf) (text : List ℕ) (start : List PolicyLineOf) → start ≡ [] → (count : ℕ) (fault : TextFault) (made : ProtectionGraph × List PolicyLineOf) → MakesAll (Start start text) count (Err fault) made → Reads view (Err fault) (policy_text g text)
  policy-fault-from view text start none count (At line kind) made h = policy-faulty g text line kind (policy-made-from text start none ∙ ap (λ r. r >>= λ all. Ok all.1) h)
  policy-fault-from view text start none count Memory made h = tt
