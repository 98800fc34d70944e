-- What is wrong with the words of a policy's line, in the order of the kinds, is what reading finds.
use Rattle.std.proofs.Common.{◌≡◌, refl, sym, ◌∙◌, ap, ℕ, Bool, true, false, cond, eqb, leb, not, ◌||◌, List, [], ◌∷◌, ◌++◌, map, length, Option, None, Some, Result, Ok, Err, arith}
use Rattle.std.specs.Prelude.{codes, is_some, is_ok, nat_lt}
use Rattle.std.specs.List.{list_any}
use Rattle.std.specs.Option.{option_map_or}
use Rattle.std.specs.Result.{result_ok}
use Rattle.std.proofs.lemmas.Bool.{ne_eqb}
use Rattle.std.proofs.lemmas.Bool.Decides.{nat_tests}
use Rattle.tg_names.specs.declared.right_sets.Rights.{Rights}
use Rattle.tg_names.specs.Names.{name_of}
use Rattle.tg_names.specs.Sets.{is_empty_set}
use Rattle.tg_names.specs.Letters.{set_of_letters}
use Rattle.tg_graph.specs.Graphs.{ProtectionGraph}
use Rattle.tg_words.specs.declared.versions.Version.TheVariants.{Two}
use Rattle.tg_words.specs.declared.faults.TextKind.{TextKind}
use Rattle.tg_words.specs.declared.faults.TextKind.TheVariants.{BadWord, WordCount, BadName, BadRights, UnknownVertex, UnknownGroup, TooMany}
use Rattle.tg_text.specs.declared.policy_text.Operand.{Operand}
use Rattle.tg_text.specs.declared.policy_text.Operand.TheVariants as operand
use Rattle.tg_text.specs.declared.policy_text.Claim.{Claim}
use Rattle.tg_text.specs.declared.policy_text.Claim.TheVariants as claim
use Rattle.tg_words.specs.Versions.{has_letters}
use Rattle.tg_words.specs.Words.{Word, is_word, value_or, some_rights_at, word_and_some, word_and_two}
use Rattle.tg_words.specs.Reading.{◌>>=◌, with_item}
use Rattle.tg_text_laws.specs.Forms.{is_bad_name, are_bad_rights}
use Rattle.tg_text_laws.specs.Forms.Place.{AName}
use Rattle.tg_text_laws.specs.FaultKinds.{passes_at}
use Rattle.tg_text.specs.PolicyText.{PolicyLineOf, Said, operand_at, operands_at, group_of_words, rights_and_operands, said_by_words, lacks_vertex, lacks_group, known_operands, policy_line, policy_item}
use Rattle.tg_text.specs.PolicyGrammar.{operand_word}
use Rattle.tg_text_laws.specs.PolicyKinds.{PolicyForm, some_operands, two_operands, some_rights, policy_form, operand_words, some_operand, is_bad_operand, policy_condition}
use Rattle.tg_words.specs.Limits.{most_policy_lines}
use Rattle.tg_text.proofs.Steps.{ok_is, bind_ok}
use Rattle.tg_text_laws.proofs.LeastKind.{word_kinds, first_kind, fault_of}
use Rattle.tg_text.proofs.PolicyLaws.{Saying, says_with, groups, nevers, mays, onlys, said_ok, operands_from}

abbrev Reading : Type 0 → Type 0
Reading A = Result A TextKind

abbrev Operands : Type 0
Operands = Reading (List Operand)

abbrev if_so : Bool → TextKind → Option TextKind
if_so b kind = cond b (Some kind) None

-- ---- operands

abbrev operand_if : ℕ → List ℕ → Bool → Bool → Bool → Reading Operand
operand_if b bs t p q = cond t (cond p (Ok bs) (Err BadName) >>= λ n. Ok (operand.Group n)) (cond q (Ok (b ∷ bs)) (Err BadName) >>= λ v. Ok (operand.Vertex v))

operand_fault : (word : Word) → fault_of (operand_at word) ≡ if_so (is_bad_operand word) BadName
operand_fault [] = refl
operand_fault (b ∷ bs) = by (eqb b 64) (is_ok (name_of bs)) (is_ok (name_of (b ∷ bs)))
  where
    by : (t p q : Bool) → fault_of (operand_if b bs t p q) ≡ if_so (not (is_ok (operand_if b bs t p q))) BadName
    by true true q = refl
    by true false q = refl
    by false p true = refl
    by false p false = refl

operands_fault : (words : List Word) → fault_of (operands_at words) ≡ if_so (list_any is_bad_operand words) BadName
operands_fault [] = refl
operands_fault (word ∷ words) = by (operand_at word) (operands_at words) (list_any is_bad_operand words) (operand_fault word) (operands_fault words)
  where
    by : (r : Reading Operand) (rs : Operands) (bad : Bool) → fault_of r ≡ if_so (not (is_ok r)) BadName → fault_of rs ≡ if_so bad BadName
        → fault_of (r >>= λ first. rs >>= λ others. Ok (first ∷ others)) ≡ if_so (not (is_ok r) || bad) BadName
    by (Ok x) (Ok xs) bad e f = f
    by (Ok x) (Err kind) bad e f = f
    by (Err kind) rs bad e f = e

-- words that name operands have a property where the operands have
operands_alike : (property : Operand → Bool) (words : List Word) (xs : List Operand) → operands_at words ≡ Ok xs → list_any (λ word. option_map_or property (result_ok (operand_at word)) false) words ≡ list_any property xs
operands_alike property [] xs e = ap (λ (ys : List Operand). list_any property ys) (ok_is [] xs e)
operands_alike property (word ∷ words) xs e =
    let a = bind_ok (operand_at word) (λ first. operands_at words >>= λ others. Ok (first ∷ others)) xs e in
    let b = bind_ok (operands_at words) (λ others. Ok (a.0 ∷ others)) xs a.2 in
    ap (λ (r : Reading Operand). option_map_or property (result_ok r) false || list_any (λ word. option_map_or property (result_ok (operand_at word)) false) words) a.1
    ∙ (ap (λ (c : Bool). property a.0 || c) (operands_alike property words b.0 b.1)
    ∙ ap (λ (ys : List Operand). list_any property ys) (ok_is (a.0 ∷ b.0) xs b.2))

-- ---- rights

rights_fault : (word : Word) → fault_of (some_rights_at word) ≡ if_so (are_bad_rights some_rights word) BadRights
rights_fault word = by (set_of_letters word)
  where
    empty : (s : Rights) (b : Bool) → fault_of (cond b (Err BadRights) (Ok s)) ≡ if_so (b || false) BadRights
    empty s true = refl
    empty s false = refl

    by : (o : Option Rights) → fault_of (value_or BadRights o >>= λ s. cond (is_empty_set s) (Err BadRights) (Ok s)) ≡ if_so (option_map_or (λ s. is_empty_set s || not (has_letters Two s)) o true) BadRights
    by None = refl
    by (Some s) = empty s (is_empty_set s)

-- ---- what a line says

-- the first of the kinds that its words have by themselves, and then those that come later
abbrev first_four : Bool → Bool → Bool → Bool → Option TextKind → Option TextKind
first_four w c m r last = cond w (Some BadWord) (cond c (Some WordCount) (cond m (Some BadName) (cond r (Some BadRights) last)))

abbrev four : Option PolicyForm → List Word → Option TextKind → Option TextKind
four form words last = first_four (not (is_some form)) (option_map_or (λ f. not (f.allows (length (operand_words words)))) form false)
    (option_map_or (λ f. passes_at 1 (is_bad_name f.second) words || list_any is_bad_operand (operand_words words)) form false)
    (option_map_or (λ f. passes_at 1 (are_bad_rights f.second) words) form false)
    last

abbrev group_form : PolicyForm
group_form = record { second = AName; allows = some_operands }

abbrev pair_form : PolicyForm
pair_form = record { second = some_rights; allows = two_operands }

abbrev only_form : PolicyForm
only_form = record { second = some_rights; allows = some_operands }

some_there : (b : Word) (more : List Word) → nat_lt 0 (length (b ∷ more)) ≡ true
some_there b more = grind (arith, nat_tests)

group_plain : (p : Bool) (a : Word) (xs : Operands) (bad : Bool) → fault_of xs ≡ if_so bad BadName
    → fault_of {A = Said} (cond p (Ok a) (Err BadName) >>= λ name. xs >>= λ operands. Ok (claim.Group name, operands)) ≡ if_so (not p || bad) BadName
group_plain false a xs bad e = refl
group_plain true a (Ok operands) bad e = e
group_plain true a (Err kind) bad e = e

group_kinds : (word : Word) (rest : List Word) → fault_of (groups rest) ≡ four (Some group_form) (word ∷ rest) None
unfolding group_of_words
group_kinds word [] = refl
group_kinds word (a ∷ []) = refl
group_kinds word (a ∷ b ∷ more) =
    group_plain (is_ok (name_of a)) a (operands_at (b ∷ more)) (list_any is_bad_operand (b ∷ more)) (operands_fault (b ∷ more))
    ∙ sym (ap (λ (t : Bool). cond (not t) (Some WordCount) (if_so (not (is_ok (name_of a)) || list_any is_bad_operand (b ∷ more)) BadName)) (some_there b more))

abbrev found_with : Operands → Reading Rights → Reading (Rights × List Operand)
found_with xs s = xs >>= λ operands. s >>= λ r. Ok (r, operands)

rights_plain : (says : Rights → Claim) (xs : Operands) (bad : Bool) (s : Reading Rights) (wrong : Bool) → fault_of xs ≡ if_so bad BadName → fault_of s ≡ if_so wrong BadRights
    → fault_of {A = Said} (found_with xs s >>= λ a. Ok (says a.0, a.1)) ≡ cond bad (Some BadName) (if_so wrong BadRights)
rights_plain says (Err kind) true s wrong e f = e
rights_plain says (Err kind) false s wrong e f = absurd cc
rights_plain says (Ok operands) true s wrong e f = absurd cc
rights_plain says (Ok operands) false (Ok r) wrong e f = f
rights_plain says (Ok operands) false (Err kind) wrong e f = f

pair_kinds : (says : Rights → Claim) (word : Word) (rest : List Word) → fault_of (word_and_two rest >>= λ w. says_with says w) ≡ four (Some pair_form) (word ∷ rest) None
unfolding rights_and_operands
pair_kinds says word [] = refl
pair_kinds says word (a ∷ []) = refl
pair_kinds says word (a ∷ b ∷ []) = refl
pair_kinds says word (a ∷ b ∷ c ∷ []) =
    rights_plain says (operands_at (b ∷ c ∷ [])) (list_any is_bad_operand (b ∷ c ∷ [])) (some_rights_at a) (are_bad_rights some_rights a) (operands_fault (b ∷ c ∷ [])) (rights_fault a)
pair_kinds says word (a ∷ b ∷ c ∷ d ∷ more) = rw (ne_eqb (length (b ∷ c ∷ d ∷ more)) 2 (λ e. omega arith)) refl

only_kinds : (says : Rights → Claim) (word : Word) (rest : List Word) → fault_of (word_and_some rest >>= λ w. says_with says w) ≡ four (Some only_form) (word ∷ rest) None
unfolding rights_and_operands
only_kinds says word [] = refl
only_kinds says word (a ∷ []) = refl
only_kinds says word (a ∷ b ∷ more) =
    rights_plain says (operands_at (b ∷ more)) (list_any is_bad_operand (b ∷ more)) (some_rights_at a) (are_bad_rights some_rights a) (operands_fault (b ∷ more)) (rights_fault a)
    ∙ sym (ap (λ (t : Bool). cond (not t) (Some WordCount) (cond (list_any is_bad_operand (b ∷ more)) (Some BadName) (if_so (are_bad_rights some_rights a) BadRights))) (some_there b more))

said_by : (p n m o : Bool) (word : Word) (rest : List Word)
    → fault_of (cond p (groups rest) (cond n (nevers rest) (cond m (mays rest) (cond o (onlys rest) (Err BadWord)))))
    ≡ four (cond p (Some group_form) (cond n (Some pair_form) (cond m (Some pair_form) (cond o (Some only_form) None)))) (word ∷ rest) None
said_by true n m o word rest = group_kinds word rest
said_by false true m o word rest = pair_kinds (λ s. claim.Never s) word rest
said_by false false true o word rest = pair_kinds (λ s. claim.May s) word rest
said_by false false false true word rest = only_kinds (λ s. claim.Only s) word rest
said_by false false false false word rest = refl

said_kinds : (words : List Word) → fault_of (said_by_words words) ≡ four (policy_form words) words None
unfolding said_by_words
said_kinds [] = refl
said_kinds (word ∷ rest) = said_by (is_word word (codes "group")) (is_word word (codes "never")) (is_word word (codes "may")) (is_word word (codes "only")) word rest

-- ---- lines

-- what comes later changes no fault that is there
stays : (w c m r : Bool) (kind : TextKind) (last : Option TextKind) → Some kind ≡ first_four w c m r None → Some kind ≡ first_four w c m r last
stays true c m r kind last e = e
stays false true m r kind last e = e
stays false false true r kind last e = e
stays false false false true kind last e = e
stays false false false false kind last e = absurd cc

-- and comes first where there is none
goes_on : (w c m r : Bool) (last : Option TextKind) → None ≡ first_four w c m r None → last ≡ first_four w c m r last
goes_on true c m r last e = absurd cc
goes_on false true m r last e = absurd cc
goes_on false false true r last e = absurd cc
goes_on false false false true last e = absurd cc
goes_on false false false false last e = refl

abbrev line_with : ℕ → Claim → List Operand → PolicyLineOf
line_with n says operands = record { line = n; claim = says; operands = operands }

known_plain : (v u full : Bool) (n : ℕ) (says : Claim) (xs : List Operand) (lines : List PolicyLineOf)
    → fault_of ((cond v (Err UnknownVertex) (cond u (Err UnknownGroup) (Ok xs)) >>= λ operands. Ok (line_with n says operands)) >>= λ x. cond full (Err TooMany) (Ok (lines ++ x ∷ [])))
    ≡ cond v (Some UnknownVertex) (cond u (Some UnknownGroup) (if_so full TooMany))
known_plain true u full n says xs lines = refl
known_plain false true full n says xs lines = refl
known_plain false false true n says xs lines = refl
known_plain false false false n says xs lines = refl

module _ (g : ProtectionGraph) (n : ℕ) (lines : List PolicyLineOf) (words : List Word) where
  abbrev full : Bool
  full = leb most_policy_lines (length lines)

  abbrev last : Option TextKind
  last = cond (some_operand (lacks_vertex g) words) (Some UnknownVertex) (cond (some_operand (lacks_group lines) words) (Some UnknownGroup) (if_so full TooMany))

  -- the words say what they say of these operands
  said_alike : (property : Operand → Bool) (said : Said) → said_by_words words ≡ Ok said → some_operand property words ≡ list_any property said.1
  said_alike property said e =
      let s = said_ok words said e in
      ap (some_operand property) s.spelled ∙ operands_alike property (map operand_word said.1) said.1 (operands_from said.1 s.names)

  after_said : (r : Saying) → said_by_words words ≡ r → fault_of (with_item most_policy_lines lines (r >>= λ said. known_operands g lines said.1 >>= λ operands. Ok (line_with n said.0 operands))) ≡ four (policy_form words) words last
  after_said (Err kind) e =
      stays (not (is_some (policy_form words))) (option_map_or (λ f. not (f.allows (length (operand_words words)))) (policy_form words) false)
      (option_map_or (λ f. passes_at 1 (is_bad_name f.second) words || list_any is_bad_operand (operand_words words)) (policy_form words) false)
      (option_map_or (λ f. passes_at 1 (are_bad_rights f.second) words) (policy_form words) false)
      kind last (sym (ap fault_of e) ∙ said_kinds words)
  after_said (Ok said) e =
      known_plain (list_any (lacks_vertex g) said.1) (list_any (lacks_group lines) said.1) full n said.0 said.1 lines
      ∙ (ap (λ (v : Bool). cond v (Some UnknownVertex) (cond (list_any (lacks_group lines) said.1) (Some UnknownGroup) (if_so full TooMany))) (sym (said_alike (lacks_vertex g) said e))
      ∙ (ap (λ (u : Bool). cond (some_operand (lacks_vertex g) words) (Some UnknownVertex) (cond u (Some UnknownGroup) (if_so full TooMany))) (sym (said_alike (lacks_group lines) said e))
      ∙ goes_on (not (is_some (policy_form words))) (option_map_or (λ f. not (f.allows (length (operand_words words)))) (policy_form words) false)
      (option_map_or (λ f. passes_at 1 (is_bad_name f.second) words || list_any is_bad_operand (operand_words words)) (policy_form words) false)
      (option_map_or (λ f. passes_at 1 (are_bad_rights f.second) words) (policy_form words) false)
      last (sym (ap fault_of e) ∙ said_kinds words)))

  pub policy_item_kinds : fault_of (policy_item g n lines words) ≡ first_kind (policy_condition g lines words) word_kinds
  unfolding policy_item policy_line
  policy_item_kinds = after_said (said_by_words words) refl
