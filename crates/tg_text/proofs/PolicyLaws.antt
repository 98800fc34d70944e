-- The lines of a policy that are read are those that the words spell.
use Rattle.std.proofs.Common.{◌≡◌, refl, sym, ◌∙◌, ap, subst, inl, inr, ◌⊎◌, ℕ, zero, suc, ◌+◌, ◌<◌, Bool, true, false, cond, not, ◌||◌, eqb, List, [], ◌∷◌, ◌++◌, map, length, get_or, Option, None, Some, Result, Ok, Err, arith}
use Rattle.std.specs.Prelude.{All, codes}
use Rattle.std.specs.List.{AllByRecursion, list_any}
use Rattle.std.proofs.lemmas.Bool.{eqb-true}
use Rattle.std.proofs.lemmas.Bool.Decides.{nat_tests}
use Rattle.std.proofs.lemmas.List.{length-map}
use Rattle.tg_names.specs.declared.right_sets.Rights.{Rights}
use Rattle.tg_names.specs.Names.{IsName, first_bad, fits_at, Name}
use Rattle.tg_names.specs.Sets.{is_empty_set}
use Rattle.tg_names.specs.Letters.{set_of_letters}
use Rattle.tg_graph.specs.Graphs.{ProtectionGraph, has_vertex}
use Rattle.tg_words.specs.declared.faults.TextKind.{TextKind}
use Rattle.tg_words.specs.declared.faults.TextKind.TheVariants.{BadWord, BadRights, UnknownVertex, UnknownGroup, NoClaim}
use Rattle.tg_text.specs.declared.policy_text.Operand.{Operand}
use Rattle.tg_text.specs.declared.policy_text.Operand.TheVariants as operand
use Rattle.tg_text.specs.declared.policy_text.Claim.{Claim}
use Rattle.tg_text.specs.declared.policy_text.Claim.TheVariants as claim
use Rattle.tg_words.specs.Lines.{lines_of}
use Rattle.tg_words.specs.Words.{Word, is_word, name_at, rights_at, value_or, some_rights_at, word_and_some, word_and_two}
use Rattle.tg_words.specs.Reading.{◌>>=◌}
use Rattle.tg_text.specs.Grammar.{AreLines}
use Rattle.tg_text.specs.PolicyText.{PolicyLineOf, Said, operand_at, operands_at, group_of_words, rights_and_operands, said_by_words, has_group, lacks_vertex, lacks_group, known_operands, policy_line, policy_item, with_claim, policy_lines, policy_text, MayHave, IsKnown}
use Rattle.tg_text.specs.PolicyGrammar.{operand_word, WritesRights, WritesClaim, IsPolicyItem, StatesNothing, PolicyTextsAreThose, PolicyFaultsAreFirst}
use Rattle.tg_words.specs.Limits.{most_policy_lines}
use Rattle.tg_text.proofs.Steps.{ok_is, bind_ok, else_ok, chosen, value_ok, word_is, name_ok, name_from}
use Rattle.tg_text.proofs.GrammarLaws.{cases_result, same_fault, lines_ok, lines_from, lines_fault}
use Rattle.tg_text.proofs.RuleLaws.{item_ok, item_from}
use Rattle.tg_text.proofs.PolicyClaims.{refused, ended, claim_ok, claim_fault, policy-stated}

-- ---- each element, by recursion and by index

pub all-from : {X : Type 0} (P : X → Type 0) (xs : List X) → AllByRecursion P xs → (k : ℕ) (d : X) → k < length xs → P (get_or xs k d)
all-from P [] h k d l = absurd (omega arith)
all-from P (x ∷ xs) h zero d l = h.0
all-from P (x ∷ xs) h (suc k) d l = all-from P xs h.1 k d (omega arith)

pub all-to : {X : Type 0} (P : X → Type 0) (xs : List X) → All P xs → AllByRecursion P xs
all-to P [] h = tt
all-to P (x ∷ xs) h = (h 0 x (omega arith), all-to P xs (λ k d l. h (suc k) d (omega arith)))

-- ---- operands

abbrev pub HasName : Operand → Type 0
HasName (operand.Vertex v) = IsName v
HasName (operand.Group n) = IsName n

abbrev pub of_group : List ℕ → Result Operand TextKind
of_group bs = name_at bs >>= λ n. Ok (operand.Group n)

abbrev pub of_vertex : List ℕ → Result Operand TextKind
of_vertex bs = name_at bs >>= λ v. Ok (operand.Vertex v)

abbrev IsWrittenSo : Word → Operand → Type 0
IsWrittenSo word x = (word ≡ operand_word x) × HasName x

operand_ok : (word : Word) (x : Operand) → operand_at word ≡ Ok x → IsWrittenSo word x
operand_ok [] x e = absurd cc
operand_ok (b ∷ bs) x e =
    elim (chosen (eqb b 64) (of_group bs) (of_vertex (b ∷ bs)) (Ok x) e) [
      | inl p ↦ (
          let r = bind_ok (name_at bs) (λ n. Ok (operand.Group n)) x p.1 in
          let n = name_ok bs r.0 r.1 in
          let same : b ∷ bs ≡ 64 ∷ r.0 = ap (λ (c : ℕ). c ∷ bs) (eqb-true b 64 p.0) ∙ ap (λ (cs : List ℕ). 64 ∷ cs) n.0 in
          subst (IsWrittenSo (b ∷ bs)) (ok_is (operand.Group r.0) x r.2) (same, n.1))
      | inr p ↦ (
          let r = bind_ok (name_at (b ∷ bs)) (λ v. Ok (operand.Vertex v)) x p.1 in
          let n = name_ok (b ∷ bs) r.0 r.1 in
          subst (IsWrittenSo (b ∷ bs)) (ok_is (operand.Vertex r.0) x r.2) (n.0, n.1))
    ]

fits-no_at : (b : ℕ) → fits_at 0 b ≡ true → eqb b 64 ≡ false
fits-no_at b e = grind (arith, nat_tests)

-- no name begins with `@`
pub no_at : (b : ℕ) (bs : List ℕ) → IsName (b ∷ bs) → eqb b 64 ≡ false
no_at b bs h = by (fits_at 0 b) refl h.fit
  where
    by : (x : Bool) → fits_at 0 b ≡ x → cond x (first_bad 1 bs) (Some 0) ≡ None → eqb b 64 ≡ false
    by true f e = fits-no_at b f
    by false f e = absurd cc

pub operand_from : (x : Operand) → HasName x → operand_at (operand_word x) ≡ Ok x
operand_from (operand.Group n) h = ap (λ (r : Result Name TextKind). r >>= λ n. Ok (operand.Group n)) (name_from n h)
operand_from (operand.Vertex []) h = absurd (let some = h.some in omega arith)
operand_from (operand.Vertex (b ∷ bs)) h =
    ap (λ (t : Bool). cond t (of_group bs) (of_vertex (b ∷ bs))) (no_at b bs h)
    ∙ ap (λ (r : Result Name TextKind). r >>= λ v. Ok (operand.Vertex v)) (name_from (b ∷ bs) h)

abbrev AreWrittenSo : List Word → List Operand → Type 0
AreWrittenSo words xs = (words ≡ map operand_word xs) × AllByRecursion HasName xs

abbrev Operands : Type 0
Operands = Result (List Operand) TextKind

operands_ok : (words : List Word) (xs : List Operand) → operands_at words ≡ Ok xs → AreWrittenSo words xs
operands_ok [] xs e = subst (AreWrittenSo []) (ok_is [] xs e) (refl, tt)
operands_ok (word ∷ words) xs e =
    let a = bind_ok (operand_at word) (λ first. operands_at words >>= λ others. Ok (first ∷ others)) xs e in
    let b = bind_ok (operands_at words) (λ others. Ok (a.0 ∷ others)) xs a.2 in
    let here = operand_ok word a.0 a.1 in
    let later = operands_ok words b.0 b.1 in
    let same : word ∷ words ≡ operand_word a.0 ∷ map operand_word b.0 = ap (λ (w : Word). w ∷ words) here.0 ∙ ap (λ (ws : List Word). operand_word a.0 ∷ ws) later.0 in
    subst (AreWrittenSo (word ∷ words)) (ok_is (a.0 ∷ b.0) xs b.2) (same, (here.1, later.1))

pub operands_from : (xs : List Operand) → AllByRecursion HasName xs → operands_at (map operand_word xs) ≡ Ok xs
operands_from [] h = refl
operands_from (x ∷ xs) h =
    ap (λ (r : Result Operand TextKind). r >>= λ first. operands_at (map operand_word xs) >>= λ others. Ok (first ∷ others)) (operand_from x h.0)
    ∙ ap (λ (r : Operands). r >>= λ others. Ok (x ∷ others)) (operands_from xs h.1)

-- ---- rights

rights_ok : (word : Word) (s : Rights) → some_rights_at word ≡ Ok s → WritesRights word s
rights_ok word s e =
    let b = bind_ok (rights_at word) (λ s. cond (is_empty_set s) (Err BadRights) (Ok s)) s e in
    let g = else_ok (is_empty_set b.0) BadRights (Ok b.0) s b.2 in
    subst (WritesRights word) (ok_is b.0 s g.1) (record { rights = value_ok BadRights (set_of_letters word) b.0 b.1; some = g.0 })

rights_from : (word : Word) (s : Rights) → WritesRights word s → some_rights_at word ≡ Ok s
rights_from word s h =
    ap (λ (o : Option Rights). value_or BadRights o >>= λ s. cond (is_empty_set s) (Err BadRights) (Ok s)) h.rights
    ∙ ap (λ (b : Bool). cond b (Err BadRights) (Ok s)) h.some

-- ---- so many words

abbrev pub Cut : Type 0
Cut = Word × List Word

some_ok : (words : List Word) (w : Cut) → word_and_some words ≡ Ok w → (words ≡ w.0 ∷ w.1) × (0 < length w.1)
some_ok [] w e = absurd cc
some_ok (a ∷ []) w e = absurd cc
some_ok (a ∷ b ∷ words) w e = subst (λ (v : Cut). (a ∷ b ∷ words ≡ v.0 ∷ v.1) × (0 < length v.1)) (ok_is (a, b ∷ words) w e) (refl, omega arith)

two_ok : (words : List Word) (w : Cut) → word_and_two words ≡ Ok w → (words ≡ w.0 ∷ w.1) × (length w.1 ≡ 2)
two_ok [] w e = absurd cc
two_ok (a ∷ []) w e = absurd cc
two_ok (a ∷ b ∷ []) w e = absurd cc
two_ok (a ∷ b ∷ c ∷ []) w e = subst (λ (v : Cut). (a ∷ b ∷ c ∷ [] ≡ v.0 ∷ v.1) × (length v.1 ≡ 2)) (ok_is (a, b ∷ c ∷ []) w e) (refl, refl)
two_ok (a ∷ b ∷ c ∷ d ∷ words) w e = absurd cc

some_from : (a : Word) (words : List Word) → 0 < length words → word_and_some (a ∷ words) ≡ Ok (a, words)
some_from a [] l = absurd (omega arith)
some_from a (b ∷ words) l = refl

two_from : (a : Word) (words : List Word) → length words ≡ 2 → word_and_two (a ∷ words) ≡ Ok (a, words)
two_from a [] l = absurd (omega arith)
two_from a (b ∷ []) l = absurd (omega arith)
two_from a (b ∷ c ∷ []) l = refl
two_from a (b ∷ c ∷ d ∷ words) l = absurd (omega arith)

-- ---- what a line says

-- the words say this
pub record Spelled (words : List Word) (said : Said) : Type 0 where
  pub keyword : Word
  pub word : Word
  pub spelled : words ≡ keyword ∷ word ∷ map operand_word said.1
  pub writes : WritesClaim keyword word said.0
  pub count : MayHave said.0 (length said.1)
  pub names : AllByRecursion HasName said.1

all_words : (word : Word) (words : List Word) (keyword : Word) (w : Cut) (xs : List Operand) → is_word word keyword ≡ true → words ≡ w.0 ∷ w.1 → w.1 ≡ map operand_word xs → word ∷ words ≡ keyword ∷ w.0 ∷ map operand_word xs
all_words word words keyword w xs e f g = ap (λ (v : Word). v ∷ words) (word_is word keyword e) ∙ (ap (λ (vs : List Word). keyword ∷ vs) f ∙ ap (λ (vs : List Word). keyword ∷ w.0 ∷ vs) g)

group_case : (word : Word) (words : List Word) (w : Cut) (said : Said) → is_word word (codes "group") ≡ true → words ≡ w.0 ∷ w.1 → 0 < length w.1 → group_of_words w ≡ Ok said → Spelled (word ∷ words) said
unfolding group_of_words
group_case word words w said e f some g =
    let a = bind_ok (name_at w.0) (λ name. operands_at w.1 >>= λ operands. Ok (claim.Group name, operands)) said g in
    let b = bind_ok (operands_at w.1) (λ operands. Ok (claim.Group a.0, operands)) said a.2 in
    let name = name_ok w.0 a.0 a.1 in
    let xs = operands_ok w.1 b.0 b.1 in
    let long : length w.1 ≡ length b.0 = ap length xs.0 ∙ length-map b.0 operand_word in
    let counted : 0 < length b.0 = subst (λ (k : ℕ). 0 < k) long some in
    subst (Spelled (word ∷ words)) (ok_is (claim.Group a.0, b.0) said b.2)
    (record { keyword = codes "group"; word = w.0; spelled = all_words word words (codes "group") w b.0 e f xs.0; writes = (refl, name.0, name.1); count = counted; names = xs.1 })

rights_case : (says : Rights → Claim) (keyword word : Word) (words : List Word) (w : Cut) (said : Said) → is_word word keyword ≡ true → words ≡ w.0 ∷ w.1
    → ((s : Rights) → WritesRights w.0 s → WritesClaim keyword w.0 (says s)) → ((s : Rights) → MayHave (says s) (length w.1))
    → (rights_and_operands w >>= λ a. Ok (says a.0, a.1)) ≡ Ok said → Spelled (word ∷ words) said
unfolding rights_and_operands
rights_case says keyword word words w said e f writes count g =
    let c = bind_ok (rights_and_operands w) (λ a. Ok (says a.0, a.1)) said g in
    let a = bind_ok (operands_at w.1) (λ operands. some_rights_at w.0 >>= λ s. Ok (s, operands)) c.0 c.1 in
    let b = bind_ok (some_rights_at w.0) (λ s. Ok (s, a.0)) c.0 a.2 in
    let xs = operands_ok w.1 a.0 a.1 in
    let rights = rights_ok w.0 b.0 b.1 in
    let found : Rights × List Operand = (b.0, a.0) in
    let make : Rights × List Operand → Said = λ p. (says p.0, p.1) in
    let all : make found ≡ said = ap make (ok_is found c.0 b.2) ∙ ok_is (make c.0) said c.2 in
    subst (Spelled (word ∷ words)) all
    (record { keyword = keyword; word = w.0; spelled = all_words word words keyword w a.0 e f xs.0; writes = writes b.0 rights; count = subst (MayHave (says b.0)) (ap length xs.0 ∙ length-map a.0 operand_word) (count b.0); names = xs.1 })

abbrev pub Saying : Type 0
Saying = Result Said TextKind

abbrev pub says_with : (Rights → Claim) → Cut → Saying
says_with says w = rights_and_operands w >>= λ a. Ok (says a.0, a.1)

abbrev pub groups : List Word → Saying
groups words = word_and_some words >>= λ w. group_of_words w

abbrev pub nevers : List Word → Saying
nevers words = word_and_two words >>= λ w. says_with (λ s. claim.Never s) w

abbrev pub mays : List Word → Saying
mays words = word_and_two words >>= λ w. says_with (λ s. claim.May s) w

abbrev pub onlys : List Word → Saying
onlys words = word_and_some words >>= λ w. says_with (λ s. claim.Only s) w

abbrev not_may : Word → List Word → Saying
not_may word words = cond (is_word word (codes "only")) (onlys words) (Err BadWord)

abbrev not_never : Word → List Word → Saying
not_never word words = cond (is_word word (codes "may")) (mays words) (not_may word words)

abbrev not_group : Word → List Word → Saying
not_group word words = cond (is_word word (codes "never")) (nevers words) (not_never word words)

abbrev failed : Saying
failed = Err BadWord

pub said_ok : (words : List Word) (said : Said) → said_by_words words ≡ Ok said → Spelled words said
unfolding said_by_words
said_ok [] said e = absurd cc
said_ok (word ∷ words) said e =
    elim (chosen (is_word word (codes "group")) (groups words) (not_group word words) (Ok said) e) [
      | inl p ↦ (
          let b = bind_ok (word_and_some words) (λ w. group_of_words w) said p.1 in
          let w = some_ok words b.0 b.1 in
          group_case word words b.0 said p.0 w.0 w.1 b.2)
      | inr p ↦ elim (chosen (is_word word (codes "never")) (nevers words) (not_never word words) (Ok said) p.1) [
        | inl q ↦ (
            let b = bind_ok (word_and_two words) (λ w. says_with (λ s. claim.Never s) w) said q.1 in
            let w = two_ok words b.0 b.1 in
            rights_case (λ s. claim.Never s) (codes "never") word words b.0 said q.0 w.0 (λ s h. (refl, h)) (λ s. w.1) b.2)
        | inr q ↦ elim (chosen (is_word word (codes "may")) (mays words) (not_may word words) (Ok said) q.1) [
          | inl r ↦ (
              let b = bind_ok (word_and_two words) (λ w. says_with (λ s. claim.May s) w) said r.1 in
              let w = two_ok words b.0 b.1 in
              rights_case (λ s. claim.May s) (codes "may") word words b.0 said r.0 w.0 (λ s h. (refl, h)) (λ s. w.1) b.2)
          | inr r ↦ elim (chosen (is_word word (codes "only")) (onlys words) failed (Ok said) r.1) [
            | inl t ↦ (
                let b = bind_ok (word_and_some words) (λ w. says_with (λ s. claim.Only s) w) said t.1 in
                let w = some_ok words b.0 b.1 in
                rights_case (λ s. claim.Only s) (codes "only") word words b.0 said t.0 w.0 (λ s h. (refl, h)) (λ s. w.1) b.2)
            | inr t ↦ absurd (let other : failed ≡ Ok said = t.1 in cc)
          ]
        ]
      ]
    ]

with_rights_from : (word : Word) (s : Rights) (xs : List Operand) → WritesRights word s → AllByRecursion HasName xs → rights_and_operands (word, map operand_word xs) ≡ Ok (s, xs)
unfolding rights_and_operands
with_rights_from word s xs h names =
    ap (λ (r : Operands). r >>= λ operands. some_rights_at word >>= λ s. Ok (s, operands)) (operands_from xs names)
    ∙ ap (λ (r : Result Rights TextKind). r >>= λ s. Ok (s, xs)) (rights_from word s h)

with_name_from : (n : Name) (xs : List Operand) → IsName n → AllByRecursion HasName xs → group_of_words (n, map operand_word xs) ≡ Ok (claim.Group n, xs)
unfolding group_of_words
with_name_from n xs h names =
    ap (λ (r : Result Name TextKind). r >>= λ name. operands_at (map operand_word xs) >>= λ operands. Ok (claim.Group name, operands)) (name_from n h)
    ∙ ap (λ (r : Operands). r >>= λ operands. Ok (claim.Group n, operands)) (operands_from xs names)

-- words that allow so many operands, and are cut so
cut_says : (says : Rights → Claim) (word : Word) (s : Rights) (xs : List Operand) (read : Result Cut TextKind) → read ≡ Ok (word, map operand_word xs) → WritesRights word s → AllByRecursion HasName xs → (read >>= λ w. says_with says w) ≡ Ok (says s, xs)
cut_says says word s xs read e h names =
    ap (λ (r : Result Cut TextKind). r >>= λ w. says_with says w) e
    ∙ ap (λ (r : Result (Rights × List Operand) TextKind). r >>= λ a. Ok (says a.0, a.1)) (with_rights_from word s xs h names)

said_from : (words : List Word) (said : Said) → Spelled words said → said_by_words words ≡ Ok said
unfolding said_by_words
said_from words (claim.Group n, xs) h =
    let read : said_by_words (codes "group" ∷ n ∷ map operand_word xs) ≡ Ok (claim.Group n, xs) =
    ap (λ (r : Result Cut TextKind). r >>= λ w. group_of_words w) (some_from n (map operand_word xs) (subst (λ (k : ℕ). 0 < k) (sym (length-map xs operand_word)) h.count)) ∙ with_name_from n xs h.writes.2 h.names in
    ap said_by_words (h.spelled ∙ (ap (λ (k : Word). k ∷ h.word ∷ map operand_word xs) h.writes.0 ∙ ap (λ (w : Word). codes "group" ∷ w ∷ map operand_word xs) h.writes.1)) ∙ read
said_from words (claim.Never s, xs) h =
    let read : said_by_words (codes "never" ∷ h.word ∷ map operand_word xs) ≡ Ok (claim.Never s, xs) =
    cut_says (λ s. claim.Never s) h.word s xs (word_and_two (h.word ∷ map operand_word xs)) (two_from h.word (map operand_word xs) (length-map xs operand_word ∙ h.count)) h.writes.1 h.names in
    ap said_by_words (h.spelled ∙ ap (λ (k : Word). k ∷ h.word ∷ map operand_word xs) h.writes.0) ∙ read
said_from words (claim.May s, xs) h =
    let read : said_by_words (codes "may" ∷ h.word ∷ map operand_word xs) ≡ Ok (claim.May s, xs) =
    cut_says (λ s. claim.May s) h.word s xs (word_and_two (h.word ∷ map operand_word xs)) (two_from h.word (map operand_word xs) (length-map xs operand_word ∙ h.count)) h.writes.1 h.names in
    ap said_by_words (h.spelled ∙ ap (λ (k : Word). k ∷ h.word ∷ map operand_word xs) h.writes.0) ∙ read
said_from words (claim.Only s, xs) h =
    let read : said_by_words (codes "only" ∷ h.word ∷ map operand_word xs) ≡ Ok (claim.Only s, xs) =
    cut_says (λ s. claim.Only s) h.word s xs (word_and_some (h.word ∷ map operand_word xs)) (some_from h.word (map operand_word xs) (subst (λ (k : ℕ). 0 < k) (sym (length-map xs operand_word)) h.count)) h.writes.1 h.names in
    ap said_by_words (h.spelled ∙ ap (λ (k : Word). k ∷ h.word ∷ map operand_word xs) h.writes.0) ∙ read

-- ---- what is known

neither : (a b : Bool) → (a || b) ≡ false → (a ≡ false) × (b ≡ false)
neither true b e = absurd cc
neither false b e = (refl, e)

not_not : (b : Bool) → not b ≡ false → b ≡ true
not_not true e = refl
not_not false e = absurd cc

module _ (g : ProtectionGraph) (lines : List PolicyLineOf) where
  all_known : (xs : List Operand) → AllByRecursion HasName xs → list_any (lacks_vertex g) xs ≡ false → list_any (lacks_group lines) xs ≡ false → AllByRecursion (IsKnown g lines) xs
  all_known [] h v w = tt
  all_known (operand.Vertex x ∷ xs) h v w = let p = neither (not (has_vertex g x)) (list_any (lacks_vertex g) xs) v in ((h.0, not_not (has_vertex g x) p.0), all_known xs h.1 p.1 w)
  all_known (operand.Group n ∷ xs) h v w = let p = neither (not (has_group lines n)) (list_any (lacks_group lines) xs) w in ((h.0, not_not (has_group lines n) p.0), all_known xs h.1 v p.1)

  known_ok : (xs found : List Operand) → known_operands g lines xs ≡ Ok found → AllByRecursion HasName xs → (xs ≡ found) × AllByRecursion (IsKnown g lines) xs
  known_ok xs found e names =
      let a = else_ok (list_any (lacks_vertex g) xs) UnknownVertex (cond (list_any (lacks_group lines) xs) (Err UnknownGroup) (Ok xs)) found e in
      let b = else_ok (list_any (lacks_group lines) xs) UnknownGroup (Ok xs) found a.1 in
      (ok_is xs found b.1, all_known xs names a.0 b.0)

  lacks_none : (xs : List Operand) → AllByRecursion (IsKnown g lines) xs → (list_any (lacks_vertex g) xs ≡ false) × (list_any (lacks_group lines) xs ≡ false)
  lacks_none [] h = (refl, refl)
  lacks_none (operand.Vertex v ∷ xs) h = let rest = lacks_none xs h.1 in (ap (λ (b : Bool). not b || list_any (lacks_vertex g) xs) h.0.1 ∙ rest.0, rest.1)
  lacks_none (operand.Group n ∷ xs) h = let rest = lacks_none xs h.1 in (rest.0, ap (λ (b : Bool). not b || list_any (lacks_group lines) xs) h.0.1 ∙ rest.1)

  known_from : (xs : List Operand) → AllByRecursion (IsKnown g lines) xs → known_operands g lines xs ≡ Ok xs
  known_from xs h =
      let none = lacks_none xs h in
      ap (λ (b : Bool). cond b (Err UnknownVertex) (cond (list_any (lacks_group lines) xs) (Err UnknownGroup) (Ok xs))) none.0
      ∙ ap (λ (b : Bool). cond b (Err UnknownGroup) (Ok xs)) none.1

  names_of : (xs : List Operand) → AllByRecursion (IsKnown g lines) xs → AllByRecursion HasName xs
  names_of [] h = tt
  names_of (operand.Vertex v ∷ xs) h = (h.0.0, names_of xs h.1)
  names_of (operand.Group n ∷ xs) h = (h.0.0, names_of xs h.1)

-- ---- lines

abbrev line_with : ℕ → Claim → List Operand → PolicyLineOf
line_with n says operands = record { line = n; claim = says; operands = operands }

pub policy_item_ok : (g : ProtectionGraph) (n : ℕ) (lines : List PolicyLineOf) (words : List Word) (more : List PolicyLineOf) → policy_item g n lines words ≡ Ok more → IsPolicyItem g n lines words more
unfolding policy_item policy_line
policy_item_ok g n lines words more e =
    let i = item_ok most_policy_lines lines (policy_line g n lines words) more e in
    let b = bind_ok (said_by_words words) (λ said. known_operands g lines said.1 >>= λ operands. Ok (line_with n said.0 operands)) i.0 i.1 in
    let k = bind_ok (known_operands g lines b.0.1) (λ operands. Ok (line_with n b.0.0 operands)) i.0 b.2 in
    let s = said_ok words b.0 b.1 in
    let known = known_ok g lines b.0.1 k.0 k.1 s.names in
    let same : i.0 ≡ line_with n b.0.0 b.0.1 = sym (ok_is (line_with n b.0.0 k.0) i.0 k.2) ∙ ap (line_with n b.0.0) (sym known.0) in
    record {
      keyword = s.keyword;
      word = s.word;
      claim = b.0.0;
      operands = b.0.1;
      spelled = s.spelled;
      writes = s.writes;
      count = s.count;
      known = all-from (IsKnown g lines) b.0.1 known.1;
      room = i.2;
      makes = i.3 ∙ ap (λ (x : PolicyLineOf). lines ++ x ∷ []) same;
    }

pub policy_item_from : (g : ProtectionGraph) (n : ℕ) (lines : List PolicyLineOf) (words : List Word) (more : List PolicyLineOf) → IsPolicyItem g n lines words more → policy_item g n lines words ≡ Ok more
unfolding policy_item policy_line
policy_item_from g n lines words more h =
    let known = all-to (IsKnown g lines) h.operands h.known in
    let names = names_of g lines h.operands known in
    let spelled : Spelled words (h.claim, h.operands) = record { keyword = h.keyword; word = h.word; spelled = h.spelled; writes = h.writes; count = h.count; names = names } in
    let read : policy_line g n lines words ≡ Ok (line_with n h.claim h.operands) =
    ap (λ (r : Saying). r >>= λ said. known_operands g lines said.1 >>= λ operands. Ok (line_with n said.0 operands)) (said_from words (h.claim, h.operands) spelled)
    ∙ ap (λ (r : Operands). r >>= λ operands. Ok (line_with n h.claim operands)) (known_from g lines h.operands known) in
    item_from most_policy_lines lines (policy_line g n lines words) (line_with n h.claim h.operands) more read h.room h.makes

-- ---- the whole

pub policy_lines_ok : (g : ProtectionGraph) (text : List ℕ) (lines : List PolicyLineOf) → policy_lines g text ≡ Ok lines → AreLines (IsPolicyItem g) 1 [] (lines_of text) lines
unfolding policy_lines
policy_lines_ok g text lines e = lines_ok (policy_item g) (IsPolicyItem g) (policy_item_ok g) (policy_item_from g) 1 [] (lines_of text) lines e

pub policy_lines_from : (g : ProtectionGraph) (text : List ℕ) (lines : List PolicyLineOf) → AreLines (IsPolicyItem g) 1 [] (lines_of text) lines → policy_lines g text ≡ Ok lines
unfolding policy_lines
policy_lines_from g text lines h = lines_from (policy_item g) (IsPolicyItem g) (policy_item_ok g) (policy_item_from g) 1 [] (lines_of text) lines h

pub policy_texts_are_those : PolicyTextsAreThose
unfolding policy_text
policy_texts_are_those g text lines = (
  λ e.
      let b = bind_ok (policy_lines g text) (λ found. with_claim (length (lines_of text) + 1) found) lines e in
      let c = claim_ok (length (lines_of text) + 1) b.0 lines b.2 in
      record { written = subst (AreLines (IsPolicyItem g) 1 [] (lines_of text)) c.0 (policy_lines_ok g text b.0 b.1); claim = c.1 },
  λ h. policy-stated g text lines (policy_lines_from g text lines h.written) h.claim,
)

-- a fault is that of a line, or that the lines state nothing
pub policy_fault : (g : ProtectionGraph) (text : List ℕ) (m : ℕ) (kind : TextKind) → policy_text g text ≡ Err (m, kind) → (policy_lines g text ≡ refused m kind) ⊎ ((kind ≡ NoClaim) × StatesNothing g (lines_of text) m)
unfolding policy_text
policy_fault g text m kind e =
    elim (cases_result (policy_lines g text)) [
      | inl p ↦ (
          let f = claim_fault (length (lines_of text) + 1) p.0 m kind (sym (ap (ended text) p.1) ∙ e) in
          inr (f.1, record { number = f.0; lines = p.0; written = policy_lines_ok g text p.0 p.1; none = f.2 }))
      | inr p ↦ inl (p.1 ∙ ap Err (same_fault (List PolicyLineOf) p.0 (m, kind) (sym (ap (ended text) p.1) ∙ e)))
    ]

pub policy_faults_are_first : PolicyFaultsAreFirst
unfolding policy_lines
policy_faults_are_first g text m kind e =
    elim (policy_fault g text m kind e) [
      | inl f ↦ inl (lines_fault (policy_item g) (IsPolicyItem g) (policy_item_ok g) (policy_item_from g) 1 [] (lines_of text) m kind f)
      | inr h ↦ inr h.1
    ]
