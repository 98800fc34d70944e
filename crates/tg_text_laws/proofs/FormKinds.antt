-- What is wrong with the words of a form, in the order of the kinds, is what reading finds.
use Rattle.std.proofs.Common.{◌≡◌, refl, sym, ◌∙◌, ap, ℕ, Bool, true, false, cond, eqb, leb, ltb, List, [], ◌∷◌, length, Option, None, Some, Result, Ok, Err, arith, IfSome}
use Rattle.std.specs.Prelude.{codes, not, ◌||◌, is_some, is_ok, zip}
use Rattle.std.specs.List.{AllByRecursion, list_any}
use Rattle.std.specs.Map.{lookup}
use Rattle.std.specs.Option.{option_map, option_map_or}
use Rattle.std.proofs.lemmas.Bool.{ne_eqb}
use Rattle.std.proofs.lemmas.Bool.Decides.{nat_tests}
use Rattle.std.proofs.Math.Dec.{eqb-suc-suc}
use Rattle.tg_names.specs.declared.right_sets.Right.{Right}
use Rattle.tg_names.specs.declared.right_sets.Rights.{Rights}
use Rattle.tg_graph.specs.declared.rules.Rule.TheVariants.{Take, Grant, Create, Remove}
use Rattle.tg_graph.specs.declared.session.Step.TheVariants.{Do, Holds, Share}
use Rattle.tg_graph.specs.declared.session.Act.{Act}
use Rattle.tg_graph.specs.declared.session.Act.TheVariants.{Begin, Stage, Commit, Abort}
use Rattle.tg_names.specs.Names.{name_of, Name}
use Rattle.tg_names.specs.Letters.{set_of_letters}
use Rattle.tg_words.specs.declared.faults.TextKind.{TextKind}
use Rattle.tg_words.specs.declared.faults.TextKind.TheVariants.{BadWord, WordCount, BadNumber, BadName, BadRights, TooMany}
use Rattle.tg_words.specs.Words.{Word, is_word, one_word, value_or, number_of, at_most, number_up_to, right_of, header_number}
use Rattle.tg_words.specs.Reading.{◌>>=◌}
use Rattle.tg_text.specs.RuleText.{two_names, three_names, rule_of_words}
use Rattle.tg_text.specs.ScriptText.{right_and_names, act_alone, act_of_words, seated, event_of_words}
use Rattle.tg_text_laws.specs.Forms.{Form, form_in, rule_forms, act_forms, event_form, is_bad_number, is_bad_name, are_bad_rights}
use Rattle.tg_text_laws.specs.Forms.Place.{AKeyword, ANumber, AName, ASet, ARight}
use Rattle.tg_text_laws.specs.FaultKinds.{form_condition}
use Rattle.tg_text_laws.proofs.LeastKind.{word_kinds, first_kind, fault_of, from_fault}

-- ---- readings and their faults

abbrev Reading : Type 0 → Type 0
Reading A = Result A TextKind

-- what is made of a value changes no fault
pub same_fault : {A B : Type 0} (r : Reading A) (f : A → B) → fault_of (r >>= λ x. Ok (f x)) ≡ fault_of r
same_fault (Ok x) f = refl
same_fault (Err kind) f = refl

pub stays : {A B : Type 0} (r : Reading A) (f : A → Reading B) (kind : TextKind) → fault_of r ≡ Some kind → fault_of (r >>= f) ≡ Some kind
stays (Ok x) f kind e = absurd cc
stays (Err k) f kind e = e

pub goes_on : {A : Type 0} (r : Reading A) → fault_of r ≡ None → (x : A) × (r ≡ Ok x)
goes_on (Ok x) e = (x, refl)
goes_on (Err k) e = absurd cc

abbrev fault : TextKind → Option TextKind
fault kind = Some kind

-- the first of the kinds of a form, and then that which comes last
abbrev pub form_faults : Bool → Bool → Bool → Bool → Bool → Option TextKind → Option TextKind
form_faults w c n m r last = cond w (Some BadWord) (cond c (Some WordCount) (cond n (Some BadNumber) (cond m (Some BadName) (cond r (Some BadRights) last))))

-- a limit that is looked at last
pub with_last : {A B : Type 0} (w c n m r full : Bool) (read : Reading A) (f : A → B) → fault_of read ≡ form_faults w c n m r None
    → fault_of (read >>= λ x. cond full (Err TooMany) (Ok (f x))) ≡ form_faults w c n m r (cond full (Some TooMany) None)
with_last true c n m r full read f e = stays read (λ x. cond full (Err TooMany) (Ok (f x))) BadWord e
with_last false true n m r full read f e = stays read (λ x. cond full (Err TooMany) (Ok (f x))) WordCount e
with_last false false true m r full read f e = stays read (λ x. cond full (Err TooMany) (Ok (f x))) BadNumber e
with_last false false false true r full read f e = stays read (λ x. cond full (Err TooMany) (Ok (f x))) BadName e
with_last false false false false true full read f e = stays read (λ x. cond full (Err TooMany) (Ok (f x))) BadRights e
with_last false false false false false full (Err kind) f e = absurd cc
with_last false false false false false true (Ok x) f e = refl
with_last false false false false false false (Ok x) f e = refl

-- ---- words of a form

pub other_count : (form : Form) (words : List Word) → (length form ≡ length words → ⊥) → first_kind (form_condition (Some form) words) word_kinds ≡ Some WordCount
other_count form words apart = rw (ne_eqb (length form) (length words) apart) refl

abbrev named : Bool → Word → Reading Name
named n word = cond n (Ok word) (Err BadName)

two_plain : {A : Type 0} (p q : Bool) (a b : Word) (o : Option Rights) (f : Name × Name × Rights → A)
    → fault_of ((named p a >>= λ x. named q b >>= λ y. value_or BadRights o >>= λ s. Ok (x, y, s)) >>= λ t. Ok (f t))
    ≡ form_faults false false false (not p || (not q || false)) (not (is_some o) || false) None
two_plain false q a b o f = refl
two_plain true false a b o f = refl
two_plain true true a b None f = refl
two_plain true true a b (Some s) f = refl

three_plain : {A : Type 0} (p q r : Bool) (a b c : Word) (o : Option Rights) (f : Name × Name × Name × Rights → A)
    → fault_of ((named p a >>= λ x. named q b >>= λ y. named r c >>= λ z. value_or BadRights o >>= λ s. Ok (x, y, z, s)) >>= λ t. Ok (f t))
    ≡ form_faults false false false (not p || (not q || (not r || false))) (not (is_some o) || false) None
three_plain false q r a b c o f = refl
three_plain true false r a b c o f = refl
three_plain true true false a b c o f = refl
three_plain true true true a b c None f = refl
three_plain true true true a b c (Some s) f = refl

question_plain : {A : Type 0} (p q : Bool) (a b : Word) (o : Option Right) (f : Right × Name × Name → A)
    → fault_of ((named p a >>= λ x. named q b >>= λ y. value_or BadRights o >>= λ right. Ok (right, x, y)) >>= λ t. Ok (f t))
    ≡ form_faults false false false (not p || (not q || false)) (not (is_some o) || false) None
question_plain false q a b o f = refl
question_plain true false a b o f = refl
question_plain true true a b None f = refl
question_plain true true a b (Some s) f = refl

abbrev two_form : Form
two_form = AKeyword ∷ AName ∷ AName ∷ ASet ∷ []

abbrev three_form : Form
three_form = AKeyword ∷ AName ∷ AName ∷ AName ∷ ASet ∷ []

abbrev question_form : Form
question_form = AKeyword ∷ ARight ∷ AName ∷ AName ∷ []

abbrev Kinds : Option Form → List Word → Option TextKind
Kinds form words = first_kind (form_condition form words) word_kinds

two_kinds : {A : Type 0} (word : Word) (rest : List Word) (f : Name × Name × Rights → A) → fault_of (two_names rest >>= λ t. Ok (f t)) ≡ Kinds (Some two_form) (word ∷ rest)
unfolding two_names
two_kinds word [] f = refl
two_kinds word (a ∷ []) f = refl
two_kinds word (a ∷ b ∷ []) f = refl
two_kinds word (a ∷ b ∷ c ∷ []) f = two_plain (is_ok (name_of a)) (is_ok (name_of b)) a b (set_of_letters c) f
two_kinds word (a ∷ b ∷ c ∷ d ∷ more) f = sym (other_count two_form (word ∷ a ∷ b ∷ c ∷ d ∷ more) (λ e. omega arith))

three_kinds : {A : Type 0} (word : Word) (rest : List Word) (f : Name × Name × Name × Rights → A) → fault_of (three_names rest >>= λ t. Ok (f t)) ≡ Kinds (Some three_form) (word ∷ rest)
unfolding three_names
three_kinds word [] f = refl
three_kinds word (a ∷ []) f = refl
three_kinds word (a ∷ b ∷ []) f = refl
three_kinds word (a ∷ b ∷ c ∷ []) f = refl
three_kinds word (a ∷ b ∷ c ∷ d ∷ []) f = three_plain (is_ok (name_of a)) (is_ok (name_of b)) (is_ok (name_of c)) a b c (set_of_letters d) f
three_kinds word (a ∷ b ∷ c ∷ d ∷ g ∷ more) f = sym (other_count three_form (word ∷ a ∷ b ∷ c ∷ d ∷ g ∷ more) (λ e. omega arith))

question_kinds : {A : Type 0} (word : Word) (rest : List Word) (f : Right × Name × Name → A) → fault_of (right_and_names rest >>= λ t. Ok (f t)) ≡ Kinds (Some question_form) (word ∷ rest)
unfolding right_and_names
question_kinds word [] f = refl
question_kinds word (a ∷ []) f = refl
question_kinds word (a ∷ b ∷ []) f = refl
question_kinds word (a ∷ b ∷ c ∷ []) f = question_plain (is_ok (name_of b)) (is_ok (name_of c)) b c (right_of a) f
question_kinds word (a ∷ b ∷ c ∷ d ∷ more) f = sym (other_count question_form (word ∷ a ∷ b ∷ c ∷ d ∷ more) (λ e. omega arith))

alone_kinds : (word : Word) (rest : List Word) (act : Act) → fault_of (act_alone act rest) ≡ Kinds (Some (AKeyword ∷ [])) (word ∷ rest)
alone_kinds word [] act = refl
alone_kinds word (a ∷ more) act = sym (other_count (AKeyword ∷ []) (word ∷ a ∷ more) (λ e. omega arith))

-- ---- rules

rule_by : (t g c r : Bool) (word : Word) (rest : List Word)
    → fault_of (cond t (three_names rest >>= λ a. Ok (Take a.0 a.1 a.2 a.3)) (cond g (three_names rest >>= λ a. Ok (Grant a.0 a.1 a.2 a.3)) (cond c (two_names rest >>= λ a. Ok (Create a.0 a.1 a.2)) (cond r (two_names rest >>= λ a. Ok (Remove a.0 a.1 a.2)) (Err BadWord)))))
    ≡ Kinds (cond t (Some three_form) (cond g (Some three_form) (cond c (Some two_form) (cond r (Some two_form) None)))) (word ∷ rest)
rule_by true g c r word rest = three_kinds word rest (λ a. Take a.0 a.1 a.2 a.3)
rule_by false true c r word rest = three_kinds word rest (λ a. Grant a.0 a.1 a.2 a.3)
rule_by false false true r word rest = two_kinds word rest (λ a. Create a.0 a.1 a.2)
rule_by false false false true word rest = two_kinds word rest (λ a. Remove a.0 a.1 a.2)
rule_by false false false false word rest = refl

pub rule_kinds : (words : List Word) → fault_of (rule_of_words words) ≡ Kinds (form_in rule_forms words) words
unfolding rule_of_words
rule_kinds [] = refl
rule_kinds (word ∷ rest) = rule_by (is_word word (codes "take")) (is_word word (codes "grant")) (is_word word (codes "create")) (is_word word (codes "remove")) word rest

-- ---- acts

abbrev held : List Word → Reading Act
held rest = right_and_names rest >>= λ a. Ok (Stage (Holds a.0 a.1 a.2))

abbrev shared : List Word → Reading Act
shared rest = right_and_names rest >>= λ a. Ok (Stage (Share a.0 a.1 a.2))

abbrev done : List Word → Reading Act
done words = rule_of_words words >>= λ rule. Ok (Stage (Do rule))

act_by : (b c a h s : Bool) (word : Word) (rest : List Word)
    → fault_of (cond b (act_alone Begin rest) (cond c (act_alone Commit rest) (cond a (act_alone Abort rest) (cond h (held rest) (cond s (shared rest) (done (word ∷ rest)))))))
    ≡ Kinds (cond b (Some (AKeyword ∷ [])) (cond c (Some (AKeyword ∷ [])) (cond a (Some (AKeyword ∷ [])) (cond h (Some question_form) (cond s (Some question_form) (form_in rule_forms (word ∷ rest))))))) (word ∷ rest)
act_by true c a h s word rest = alone_kinds word rest Begin
act_by false true a h s word rest = alone_kinds word rest Commit
act_by false false true h s word rest = alone_kinds word rest Abort
act_by false false false true s word rest = question_kinds word rest (λ a. Stage (Holds a.0 a.1 a.2))
act_by false false false false true word rest = question_kinds word rest (λ a. Stage (Share a.0 a.1 a.2))
act_by false false false false false word rest = same_fault (rule_of_words (word ∷ rest)) (λ rule. Stage (Do rule)) ∙ rule_kinds (word ∷ rest)

act_kinds : (words : List Word) → fault_of (act_of_words words) ≡ Kinds (form_in act_forms words) words
unfolding act_of_words
act_kinds [] = refl
act_kinds (word ∷ rest) = act_by (is_word word (codes "begin")) (is_word word (codes "commit")) (is_word word (codes "abort")) (is_word word (codes "holds")) (is_word word (codes "share")) word rest

-- ---- numbers

abbrev number_if : Bool → ℕ → Reading ℕ
number_if bad k = cond bad (Err BadNumber) (Ok k)

pub number_is : (limit : ℕ) (word : Word) → (k : ℕ) × (number_up_to limit word ≡ number_if (is_bad_number (ANumber limit) word) k)
number_is limit word = by (number_of word)
  where
    by : (o : Option ℕ) → (k : ℕ) × (value_or BadNumber (at_most limit o) ≡ number_if (option_map_or (λ n. ltb limit n) o true) k)
    by None = (0, refl)
    by (Some n) = (n, within (leb n limit) (ltb limit n) (grind (arith, nat_tests)))
      where
        within : (le lt : Bool) → lt ≡ not le → value_or BadNumber (cond le (Some n) None) ≡ number_if lt n
        within true lt e = rw e refl
        within false lt e = rw e refl

-- ---- headers

header_plain : {A : Type 0} (bad : Bool) (k : ℕ) (f : ℕ → A) → fault_of (number_if bad k >>= λ n. Ok (f n)) ≡ form_faults false false (bad || false) false false None
header_plain true k f = refl
header_plain false k f = refl

abbrev header_form : ℕ → Form
header_form limit = AKeyword ∷ ANumber limit ∷ []

header_by : {A : Type 0} (b : Bool) (limit : ℕ) (word : Word) (rest : List Word) (f : ℕ → A)
    → fault_of (cond b (one_word rest >>= λ number. number_up_to limit number) (Err BadWord) >>= λ n. Ok (f n)) ≡ Kinds (cond b (Some (header_form limit)) None) (word ∷ rest)
header_by false limit word rest f = refl
header_by true limit word [] f = refl
header_by true limit word (a ∷ []) f =
    let number = number_is limit a in
    ap (λ (r : Reading ℕ). fault_of (r >>= λ n. Ok (f n))) number.1 ∙ header_plain (is_bad_number (ANumber limit) a) number.0 f
header_by true limit word (a ∷ b ∷ more) f = sym (other_count (header_form limit) (word ∷ a ∷ b ∷ more) (λ e. omega arith))

pub header_kinds : {A : Type 0} (keyword : Word) (limit : ℕ) (words : List Word) (f : ℕ → A)
    → fault_of (header_number keyword limit words >>= λ n. Ok (f n)) ≡ Kinds (form_in ((keyword, header_form limit) ∷ []) words) words
unfolding header_number
header_kinds keyword limit [] f = refl
header_kinds keyword limit (word ∷ rest) f = header_by (is_word word keyword) limit word rest f

-- ---- events

-- no act has a place for a number
abbrev pub Numberless : Form → Type 0
Numberless = AllByRecursion (λ place. (word : Word) → is_bad_number place word ≡ false)

pub no_bad_number : (form : Form) → Numberless form → (words : List Word) → list_any (λ at. is_bad_number at.0 at.1) (zip form words) ≡ false
no_bad_number [] h words = refl
no_bad_number (place ∷ form) h [] = refl
no_bad_number (place ∷ form) h (word ∷ words) =
    ap (λ b. b || list_any (λ at. is_bad_number at.0 at.1) (zip form words)) (h.0 word) ∙ no_bad_number form h.1 words

pub found_numberless : (test : Word → Bool) (forms : List (Word × Form)) → AllByRecursion (λ entry. Numberless entry.1) forms → IfSome (lookup test forms) Numberless
found_numberless test [] h = tt
found_numberless test (entry ∷ forms) h = by (test entry.0) (found_numberless test forms h.1)
  where
    by : (b : Bool) → IfSome (lookup test forms) Numberless → IfSome (cond b (Some entry.1) (lookup test forms)) Numberless
    by true rest = h.0
    by false rest = rest

alone_numberless : Numberless (AKeyword ∷ [])
alone_numberless = (λ word. refl, tt)

question_numberless : Numberless question_form
question_numberless = (λ word. refl, (λ word. refl, (λ word. refl, (λ word. refl, tt))))

pub two_numberless : Numberless two_form
two_numberless = (λ word. refl, (λ word. refl, (λ word. refl, (λ word. refl, tt))))

pub three_numberless : Numberless three_form
three_numberless = (λ word. refl, (λ word. refl, (λ word. refl, (λ word. refl, (λ word. refl, tt)))))

acts_numberless : AllByRecursion (λ (entry : Word × Form). Numberless entry.1) act_forms
acts_numberless = (alone_numberless, (alone_numberless, (alone_numberless, (question_numberless, (question_numberless, (three_numberless, (three_numberless, (two_numberless, (two_numberless, tt)))))))))

act_numberless : (words : List Word) → IfSome (form_in act_forms words) Numberless
act_numberless [] = tt
act_numberless (word ∷ words) = found_numberless (is_word word) act_forms acts_numberless

-- what is wrong with the form of an act comes before its seat's number, and that before the rest
seat_plain : (n : ℕ) (c b m r : Bool) (k : ℕ) (act : Reading Act) → fault_of act ≡ form_faults false c false m r None → fault_of (seated n (number_if b k) act) ≡ form_faults false c (b || false) m r None
seat_plain n true true m r k act e = ap (λ (a : Reading Act). fault_of (seated n (Err BadNumber) a)) (from_fault act WordCount e)
seat_plain n true false m r k act e = ap (λ (a : Reading Act). fault_of (seated n (Ok k) a)) (from_fault act WordCount e)
seat_plain n false true true r k act e = ap (λ (a : Reading Act). fault_of (seated n (Err BadNumber) a)) (from_fault act BadName e)
seat_plain n false true false true k act e = ap (λ (a : Reading Act). fault_of (seated n (Err BadNumber) a)) (from_fault act BadRights e)
seat_plain n false true false false k act e = ap (λ (a : Reading Act). fault_of (seated n (Err BadNumber) a)) (goes_on act e).1
seat_plain n false false true r k act e = ap (λ (a : Reading Act). fault_of (seated n (Ok k) a)) (from_fault act BadName e)
seat_plain n false false false true k act e = ap (λ (a : Reading Act). fault_of (seated n (Ok k) a)) (from_fault act BadRights e)
seat_plain n false false false false k act e = ap (λ (a : Reading Act). fault_of (seated n (Ok k) a)) (goes_on act e).1

no_act : (n : ℕ) (b : Bool) (k : ℕ) (act : Reading Act) → fault_of act ≡ fault BadWord → fault_of (seated n (number_if b k) act) ≡ fault BadWord
no_act n true k act e = ap (λ (a : Reading Act). fault_of (seated n (Err BadNumber) a)) (from_fault act BadWord e)
no_act n false k act e = ap (λ (a : Reading Act). fault_of (seated n (Ok k) a)) (from_fault act BadWord e)

event_by : (n seats : ℕ) (seat : Word) (words : List Word) (act : Reading Act) (form : Option Form) → fault_of act ≡ Kinds form words → IfSome form Numberless
    → fault_of (seated n (number_up_to seats seat) act) ≡ Kinds (option_map (λ places. ANumber seats ∷ places) form) (seat ∷ words)
event_by n seats seat words act None e h =
    let number = number_is seats seat in
    ap (λ (r : Reading ℕ). fault_of (seated n r act)) number.1 ∙ no_act n (is_bad_number (ANumber seats) seat) number.0 act e
event_by n seats seat words act (Some form) e h =
    let number = number_is seats seat in
    let bad = is_bad_number (ANumber seats) seat in
    let c = not (eqb (length form) (length words)) in
    let m = list_any (λ at. is_bad_name at.0 at.1) (zip form words) in
    let r = list_any (λ at. are_bad_rights at.0 at.1) (zip form words) in
    let none = no_bad_number form h words in
    ap (λ (read : Reading ℕ). fault_of (seated n read act)) number.1
    ∙ seat_plain n c bad m r number.0 act (e ∙ ap (λ b. form_faults false c b m r None) none)
    ∙ sym (λ i. form_faults false (not (eqb-suc-suc (length form) (length words) i)) (bad || none i) m r None)

pub event_kinds : (n seats : ℕ) (words : List Word) → fault_of (event_of_words n seats words) ≡ Kinds (event_form seats words) words
unfolding event_of_words
event_kinds n seats [] = refl
event_kinds n seats (seat ∷ words) = event_by n seats seat words (act_of_words words) (form_in act_forms words) (act_kinds words) (act_numberless words)
