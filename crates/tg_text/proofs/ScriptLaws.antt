-- The script that is read is the one that the lines write.
use Rattle.std.proofs.Common.{◌≡◌, refl, sym, ◌∙◌, ap, subst, inl, inr, ℕ, ◌+◌, ◌≤◌, Bool, true, cond, leb, List, [], ◌∷◌, ◌++◌, length, Option, None, Some, Result, Ok, Err}
use Rattle.std.specs.Prelude.{codes}
use Rattle.std.proofs.lemmas.Bool.{leb-true, le-leb}
use Rattle.std.proofs.lemmas.Option.{cond_some}
use Rattle.std.proofs.lemmas.Slice.Eq.{bytes_eq-Decides}
use Rattle.tg_names.specs.declared.right_sets.Right.{Right}
use Rattle.tg_graph.specs.declared.rules.Rule.{Rule}
use Rattle.tg_graph.specs.declared.rules.Rule.TheVariants.{Take, Grant, Create, Remove}
use Rattle.tg_graph.specs.declared.session.Step.TheVariants.{Do, Holds, Share}
use Rattle.tg_graph.specs.declared.session.Act.{Act}
use Rattle.tg_graph.specs.declared.session.Act.TheVariants.{Begin, Stage, Commit, Abort}
use Rattle.tg_names.specs.Names.{Name}
use Rattle.tg_words.specs.declared.faults.TextKind.{TextKind}
use Rattle.tg_words.specs.declared.faults.TextKind.TheVariants.{BadWord, WordCount, BadNumber, BadRights, NoHeader}
use Rattle.tg_text.specs.declared.script_text.ScriptLine.{ScriptLine}
use Rattle.tg_text.specs.declared.script_text.Header.{Header}
use Rattle.tg_text.specs.declared.script_text.Header.TheVariants.{Nothing, Seats, Whole}
use Rattle.tg_words.specs.Lines.{lines_of}
use Rattle.tg_words.specs.Words.{Word, is_word, value_or, name_at, right_at, right_of, one_word, three_words, number_of, at_most, number_up_to, header_number}
use Rattle.tg_words.specs.Reading.{◌>>=◌, after_lines}
use Rattle.tg_text.specs.RuleText.{rule_of_words}
use Rattle.tg_text.specs.ScriptText.{ScriptOf, right_and_names, act_alone, act_of_words, seated, event_of_words, event_item, script_item, with_header, script_text}
use Rattle.tg_text.specs.Grammar.{AreLines, IsFirstFault}
use Rattle.tg_text.specs.RuleGrammar.{SpellsRule}
use Rattle.tg_text.specs.ScriptGrammar.{SpellsQuestion, SpellsAct, SpellsNumber, IsHeaderLine, IsEventLine, IsScriptItem, EndsEarly, ScriptTextsAreThose, ScriptFaultsAreFirst}
use Rattle.tg_text.proofs.Steps.{ok_is, bind_ok, chosen, value_ok, word_is, name_ok, name_from, one_word_is, three_words_are}
use Rattle.tg_text.proofs.GrammarLaws.{lines_ok, lines_from, lines_fault, cases_result, same_value, same_number}
use Rattle.tg_text.proofs.RuleLaws.{rule_ok, rule_from, item_ok, item_from, keyword}
use Rattle.tg_graph.specs.Limits.{most_cells, most_seats}
use Rattle.tg_words.specs.Limits.{most_events}

-- ---- numbers

at_most_ok : (limit : ℕ) (o : Option ℕ) (n : ℕ) → at_most limit o ≡ Some n → (o ≡ Some n) × (n ≤ limit)
at_most_ok limit None n e = absurd cc
at_most_ok limit (Some k) n e =
    let p = cond_some (leb k limit) k n e in
    let fits : k ≤ limit = leb-true k limit p.0 in
    (ap Some p.1, subst (λ (m : ℕ). m ≤ limit) p.1 fits)

number_ok : (limit : ℕ) (word : Word) (n : ℕ) → number_up_to limit word ≡ Ok n → SpellsNumber limit word n
number_ok limit word n e =
    let p = at_most_ok limit (number_of word) n (value_ok BadNumber (at_most limit (number_of word)) n e) in
    record { is_number = p.0; within = p.1 }

abbrev with_number : ℕ → Option ℕ → Result ℕ TextKind
with_number limit o = value_or BadNumber (at_most limit o)

number_from : (limit : ℕ) (word : Word) (n : ℕ) → SpellsNumber limit word n → number_up_to limit word ≡ Ok n
number_from limit word n h =
    let fits : leb n limit ≡ true = le-leb n limit h.within in
    let read : with_number limit (Some n) ≡ Ok n = rw fits refl in
    ap (with_number limit) h.is_number ∙ read

-- ---- acts

abbrev Question : Type 0
Question = Right × Name × Name

question_ok : (words : List Word) (a : Question) → right_and_names words ≡ Ok a → SpellsQuestion words a.0 a.1 a.2
unfolding right_and_names
question_ok words a e =
    let b = bind_ok (three_words words) (λ w. name_at w.1 >>= λ x. name_at w.2 >>= λ y. right_at w.0 >>= λ right. Ok (right, x, y)) a e in
    let w = b.0 in
    let bx = bind_ok (name_at w.1) (λ x. name_at w.2 >>= λ y. right_at w.0 >>= λ right. Ok (right, x, y)) a b.2 in
    let by_ = bind_ok (name_at w.2) (λ y. right_at w.0 >>= λ right. Ok (right, bx.0, y)) a bx.2 in
    let br = bind_ok (right_at w.0) (λ right. Ok (right, bx.0, by_.0)) a by_.2 in
    let x = name_ok w.1 bx.0 bx.1 in
    let y = name_ok w.2 by_.0 by_.1 in
    let are : words ≡ w.0 ∷ bx.0 ∷ by_.0 ∷ [] = three_words_are words w b.1 ∙ (ap (λ (v : Word). w.0 ∷ v ∷ w.2 ∷ []) x.0 ∙ ap (λ (v : Word). w.0 ∷ bx.0 ∷ v ∷ []) y.0) in
    let here : SpellsQuestion words br.0 bx.0 by_.0 = record { letter = w.0; spelled = are; is_right = value_ok BadRights (right_of w.0) br.0 br.1; x_is_name = x.1; y_is_name = y.1 } in
    subst (λ (q : Question). SpellsQuestion words q.0 q.1 q.2) (ok_is (br.0, bx.0, by_.0) a br.2) here

right_from : (letter : Word) (right : Right) → right_of letter ≡ Some right → right_at letter ≡ Ok right
right_from letter right e = ap (value_or BadRights) e

question_from : (words : List Word) (right : Right) (x y : Name) → SpellsQuestion words right x y → right_and_names words ≡ Ok (right, x, y)
unfolding right_and_names
question_from words right x y h =
    let read : right_and_names (h.letter ∷ x ∷ y ∷ []) ≡ Ok (right, x, y) =
    ap (λ (r : Result Name TextKind). r >>= λ x. name_at y >>= λ y. right_at h.letter >>= λ right. Ok (right, x, y)) (name_from x h.x_is_name)
    ∙ (ap (λ (r : Result Name TextKind). r >>= λ y. right_at h.letter >>= λ right. Ok (right, x, y)) (name_from y h.y_is_name)
    ∙ ap (λ (r : Result Right TextKind). r >>= λ right. Ok (right, x, y)) (right_from h.letter right h.is_right)) in
    ap right_and_names h.spelled ∙ read

alone_ok : (act : Act) (words : List Word) (a : Act) → act_alone act words ≡ Ok a → (words ≡ []) × (act ≡ a)
alone_ok act [] a e = (refl, ok_is act a e)
alone_ok act (word ∷ words) a e = absurd cc

abbrev holds : List Word → Result Act TextKind
holds words = right_and_names words >>= λ a. Ok (Stage (Holds a.0 a.1 a.2))

abbrev shares : List Word → Result Act TextKind
shares words = right_and_names words >>= λ a. Ok (Stage (Share a.0 a.1 a.2))

abbrev does : List Word → Result Act TextKind
does words = rule_of_words words >>= λ rule. Ok (Stage (Do rule))

abbrev not_holds : Word → List Word → Result Act TextKind
not_holds word words = cond (is_word word (codes "share")) (shares words) (does (word ∷ words))

abbrev not_abort : Word → List Word → Result Act TextKind
not_abort word words = cond (is_word word (codes "holds")) (holds words) (not_holds word words)

abbrev not_commit : Word → List Word → Result Act TextKind
not_commit word words = cond (is_word word (codes "abort")) (act_alone Abort words) (not_abort word words)

abbrev not_begin : Word → List Word → Result Act TextKind
not_begin word words = cond (is_word word (codes "commit")) (act_alone Commit words) (not_commit word words)

one_is : (word : Word) (words : List Word) (name : Word) → is_word word name ≡ true → words ≡ [] → word ∷ words ≡ name ∷ []
one_is word words name e none = ap (λ (w : Word). w ∷ words) (word_is word name e) ∙ ap (λ (ws : List Word). name ∷ ws) none

pub act_ok : (words : List Word) (act : Act) → act_of_words words ≡ Ok act → SpellsAct words act
unfolding act_of_words
act_ok [] act e = absurd cc
act_ok (word ∷ words) act e =
    elim (chosen (is_word word (codes "begin")) (act_alone Begin words) (not_begin word words) (Ok act) e) [
      | inl p ↦ (let a = alone_ok Begin words act p.1 in subst (SpellsAct (word ∷ words)) a.1 (one_is word words (codes "begin") p.0 a.0))
      | inr p ↦ elim (chosen (is_word word (codes "commit")) (act_alone Commit words) (not_commit word words) (Ok act) p.1) [
        | inl q ↦ (let a = alone_ok Commit words act q.1 in subst (SpellsAct (word ∷ words)) a.1 (one_is word words (codes "commit") q.0 a.0))
        | inr q ↦ elim (chosen (is_word word (codes "abort")) (act_alone Abort words) (not_abort word words) (Ok act) q.1) [
          | inl r ↦ (let a = alone_ok Abort words act r.1 in subst (SpellsAct (word ∷ words)) a.1 (one_is word words (codes "abort") r.0 a.0))
          | inr r ↦ elim (chosen (is_word word (codes "holds")) (holds words) (not_holds word words) (Ok act) r.1) [
            | inl s ↦ (
                let b = bind_ok (right_and_names words) (λ a. Ok (Stage (Holds a.0 a.1 a.2))) act s.1 in
                subst (SpellsAct (word ∷ words)) (ok_is (Stage (Holds b.0.0 b.0.1 b.0.2)) act b.2) (keyword (λ rest. SpellsQuestion rest b.0.0 b.0.1 b.0.2) word words (codes "holds") s.0 (question_ok words b.0 b.1)))
            | inr s ↦ elim (chosen (is_word word (codes "share")) (shares words) (does (word ∷ words)) (Ok act) s.1) [
              | inl t ↦ (
                  let b = bind_ok (right_and_names words) (λ a. Ok (Stage (Share a.0 a.1 a.2))) act t.1 in
                  subst (SpellsAct (word ∷ words)) (ok_is (Stage (Share b.0.0 b.0.1 b.0.2)) act b.2) (keyword (λ rest. SpellsQuestion rest b.0.0 b.0.1 b.0.2) word words (codes "share") t.0 (question_ok words b.0 b.1)))
              | inr t ↦ (
                  let b = bind_ok (rule_of_words (word ∷ words)) (λ rule. Ok (Stage (Do rule))) act t.1 in
                  subst (SpellsAct (word ∷ words)) (ok_is (Stage (Do b.0)) act b.2) (rule_ok (word ∷ words) b.0 b.1))
            ]
          ]
        ]
      ]
    ]

does_from : (words : List Word) (rule : Rule) → SpellsRule words rule → does words ≡ Ok (Stage (Do rule))
does_from words rule h = ap (λ (r : Result Rule TextKind). r >>= λ rule. Ok (Stage (Do rule))) (rule_from words rule h)

pub act_from : (words : List Word) (act : Act) → SpellsAct words act → act_of_words words ≡ Ok act
unfolding act_of_words
act_from words Begin h = ap act_of_words h
act_from words Commit h = ap act_of_words h
act_from words Abort h = ap act_of_words h
act_from words (Stage (Do (Take x y z s))) h = ap act_of_words h.spelled ∙ does_from (codes "take" ∷ h.rest) (Take x y z s) (record { rest = h.rest; spelled = refl; means = h.means })
act_from words (Stage (Do (Grant x y z s))) h = ap act_of_words h.spelled ∙ does_from (codes "grant" ∷ h.rest) (Grant x y z s) (record { rest = h.rest; spelled = refl; means = h.means })
act_from words (Stage (Do (Create x n s))) h = ap act_of_words h.spelled ∙ does_from (codes "create" ∷ h.rest) (Create x n s) (record { rest = h.rest; spelled = refl; means = h.means })
act_from words (Stage (Do (Remove x y s))) h = ap act_of_words h.spelled ∙ does_from (codes "remove" ∷ h.rest) (Remove x y s) (record { rest = h.rest; spelled = refl; means = h.means })
act_from words (Stage (Holds right x y)) h =
    let read : act_of_words (codes "holds" ∷ h.rest) ≡ Ok (Stage (Holds right x y)) = ap (λ (r : Result Question TextKind). r >>= λ a. Ok (Stage (Holds a.0 a.1 a.2))) (question_from h.rest right x y h.means) in
    ap act_of_words h.spelled ∙ read
act_from words (Stage (Share right x y)) h =
    let read : act_of_words (codes "share" ∷ h.rest) ≡ Ok (Stage (Share right x y)) = ap (λ (r : Result Question TextKind). r >>= λ a. Ok (Stage (Share a.0 a.1 a.2))) (question_from h.rest right x y h.means) in
    ap act_of_words h.spelled ∙ read

-- ---- events

abbrev event_at : ℕ → ℕ → Act → ScriptLine
event_at n seat act = record { line = n; seat = seat; act = act }

seated_ok : (n : ℕ) (seat : Result ℕ TextKind) (act : Result Act TextKind) (found : ScriptLine) → seated n seat act ≡ Ok found → (k : ℕ) × (a : Act) × (seat ≡ Ok k) × (act ≡ Ok a) × (found ≡ event_at n k a)
seated_ok n (Ok k) (Ok a) found e = (k, a, refl, refl, sym (ok_is (event_at n k a) found e))
seated_ok n (Ok k) (Err kind) found e = absurd cc
seated_ok n (Err kind) (Ok a) found e = absurd cc
seated_ok n (Err kind) (Err BadWord) found e = absurd cc
seated_ok n (Err kind) (Err WordCount) found e = absurd cc
seated_ok n (Err kind) (Err _) found e = absurd cc

event_ok : (n seats : ℕ) (lines : List ScriptLine) (words : List Word) (more : List ScriptLine) → event_item n seats lines words ≡ Ok more → IsEventLine n seats lines words more
unfolding event_item event_of_words
event_ok n seats lines [] more e = absurd (let i = item_ok most_events lines (event_of_words n seats []) more e in let other : event_of_words n seats [] ≡ Ok i.0 = i.1 in cc)
event_ok n seats lines (word ∷ words) more e =
    let i = item_ok most_events lines (seated n (number_up_to seats word) (act_of_words words)) more e in
    let s = seated_ok n (number_up_to seats word) (act_of_words words) i.0 i.1 in
    record {
      word = word;
      rest = words;
      seat = s.0;
      act = s.1;
      spelled = refl;
      number = number_ok seats word s.0 s.2;
      is_act = act_ok words s.1 s.3;
      room = i.2;
      makes = i.3 ∙ ap (λ (x : ScriptLine). lines ++ x ∷ []) s.4;
    }

event_from : (n seats : ℕ) (lines : List ScriptLine) (words : List Word) (more : List ScriptLine) → IsEventLine n seats lines words more → event_item n seats lines words ≡ Ok more
unfolding event_item event_of_words
event_from n seats lines words more h =
    let read : event_of_words n seats (h.word ∷ h.rest) ≡ Ok (event_at n h.seat h.act) =
    ap (λ (r : Result ℕ TextKind). seated n r (act_of_words h.rest)) (number_from seats h.word h.seat h.number)
    ∙ ap (seated n (Ok h.seat)) (act_from h.rest h.act h.is_act) in
    item_from most_events lines (event_of_words n seats words) (event_at n h.seat h.act) more (ap (event_of_words n seats) h.spelled ∙ read) h.room h.makes

-- ---- the header

abbrev failed : Result ℕ TextKind
failed = Err BadWord

pub header_ok : (name : Word) (limit : ℕ) (words : List Word) (n : ℕ) → header_number name limit words ≡ Ok n → IsHeaderLine name limit words n
unfolding header_number
header_ok name limit [] n e = absurd cc
header_ok name limit (word ∷ words) n e =
    elim (chosen (is_word word name) (one_word words >>= λ number. number_up_to limit number) failed (Ok n) e) [
      | inl p ↦ (
          let b = bind_ok (one_word words) (λ number. number_up_to limit number) n p.1 in
          record {
            word = b.0;
            spelled = ap (λ (w : Word). w ∷ words) (word_is word name p.0) ∙ ap (λ (ws : List Word). name ∷ ws) (one_word_is words b.0 b.1);
            number = number_ok limit b.0 n b.2;
          })
      | inr p ↦ absurd (let other : failed ≡ Ok n = p.1 in cc)
    ]

same_word : (word : Word) → is_word word word ≡ true
same_word word = (bytes_eq-Decides word word).1 refl

pub header_from : (name : Word) (limit : ℕ) (words : List Word) (n : ℕ) → IsHeaderLine name limit words n → header_number name limit words ≡ Ok n
unfolding header_number
header_from name limit words n h =
    let read : header_number name limit (name ∷ h.word ∷ []) ≡ Ok n = ap (λ (t : Bool). cond t (number_up_to limit h.word) failed) (same_word name) ∙ number_from limit h.word n h.number in
    ap (header_number name limit) h.spelled ∙ read

-- ---- the whole

abbrev pub State : Type 0
State = Header × List ScriptLine

pub item_is : (n : ℕ) (state : State) (words : List Word) (next : State) → script_item n state words ≡ Ok next → IsScriptItem n state words next
unfolding script_item
item_is n (Nothing, lines) words next e =
    let b = bind_ok (header_number (codes "seats") most_seats words) (λ seats. Ok (Seats seats, lines)) next e in
    (b.0, header_ok (codes "seats") most_seats words b.0 b.1, sym (ok_is (Seats b.0, lines) next b.2))
item_is n (Seats seats, lines) words next e =
    let b = bind_ok (header_number (codes "cells") most_cells words) (λ cells. Ok (Whole seats cells, lines)) next e in
    (b.0, header_ok (codes "cells") most_cells words b.0 b.1, sym (ok_is (Whole seats b.0, lines) next b.2))
item_is n (Whole seats cells, lines) words next e =
    let b = bind_ok (event_item n seats lines words) (λ more. Ok (Whole seats cells, more)) next e in
    (b.0, event_ok n seats lines words b.0 b.1, sym (ok_is (Whole seats cells, b.0) next b.2))

pub item_back : (n : ℕ) (state : State) (words : List Word) (next : State) → IsScriptItem n state words next → script_item n state words ≡ Ok next
unfolding script_item
item_back n (Nothing, lines) words next h = ap (λ (r : Result ℕ TextKind). r >>= λ seats. Ok (Seats seats, lines)) (header_from (codes "seats") most_seats words h.0 h.1) ∙ ap Ok (sym h.2)
item_back n (Seats seats, lines) words next h = ap (λ (r : Result ℕ TextKind). r >>= λ cells. Ok (Whole seats cells, lines)) (header_from (codes "cells") most_cells words h.0 h.1) ∙ ap Ok (sym h.2)
item_back n (Whole seats cells, lines) words next h = ap (λ (r : Result (List ScriptLine) TextKind). r >>= λ more. Ok (Whole seats cells, more)) (event_from n seats lines words h.0 h.1) ∙ ap Ok (sym h.2)

abbrev pub start : State
start = (Nothing, [])

abbrev script_with : ℕ → ℕ → List ScriptLine → ScriptOf
script_with seats cells lines = record { seats = seats; cells = cells; lines = lines }

abbrev whole : ScriptOf → State
whole script = (Whole script.seats script.cells, script.lines)

whole_ok : (end : ℕ) (state : State) (script : ScriptOf) → with_header end state ≡ Ok script → state ≡ whole script
whole_ok end (Nothing, lines) script e = absurd cc
whole_ok end (Seats seats, lines) script e = absurd cc
whole_ok end (Whole seats cells, lines) script e = ap whole (same_value (script_with seats cells lines) script e)

pub script_texts_are_those : ScriptTextsAreThose
unfolding script_text
script_texts_are_those text script = (
  λ e.
      let b = bind_ok (after_lines script_item 1 start (lines_of text)) (λ state. with_header (length (lines_of text) + 1) state) script e in
      subst (λ (state : State). AreLines IsScriptItem 1 start (lines_of text) state) (whole_ok (length (lines_of text) + 1) b.0 script b.2) (lines_ok script_item IsScriptItem item_is item_back 1 start (lines_of text) b.0 b.1),
  λ h. ap (λ (r : Result State (ℕ × TextKind)). r >>= λ state. with_header (length (lines_of text) + 1) state) (lines_from script_item IsScriptItem item_is item_back 1 start (lines_of text) (whole script) h),
)

abbrev script_fault : ℕ → TextKind → Result ScriptOf (ℕ × TextKind)
script_fault n kind = Err (n, kind)

pub partial : (text : List ℕ) (state : State) (m : ℕ) (kind : TextKind) → AreLines IsScriptItem 1 start (lines_of text) state → with_header (length (lines_of text) + 1) state ≡ Err (m, kind) → EndsEarly (lines_of text) m
partial text (Nothing, lines) m kind h e = record { number = sym (same_number (script_fault (length (lines_of text) + 1) NoHeader) m (length (lines_of text) + 1) NoHeader kind refl e); header = Nothing; events = lines; read = h; partial = tt }
partial text (Seats seats, lines) m kind h e = record { number = sym (same_number (script_fault (length (lines_of text) + 1) NoHeader) m (length (lines_of text) + 1) NoHeader kind refl e); header = Seats seats; events = lines; read = h; partial = tt }
partial text (Whole seats cells, lines) m kind h e = absurd cc

pub script_faults_are_first : ScriptFaultsAreFirst
unfolding script_text
script_faults_are_first text m kind e =
    elim (cases_result (after_lines script_item 1 start (lines_of text))) [
      | inl p ↦ (
          let ended : with_header (length (lines_of text) + 1) p.0 ≡ Err (m, kind) = sym (ap (λ (r : Result State (ℕ × TextKind)). r >>= λ state. with_header (length (lines_of text) + 1) state) p.1) ∙ e in
          inr (partial text p.0 m kind (lines_ok script_item IsScriptItem item_is item_back 1 start (lines_of text) p.0 p.1) ended))
      | inr p ↦ (
          let stopped : script_fault p.0.0 p.0.1 ≡ script_fault m kind = sym (ap (λ (r : Result State (ℕ × TextKind)). r >>= λ state. with_header (length (lines_of text) + 1) state) p.1) ∙ e in
          let same : p.0.0 ≡ m = same_number (script_fault p.0.0 p.0.1) m p.0.0 p.0.1 kind refl stopped in
          inl (subst (λ (k : ℕ). IsFirstFault IsScriptItem 1 start (lines_of text) k) same (lines_fault script_item IsScriptItem item_is item_back 1 start (lines_of text) p.0.0 p.0.1 p.1)))
    ]
