-- The numbers of a script are within their limits.
use Rattle.std.proofs.Common.{◌≡◌, ℕ, ◌+◌, ◌-◌, ◌*◌, ◌<◌, ◌≤◌, Bool, true, false, cond, eqb, ltb, List, [], ◌∷◌, length, Option, None, Some, All, refl, sym, ap, subst, ◌∙◌, arith}
use Rattle.std.specs.Prelude.{Result, Ok, ◌||◌}
use Rattle.std.specs.Bool.{MatchBool}
use Rattle.std.proofs.lemmas.Bool.{or_parts}
use Rattle.std.proofs.lemmas.Bool.Decides.{nat_tests}
use Rattle.std.proofs.lemmas.List.Elements.{All-nil, All-push}
use Rattle.tg_words.specs.declared.faults.TextKind.{TextKind}
use Rattle.tg_text.specs.declared.script_text.ScriptLine.{ScriptLine}
use Rattle.tg_text.specs.declared.script_text.Header.{Header}
use Rattle.tg_text.specs.declared.script_text.Header.TheVariants.{Nothing, Seats, Whole}
use Rattle.tg_words.specs.Lines.{lines_of, words_of, is_skipped}
use Rattle.tg_words.specs.Words.{Word, number_of, with_digits, is_digit}
use Rattle.tg_text.specs.Grammar.{AreLines}
use Rattle.tg_words.specs.Reading.{◌>>=◌, after_lines}
use Rattle.tg_text.specs.ScriptText.{ScriptOf, script_item, with_header, script_text, IsCount, IsWithinLimits}
use Rattle.tg_text.specs.ScriptGrammar.{SpellsNumber, IsScriptItem}
use Rattle.tg_text.proofs.ScriptLaws.{script_texts_are_those}
use Rattle.tg_graph.specs.Limits.{most_cells, most_seats}

-- ---- numbers
pub if_some : (t : Bool) (o : Option ℕ) (v : ℕ) → cond t o None ≡ Some v → (t ≡ true) × (o ≡ Some v)
if_some true o v e = (refl, e)
if_some false o v e = absurd cc

pub if_none : (t : Bool) (o : Option ℕ) (v : ℕ) → cond t None o ≡ Some v → (t ≡ false) × (o ≡ Some v)
if_none true o v e = absurd cc
if_none false o v e = (refl, e)

pub same_number : (n v : ℕ) → Some n ≡ Some v → n ≡ v
same_number n v e = cc

digits_grow : (n : ℕ) (word : Word) (v : ℕ) → with_digits n word ≡ Some v → n ≤ v
digits_grow n [] v e = omega (arith, same_number n v e)
digits_grow n (b ∷ bs) v e =
    let rest = (if_some (is_digit b) (with_digits (10 * n + (b - 48)) bs) v e).1 in
    omega (arith, digits_grow (10 * n + (b - 48)) bs v rest)

first_digit : (b : ℕ) → is_digit b ≡ true → 48 ≤ b
first_digit b e = grind (arith, nat_tests)

no_zero : (b : ℕ) → eqb b 48 ≡ false → (b ≡ 48 → ⊥)
no_zero b e = grind (arith, nat_tests)

-- a number is not 0
pub number_is_some : (word : Word) (v : ℕ) → number_of word ≡ Some v → 0 < v
number_is_some [] v e = absurd cc
number_is_some (b ∷ bs) v e =
    let front = if_none (eqb b 48 || ltb 3 (length bs)) (with_digits 0 (b ∷ bs)) v e in
    let digits = if_some (is_digit b) (with_digits (10 * 0 + (b - 48)) bs) v front.1 in
    let above = first_digit b digits.0 in
    let other = no_zero b (or_parts (eqb b 48) (ltb 3 (length bs)) front.0).0 in
    let grown = digits_grow (10 * 0 + (b - 48)) bs v digits.1 in
    omega (arith, above, other, grown)

-- ---- scripts
-- what the lines so far have made is within the limits
abbrev pub IsWithin : Header × List ScriptLine → Type 0
IsWithin (Nothing, lines) = lines ≡ []
IsWithin (Seats seats, lines) = IsCount most_seats seats × (lines ≡ [])
IsWithin (Whole seats cells, lines) = IsCount most_seats seats × IsCount most_cells cells × All (λ event. IsCount seats event.seat) lines

count_of_word : (most : ℕ) (word : Word) (v : ℕ) → SpellsNumber most word v → IsCount most v
count_of_word most word v h = (number_is_some word v h.is_number, h.within)

item_is_within : (n : ℕ) (a b : Header × List ScriptLine) (words : List Word) → IsWithin a → IsScriptItem n a words b → IsWithin b
item_is_within n (Nothing, lines) b words h item = subst IsWithin (sym item.2) (count_of_word most_seats item.1.word item.0 item.1.number, h)
item_is_within n (Seats seats, lines) b words h item =
    subst IsWithin (sym item.2) (h.0, count_of_word most_cells item.1.word item.0 item.1.number, subst (All (λ event. IsCount seats event.seat)) (sym h.1) (All-nil (λ event. IsCount seats event.seat)))
item_is_within n (Whole seats cells, lines) b words h item =
    let event = item.1 in
    let seat = count_of_word seats event.word event.seat event.number in
    let all = All-push (λ event. IsCount seats event.seat) lines (record { line = n; seat = event.seat; act = event.act }) h.2 seat in
    subst IsWithin (sym item.2) (h.0, h.1, subst (All (λ event. IsCount seats event.seat)) (sym event.makes) all)

line_is_within : (n : ℕ) (a b : Header × List ScriptLine) (words : List Word) (skipped : Bool) → IsWithin a → MatchBool skipped (b ≡ a) (IsScriptItem n a words b) → IsWithin b
line_is_within n a b words true h same = subst IsWithin (sym same) h
line_is_within n a b words false h item = item_is_within n a b words h item

lines_are_within : (n : ℕ) (a b : Header × List ScriptLine) (lines : List (List ℕ)) → IsWithin a → AreLines IsScriptItem n a lines b → IsWithin b
lines_are_within n a b [] h r = subst IsWithin (sym r) h
lines_are_within n a b (line ∷ lines) h r = lines_are_within (n + 1) r.0 b lines (line_is_within n a r.0 (words_of line) (is_skipped (words_of line)) h r.1.means) r.2

pub script_is_within : (text : List ℕ) (script : ScriptOf) → script_text text ≡ Ok script → IsWithinLimits script
script_is_within text script e =
    let whole = lines_are_within 1 (Nothing, []) (Whole script.seats script.cells, script.lines) (lines_of text) refl ((script_texts_are_those text script).0 e) in
    record { seats = whole.0; cells = whole.1; events = whole.2 }

abbrev read : Header × List ScriptLine → Result (Header × List ScriptLine) (ℕ × TextKind)
read made = Ok made

-- a text whose lines made the whole header
pub read_is_within : (text : List ℕ) (none : List ScriptLine) (header : Header) (lines : List ScriptLine) (seats cells : ℕ) → none ≡ [] → header ≡ Whole seats cells → after_lines script_item 1 (Nothing, none) (lines_of text) ≡ Ok (header, lines) → IsWithinLimits (record { seats = seats; cells = cells; lines = lines })
unfolding script_text
read_is_within text none header lines seats cells empty whole read_so =
    let ended : after_lines script_item 1 (Nothing, []) (lines_of text) ≡ read (Whole seats cells, lines) =
    ap (λ (es : List ScriptLine). after_lines script_item 1 (Nothing, es) (lines_of text)) (sym empty) ∙ (read_so ∙ ap (λ (h : Header). read (h, lines)) whole) in
    script_is_within text (record { seats = seats; cells = cells; lines = lines }) (ap (λ (r : Result (Header × List ScriptLine) (ℕ × TextKind)). r >>= λ script. with_header (length (lines_of text) + 1) script) ended)
