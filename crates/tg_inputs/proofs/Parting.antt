-- Lines put together to a text, and the line that parts two texts.
use Rattle.std.proofs.Common.{◌≡◌, ℕ, suc, ◌+◌, ◌-◌, ◌<◌, ◌≤◌, Bool, true, false, cond, eqb, List, [], ◌∷◌, ◌++◌, take, drop, length, refl, sym, ◌∙◌, ap, append_assoc, arith, length-append}
use Rattle.std.specs.List.{onto_first, position_or_len, before_first, after_first}
use Rattle.std.proofs.lemmas.Bool.{false≢true}
use Rattle.std.proofs.lemmas.List.{append-nil, drop_all}
use Rattle.std.proofs.Math.Seq.{take-append_seam, drop-append-add, take-length}
use Rattle.tg_words.specs.Lines.{lines_of}
use Rattle.tg_inputs.specs.Parts.{text_of, parts_texts, graph_part, rules_part}

-- no line feed is among the bytes
abbrev pub is_line : List ℕ → Bool
is_line [] = true
is_line (b ∷ bs) = cond (eqb b 10) false (is_line bs)

abbrev pub are_lines : List (List ℕ) → Bool
are_lines [] = true
are_lines (l ∷ ls) = cond (is_line l) (are_lines ls) false

both : (t u : Bool) → cond t u false ≡ true → (t ≡ true) × (u ≡ true)
both true u h = (refl, h)
both false u h = absurd (false≢true h)

neither : (t u : Bool) → cond t false u ≡ true → (t ≡ false) × (u ≡ true)
neither true u h = absurd (false≢true h)
neither false u h = (refl, h)

line_grows : (b : ℕ) (ls : List (List ℕ)) → eqb b 10 ≡ false → are_lines ls ≡ true → are_lines (onto_first b ls) ≡ true
line_grows b [] e h = rw e refl
line_grows b (l ∷ ls) e h = rw e h

one_byte_more : (b : ℕ) (ls : List (List ℕ)) (t : Bool) → eqb b 10 ≡ t → are_lines ls ≡ true → are_lines (cond t ([] ∷ ls) (onto_first b ls)) ≡ true
one_byte_more b ls true e h = h
one_byte_more b ls false e h = line_grows b ls e h

-- the lines of a text are lines
pub lines_are_lines : (bs : List ℕ) → are_lines (lines_of bs) ≡ true
lines_are_lines [] = refl
lines_are_lines (b ∷ bs) = one_byte_more b (lines_of bs) (eqb b 10) refl (lines_are_lines bs)

-- a line with its line feed comes first
line_first : (line rest : List ℕ) → is_line line ≡ true → lines_of (line ++ 10 ∷ rest) ≡ line ∷ lines_of rest
line_first [] rest h = refl
line_first (b ∷ bs) rest h =
    let n = neither (eqb b 10) (is_line bs) h in
    let e : eqb b 10 ≡ false = n.0 in
    rw e (ap (onto_first b) (line_first bs rest n.1))

-- lines put together are these lines
pub lines_again : (ls : List (List ℕ)) (rest : List ℕ) → are_lines ls ≡ true → lines_of (text_of ls ++ rest) ≡ ls ++ lines_of rest
lines_again [] rest h = refl
lines_again (l ∷ ls) rest h =
    let n = both (is_line l) (are_lines ls) h in
    ap lines_of (ap (λ (t : List ℕ). t ++ rest) (append_assoc l (10 ∷ []) (text_of ls)) ∙ append_assoc l (10 ∷ text_of ls) rest)
    ∙ (line_first l (text_of ls ++ rest) n.0 ∙ ap (λ (more : List (List ℕ)). l ∷ more) (lines_again ls rest n.1))

pub lines_once : (ls : List (List ℕ)) → are_lines ls ≡ true → lines_of (text_of ls) ≡ ls
lines_once ls h = sym (ap lines_of (append-nil (text_of ls))) ∙ (lines_again ls [] h ∙ append-nil ls)

-- no line parts two texts
abbrev pub none_parts : List (List ℕ) → Bool
none_parts [] = true
none_parts (l ∷ ls) = cond (parts_texts l) false (none_parts ls)

none_more : (seen : List (List ℕ)) (line : List ℕ) → none_parts seen ≡ true → parts_texts line ≡ false → none_parts (seen ++ line ∷ []) ≡ true
none_more [] line h e = rw e refl
none_more (s ∷ ss) line h e =
    let n = neither (parts_texts s) (none_parts ss) h in
    let here : parts_texts s ≡ false = n.0 in
    rw here (none_more ss line n.1 e)

place_on : (s : List ℕ) (ls : List (List ℕ)) → parts_texts s ≡ false → position_or_len parts_texts (s ∷ ls) ≡ suc (position_or_len parts_texts ls)
place_on s ls e = rw e (omega arith)

place_of : (seen : List (List ℕ)) (line : List ℕ) (more : List (List ℕ)) → none_parts seen ≡ true → parts_texts line ≡ true → position_or_len parts_texts (seen ++ line ∷ more) ≡ length seen
place_of [] line more h e = rw e refl
place_of (s ∷ ss) line more h e =
    let n = neither (parts_texts s) (none_parts ss) h in
    place_on s (ss ++ line ∷ more) n.0 ∙ ap suc (place_of ss line more n.1 e)

no_place : (seen : List (List ℕ)) → none_parts seen ≡ true → position_or_len parts_texts seen ≡ length seen
no_place [] h = refl
no_place (s ∷ ss) h =
    let n = neither (parts_texts s) (none_parts ss) h in
    place_on s ss n.0 ∙ ap suc (no_place ss n.1)

before_is : (seen : List (List ℕ)) (line : List ℕ) (more : List (List ℕ)) → none_parts seen ≡ true → parts_texts line ≡ true → before_first parts_texts (seen ++ line ∷ more) ≡ seen
before_is seen line more h e = ap (λ (n : ℕ). take n (seen ++ line ∷ more)) (place_of seen line more h e) ∙ take-append_seam seen (line ∷ more)

after_is : (seen : List (List ℕ)) (line : List ℕ) (more : List (List ℕ)) → none_parts seen ≡ true → parts_texts line ≡ true → after_first parts_texts (seen ++ line ∷ more) ≡ more
after_is seen line more h e = ap (λ (n : ℕ). drop (n + 1) (seen ++ line ∷ more)) (place_of seen line more h e) ∙ drop-append-add seen (line ∷ more) 1

all_before : (seen : List (List ℕ)) → none_parts seen ≡ true → before_first parts_texts seen ≡ seen
all_before seen h = ap (λ (n : ℕ). take n seen) (no_place seen h) ∙ take-length seen

none_after : (seen : List (List ℕ)) → none_parts seen ≡ true → after_first parts_texts seen ≡ []
none_after seen h = drop_all (position_or_len parts_texts seen + 1) seen (omega (arith, no_place seen h))

text_more : (seen : List (List ℕ)) (line : List ℕ) → text_of (seen ++ line ∷ []) ≡ text_of seen ++ (line ++ 10 ∷ [])
text_more [] line = append-nil (line ++ 10 ∷ [])
text_more (s ∷ ss) line = ap (λ (t : List ℕ). (s ++ 10 ∷ []) ++ t) (text_more ss line) ∙ sym (append_assoc (s ++ 10 ∷ []) (text_of ss) (line ++ 10 ∷ []))

-- the lines before the rest, none of which parts two texts
pub record IsParting (input rest : List ℕ) : Type 0 where
  pub seen : List (List ℕ)
  pub none : none_parts seen ≡ true
  pub lines : lines_of input ≡ seen ++ lines_of rest
  pub front : 0 < length rest → input ≡ text_of seen ++ rest
  pub within : length rest ≤ length input

pub at_start : (input : List ℕ) → IsParting input input
at_start input = record { seen = []; none = refl; lines = refl; front = λ _. refl; within = omega arith }

pub one_line_on : (input rest line after : List ℕ) → IsParting input rest → 0 < length rest → lines_of rest ≡ line ∷ lines_of after → (0 < length after → rest ≡ line ++ 10 ∷ after) → length after < length rest → parts_texts line ≡ false → IsParting input after
one_line_on input rest line after h some cut joined shorter e = record {
  seen = h.seen ++ line ∷ [];
  none = none_more h.seen line h.none e;
  lines = h.lines ∙ (ap (λ (ls : List (List ℕ)). h.seen ++ ls) cut ∙ sym (append_assoc h.seen (line ∷ []) (lines_of after)));
  front = λ k. h.front some ∙ (ap (λ (t : List ℕ). text_of h.seen ++ t) (joined k ∙ sym (append_assoc line (10 ∷ []) after))
      ∙ (sym (append_assoc (text_of h.seen) (line ++ 10 ∷ []) after) ∙ ap (λ (t : List ℕ). t ++ after) (sym (text_more h.seen line))));
  within = omega (arith, h.within);
}

front_is : (input rest text : List ℕ) → input ≡ text ++ rest → take (length input - length rest) input ≡ text
front_is input rest text e =
    let n : length input - length rest ≡ length text = omega (arith, ap length e, length-append text rest) in
    ap (λ (k : ℕ). take k input) n ∙ (ap (λ (t : List ℕ). take (length text) t) e ∙ take-append_seam text rest)

pub graph_before : (input rest line after : List ℕ) → IsParting input rest → 0 < length rest → lines_of rest ≡ line ∷ lines_of after → parts_texts line ≡ true → lines_of (take (length input - length rest) input) ≡ lines_of (graph_part input)
graph_before input rest line after h some cut e =
    let whole : lines_of input ≡ h.seen ++ line ∷ lines_of after = h.lines ∙ ap (λ (ls : List (List ℕ)). h.seen ++ ls) cut in
    let before : before_first parts_texts (lines_of input) ≡ h.seen = ap (λ (ls : List (List ℕ)). before_first parts_texts ls) whole ∙ before_is h.seen line (lines_of after) h.none e in
    ap lines_of (front_is input rest (text_of h.seen) (h.front some) ∙ sym (ap text_of before))

pub rules_behind : (input rest line after : List ℕ) → IsParting input rest → lines_of rest ≡ line ∷ lines_of after → parts_texts line ≡ true → lines_of after ≡ lines_of (rules_part input)
rules_behind input rest line after h cut e =
    let whole : lines_of input ≡ h.seen ++ line ∷ lines_of after = h.lines ∙ ap (λ (ls : List (List ℕ)). h.seen ++ ls) cut in
    let behind : after_first parts_texts (lines_of input) ≡ lines_of after = ap (λ (ls : List (List ℕ)). after_first parts_texts ls) whole ∙ after_is h.seen line (lines_of after) h.none e in
    sym (lines_once (lines_of after) (lines_are_lines after)) ∙ sym (ap (λ (ls : List (List ℕ)). lines_of (text_of ls)) behind)

none_in : (input rest : List ℕ) (h : IsParting input rest) → rest ≡ [] → lines_of input ≡ h.seen
none_in input rest h e = h.lines ∙ (ap (λ (t : List ℕ). h.seen ++ lines_of t) e ∙ append-nil h.seen)

pub all_is_graph : (input rest : List ℕ) → IsParting input rest → rest ≡ [] → lines_of input ≡ lines_of (graph_part input)
all_is_graph input rest h e =
    let seen = none_in input rest h e in
    let before : before_first parts_texts (lines_of input) ≡ lines_of input = ap (λ (ls : List (List ℕ)). before_first parts_texts ls) seen ∙ (all_before h.seen h.none ∙ sym seen) in
    sym (lines_once (lines_of input) (lines_are_lines input)) ∙ sym (ap (λ (ls : List (List ℕ)). lines_of (text_of ls)) before)

pub no_rules : (input rest : List ℕ) → IsParting input rest → rest ≡ [] → [] ≡ lines_of (rules_part input)
no_rules input rest h e =
    let seen = none_in input rest h e in
    let behind : after_first parts_texts (lines_of input) ≡ [] = ap (λ (ls : List (List ℕ)). after_first parts_texts ls) seen ∙ none_after h.seen h.none in
    sym (ap (λ (ls : List (List ℕ)). lines_of (text_of ls)) behind)
