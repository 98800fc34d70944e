-- The forms of lines: what stands at each place.
use Rattle.std.specs.Prelude.{ℕ, ◌==◌, nat_lt, not, Bool, true, false, List, [], ◌∷◌, length, codes, is_some, is_ok, bytes_eq, zip, Option, None, Some, ◌||◌}
use Rattle.std.specs.List.{list_any}
use Rattle.std.specs.Map.{lookup}
use Rattle.std.specs.Option.{option_map, option_map_or}
use Rattle.tg_names.specs.Names.{name_of}
use Rattle.tg_names.specs.Sets.{is_empty_set}
use Rattle.tg_names.specs.Letters.{set_of_letters}
use Rattle.tg_graph.specs.Limits.{most_cells, most_seats}
use Rattle.tg_words.specs.declared.versions.Version.{Version}
use Rattle.tg_text.specs.declared.script_text.Header.{Header}
use Rattle.tg_text.specs.declared.script_text.Header.TheVariants.{Nothing, Seats, Whole}
use Rattle.tg_words.specs.Words.{Word, number_of, right_of}
use Rattle.tg_words.specs.Versions.{has_letters, last_version, version_of}

-- a word that says what the line is, a number from 1 to a limit, a name, a set of rights, a set that is not empty in letters of a version, or one right
pub data Place : Type 0 where
  AKeyword : Place
  ANumber : ℕ → Place
  AName : Place
  ASet : Place
  ALabel : Version → Place
  ARight : Place

abbrev pub Form : Type 0
Form = List Place

-- the line of a version, which stands before all others
abbrev pub version_forms : Option Version → List (Word × Form)
version_forms None = (codes "version", AKeyword ∷ ANumber last_version ∷ []) ∷ []
version_forms (Some version) = []

-- the lines of a graph, by their first word, after those that began with this version
abbrev pub graph_forms : Option Version → List (Word × Form)
graph_forms begun =
    (codes "vertex", AKeyword ∷ AName ∷ [])
    ∷ (codes "edge", AKeyword ∷ AName ∷ AName ∷ ALabel (version_of begun) ∷ [])
    ∷ version_forms begun

-- the lines of rules, by their first word
abbrev pub rule_forms : List (Word × Form)
rule_forms =
    (codes "take", AKeyword ∷ AName ∷ AName ∷ AName ∷ ASet ∷ [])
    ∷ (codes "grant", AKeyword ∷ AName ∷ AName ∷ AName ∷ ASet ∷ [])
    ∷ (codes "create", AKeyword ∷ AName ∷ AName ∷ ASet ∷ [])
    ∷ (codes "remove", AKeyword ∷ AName ∷ AName ∷ ASet ∷ [])
    ∷ []

-- the acts of seats, by their first word
abbrev pub act_forms : List (Word × Form)
act_forms =
    (codes "begin", AKeyword ∷ [])
    ∷ (codes "commit", AKeyword ∷ [])
    ∷ (codes "abort", AKeyword ∷ [])
    ∷ (codes "holds", AKeyword ∷ ARight ∷ AName ∷ AName ∷ [])
    ∷ (codes "share", AKeyword ∷ ARight ∷ AName ∷ AName ∷ [])
    ∷ rule_forms

-- the form that the first word decides
abbrev pub form_in : List (Word × Form) → List Word → Option Form
form_in forms [] = None
form_in forms (word ∷ words) = lookup (bytes_eq word) forms

-- an event: a seat, and an act, whose word is the second one
abbrev pub event_form : ℕ → List Word → Option Form
event_form seats [] = None
event_form seats (seat ∷ words) = option_map (λ form. ANumber seats ∷ form) (form_in act_forms words)

-- first the seats, then the cells, and then events
abbrev pub script_form : Header → List Word → Option Form
script_form Nothing words = form_in ((codes "seats", AKeyword ∷ ANumber most_seats ∷ []) ∷ []) words
script_form (Seats seats) words = form_in ((codes "cells", AKeyword ∷ ANumber most_cells ∷ []) ∷ []) words
script_form (Whole seats cells) words = event_form seats words

-- ---- what can be wrong with the words of a form

-- the line has a form, but not so many words
abbrev pub has_other_count : Option Form → List Word → Bool
has_other_count form words = option_map_or (λ places. not (length places == length words)) form false

-- some word fails the test of its place; a place without a word does not count
abbrev pub some_word : (Place → Word → Bool) → Option Form → List Word → Bool
some_word fails form words = option_map_or (λ places. list_any (λ at. fails at.0 at.1) (zip places words)) form false

-- a word for a number is none, or it is out of its range
abbrev pub is_bad_number : Place → Word → Bool
is_bad_number (ANumber limit) word = option_map_or (λ n. nat_lt limit n) (number_of word) true
is_bad_number _ word = false

-- a word for a name is none
abbrev pub is_bad_name : Place → Word → Bool
is_bad_name AName word = not (is_ok (name_of word))
is_bad_name _ word = false

-- a word for a set or a right writes none; that of a label may not write the empty set, nor a right without a letter in the version
abbrev pub are_bad_rights : Place → Word → Bool
are_bad_rights ASet word = not (is_some (set_of_letters word))
are_bad_rights (ALabel version) word = option_map_or (λ s. is_empty_set s || not (has_letters version s)) (set_of_letters word) true
are_bad_rights ARight word = not (is_some (right_of word))
are_bad_rights _ word = false
