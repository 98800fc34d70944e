-- Which form of a command line is nearest to words that have none.
use Rattle.std.specs.Prelude.{ℕ, Bool, ◌&&◌, ◌==◌, nat_lt, nat_le, List, [], ◌∷◌, length, find, take_while, codes, Option, None}
use Rattle.std.specs.List.{list_all, zip}
use Rattle.officer.specs.declared.forms.Form.{Form}
use Rattle.officer.specs.declared.forms.Form.TheVariants.{Check, Apply, Islands, Share, Derive, Table, Who, Reach, Verify, Cut, Run, Race}

-- the first word of a form
abbrev pub command_of : Form → List ℕ
command_of Check = codes "check"
command_of Apply = codes "apply"
command_of Islands = codes "islands"
command_of Share = codes "share"
command_of Derive = codes "derive"
command_of Table = codes "table"
command_of Who = codes "who"
command_of Reach = codes "reach"
command_of Verify = codes "verify"
command_of Cut = codes "cut"
command_of Run = codes "run"
command_of Race = codes "race"

-- the forms in their order
abbrev pub forms : List Form
forms = Check ∷ Apply ∷ Islands ∷ Share ∷ Derive ∷ Table ∷ Who ∷ Reach ∷ Verify ∷ Cut ∷ Run ∷ Race ∷ []

-- how many bytes two words have in common at their beginnings
abbrev pub common : List ℕ → List ℕ → ℕ
common word other = length (take_while (λ pair. pair.0 == pair.1) (zip word other))

-- how many a word and the command of a form have: so long the word begins like the form
abbrev pub begins : List ℕ → Form → ℕ
begins word form = common word (command_of form)

-- the word begins like none of the forms for longer
abbrev pub is_longest : List Form → List ℕ → ℕ → Bool
is_longest forms word size = list_all (λ form. nat_le (begins word form) size) forms

-- the word begins like the form, and like no other of these forms for longer
abbrev pub is_nearest : List Form → List ℕ → Form → Bool
is_nearest forms word form = nat_lt 0 (begins word form) && is_longest forms word (begins word form)

-- the first of the forms of which that holds
abbrev pub nearest_of : List Form → List ℕ → Option Form
nearest_of forms word = find (is_nearest forms word) forms

-- the form that is nearest to words, by the first of them
abbrev pub nearest_form : List (List ℕ) → Option Form
nearest_form [] = None
nearest_form (word ∷ more) = nearest_of forms word
