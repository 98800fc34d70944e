-- Rules and replies as text.
use Rattle.std.specs.Prelude.{ℕ, List, [], ◌∷◌, ◌++◌, codes}
use Rattle.std.specs.List.{join_with_byte}
use Rattle.tg_names.specs.declared.right_sets.Rights.{Rights}
use Rattle.tg_graph.specs.declared.rules.Rule.{Rule}
use Rattle.tg_graph.specs.declared.rules.Rule.TheVariants.{Take, Grant, Create, Remove}
use Rattle.tg_graph.specs.declared.rules.Refusal.{Refusal}
use Rattle.tg_graph.specs.declared.rules.Refusal.TheVariants.{Unknown, Taken, Empty, NoTake, NoGrant, NotHeld, Full}
use Rattle.tg_graph.specs.declared.session.Reply.{Reply}
use Rattle.tg_graph.specs.declared.session.Reply.TheVariants.{Done, Yes, No, Refused}
use Rattle.tg_names.specs.Letters.{letters_of}
use Rattle.tg_words.specs.Words.{Word}

-- the words with one space between each two
abbrev pub spaced : List (List ℕ) → List ℕ
spaced words = join_with_byte 32 words

-- the words with single spaces, and a line feed
abbrev pub line_of : List (List ℕ) → List ℕ
line_of words = spaced words ++ 10 ∷ []

-- the letters, and `-` where there is none
abbrev pub or_dash : List ℕ → List ℕ
or_dash [] = codes "-"
or_dash (b ∷ bs) = b ∷ bs

-- a set of rights by its letters in the order t g r w e a d
abbrev pub rights_text : Rights → List ℕ
rights_text s = or_dash (letters_of s)

abbrev pub rule_words : Rule → List (List ℕ)
rule_words (Take x y z s) = codes "take" ∷ x ∷ y ∷ z ∷ rights_text s ∷ []
rule_words (Grant x y z s) = codes "grant" ∷ x ∷ y ∷ z ∷ rights_text s ∷ []
rule_words (Create x n s) = codes "create" ∷ x ∷ n ∷ rights_text s ∷ []
rule_words (Remove x y s) = codes "remove" ∷ x ∷ y ∷ rights_text s ∷ []

-- the words of a rule, whose rights are written in these letters
abbrev pub words_with : Rule → Word → List Word
words_with (Take x y z s) letters = codes "take" ∷ x ∷ y ∷ z ∷ letters ∷ []
words_with (Grant x y z s) letters = codes "grant" ∷ x ∷ y ∷ z ∷ letters ∷ []
words_with (Create x n s) letters = codes "create" ∷ x ∷ n ∷ letters ∷ []
words_with (Remove x y s) letters = codes "remove" ∷ x ∷ y ∷ letters ∷ []

-- the line of a rule, without its line feed
abbrev pub rule_text : Rule → List ℕ
rule_text rule = spaced (rule_words rule)

abbrev pub refusal_words : Refusal → List (List ℕ)
refusal_words (Unknown n) = codes "unknown" ∷ n ∷ []
refusal_words (Taken n) = codes "taken" ∷ n ∷ []
refusal_words Empty = codes "empty" ∷ []
refusal_words NoTake = codes "no-take" ∷ []
refusal_words NoGrant = codes "no-grant" ∷ []
refusal_words (NotHeld s) = codes "not-held" ∷ rights_text s ∷ []
refusal_words Full = codes "full" ∷ []

abbrev pub reply_words : Reply → List (List ℕ)
reply_words Done = codes "done" ∷ []
reply_words Yes = codes "yes" ∷ []
reply_words No = codes "no" ∷ []
reply_words (Refused refusal) = codes "refused" ∷ refusal_words refusal

abbrev pub reply_text : Reply → List ℕ
reply_text reply = spaced (reply_words reply)
