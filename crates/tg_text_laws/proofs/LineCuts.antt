-- The lines of a text are those that give it when they are joined.
use Rattle.std.proofs.Common.{◌≡◌, ◌≢◌, refl, sym, ◌∙◌, ap, subst, inl, inr, ℕ, ◌<◌, eqb, List, [], ◌∷◌, ◌++◌, length, arith}
use Rattle.std.specs.List.{AllByRecursion, onto_first}
use Rattle.std.proofs.lemmas.Bool.{cases_Bool, eqb-false, eqb-true, ne_eqb}
use Rattle.std.proofs.lemmas.List.{append_assoc, append-nil}
use Rattle.tg_words.specs.Lines.{lines_of}
use Rattle.tg_text.specs.WordLaws.{HasNoFeed, with_feeds, EndsWithout, AreLinesOf, LinesExactly}
use Rattle.tg_text.proofs.PlainWords.{NoFeed, line_first}

no_feeds : (line : List ℕ) → HasNoFeed line → NoFeed line
no_feeds [] h = tt
no_feeds (b ∷ bs) h = (ne_eqb b 10 h.0, no_feeds bs h.1)

-- ---- a text with these lines has no others

last_line : (line : List ℕ) → 0 < length line → NoFeed line → lines_of line ≡ line ∷ []
last_line [] l h = absurd (omega arith)
last_line (b ∷ []) l h = rw h.0 refl
last_line (b ∷ c ∷ cs) l h = rw h.0 (ap (onto_first b) (last_line (c ∷ cs) (omega arith) h.1))

lines_then : (lines : List (List ℕ)) (rest : List ℕ) → AllByRecursion HasNoFeed lines → lines_of (with_feeds lines ++ rest) ≡ lines ++ lines_of rest
lines_then [] rest h = refl
lines_then (line ∷ lines) rest h =
    let shift : (line ++ (10 ∷ []) ++ with_feeds lines) ++ rest ≡ line ++ (10 ∷ (with_feeds lines ++ rest)) = simp append_assoc in
    ap lines_of shift ∙ (line_first line (with_feeds lines ++ rest) (no_feeds line h.0) ∙ ap (λ ls. line ∷ ls) (lines_then lines rest h.1))

all_of_both : (P : List ℕ → Type 0) (xs ys : List (List ℕ)) → AllByRecursion P (xs ++ ys) → AllByRecursion P xs × AllByRecursion P ys
all_of_both P [] ys h = (tt, h)
all_of_both P (x ∷ xs) ys h = let rest = all_of_both P xs ys h.1 in ((h.0, rest.0), rest.1)

only_lines : (text : List ℕ) (lines : List (List ℕ)) → AreLinesOf text lines → lines_of text ≡ lines
only_lines text lines h =
    elim h.joined [
      | inl e ↦ ap lines_of (e ∙ sym (append-nil (with_feeds lines))) ∙ (lines_then lines [] h.no_feed ∙ append-nil lines)
      | inr e ↦ (
          let parts = all_of_both HasNoFeed e.front (e.last ∷ []) (subst (AllByRecursion HasNoFeed) e.split h.no_feed) in
          ap lines_of e.joined ∙ (lines_then e.front e.last parts.0 ∙ (ap (λ ls. e.front ++ ls) (last_line e.last e.some (no_feeds e.last parts.1.0)) ∙ sym e.split)))
    ]

-- ---- each text has lines

abbrev Lines : List ℕ → Type 0
Lines text = (lines : List (List ℕ)) × AreLinesOf text lines

with_feed : (text : List ℕ) → Lines text → Lines (10 ∷ text)
with_feed text (lines, h) = (
  [] ∷ lines,
  record {
    no_feed = (tt, h.no_feed);
    joined = elim h.joined [
      | inl e ↦ inl (ap (λ bs. 10 ∷ bs) e)
      | inr e ↦ inr (record { front = [] ∷ e.front; last = e.last; split = ap (λ ls. [] ∷ ls) e.split; some = e.some; joined = ap (λ bs. 10 ∷ bs) e.joined })
    ];
  },
)

-- one more byte in front of the first line
before_split : (b : ℕ) (text : List ℕ) (line : List ℕ) (lines front : List (List ℕ)) (last : List ℕ) → line ∷ lines ≡ front ++ last ∷ [] → 0 < length last → text ≡ with_feeds front ++ last → EndsWithout (b ∷ text) ((b ∷ line) ∷ lines)
before_split b text line lines [] last split some joined =
    record { front = []; last = b ∷ last; split = ap (onto_first b) split; some = omega arith; joined = ap (λ bs. b ∷ bs) joined }
before_split b text line lines (f ∷ front) last split some joined =
    record { front = (b ∷ f) ∷ front; last = last; split = ap (onto_first b) split; some = some; joined = ap (λ bs. b ∷ bs) joined }

no_split : (front : List (List ℕ)) (last : List ℕ) → [] ≡ front ++ last ∷ [] → ⊥
no_split [] last e = cc
no_split (f ∷ front) last e = cc

with_byte : (b : ℕ) (text : List ℕ) → b ≢ 10 → Lines text → Lines (b ∷ text)
with_byte b text other ([], h) = (
  (b ∷ []) ∷ [],
  record {
    no_feed = ((other, tt), tt);
    joined = elim h.joined [
      | inl e ↦ inr (record { front = []; last = b ∷ []; split = refl; some = omega arith; joined = ap (λ bs. b ∷ bs) e })
      | inr e ↦ absurd (no_split e.front e.last e.split)
    ];
  },
)
with_byte b text other (line ∷ lines, h) = (
  (b ∷ line) ∷ lines,
  record {
    no_feed = ((other, h.no_feed.0), h.no_feed.1);
    joined = elim h.joined [
      | inl e ↦ inl (ap (λ bs. b ∷ bs) e)
      | inr e ↦ inr (before_split b text line lines e.front e.last e.split e.some e.joined)
    ];
  },
)

each_text : (text : List ℕ) → Lines text
each_text [] = ([], record { no_feed = tt; joined = inl refl })
each_text (b ∷ bs) =
    elim (cases_Bool (eqb b 10)) [
      | inl e ↦ subst (λ c. Lines (c ∷ bs)) (sym (eqb-true b 10 e)) (with_feed bs (each_text bs))
      | inr e ↦ with_byte b bs (eqb-false b 10 e) (each_text bs)
    ]

pub lines_exactly : LinesExactly
lines_exactly text lines = (
  λ e. let found = each_text text in subst (AreLinesOf text) (sym (only_lines text found.0 found.1) ∙ e) found.1,
  only_lines text lines,
)
