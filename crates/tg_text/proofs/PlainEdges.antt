-- An edge line that is written with single spaces, at the front of a text.
use Rattle.std.proofs.Common.{◌≡◌, ℕ, ◌<◌, ◌≤◌, Bool, true, false, List, [], ◌∷◌, ◌++◌, length, Option, None, Some, Ok, refl, sym, ap, subst, ◌∙◌, arith, if◌then◌else◌, bytes_eq, is_some, true≢false}
use Rattle.std.specs.Prelude.{codes}
use Rattle.std.specs.List.{AllByRecursion}
use Rattle.std.proofs.lemmas.Bool.Decides.{nat_tests}
use Rattle.std.proofs.lemmas.List.{length-append}
use Rattle.std.proofs.lemmas.Option.{none-some}
use Rattle.std.proofs.lemmas.Slice.Eq.{bytes_eq-Decides}
use Rattle.tg_names.specs.declared.right_sets.Right.{Right}
use Rattle.tg_names.specs.declared.right_sets.Rights.{Rights}
use Rattle.tg_names.specs.Names.{Name, IsName}
use Rattle.tg_graph.specs.Graphs.{ProtectionGraph}
use Rattle.tg_names.specs.Sets.{member, nothing, right_of_letter}
use Rattle.tg_names.specs.Letters.{set_of_letters, with_letters, with_new_right, with_right}
use Rattle.tg_names.proofs.Letters.{none-letters}
use Rattle.tg_words.specs.declared.faults.TextKind.TheVariants.{BadRights}
use Rattle.tg_words.specs.declared.versions.Version.{Version}
use Rattle.tg_text.specs.GraphText.{edge_item, graph_item}
use Rattle.tg_words.specs.Versions.{edge_rights_at}
use Rattle.tg_words.specs.Limits.{most_line_bytes}
use Rattle.tg_words.specs.Lines.{lines_of}
use Rattle.tg_words.specs.Reading.{◌>>=◌, MakesFirst}
use Rattle.tg_words.specs.Spelling.{spaced, line_of}
use Rattle.tg_words.specs.Words.{Word, name_at, rights_at, value_or}
use Rattle.tg_text.proofs.Steps.{bind_ok}
use Rattle.tg_text.proofs.PlainWords.{IsPlainWord, is_plain, Plain, word_from_test, lines-spaced, line-is, name_word}

-- ---- the letters of a set are a plain word
right-plain : (b : ℕ) → is_some (right_of_letter b) ≡ true → is_plain b ≡ true
right-plain b e = grind (arith, nat_tests)

letters-plain : (s t : Rights) (bs : List ℕ) → with_letters (Some s) bs ≡ Some t → Plain bs
letters-plain s t [] e = tt
letters-plain s t (b ∷ bs) e = by (right_of_letter b) refl e (λ u. letters-plain u t bs)
  where
    further : (u : Rights) (taken : Bool) → with_letters (if taken then None else Some u) bs ≡ Some t → (with_letters (Some u) bs ≡ Some t → Plain bs) → Plain bs
    further u true k rest = absurd (none-some t (sym (none-letters bs) ∙ k))
    further u false k rest = rest k

    by : (o : Option Right) → right_of_letter b ≡ o → with_letters (with_new_right s o) bs ≡ Some t → ((u : Rights) → with_letters (Some u) bs ≡ Some t → Plain bs) → Plain (b ∷ bs)
    by None q h rest = absurd (none-some t (sym (none-letters bs) ∙ h))
    by (Some right) q h rest = (right-plain b (ap is_some q), further (with_right s right) (member s right) h (rest (with_right s right)))

some_bytes : (bs : List ℕ) → bytes_eq bs [] ≡ false → 0 < length bs
some_bytes [] e = absurd (true≢false e)
some_bytes (b ∷ bs) e = omega arith

pub set_word : (bs : List ℕ) (t : Rights) → set_of_letters bs ≡ Some t → IsPlainWord bs
set_word bs t e = by (bytes_eq bs (45 ∷ [])) (bytes_eq bs []) refl refl e
  where
    by : (dash none : Bool) → bytes_eq bs (45 ∷ []) ≡ dash → bytes_eq bs [] ≡ none → (if dash then Some nothing else (if none then None else with_letters (Some nothing) bs)) ≡ Some t → IsPlainWord bs
    by true none p q h = subst IsPlainWord (sym ((bytes_eq-Decides bs (45 ∷ [])).0 p)) (word_from_test (45 ∷ []) refl refl)
    by false true p q h = absurd (none-some t h)
    by false false p q h = record { some = some_bytes bs q; plain = letters-plain nothing t bs h }

letters_word : (version : Version) (letters : Word) (s : Rights) → edge_rights_at version letters ≡ Ok s → IsPlainWord letters
letters_word version letters s e = by (set_of_letters letters) refl (bind_ok (rights_at letters) _ s e).1
  where
    by : (o : Option Rights) → set_of_letters letters ≡ o → {t : Rights} → value_or BadRights o ≡ Ok t → IsPlainWord letters
    by None q h = cc
    by (Some t) q h = set_word letters t q

label_word : (version : Version) (g h : ProtectionGraph) (x y : Name) (letters : Word) → edge_item version g (x ∷ y ∷ letters ∷ []) ≡ Ok h → IsPlainWord letters
unfolding edge_item
label_word version g h x y letters e =
    let one = bind_ok (name_at x) _ h e in
    let two = bind_ok (name_at y) _ h one.2 in
    let three = bind_ok (edge_rights_at version letters) _ h two.2 in
    letters_word version letters three.0 three.1

module _ (version : Version) (g h : ProtectionGraph) (x y : Name) (letters : Word) (n : IsName x) (m : IsName y) (few : length letters ≤ 7) (made : edge_item version g (x ∷ y ∷ letters ∷ []) ≡ Ok h) where
  abbrev words : List Word
  words = codes "edge" ∷ x ∷ y ∷ letters ∷ []

  plain_words : AllByRecursion IsPlainWord words
  plain_words = (word_from_test (codes "edge") refl refl, (name_word x n, (name_word y m, (label_word version g h x y letters made, tt))))

  length-line : length (spaced words) ≤ most_line_bytes
  length-line = omega (arith, n.within, m.within, few, length-append x (32 ∷ (y ++ 32 ∷ letters)), length-append y (32 ∷ letters))

  item-made : graph_item (Some version, g) words ≡ Ok (Some version, h)
  unfolding graph_item
  item-made = ap (λ r. r >>= λ g. Ok (Some version, g)) made

  pub plain_edge_first : (text rest : List ℕ) → text ≡ line_of words ++ rest → MakesFirst graph_item (Some version, g) text (Some version, h) rest
  plain_edge_first text rest e = record {
    line = spaced words;
    cut = ap lines_of e ∙ lines-spaced words rest plain_words;
    shorter = omega (arith, ap length e, length-append (line_of words) rest, length-append (spaced words) (10 ∷ []));
    made = line-is graph_item (Some version, g) words plain_words length-line refl ∙ item-made;
  }
