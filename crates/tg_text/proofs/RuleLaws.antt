-- The rules that are read are those that the words spell.
use Rattle.std.proofs.Common.{◌≡◌, refl, sym, ◌∙◌, ap, subst, inl, inr, ℕ, ◌<◌, true, false, cond, leb, List, [], ◌∷◌, ◌++◌, length, Result, Ok, Err}
use Rattle.std.specs.Prelude.{codes}
use Rattle.std.proofs.lemmas.Bool.{leb-false, lt-leb}
use Rattle.tg_names.specs.declared.right_sets.Rights.{Rights}
use Rattle.tg_graph.specs.declared.rules.Rule.{Rule}
use Rattle.tg_graph.specs.declared.rules.Rule.TheVariants.{Take, Grant, Create, Remove}
use Rattle.tg_names.specs.Letters.{set_of_letters}
use Rattle.tg_names.specs.Names.{Name}
use Rattle.tg_words.specs.declared.faults.TextKind.{TextKind}
use Rattle.tg_words.specs.declared.faults.TextKind.TheVariants.{BadWord, BadRights, TooMany}
use Rattle.tg_words.specs.Words.{Word, is_word, name_at, rights_at, three_words, four_words}
use Rattle.tg_words.specs.Reading.{◌>>=◌, with_item}
use Rattle.tg_text.specs.RuleText.{two_names, three_names, rule_of_words}
use Rattle.tg_text.specs.RuleGrammar.{SpellsTwoNames, SpellsThreeNames, Spells, SpellsRule}
use Rattle.tg_text.proofs.Steps.{ok_is, bind_ok, else_ok, chosen, value_ok, word_is, name_ok, name_from, three_words_are, four_words_are}

abbrev Two : Type 0
Two = Name × Name × Rights

abbrev Three : Type 0
Three = Name × Name × Name × Rights

two_ok : (words : List Word) (a : Two) → two_names words ≡ Ok a → SpellsTwoNames words a.0 a.1 a.2
unfolding two_names
two_ok words a e =
    let b = bind_ok (three_words words) (λ w. name_at w.0 >>= λ x. name_at w.1 >>= λ y. rights_at w.2 >>= λ s. Ok (x, y, s)) a e in
    let w = b.0 in
    let bx = bind_ok (name_at w.0) (λ x. name_at w.1 >>= λ y. rights_at w.2 >>= λ s. Ok (x, y, s)) a b.2 in
    let by_ = bind_ok (name_at w.1) (λ y. rights_at w.2 >>= λ s. Ok (bx.0, y, s)) a bx.2 in
    let bs = bind_ok (rights_at w.2) (λ s. Ok (bx.0, by_.0, s)) a by_.2 in
    let x = name_ok w.0 bx.0 bx.1 in
    let y = name_ok w.1 by_.0 by_.1 in
    let are : words ≡ bx.0 ∷ by_.0 ∷ w.2 ∷ [] = three_words_are words w b.1 ∙ (ap (λ (v : Word). v ∷ w.1 ∷ w.2 ∷ []) x.0 ∙ ap (λ (v : Word). bx.0 ∷ v ∷ w.2 ∷ []) y.0) in
    let here : SpellsTwoNames words bx.0 by_.0 bs.0 = record { letters = w.2; spelled = are; x_is_name = x.1; y_is_name = y.1; rights = value_ok BadRights (set_of_letters w.2) bs.0 bs.1 } in
    subst (λ (q : Two). SpellsTwoNames words q.0 q.1 q.2) (ok_is (bx.0, by_.0, bs.0) a bs.2) here

three_ok : (words : List Word) (a : Three) → three_names words ≡ Ok a → SpellsThreeNames words a.0 a.1 a.2 a.3
unfolding three_names
three_ok words a e =
    let b = bind_ok (four_words words) (λ w. name_at w.0 >>= λ x. name_at w.1 >>= λ y. name_at w.2 >>= λ z. rights_at w.3 >>= λ s. Ok (x, y, z, s)) a e in
    let w = b.0 in
    let bx = bind_ok (name_at w.0) (λ x. name_at w.1 >>= λ y. name_at w.2 >>= λ z. rights_at w.3 >>= λ s. Ok (x, y, z, s)) a b.2 in
    let by_ = bind_ok (name_at w.1) (λ y. name_at w.2 >>= λ z. rights_at w.3 >>= λ s. Ok (bx.0, y, z, s)) a bx.2 in
    let bz = bind_ok (name_at w.2) (λ z. rights_at w.3 >>= λ s. Ok (bx.0, by_.0, z, s)) a by_.2 in
    let bs = bind_ok (rights_at w.3) (λ s. Ok (bx.0, by_.0, bz.0, s)) a bz.2 in
    let x = name_ok w.0 bx.0 bx.1 in
    let y = name_ok w.1 by_.0 by_.1 in
    let z = name_ok w.2 bz.0 bz.1 in
    let are : words ≡ bx.0 ∷ by_.0 ∷ bz.0 ∷ w.3 ∷ [] = four_words_are words w b.1 ∙ (ap (λ (v : Word). v ∷ w.1 ∷ w.2 ∷ w.3 ∷ []) x.0 ∙ (ap (λ (v : Word). bx.0 ∷ v ∷ w.2 ∷ w.3 ∷ []) y.0 ∙ ap (λ (v : Word). bx.0 ∷ by_.0 ∷ v ∷ w.3 ∷ []) z.0)) in
    let here : SpellsThreeNames words bx.0 by_.0 bz.0 bs.0 = record { letters = w.3; spelled = are; x_is_name = x.1; y_is_name = y.1; z_is_name = z.1; rights = value_ok BadRights (set_of_letters w.3) bs.0 bs.1 } in
    subst (λ (q : Three). SpellsThreeNames words q.0 q.1 q.2 q.3) (ok_is (bx.0, by_.0, bz.0, bs.0) a bs.2) here

two_from : (words : List Word) (x y : Name) (s : Rights) → SpellsTwoNames words x y s → two_names words ≡ Ok (x, y, s)
unfolding two_names
two_from words x y s h =
    let rights = h.rights in
    let read : two_names (x ∷ y ∷ h.letters ∷ []) ≡ Ok (x, y, s) = rw (name_from x h.x_is_name, name_from y h.y_is_name, rights) refl in
    ap two_names h.spelled ∙ read

three_from : (words : List Word) (x y z : Name) (s : Rights) → SpellsThreeNames words x y z s → three_names words ≡ Ok (x, y, z, s)
unfolding three_names
three_from words x y z s h =
    let rights = h.rights in
    let read : three_names (x ∷ y ∷ z ∷ h.letters ∷ []) ≡ Ok (x, y, z, s) = rw (name_from x h.x_is_name, name_from y h.y_is_name, name_from z h.z_is_name, rights) refl in
    ap three_names h.spelled ∙ read

abbrev takes : List Word → Result Rule TextKind
takes words = three_names words >>= λ a. Ok (Take a.0 a.1 a.2 a.3)

abbrev grants : List Word → Result Rule TextKind
grants words = three_names words >>= λ a. Ok (Grant a.0 a.1 a.2 a.3)

abbrev creates : List Word → Result Rule TextKind
creates words = two_names words >>= λ a. Ok (Create a.0 a.1 a.2)

abbrev removes : List Word → Result Rule TextKind
removes words = two_names words >>= λ a. Ok (Remove a.0 a.1 a.2)

abbrev not_create : Word → List Word → Result Rule TextKind
not_create word words = cond (is_word word (codes "remove")) (removes words) (Err BadWord)

abbrev not_grant : Word → List Word → Result Rule TextKind
not_grant word words = cond (is_word word (codes "create")) (creates words) (not_create word words)

abbrev not_take : Word → List Word → Result Rule TextKind
not_take word words = cond (is_word word (codes "grant")) (grants words) (not_grant word words)

abbrev failed : Result Rule TextKind
failed = Err BadWord

-- the rest after a keyword
pub keyword : (P : List Word → Type 0) (word : Word) (words : List Word) (name : Word) → is_word word name ≡ true → P words → Spells name P (word ∷ words)
keyword P word words name e h = record { rest = words; spelled = ap (λ (w : Word). w ∷ words) (word_is word name e); means = h }

pub rule_ok : (words : List Word) (rule : Rule) → rule_of_words words ≡ Ok rule → SpellsRule words rule
unfolding rule_of_words
rule_ok [] rule e = absurd cc
rule_ok (word ∷ words) rule e =
    elim (chosen (is_word word (codes "take")) (takes words) (not_take word words) (Ok rule) e) [
      | inl p ↦ (
          let b = bind_ok (three_names words) (λ a. Ok (Take a.0 a.1 a.2 a.3)) rule p.1 in
          subst (SpellsRule (word ∷ words)) (ok_is (Take b.0.0 b.0.1 b.0.2 b.0.3) rule b.2) (keyword (λ rest. SpellsThreeNames rest b.0.0 b.0.1 b.0.2 b.0.3) word words (codes "take") p.0 (three_ok words b.0 b.1)))
      | inr p ↦ elim (chosen (is_word word (codes "grant")) (grants words) (not_grant word words) (Ok rule) p.1) [
        | inl q ↦ (
            let b = bind_ok (three_names words) (λ a. Ok (Grant a.0 a.1 a.2 a.3)) rule q.1 in
            subst (SpellsRule (word ∷ words)) (ok_is (Grant b.0.0 b.0.1 b.0.2 b.0.3) rule b.2) (keyword (λ rest. SpellsThreeNames rest b.0.0 b.0.1 b.0.2 b.0.3) word words (codes "grant") q.0 (three_ok words b.0 b.1)))
        | inr q ↦ elim (chosen (is_word word (codes "create")) (creates words) (not_create word words) (Ok rule) q.1) [
          | inl r ↦ (
              let b = bind_ok (two_names words) (λ a. Ok (Create a.0 a.1 a.2)) rule r.1 in
              subst (SpellsRule (word ∷ words)) (ok_is (Create b.0.0 b.0.1 b.0.2) rule b.2) (keyword (λ rest. SpellsTwoNames rest b.0.0 b.0.1 b.0.2) word words (codes "create") r.0 (two_ok words b.0 b.1)))
          | inr r ↦ elim (chosen (is_word word (codes "remove")) (removes words) failed (Ok rule) r.1) [
            | inl s ↦ (
                let b = bind_ok (two_names words) (λ a. Ok (Remove a.0 a.1 a.2)) rule s.1 in
                subst (SpellsRule (word ∷ words)) (ok_is (Remove b.0.0 b.0.1 b.0.2) rule b.2) (keyword (λ rest. SpellsTwoNames rest b.0.0 b.0.1 b.0.2) word words (codes "remove") s.0 (two_ok words b.0 b.1)))
            | inr s ↦ absurd (let other : failed ≡ Ok rule = s.1 in cc)
          ]
        ]
      ]
    ]

pub rule_from : (words : List Word) (rule : Rule) → SpellsRule words rule → rule_of_words words ≡ Ok rule
unfolding rule_of_words
rule_from words (Take x y z s) h =
    let read : rule_of_words (codes "take" ∷ h.rest) ≡ Ok (Take x y z s) = rw (three_from h.rest x y z s h.means) refl in
    ap rule_of_words h.spelled ∙ read
rule_from words (Grant x y z s) h =
    let read : rule_of_words (codes "grant" ∷ h.rest) ≡ Ok (Grant x y z s) = rw (three_from h.rest x y z s h.means) refl in
    ap rule_of_words h.spelled ∙ read
rule_from words (Create x n s) h =
    let read : rule_of_words (codes "create" ∷ h.rest) ≡ Ok (Create x n s) = rw (two_from h.rest x n s h.means) refl in
    ap rule_of_words h.spelled ∙ read
rule_from words (Remove x y s) h =
    let read : rule_of_words (codes "remove" ∷ h.rest) ≡ Ok (Remove x y s) = rw (two_from h.rest x y s h.means) refl in
    ap rule_of_words h.spelled ∙ read

-- an item that was added
pub item_ok : {A : Type 0} (most : ℕ) (items : List A) (read : Result A TextKind) (more : List A) → with_item most items read ≡ Ok more → (x : A) × (read ≡ Ok x) × (length items < most) × (more ≡ items ++ x ∷ [])
item_ok most items read more e =
    let b = bind_ok read (λ x. cond (leb most (length items)) (Err TooMany) (Ok (items ++ x ∷ []))) more e in
    let g = else_ok (leb most (length items)) TooMany (Ok (items ++ b.0 ∷ [])) more b.2 in
    (b.0, b.1, leb-false most (length items) g.0, sym (ok_is (items ++ b.0 ∷ []) more g.1))

pub item_from : {A : Type 0} (most : ℕ) (items : List A) (read : Result A TextKind) (x : A) (more : List A) → read ≡ Ok x → length items < most → more ≡ items ++ x ∷ [] → with_item most items read ≡ Ok more
item_from {A} most items read x more e room makes =
    let full : leb most (length items) ≡ false = lt-leb most (length items) room in
    let added : with_item most items (Ok x) ≡ Ok (items ++ x ∷ []) = rw full refl in
    ap (with_item most items) e ∙ (added ∙ ap Ok (sym makes))
