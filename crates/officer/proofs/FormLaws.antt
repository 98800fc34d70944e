-- The nearest form: how long common beginnings are, the forms of commands, and the commands of calls.
use Rattle.std.proofs.Common.{◌≡◌, ℕ, zero, suc, ◌+◌, ◌≤◌, Bool, true, false, ◌&&◌, List, [], ◌∷◌, length, take, refl, sym, ◌∙◌, ap, nat_eq, arith}
use Rattle.std.specs.Prelude.{Option, None, Some, bytes_eq, if◌then◌else◌}
use Rattle.std.specs.Option.{option_map}
use Rattle.std.specs.List.{zip}
use Rattle.std.proofs.lemmas.Bool.{eqb-true, eq-eqb}
use Rattle.std.proofs.lemmas.Slice.Eq.{bytes_eq-Decides}
use Rattle.tg_inputs.specs.Calls.{CallWords, CommandWords, graph_command, text_command, texts_call, two_words_call, question, cut_command}
use Rattle.officer.specs.declared.forms.Form.{Form}
use Rattle.officer.specs.declared.forms.Form.TheVariants.{Check, Apply, Islands, Share, Derive, Table, Who, Reach, Verify, Cut, Run, Race}
use Rattle.officer.specs.Forms.{command_of, common}
use Rattle.officer.specs.FormLaws.{HasCommonBeginning, WordsHaveCommonBeginnings, OwnFormsAreNearest, HasForm, CallsHaveForms}

pub own_forms_are_nearest : OwnFormsAreNearest
own_forms_are_nearest Check more = refl
own_forms_are_nearest Apply more = refl
own_forms_are_nearest Islands more = refl
own_forms_are_nearest Share more = refl
own_forms_are_nearest Derive more = refl
own_forms_are_nearest Table more = refl
own_forms_are_nearest Who more = refl
own_forms_are_nearest Reach more = refl
own_forms_are_nearest Verify more = refl
own_forms_are_nearest Cut more = refl
own_forms_are_nearest Run more = refl
own_forms_are_nearest Race more = refl

-- nothing is found where nothing is
none_some : {A P : Type 0} (y : A) → ◌≡◌ {A = Option A} None (Some y) → P
none_some y e = cc

-- what is mapped was there
mapped : {A B P : Type 0} (f : A → B) (o : Option A) (y : B) → option_map f o ≡ Some y → ((x : A) → o ≡ Some x → P) → P
mapped f None y e k = none_some y e
mapped f (Some x) y e k = k x refl

-- a test of the name chose the form, or the rest did
chosen : {A : Type 0} (name : List ℕ) (form : Form) (test more : Bool) (x rest : Option A) (y : A) → bytes_eq name (command_of form) ≡ test → (if test && more then x else rest) ≡ Some y → (rest ≡ Some y → HasForm name) → HasForm name
chosen name form true more x rest y e h k = record { form = form; is = (bytes_eq-Decides name (command_of form)).0 e }
chosen name form false more x rest y e h k = k h

-- the same, where the test is all
picked : {A : Type 0} (name : List ℕ) (form : Form) (test : Bool) (x rest : Option A) (y : A) → bytes_eq name (command_of form) ≡ test → (if test then x else rest) ≡ Some y → (rest ≡ Some y → HasForm name) → HasForm name
picked name form true x rest y e h k = record { form = form; is = (bytes_eq-Decides name (command_of form)).0 e }
picked name form false x rest y e h k = k h

graph_form : (name : List ℕ) (c : CommandWords) → graph_command name ≡ Some c → HasForm name
graph_form name c h = picked name Check _ _ _ c refl h (λ h. picked name Islands _ _ _ c refl h (λ n. none_some c n))

text_form : (name : List ℕ) (c : CommandWords) → text_command name ≡ Some c → HasForm name
text_form name c h = picked name Apply _ _ _ c refl h (λ h. picked name Run _ _ _ c refl h (λ h. picked name Verify _ _ _ c refl h (λ n. none_some c n)))

texts_form : (name graph second : List ℕ) (call : CallWords) → texts_call name graph second ≡ Some call → HasForm name
texts_form name graph second call h = picked name Race _ _ _ call refl h (λ h. picked name Table _ _ _ call refl h (λ h. picked name Reach _ _ _ call refl h (λ h. mapped _ (text_command name) call h (text_form name))))

two_words_form : (name graph second third : List ℕ) (call : CallWords) → two_words_call name graph second third ≡ Some call → HasForm name
two_words_form name graph second third call h = picked name Who _ _ _ call refl h (λ h. chosen name Verify _ _ _ _ call refl h (λ n. none_some call n))

question_form : (name right x y : List ℕ) (c : CommandWords) → question name right x y ≡ Some c → HasForm name
question_form name right x y c h = picked name Share _ _ _ c refl h (λ h. picked name Derive _ _ _ c refl h (λ h. picked name Table _ _ _ c refl h (λ h. picked name Cut _ _ _ c refl h (λ n. none_some c n))))

cut_form : (name right x y : List ℕ) (kept : List (List ℕ)) (c : CommandWords) → cut_command name right x y kept ≡ Some c → HasForm name
cut_form name right x y kept c h = chosen name Cut _ _ _ _ c refl h (λ n. none_some c n)

pub calls_have_forms : CallsHaveForms
calls_have_forms name graph [] call h = mapped _ (graph_command name) call h (graph_form name)
calls_have_forms name graph (second ∷ []) call h = texts_form name graph second call h
calls_have_forms name graph (second ∷ third ∷ []) call h = two_words_form name graph second third call h
calls_have_forms name graph (right ∷ x ∷ y ∷ []) call h = mapped _ (question name right x y) call h (question_form name right x y)
calls_have_forms name graph (right ∷ x ∷ y ∷ z ∷ more) call h = mapped _ (cut_command name right x y (z ∷ more)) call h (cut_form name right x y (z ∷ more))

-- one byte more at the beginning: it is in common as well, or nothing is
first_taken : (m : ℕ) (pair : ℕ × ℕ) (pairs : List (ℕ × ℕ)) → length (take (1 + m) (pair ∷ pairs)) ≡ suc (length (take m pairs))
first_taken m pair pairs =
    let one : 1 + m ≡ suc m = omega arith in
    ap (λ (n : ℕ). length (take n (pair ∷ pairs))) one

both_longer : (a b : ℕ) (word other : List ℕ) → nat_eq a b ≡ true → common (a ∷ word) (b ∷ other) ≡ suc (common word other)
both_longer a b word other e = simp e (first_taken _ (a, b) (zip word other))

none_longer : (a b : ℕ) (word other : List ℕ) → nat_eq a b ≡ false → common (a ∷ word) (b ∷ other) ≡ 0
none_longer a b word other e = simp e

-- fewer bytes than a beginning has that is in common
at_most : (a b n : ℕ) (word other : List ℕ) (most : ℕ) → ((m : ℕ) → m ≤ length word → m ≤ length other → take m word ≡ take m other → m ≤ most) → n ≤ length (a ∷ word) → n ≤ length (b ∷ other) → take n (a ∷ word) ≡ take n (b ∷ other) → n ≤ suc most
at_most a b zero word other most longest k l e = omega arith
at_most a b (suc m) word other most longest k l e =
    let rest : take m word ≡ take m other = cc in
    let few = longest m (omega arith) (omega arith) rest in
    omega arith

none_same : (a b n : ℕ) (word other : List ℕ) → nat_eq a b ≡ false → take n (a ∷ word) ≡ take n (b ∷ other) → n ≤ 0
none_same a b zero word other e t = omega arith
none_same a b (suc m) word other e t =
    let same : a ≡ b = cc in
    let tested = eq-eqb a b same in
    absurd (let clash : true ≡ false = sym tested ∙ e in cc)

longer : (a b : ℕ) (word other : List ℕ) (test : Bool) → nat_eq a b ≡ test → HasCommonBeginning word other → HasCommonBeginning (a ∷ word) (b ∷ other)
longer a b word other true e h =
    let count = both_longer a b word other e in
    let same : a ≡ b = eqb-true a b e in
    record {
      same = rw count (rw same (ap (λ (bytes : List ℕ). b ∷ bytes) h.same));
      in_word = rw count (omega (arith, h.in_word));
      in_other = rw count (omega (arith, h.in_other));
      longest = λ n k l t. rw count (at_most a b n word other (common word other) h.longest k l t);
    }
longer a b word other false e h =
    let count = none_longer a b word other e in
    record {
      same = rw count refl;
      in_word = rw count (omega arith);
      in_other = rw count (omega arith);
      longest = λ n k l t. rw count (none_same a b n word other e t);
    }

pub words_have_common_beginnings : WordsHaveCommonBeginnings
words_have_common_beginnings [] other = record { same = refl; in_word = omega arith; in_other = omega arith; longest = λ n few _ _. few }
words_have_common_beginnings (a ∷ word) [] = record { same = refl; in_word = omega arith; in_other = omega arith; longest = λ n _ few _. few }
words_have_common_beginnings (a ∷ word) (b ∷ other) = longer a b word other _ refl (words_have_common_beginnings word other)
