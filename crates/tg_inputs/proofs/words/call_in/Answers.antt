use Rattle.std.proofs.Common.{◌≡◌, ℕ, Bor, Option, None, List, [], ◌∷◌, map, length, get_or, refl, sym, ap, ◌∙◌, arith}
use Rattle.std.specs.Option.{option_map}
use Rattle.tg_inputs.specs.Calls.{CommandWords, File, call_of, call_words, command_words, graph_command, question}
use Rattle.tg_inputs.proofs.words.call_in.Goals as goal

-- what two words ask for
two_words : {A : Type 0} (word : A → List ℕ) (other : A) (words : List A) → length words ≡ 2 → call_of (map word words) ≡ option_map (λ c. File c (word (get_or words 1 other))) (graph_command (word (get_or words 0 other)))
two_words word other [] two = absurd (omega arith)
two_words word other (name ∷ []) two = absurd (omega arith)
two_words word other (name ∷ graph ∷ []) two = refl
two_words word other (name ∷ graph ∷ more ∷ rest) two = absurd (omega arith)

-- and what five ask for
five_words : {A : Type 0} (word : A → List ℕ) (other : A) (words : List A) → length words ≡ 5
    → call_of (map word words) ≡ option_map (λ c. File c (word (get_or words 1 other))) (question (word (get_or words 0 other)) (word (get_or words 2 other)) (word (get_or words 3 other)) (word (get_or words 4 other)))
five_words word other [] five = absurd (omega arith)
five_words word other (a ∷ []) five = absurd (omega arith)
five_words word other (a ∷ b ∷ []) five = absurd (omega arith)
five_words word other (a ∷ b ∷ r ∷ []) five = absurd (omega arith)
five_words word other (a ∷ b ∷ r ∷ x ∷ []) five = absurd (omega arith)
five_words word other (a ∷ b ∷ r ∷ x ∷ y ∷ []) five = refl
five_words word other (a ∷ b ∷ r ∷ x ∷ y ∷ z ∷ rest) five = absurd (omega arith)

pub returns-in_err-graph_command-in-len2 : goal.returns-in_err-graph_command-in-len2
returns-in_err-graph_command-in-len2 c =
    let word = λ (w : Bor (List ℕ)). w.now in
    let words = c.args.words.now in
    let none : graph_command (word (get_or words 0 record { ref_ptr = (0, 0); now = [] })) ≡ None = sym c.graph_command.ensures ∙ ap (option_map command_words) c.in_err-graph_command-in-len2.was in
    let F = λ (o : Option CommandWords). option_map (λ (m : CommandWords). File m (word (get_or words 1 record { ref_ptr = (0, 0); now = [] }))) o in
    ap (option_map call_words) c.from_residual.ensures ∙ sym (two_words word record { ref_ptr = (0, 0); now = [] } words (omega arith) ∙ ap F none)

pub returns-in_ok-question-in-len5 : goal.returns-in_ok-question-in-len5
returns-in_ok-question-in-len5 c =
    let word = λ (w : Bor (List ℕ)). w.now in
    let words = c.args.words.now in
    let F = λ (o : Option CommandWords). option_map (λ (m : CommandWords). File m (word (get_or words 1 record { ref_ptr = (0, 0); now = [] }))) o in
    sym (five_words word record { ref_ptr = (0, 0); now = [] } words (omega arith) ∙ ap F (sym c.question.ensures ∙ ap (option_map command_words) c.in_ok-question-in-len5.was))
