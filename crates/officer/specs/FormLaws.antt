-- What the nearest form comes to.
use Rattle.std.specs.Prelude.{◌≡◌, ℕ, ◌≤◌, List, ◌∷◌, length, take, Some}
use Rattle.tg_inputs.specs.Calls.{CallWords, call_of}
use Rattle.officer.specs.declared.forms.Form.{Form}
use Rattle.officer.specs.Forms.{command_of, common, nearest_form}

-- The bytes that two words have in common at their beginnings are the same ones, and there is no longer beginning that both have.
pub record HasCommonBeginning (word other : List ℕ) : Type 0 where
  pub same : take (common word other) word ≡ take (common word other) other
  pub in_word : common word other ≤ length word
  pub in_other : common word other ≤ length other
  pub longest : (n : ℕ) → n ≤ length word → n ≤ length other → take n word ≡ take n other → n ≤ common word other

abbrev pub WordsHaveCommonBeginnings : Type 0
WordsHaveCommonBeginnings = (word other : List ℕ) → HasCommonBeginning word other

-- the form of the first word is the nearest one, where that is a command
abbrev pub OwnFormsAreNearest : Type 0
OwnFormsAreNearest = (form : Form) (more : List (List ℕ)) → nearest_form (command_of form ∷ more) ≡ Some form

-- a form begins with this word
pub record HasForm (name : List ℕ) : Type 0 where
  pub form : Form
  pub is : name ≡ command_of form

-- each call of several words begins with a word that has a form
abbrev pub CallsHaveForms : Type 0
CallsHaveForms = (name graph : List ℕ) (more : List (List ℕ)) (call : CallWords) → call_of (name ∷ graph ∷ more) ≡ Some call → HasForm name
