-- What contracts see of a front.
use Rattle.std.specs.Prelude.{ℕ, List, refl}
use Rattle.std.specs.Coded.{Coded, code_by, coded×, coded_ℕ, coded_list}

-- seen: what its pass had seen; cells: the names of the cells that held it
pub record FrontState (R : Type 0) : Type 0 where
  pub cells : List ℕ
  pub seen : List R

abbrev pub front_code : {R : Type 0} → Coded R → Coded (FrontState R)
front_code c = code_by (List ℕ × List _) (coded× (coded_list coded_ℕ) (coded_list c)) (λ f. (f.cells, f.seen)) (λ t. record { cells = t.0; seen = t.1 }) (λ _. refl)
