-- The table tells who can come to have the right over whom, and so which digits there are.
use Rattle.std.proofs.Common.{◌≡◌, ℕ, Bool, false, List, [], ◌∷◌, ◌++◌, Option, refl, sym, ap, ◌∙◌, bytes_eq, map, unwrap_or}
use Rattle.std.specs.Prelude.{option_and_then}
use Rattle.std.specs.List.{IsDistinct, flat_map}
use Rattle.tg_names.specs.declared.right_sets.Right.{Right}
use Rattle.tg_names.specs.Names.{Name}
use Rattle.tg_graph.specs.Graphs.{ProtectionGraph}
use Rattle.tg_analysis.specs.Tables.{Table, table_cell, IsPairTable}
use Rattle.tg_islands.proofs.Places.{place_of, position-at}
use Rattle.tg_reports.specs.Reports.{TellsSharing, digit_for, table_text}
use Rattle.tg_reports.specs.ReportParts.{place_in, placed, digit_at, placed_line, placed_text}

-- whether the cell of two vertices says yes
abbrev pub says_yes : List Name → Table → Name → Name → Bool
says_yes vs table u v = unwrap_or (option_and_then (λ a. option_and_then (λ b. table_cell table a b) (place_in vs v)) (place_in vs u)) false

row_is : (vs : List Name) (table : Table) (u : Name) (names : List Name) → map (λ (f : Name × Option ℕ). digit_at table (place_in vs u) f.1) (placed vs names) ≡ map (λ v. digit_for (says_yes vs table u v)) names
row_is vs table u [] = refl
row_is vs table u (v ∷ names) = ap (λ (ds : List ℕ). digit_for (says_yes vs table u v) ∷ ds) (row_is vs table u names)

lines_are : (vs : List Name) (table : Table) (all names : List Name) → flat_map (placed_line table (placed vs all)) (placed vs names) ≡ flat_map (λ u. u ++ 32 ∷ map (λ v. digit_for (says_yes vs table u v)) all ++ 10 ∷ []) names
lines_are vs table all [] = refl
lines_are vs table all (u ∷ names) =
    ap (λ (ds : List ℕ). (u ++ 32 ∷ ds ++ 10 ∷ []) ++ flat_map (placed_line table (placed vs all)) (placed vs names)) (row_is vs table u all)
    ∙ ap (λ (t : List ℕ). (u ++ 32 ∷ map (λ v. digit_for (says_yes vs table u v)) all ++ 10 ∷ []) ++ t) (lines_are vs table all names)

pub placed_text_is : (vs : List Name) (table : Table) (names : List Name) → placed_text table (placed vs names) ≡ table_text (says_yes vs table) names
placed_text_is vs table names = lines_are vs table names names

-- the cells say what can be shared
pub tells_sharing : (g : ProtectionGraph) (right : Right) (table : Table) → IsDistinct bytes_eq g.vertices → IsPairTable g right table → TellsSharing g right (says_yes g.vertices table)
tells_sharing g right table apart is u v hu hv =
    let pu = place_of g.vertices u hu in
    let pv = place_of g.vertices v hv in
    let cell = is.inside pu.0 pv.0 u v pu.1 pv.1 in
    let at_u = position-at g.vertices apart pu.0 u pu.1 in
    let at_v = position-at g.vertices apart pv.0 v pv.1 in
    let says : says_yes g.vertices table u v ≡ cell.answer =
    ap (λ (i : Option ℕ). unwrap_or (option_and_then (λ a. option_and_then (λ b. table_cell table a b) (place_in g.vertices v)) i) false) at_u
    ∙ ap (λ (j : Option ℕ). unwrap_or (option_and_then (λ b. table_cell table pu.0 b) j) false) at_v
    ∙ ap (λ (o : Option Bool). unwrap_or o false) cell.is in
    (λ h. cell.exact.0 (sym says ∙ h), λ c. says ∙ cell.exact.1 c)
