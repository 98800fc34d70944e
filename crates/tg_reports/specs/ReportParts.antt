-- What the parts of a report's making bring.
use Rattle.std.specs.Prelude.{◌≡◌, ℕ, nat_eq, bytes_eq, codes, position, map, filter, option_and_then, Bool, false, unwrap_or, List, [], ◌∷◌, ◌++◌, slice_index_or, slice_get, Option, Some}
use Rattle.std.specs.List.{flat_map}
use Rattle.std.specs.Option.{option_eq, option_map_or}
use Rattle.tg_names.specs.declared.right_sets.Rights.{Rights}
use Rattle.tg_graph.specs.declared.rules.Rule.{Rule}
use Rattle.tg_names.specs.Sets.{nothing}
use Rattle.tg_names.specs.Names.{Name}
use Rattle.tg_islands.specs.Numbering.{number_of}
use Rattle.tg_analysis.specs.Tables.{Table, table_cell}
use Rattle.tg_inputs.specs.Readings.{ReportText}
use Rattle.tg_reports.specs.Reports.{cut_report, island_line, digit_for, name_line, reach_line, says}

-- the names whose vertices have that number
abbrev pub with_number : List Name → List ℕ → ℕ → List Name → List Name
with_number vs numbers number names = filter (λ v. option_eq nat_eq (number_of vs numbers v) (Some number)) names

-- under each number stand the names that have it
abbrev pub AreGathered : List Name → List ℕ → List Name → List (List Name) → Type 0
AreGathered vs numbers names gathered = (number : ℕ) → slice_index_or gathered number [] ≡ with_number vs numbers number names

-- the line of a vertex, if it is the least of those with its number
abbrev pub numbered_line : List Name → List ℕ → List Name → Name → List ℕ
numbered_line vs numbers names v = option_map_or (λ number. island_line v (with_number vs numbers number names)) (number_of vs numbers v) []

-- the lines of the islands of vertices with these numbers
abbrev pub numbered_text : List Name → List ℕ → List Name → List ℕ
numbered_text vs numbers names = flat_map (numbered_line vs numbers names) names

-- where a name stands among these
abbrev pub place_in : List Name → Name → Option ℕ
place_in vs v = position (bytes_eq v) vs

-- each name with its place
abbrev pub placed : List Name → List Name → List (Name × Option ℕ)
placed vs names = map (λ v. (v, place_in vs v)) names

-- the digit of the cell at two places
abbrev pub digit_at : Table → Option ℕ → Option ℕ → ℕ
digit_at table i j = digit_for (unwrap_or (option_and_then (λ a. option_and_then (λ b. table_cell table a b) j) i) false)

-- the line of a name with its place
abbrev pub placed_line : Table → List (Name × Option ℕ) → Name × Option ℕ → List ℕ
placed_line table entries e = e.0 ++ 32 ∷ map (λ f. digit_at table e.1 f.1) entries ++ 10 ∷ []

-- the lines of names with their places
abbrev pub placed_text : Table → List (Name × Option ℕ) → List ℕ
placed_text table entries = flat_map (placed_line table entries) entries

-- whether the vertex of that name is marked, where the vertices have these marks by position
abbrev pub is_marked_name : List Name → List Bool → Name → Bool
is_marked_name vs marks v = unwrap_or (option_and_then (λ place. slice_get marks place) (place_in vs v)) false

-- the lines of the names that are marked
abbrev pub marked_text : List Name → List Bool → List Name → List ℕ
marked_text vs marks names = flat_map (λ v. name_line (is_marked_name vs marks v) v) names

-- the set of the vertex of that name, where the vertices have these sets by position
abbrev pub set_of_name : List Name → List Rights → Name → Rights
set_of_name vs sets v = unwrap_or (option_and_then (λ place. slice_get sets place) (place_in vs v)) nothing

-- the lines of the names that have a right
abbrev pub reached_text : List Name → List Rights → List Name → List ℕ
reached_text vs sets names = flat_map (λ v. reach_line (set_of_name vs sets v) v) names

-- the text of a cut: no where nothing has to go
abbrev pub cut_text : List Rule → ReportText
cut_text [] = says (codes "#" ∷ codes "no" ∷ [])
cut_text (rule ∷ rules) = cut_report (rule ∷ rules)
