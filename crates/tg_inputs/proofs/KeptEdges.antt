-- What the words of a question for a cut give.
use Rattle.std.proofs.Common.{◌≡◌, ◌<◌, ◌≤◌, ℕ, Bool, true, false, not, nat_lt, if◌then◌else◌, List, [], ◌∷◌, ◌++◌, length, map, drop, get_or, Option, Some, None, Result, Ok, Err, refl, sym, ap, subst, ◌∙◌, append_assoc, arith}
use Rattle.std.specs.Prelude.{codes}
use Rattle.std.proofs.lemmas.Bool.{le-ltb}
use Rattle.std.proofs.lemmas.List.{append-nil}
use Rattle.tg_names.specs.Names.{Name}
use Rattle.tg_graph.specs.Graphs.{ProtectionGraph, has_vertex}
use Rattle.tg_graph.specs.Limits.{most_vertices}
use Rattle.tg_words.specs.Reading.{◌>>=◌}
use Rattle.tg_islands.specs.declared.questions.AskFault.{AskFault}
use Rattle.tg_islands.specs.declared.questions.AskFault.TheVariants.{Unknown, TooLarge}
use Rattle.tg_cuts.specs.declared.kept.Ends.{Ends}
use Rattle.tg_cuts.specs.Cuts.{unknown_end_or, cut_fault}
use Rattle.tg_inputs.specs.Readings.{ReportText, vertex_in, edge_in, kept_in, refusal}
use Rattle.tg_inputs.specs.Outcomes.{HaveEnds}

-- ---- the edges that words name
-- edges that were named already, and those that the words behind them name
abbrev pub kept_from : ProtectionGraph → List Ends → List (List ℕ) → Result (List Ends) ReportText
kept_from g done [] = Ok done
kept_from g done (option ∷ []) = Ok done
kept_from g done (option ∷ source ∷ []) = Ok done
kept_from g done (option ∷ source ∷ target ∷ rest) = edge_in g source target >>= λ edge. kept_from g (done ++ edge ∷ []) rest

-- the same, those behind read by themselves
abbrev onto_kept : List Ends → Result (List Ends) ReportText → Result (List Ends) ReportText
onto_kept done rest = rest >>= λ more. Ok (done ++ more)

onto-none : (r : Result (List Ends) ReportText) → onto_kept [] r ≡ r
onto-none (Ok edges) = refl
onto-none (Err fault) = refl

onto-more : (done : List Ends) (edge : Ends) (rest : Result (List Ends) ReportText) → onto_kept done (rest >>= λ edges. Ok (edge ∷ edges)) ≡ onto_kept (done ++ edge ∷ []) rest
onto-more done edge (Ok edges) = ap Ok (sym (append_assoc done (edge ∷ []) edges))
onto-more done edge (Err fault) = refl

from_edge : (g : ProtectionGraph) (rest : List (List ℕ)) (done : List Ends) (edge : Result Ends ReportText) → ((more : List Ends) → kept_from g more rest ≡ onto_kept more (kept_in g rest))
    → (edge >>= λ e. kept_from g (done ++ e ∷ []) rest) ≡ onto_kept done (edge >>= λ e. kept_in g rest >>= λ es. Ok (e ∷ es))
from_edge g rest done (Ok e) again = again (done ++ e ∷ []) ∙ sym (onto-more done e (kept_in g rest))
from_edge g rest done (Err fault) again = refl

kept_from-onto : (g : ProtectionGraph) (words : List (List ℕ)) (done : List Ends) → kept_from g done words ≡ onto_kept done (kept_in g words)
kept_from-onto g [] done = ap Ok (sym (append-nil done))
kept_from-onto g (option ∷ []) done = ap Ok (sym (append-nil done))
kept_from-onto g (option ∷ source ∷ []) done = ap Ok (sym (append-nil done))
kept_from-onto g (option ∷ source ∷ target ∷ rest) done = from_edge g rest done (edge_in g source target) (λ more. kept_from-onto g rest more)

pub kept_from-none : (g : ProtectionGraph) (words : List (List ℕ)) → kept_from g [] words ≡ kept_in g words
kept_from-none g words = kept_from-onto g words [] ∙ onto-none (kept_in g words)

-- three words name one edge more
pub kept_from-more : {A : Type 0} (g : ProtectionGraph) (word : A → List ℕ) (other : A) (left : List A) (done : List Ends) (edge : Ends) → 2 < length left → edge_in g (word (get_or left 1 other)) (word (get_or left 2 other)) ≡ Ok edge
    → kept_from g (done ++ edge ∷ []) (map word (drop 3 left)) ≡ kept_from g done (map word left)
kept_from-more g word other [] done edge long made = absurd (omega arith)
kept_from-more g word other (option ∷ []) done edge long made = absurd (omega arith)
kept_from-more g word other (option ∷ source ∷ []) done edge long made = absurd (omega arith)
kept_from-more g word other (option ∷ source ∷ target ∷ rest) done edge long made =
    sym (ap (λ (r : Result Ends ReportText). r >>= λ e. kept_from g (done ++ e ∷ []) (map word rest)) made)

-- fewer words name none
pub kept_from-end : {A : Type 0} (g : ProtectionGraph) (word : A → List ℕ) (left : List A) (done : List Ends) → length left < 3 → kept_from g done (map word left) ≡ Ok done
kept_from-end g word [] done few = refl
kept_from-end g word (option ∷ []) done few = refl
kept_from-end g word (option ∷ source ∷ []) done few = refl
kept_from-end g word (option ∷ source ∷ target ∷ rest) done few = absurd (omega arith)

-- ---- their ends are vertices
pub ends-none : (g : ProtectionGraph) → HaveEnds g []
ends-none g later = refl

ends-append : (g : ProtectionGraph) (edges more : List Ends) (later : Option AskFault) → unknown_end_or g (edges ++ more) later ≡ unknown_end_or g edges (unknown_end_or g more later)
ends-append g [] more later = refl
ends-append g (e ∷ edges) more later =
    ap (λ (o : Option AskFault). if not (has_vertex g e.source) then Some (Unknown e.source) else (if not (has_vertex g e.target) then Some (Unknown e.target) else o)) (ends-append g edges more later)

ends-one : (g : ProtectionGraph) (e : Ends) → has_vertex g e.source ≡ true → has_vertex g e.target ≡ true → HaveEnds g (e ∷ [])
ends-one g e source target later =
    ap (λ b. if not b then Some (Unknown e.source) else (if not (has_vertex g e.target) then Some (Unknown e.target) else later)) source
    ∙ ap (λ b. if not b then Some (Unknown e.target) else later) target

pub ends-more : (g : ProtectionGraph) (kept : List Ends) (e : Ends) → HaveEnds g kept → has_vertex g e.source ≡ true → has_vertex g e.target ≡ true → HaveEnds g (kept ++ e ∷ [])
ends-more g kept e have source target later =
    ends-append g kept (e ∷ []) later ∙ (have (unknown_end_or g (e ∷ []) later) ∙ ends-one g e source target later)

-- such a question has no fault
pub no_fault : (g : ProtectionGraph) (x y : Name) (kept : List Ends) → has_vertex g x ≡ true → has_vertex g y ≡ true → HaveEnds g kept → length g.vertices ≤ most_vertices → cut_fault g x y kept ≡ None
no_fault g x y kept x_there y_there have few =
    let too_large : Option AskFault = if nat_lt most_vertices (length g.vertices) then Some TooLarge else None in
    ap (λ b. if not b then Some (Unknown x) else (if not (has_vertex g y) then Some (Unknown y) else unknown_end_or g kept too_large)) x_there
    ∙ (ap (λ b. if not b then Some (Unknown y) else unknown_end_or g kept too_large) y_there
    ∙ (have too_large ∙ ap (λ b. if b then Some TooLarge else None) (le-ltb most_vertices (length g.vertices) few)))

-- a name that was found to be a vertex
pub vertex_there : (g : ProtectionGraph) (a u : Name) → vertex_in g a ≡ Ok u → has_vertex g u ≡ true
vertex_there g a u e = by (has_vertex g a) refl e
  where
    by : (b : Bool) → has_vertex g a ≡ b → (if b then Ok a else Err (refusal (codes "unknown" ∷ a ∷ []))) ≡ Ok u → has_vertex g u ≡ true
    by true there same = subst (λ (v : Name). has_vertex g v ≡ true) (let e = same in cc) there
    by false there same = absurd cc
