-- Marks and sets by position tell of each vertex who can come to have rights, and which.
use Rattle.std.proofs.Common.{◌≡◌, ℕ, ◌<◌, Bool, true, false, List, length, get_or, Option, Some, None, refl, sym, ap, ◌∙◌, subst, slice_get, bytes_eq, unwrap_or, arith}
use Rattle.std.specs.Prelude.{option_and_then}
use Rattle.std.specs.List.{IsDistinct}
use Rattle.std.proofs.lemmas.Bool.{false≢true}
use Rattle.std.proofs.lemmas.Option.{slice_get_within, slice_get-get_or}
use Rattle.tg_names.specs.declared.right_sets.Rights.{Rights}
use Rattle.tg_names.specs.Sets.{nothing}
use Rattle.tg_names.specs.Names.{Name}
use Rattle.tg_graph.specs.Graphs.{ProtectionGraph}
use Rattle.tg_analysis.specs.Reaching.{TellWho, TellReach}
use Rattle.tg_islands.proofs.Places.{place_of, position-at}
use Rattle.tg_reports.specs.Reports.{TellsWho, IsReached, TellsReach}
use Rattle.tg_reports.specs.ReportParts.{is_marked_name, set_of_name}

marked : (o : Option Bool) → unwrap_or o false ≡ true → o ≡ Some true
marked None h = absurd (false≢true h)
marked (Some true) h = refl
marked (Some false) h = absurd (false≢true h)

-- the marks tell who can come to have the rights
pub tells_who : (g : ProtectionGraph) (rights : Rights) (y : Name) (marks : List Bool) → IsDistinct bytes_eq g.vertices → TellWho g rights y marks → TellsWho g rights y (is_marked_name g.vertices marks)
tells_who g rights y marks apart tell x hx =
    let px = place_of g.vertices x hx in
    let at_x = position-at g.vertices apart px.0 x px.1 in
    let here : is_marked_name g.vertices marks x ≡ unwrap_or (slice_get marks px.0) false =
    ap (λ (o : Option ℕ). unwrap_or (option_and_then (λ place. slice_get marks place) o) false) at_x in
    let exact = tell.yes px.0 x px.1 in
    (λ h. exact.0 (marked (slice_get marks px.0) (sym here ∙ h)), λ c. here ∙ ap (λ (o : Option Bool). unwrap_or o false) (exact.1 c))

-- the sets tell what x can come to have
pub tells_reach : (g : ProtectionGraph) (x : Name) (sets : List Rights) → IsDistinct bytes_eq g.vertices → TellReach g x sets → TellsReach g x (set_of_name g.vertices sets)
tells_reach g x sets apart tell y hy =
    let py = place_of g.vertices y hy in
    let s = get_or sets py.0 nothing in
    let inside : py.0 < length sets = omega (arith, tell.len, slice_get_within g.vertices py.0 y py.1) in
    let there : slice_get sets py.0 ≡ Some s = slice_get-get_or sets py.0 nothing inside in
    let here : set_of_name g.vertices sets y ≡ s =
    ap (λ (o : Option ℕ). unwrap_or (option_and_then (λ place. slice_get sets place) o) nothing) (position-at g.vertices apart py.0 y py.1)
    ∙ ap (λ (o : Option Rights). unwrap_or o nothing) there in
    let P : Rights → Type 0 = λ t. IsReached g x y t in
    subst P (sym here) (record { named = tell.named py.0 s there; exact = λ right. tell.yes py.0 y s right py.1 there })
