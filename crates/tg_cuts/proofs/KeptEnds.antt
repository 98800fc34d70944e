-- Whether the ends of edges are vertices, one edge after another.
use Rattle.std.proofs.Common.{◌≡◌, ℕ, suc, ◌+◌, ◌<◌, ◌≤◌, true, false, not, List, [], ◌∷◌, length, drop, drop-cons, slice_get, Option, Some, None, refl, sym, ap, ◌∙◌, bytes_eq, nat_lt, if◌then◌else◌, arith}
use Rattle.std.specs.List.{list_any, position}
use Rattle.std.proofs.lemmas.Bool.{false_from_ne_true, lt-ltb, le-ltb}
use Rattle.std.proofs.lemmas.List.{drop_all}
use Rattle.std.proofs.lemmas.Option.{slice_get_within, get_or_from_slice_get}
use Rattle.tg_names.specs.Names.{Name}
use Rattle.tg_graph.specs.Graphs.{ProtectionGraph, has_vertex}
use Rattle.tg_cuts.specs.declared.kept.Ends.{Ends}
use Rattle.tg_islands.specs.declared.questions.AskFault.{AskFault}
use Rattle.tg_islands.specs.declared.questions.AskFault.TheVariants.{Unknown, TooLarge}
use Rattle.tg_graph.specs.Limits.{most_vertices}
use Rattle.tg_cuts.specs.Cuts.{unknown_end_or, cut_fault}
use Rattle.tg_cuts.specs.CutParts.{KnowsEnds, KnowsAllEnds, IsUnknownEnd, IsUnknownEndOf}
use Rattle.tg_islands.proofs.Places.{position-none}

module _ (g : ProtectionGraph) (e : Ends) (later : Option AskFault) (more : List Ends) where
  -- the source is no vertex
  pub ends-source : has_vertex g e.source ≡ false → unknown_end_or g (e ∷ more) later ≡ Some (Unknown e.source)
  ends-source none = ap (λ b. if not b then Some (Unknown e.source) else (if not (has_vertex g e.target) then Some (Unknown e.target) else unknown_end_or g more later)) none

  target-next : has_vertex g e.source ≡ true → unknown_end_or g (e ∷ more) later ≡ (if not (has_vertex g e.target) then Some (Unknown e.target) else unknown_end_or g more later)
  target-next known = ap (λ b. if not b then Some (Unknown e.source) else (if not (has_vertex g e.target) then Some (Unknown e.target) else unknown_end_or g more later)) known

  -- the source is one, and the target is none
  pub ends-target : has_vertex g e.source ≡ true → has_vertex g e.target ≡ false → unknown_end_or g (e ∷ more) later ≡ Some (Unknown e.target)
  ends-target known none = target-next known ∙ ap (λ b. if not b then Some (Unknown e.target) else unknown_end_or g more later) none

  -- both are
  pub ends-known : has_vertex g e.source ≡ true → has_vertex g e.target ≡ true → unknown_end_or g (e ∷ more) later ≡ unknown_end_or g more later
  ends-known known known_too = target-next known ∙ ap (λ b. if not b then Some (Unknown e.target) else unknown_end_or g more later) known_too

-- a name that has no position is no vertex
pub absent : (ks : List Name) (v : Name) → position (bytes_eq v) ks ≡ None → list_any (bytes_eq v) ks ≡ false
absent ks v none = false_from_ne_true (list_any (bytes_eq v) ks) (λ among. position-none ks v among none)

-- ---- all of them
drop_none : (edges : List Ends) → drop 0 edges ≡ edges
drop_none [] = refl
drop_none (e ∷ edges) = refl

drop_next : (edges : List Ends) (k : ℕ) (e : Ends) → slice_get edges k ≡ Some e → drop k edges ≡ e ∷ drop (suc k) edges
drop_next edges k e at = drop-cons edges k e (slice_get_within edges k e at) ∙ (λ i. get_or_from_slice_get edges k e e at i ∷ drop (suc k) edges)

-- the edges so far are known, and what is left decides
abbrev pub AreKnownTo : ProtectionGraph → List Ends → ℕ → Type 0
AreKnownTo g edges k = (later : Option AskFault) → unknown_end_or g edges later ≡ unknown_end_or g (drop k edges) later

pub known-none : (g : ProtectionGraph) (edges : List Ends) → AreKnownTo g edges 0
known-none g edges later = ap (λ (es : List Ends). unknown_end_or g es later) (sym (drop_none edges))

pub known-more : (g : ProtectionGraph) (edges : List Ends) (k : ℕ) (e : Ends) → slice_get edges k ≡ Some e → AreKnownTo g edges k → KnowsEnds g e → AreKnownTo g edges (k + 1)
known-more g edges k e at so_far known later =
    let next : suc k ≡ k + 1 = omega arith in
    so_far later ∙ ap (λ (es : List Ends). unknown_end_or g es later) (drop_next edges k e at) ∙ known later (drop (suc k) edges) ∙ ap (λ n. unknown_end_or g (drop n edges) later) next

pub known-fault : (g : ProtectionGraph) (edges : List Ends) (k : ℕ) (e : Ends) (fault : AskFault) → slice_get edges k ≡ Some e → AreKnownTo g edges k → IsUnknownEndOf g e fault → IsUnknownEnd g edges fault
known-fault g edges k e fault at so_far unknown =
    let u = unknown (drop (suc k) edges) in
    record { end = u.end; is = u.is; first = λ later. so_far later ∙ ap (λ (es : List Ends). unknown_end_or g es later) (drop_next edges k e at) ∙ u.first later }

pub known-all : (g : ProtectionGraph) (edges : List Ends) (k : ℕ) → length edges ≤ k → AreKnownTo g edges k → KnowsAllEnds g edges
known-all g edges k high so_far later = so_far later ∙ ap (λ (es : List Ends). unknown_end_or g es later) (drop_all k edges high)

-- ---- the fault of a question for a cut
module _ (g : ProtectionGraph) (x y : Name) (kept : List Ends) where
  abbrev too_large : Option AskFault
  too_large = if nat_lt most_vertices (length g.vertices) then Some TooLarge else None

  pub cut-unknown-x : has_vertex g x ≡ false → cut_fault g x y kept ≡ Some (Unknown x)
  cut-unknown-x none = ap (λ b. if not b then Some (Unknown x) else (if not (has_vertex g y) then Some (Unknown y) else unknown_end_or g kept too_large)) none

  module _ (x_there : has_vertex g x ≡ true) where
    y-next : cut_fault g x y kept ≡ (if not (has_vertex g y) then Some (Unknown y) else unknown_end_or g kept too_large)
    y-next = ap (λ b. if not b then Some (Unknown x) else (if not (has_vertex g y) then Some (Unknown y) else unknown_end_or g kept too_large)) x_there

    pub cut-unknown-y : has_vertex g y ≡ false → cut_fault g x y kept ≡ Some (Unknown y)
    cut-unknown-y none = y-next ∙ ap (λ b. if not b then Some (Unknown y) else unknown_end_or g kept too_large) none

    module _ (y_there : has_vertex g y ≡ true) where
      ends-next : cut_fault g x y kept ≡ unknown_end_or g kept too_large
      ends-next = y-next ∙ ap (λ b. if not b then Some (Unknown y) else unknown_end_or g kept too_large) y_there

      pub cut-unknown-end : (fault : AskFault) (u : IsUnknownEnd g kept fault) → cut_fault g x y kept ≡ Some (Unknown u.end)
      cut-unknown-end fault u = ends-next ∙ u.first too_large

      module _ (known : KnowsAllEnds g kept) where
        pub cut-too-large : most_vertices < length g.vertices → cut_fault g x y kept ≡ Some TooLarge
        cut-too-large more = ends-next ∙ known too_large ∙ ap (λ b. if b then Some TooLarge else None) (lt-ltb most_vertices (length g.vertices) more)

        pub cut-no-fault : length g.vertices ≤ most_vertices → cut_fault g x y kept ≡ None
        cut-no-fault few = ends-next ∙ known too_large ∙ ap (λ b. if b then Some TooLarge else None) (le-ltb most_vertices (length g.vertices) few)
