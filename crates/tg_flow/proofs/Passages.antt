-- What a unit does that passes an edge, by whether the edge's ends are in a set.
use Rattle.std.proofs.Common.{◌≡◌, ℕ, ◌+◌, Bool, true, false, not, ◌||◌, refl, sym, ap, arith}
use Rattle.std.proofs.lemmas.Bool.{true≢false, false≢true, or_parts}
use Rattle.tg_flow.specs.declared.edges.FlowEdge.{FlowEdge}
use Rattle.tg_flow.specs.declared.edges.Role.{Role}
use Rattle.tg_flow.specs.declared.edges.Role.TheVariants.{Link, End, Both}
use Rattle.tg_flow.specs.declared.edges.Flow.{Flow}
use Rattle.tg_flow.specs.declared.edges.Flow.TheVariants.{Idle, FromSource, FromTarget, Kept}
use Rattle.tg_flow.specs.declared.edges.Side.{Side}
use Rattle.tg_flow.specs.declared.edges.Side.TheVariants.{Source, Target}
use Rattle.tg_flow.specs.declared.edges.Passage.{Passage}
use Rattle.tg_flow.specs.declared.edges.Passage.TheVariants.{Shut, On, Out}
use Rattle.tg_flow.specs.Edges.{is_kept_flow, opposite, at_side, passage}
use Rattle.tg_flow.specs.Flows.{weight, leaves_by, arrives_by, crosses_by}
use Rattle.tg_flow.specs.Courses.{comes_to}

-- of two Bools, one for each end of an edge, that of a side
abbrev pub in_side : Bool → Bool → Side → Bool
in_side source target Source = source
in_side source target Target = target

pub in_side_is : (s : ℕ → Bool) (e : FlowEdge) (here : Side) → in_side (s e.source) (s e.target) here ≡ s (at_side e here)
in_side_is s e Source = refl
in_side_is s e Target = refl

-- a unit that passes from a side takes what it stands for from there: to the other side, or out
abbrev pub Balanced : Bool → Bool → Role → Flow → Side → Passage → Type 0
Balanced m n role flow here Shut = Unit {0}
Balanced m n role flow here (On after) = weight (leaves_by m n role after) 1 + weight (in_side m n (opposite here)) 1 + weight (arrives_by m n role flow) 1 ≡ weight (leaves_by m n role flow) 1 + weight (in_side m n here) 1 + weight (arrives_by m n role after) 1
Balanced m n role flow here (Out after) = weight (leaves_by m n role after) 1 + weight (arrives_by m n role flow) 1 ≡ weight (leaves_by m n role flow) 1 + weight (in_side m n here) 1 + weight (arrives_by m n role after) 1

pub same_sides : (m n : Bool) → crosses_by m n Link ≡ false → m ≡ n
same_sides true true h = refl
same_sides true false h = absurd (true≢false h)
same_sides false true h = absurd (true≢false h)
same_sides false false h = refl

pub balanced : (m n : Bool) (role : Role) (flow : Flow) (here : Side) → (is_kept_flow flow ≡ true → crosses_by m n role ≡ false) → Balanced m n role flow here (passage role flow here)
balanced m n Link Idle Source h = omega arith
balanced m n Link Idle Target h = omega arith
balanced m n Link FromSource Source h = tt
balanced m n Link FromSource Target h = omega arith
balanced m n Link FromTarget Source h = omega arith
balanced m n Link FromTarget Target h = tt
balanced m n Link Kept Source h = ap (λ b. 0 + weight b 1 + 0) (sym (same_sides m n (h refl)))
balanced m n Link Kept Target h = ap (λ b. 0 + weight b 1 + 0) (same_sides m n (h refl))
balanced m n End Idle Source h = omega arith
balanced m n End Idle Target h = tt
balanced m n End FromSource Source h = tt
balanced m n End FromSource Target h = tt
balanced m n End FromTarget Source h = omega arith
balanced m n End FromTarget Target h = tt
balanced m n End Kept Source h = ap (λ b. 0 + weight b 1 + 0) (sym (h refl))
balanced m n End Kept Target h = tt
balanced m n Both Idle Source h = omega arith
balanced m n Both Idle Target h = omega arith
balanced m n Both FromSource Source h = tt
balanced m n Both FromSource Target h = omega arith
balanced m n Both FromTarget Source h = omega arith
balanced m n Both FromTarget Target h = tt
balanced m n Both Kept Source h = ap (λ b. 0 + weight b 1 + 0) (sym (or_parts m n (h refl)).0)
balanced m n Both Kept Target h = ap (λ b. 0 + weight b 1 + 0) (sym (or_parts m n (h refl)).1)

-- a kept edge stays one, and no other becomes one
abbrev pub StaysKept : Flow → Passage → Type 0
StaysKept flow Shut = Unit {0}
StaysKept flow (On after) = is_kept_flow after ≡ is_kept_flow flow
StaysKept flow (Out after) = is_kept_flow after ≡ is_kept_flow flow

pub stays_kept : (role : Role) (flow : Flow) (here : Side) → StaysKept flow (passage role flow here)
stays_kept Link Idle Source = refl
stays_kept Link Idle Target = refl
stays_kept Link FromSource Source = tt
stays_kept Link FromSource Target = refl
stays_kept Link FromTarget Source = refl
stays_kept Link FromTarget Target = tt
stays_kept Link Kept Source = refl
stays_kept Link Kept Target = refl
stays_kept End Idle Source = refl
stays_kept End Idle Target = tt
stays_kept End FromSource Source = tt
stays_kept End FromSource Target = tt
stays_kept End FromTarget Source = refl
stays_kept End FromTarget Target = tt
stays_kept End Kept Source = refl
stays_kept End Kept Target = tt
stays_kept Both Idle Source = refl
stays_kept Both Idle Target = refl
stays_kept Both FromSource Source = tt
stays_kept Both FromSource Target = refl
stays_kept Both FromTarget Source = refl
stays_kept Both FromTarget Target = tt
stays_kept Both Kept Source = refl
stays_kept Both Kept Target = refl

-- an edge that leads on from one side does not lead out from the other
abbrev pub NotOut : Passage → Passage → Type 0
NotOut Shut other = Unit {0}
NotOut (Out after) other = Unit {0}
NotOut (On after) Shut = Unit {0}
NotOut (On after) (On again) = Unit {0}
NotOut (On after) (Out again) = ⊥

pub one_way : (role : Role) (flow : Flow) (here : Side) → NotOut (passage role flow here) (passage role flow (opposite here))
one_way Link Idle Source = tt
one_way Link Idle Target = tt
one_way Link FromSource Source = tt
one_way Link FromSource Target = tt
one_way Link FromTarget Source = tt
one_way Link FromTarget Target = tt
one_way Link Kept Source = tt
one_way Link Kept Target = tt
one_way End Idle Source = tt
one_way End Idle Target = tt
one_way End FromSource Source = tt
one_way End FromSource Target = tt
one_way End FromTarget Source = tt
one_way End FromTarget Target = tt
one_way End Kept Source = tt
one_way End Kept Target = tt
one_way Both Idle Source = tt
one_way Both Idle Target = tt
one_way Both FromSource Source = tt
one_way Both FromSource Target = tt
one_way Both FromTarget Source = tt
one_way Both FromTarget Target = tt
one_way Both Kept Source = tt
one_way Both Kept Target = tt

-- a kept edge that does not cross a set leads from nobody in it to the outside, or out
pub kept_back : (m n : Bool) (role : Role) (flow : Flow) (here : Side) → is_kept_flow flow ≡ true → crosses_by m n role ≡ false → comes_to (not (in_side m n (opposite here))) (passage role flow here) ≡ true → in_side m n here ≡ false
kept_back m n role Idle here kept h c = absurd (false≢true kept)
kept_back m n role FromSource here kept h c = absurd (false≢true kept)
kept_back m n role FromTarget here kept h c = absurd (false≢true kept)
kept_back true true Link Kept Source kept h c = absurd (false≢true c)
kept_back true false Link Kept Source kept h c = absurd (true≢false h)
kept_back false n Link Kept Source kept h c = refl
kept_back true true Link Kept Target kept h c = absurd (false≢true c)
kept_back false true Link Kept Target kept h c = absurd (true≢false h)
kept_back m false Link Kept Target kept h c = refl
kept_back m n End Kept Source kept h c = h
kept_back m n End Kept Target kept h c = absurd (false≢true c)
kept_back m n Both Kept Source kept h c = (or_parts m n h).0
kept_back m n Both Kept Target kept h c = (or_parts m n h).1

-- one that leads from nobody outside of a set into it, or out, does not cross those outside
pub kept_apart : (m n : Bool) (role : Role) (flow : Flow) → is_kept_flow flow ≡ true → ((here : Side) → comes_to (in_side m n (opposite here)) (passage role flow here) ≡ true → in_side m n here ≡ true) → crosses_by (not m) (not n) role ≡ false
kept_apart m n role Idle kept h = absurd (false≢true kept)
kept_apart m n role FromSource kept h = absurd (false≢true kept)
kept_apart m n role FromTarget kept h = absurd (false≢true kept)
kept_apart true true Link Kept kept h = refl
kept_apart true false Link Kept kept h = absurd (false≢true (h Target refl))
kept_apart false true Link Kept kept h = absurd (false≢true (h Source refl))
kept_apart false false Link Kept kept h = refl
kept_apart m n End Kept kept h = ap not (h Source refl)
kept_apart m n Both Kept kept h = (λ i. not (h Source refl i) || not (h Target refl i))
