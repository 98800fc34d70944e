-- Edges that are the same, but for what they carry.
use Rattle.std.proofs.Common.{◌≡◌, ℕ, ◌<◌, Bool, false, List, length, get_or, slice_get, slice_set, length-set, Some, refl, sym, ap, ◌∙◌, arith, ◌⊎◌, inl, inr}
use Rattle.std.proofs.lemmas.Bool.{cases_eq}
use Rattle.std.proofs.lemmas.Option.{same_Some, slice_get_within, slice_get-get_or}
use Rattle.tg_flow.specs.declared.edges.FlowEdge.{FlowEdge}
use Rattle.tg_flow.specs.declared.edges.Flow.{Flow}
use Rattle.tg_flow.specs.Edges.{is_kept, is_kept_flow, with_flow}
use Rattle.tg_flow.specs.Flows.{crosses, IsClosed, IsSameEdge, SameBut}
use Rattle.tg_flow.proofs.Tallies.{slice_get-set_same, slice_get-set_other}

pub same-none : (edges : List FlowEdge) → SameBut edges edges
same-none edges = record { len = refl; same = λ k e at. (e, at, record { is = refl; kept = refl }) }

pub same-then : (a b c : List FlowEdge) → SameBut a b → SameBut b c → SameBut a c
same-then a b c m n = record { len = n.len ∙ m.len; same = λ k e at. by k e (m.same k e at) }
  where
    by : (k : ℕ) (e : FlowEdge) → (f : FlowEdge) × (slice_get b k ≡ Some f) × IsSameEdge e f → (g : FlowEdge) × (slice_get c k ≡ Some g) × IsSameEdge e g
    by k e (f, there, one) = next k e f one (n.same k f there)
      where
        next : (k : ℕ) (e f : FlowEdge) → IsSameEdge e f → (g : FlowEdge) × (slice_get c k ≡ Some g) × IsSameEdge f g → (g : FlowEdge) × (slice_get c k ≡ Some g) × IsSameEdge e g
        next k e f one (g, here, two) = (g, here, record { is = two.is ∙ ap (λ (o : FlowEdge). with_flow o g.flow) one.is; kept = two.kept ∙ one.kept })

-- one edge comes to carry something else
pub same-set : (edges : List FlowEdge) (k : ℕ) (e : FlowEdge) (after : Flow) → slice_get edges k ≡ Some e → is_kept_flow after ≡ is_kept e → SameBut edges (slice_set edges k (with_flow e after))
same-set edges k e after at kept = record { len = length-set edges k (with_flow e after); same = λ j f there. by j f there (cases_eq j k) }
  where
    by : (j : ℕ) (f : FlowEdge) → slice_get edges j ≡ Some f → (j ≡ k) ⊎ (j ≡ k → ⊥) → (g : FlowEdge) × (slice_get (slice_set edges k (with_flow e after)) j ≡ Some g) × IsSameEdge f g
    by j f there (inl is) =
        let one : e ≡ f = same_Some e f (sym at ∙ ap (slice_get edges) (sym is) ∙ there) in (
          with_flow e after,
          ap (slice_get (slice_set edges k (with_flow e after))) is ∙ slice_get-set_same edges k e (with_flow e after) at,
          record { is = ap (λ (o : FlowEdge). with_flow o after) one; kept = kept ∙ ap is_kept one },
        )
    by j f there (inr other) =
        (f, slice_get-set_other edges j k (with_flow e after) other ∙ there, record { is = refl; kept = refl })

-- what is closed afterwards was closed before, and the other way round
pub closed-back : (a b : List FlowEdge) → SameBut a b → (s : ℕ → Bool) → IsClosed s b → IsClosed s a
closed-back a b m s closed k e at kept = by (m.same k e at)
  where
    by : (f : FlowEdge) × (slice_get b k ≡ Some f) × IsSameEdge e f → crosses s e ≡ false
    by (f, there, one) = sym (ap (crosses s) one.is) ∙ closed k f there (one.kept ∙ kept)

pub closed-on : (a b : List FlowEdge) → SameBut a b → (s : ℕ → Bool) → IsClosed s a → IsClosed s b
closed-on a b m s closed k f at kept =
    let within : k < length a = omega (arith, slice_get_within b k f at, m.len) in
    by (get_or a k f) (slice_get-get_or a k f within) (m.same k (get_or a k f) (slice_get-get_or a k f within))
  where
    by : (e : FlowEdge) → slice_get a k ≡ Some e → (g : FlowEdge) × (slice_get b k ≡ Some g) × IsSameEdge e g → crosses s f ≡ false
    by e here (g, there, one) =
        let same : g ≡ f = same_Some g f (sym there ∙ at) in
        sym (ap (crosses s) same) ∙ ap (crosses s) one.is ∙ closed k e here (sym one.kept ∙ ap is_kept same ∙ kept)
