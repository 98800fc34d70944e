-- The rules of a cut are accepted in turn.
use Rattle.std.proofs.Common.{◌≡◌, Bool, true, false, not, List, [], ◌∷◌, Option, None, refl, ap, ◌∙◌}
use Rattle.std.specs.List.{AllByRecursion, list_any}
use Rattle.std.proofs.lemmas.Bool.{true≢false, not_from_true}
use Rattle.tg_graph.specs.declared.rules.Rule.{Rule}
use Rattle.tg_graph.specs.declared.rules.Rule.TheVariants.{Take, Grant, Create, Remove}
use Rattle.tg_graph.specs.declared.rules.Refusal.{Refusal}
use Rattle.tg_graph.specs.declared.rules.Refusal.TheVariants.{Unknown}
use Rattle.tg_names.specs.Names.{Name, same_name}
use Rattle.tg_graph.specs.Graphs.{ProtectionGraph, has_vertex, WellFormed}
use Rattle.tg_graph.specs.Rules.{refused_if, unknown, refusal_of, without_rights, after}
use Rattle.tg_graph.specs.RuleLists.{AllAccepted}
use Rattle.tg_cuts.specs.declared.kept.Ends.{Ends}
use Rattle.tg_cuts.specs.Cuts.{TakesHeld}
use Rattle.tg_cut_laws.specs.CutLaws.{CutsAreAccepted}
use Rattle.tg_cuts.proofs.Removed.{is-remove, some_member, remove-held}

pass : (b : Bool) (r : Refusal) (later : Option Refusal) → b ≡ false → later ≡ None → refused_if b r later ≡ None
pass true r later h l = absurd (true≢false h)
pass false r later h l = l

know : (g : ProtectionGraph) (v : Name) (later : Option Refusal) → has_vertex g v ≡ true → later ≡ None → unknown g v later ≡ None
know g v later there l = pass (not (has_vertex g v)) (Unknown v) later (not_from_true _ there) l

module _ (g : ProtectionGraph) (kept : List Ends) where
  accepted-now : (now : ProtectionGraph) (cut : List Rule) → WellFormed g → now.vertices ≡ g.vertices → AllByRecursion (TakesHeld g kept) cut → AllAccepted now cut
  unfolding refusal_of after
  accepted-now now [] well same held = tt
  accepted-now now (Take x y z s ∷ cut) well same held = absurd (is-remove (Take x y z s) held.0.source held.0.target held.0.rights held.0.is)
  accepted-now now (Grant x y z s ∷ cut) well same held = absurd (is-remove (Grant x y z s) held.0.source held.0.target held.0.rights held.0.is)
  accepted-now now (Create x n s ∷ cut) well same held = absurd (is-remove (Create x n s) held.0.source held.0.target held.0.rights held.0.is)
  accepted-now now (Remove u v s ∷ cut) well same held =
      let r = remove-held g kept u v s held.0 in
      let m = some_member s r.named r.some in
      let ends = well.ends u m.0 v (r.held m.0 m.1) in
      let hu : has_vertex now u ≡ true = ap (λ (vs : List Name). list_any (same_name u) vs) same ∙ ends.0 in
      let hv : has_vertex now v ≡ true = ap (λ (vs : List Name). list_any (same_name v) vs) same ∙ ends.1 in (
        (well.names u ends.0, well.names v ends.1, r.named),
        know now u _ hu (know now v _ hv (pass _ _ _ r.some refl)),
        accepted-now (without_rights now u v s) cut well same held.1,
      )

pub cuts-accepted : CutsAreAccepted
cuts-accepted g kept cut well held = accepted-now g kept g cut well refl held
