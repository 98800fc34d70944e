use Rattle.std.proofs.Common.{◌≡◌, ◌↔◌, ℕ, IsTrue, Bool, false, List, Option, Some, Vec, Global, sym, ap, subst, ◌∙◌}
use Rattle.std.specs.BTreeMap.{get}
use Rattle.std.specs.Option.{option_map_or}
use Rattle.tg_names.specs.Names.{Name}
use Rattle.tg_text.specs.Canonical.{name_cmp}
use Rattle.tg_text.specs.declared.policy_text.Operand.{Operand}
use Rattle.tg_analysis.specs.Cases.{StandsAt}
use Rattle.tg_islands.proofs.RowEnds.{found}
use Rattle.tg_policies.specs.Policies.{stands_for}
use Rattle.tg_policies.specs.PolicyParts.{IsNamed, is_marked_name, membership}
use Rattle.tg_policies.proofs.GroupLaws.{of-vertex, of-marks}
use Rattle.tg_policies.proofs.groups.Groups.places_of.Goals as goal

pub returns-in_ok-from_slice-in-Some-clause-same : goal.returns-in_ok-from_slice-in-Some-clause-same
returns-in_ok-from_slice-in-Some-clause-same c = λ v.
    let names = c.args.names.now in
    let in_group = membership names c.args.self.now in
    let items = c.in_ok-from_slice-in-Some.field-0.items in
    subst (λ (one : Operand). ((i : ℕ) × StandsAt names items i v) ↔ IsTrue (stands_for in_group v one)) (sym c.in-Vertex.is) (of-vertex names c.requires.order in_group c.in-Vertex.name c.in-Some.place items (sym c.place_of.ensures ∙ c.in-Some.is) c.in_ok-from_slice-in-Some.ensures.items v)

pub returns-in-None-clause-same : goal.returns-in-None-clause-same
returns-in-None-clause-same c = λ v.
    let names = c.args.names.now in
    let there = found names c.in-Vertex.name (subst (IsNamed names) c.in-Vertex.is c.requires.known) in
    let none = sym c.place_of.ensures ∙ c.in-None.is in
    let some = there.1 in absurd cc

pub returns-in_ok-places-in-Some-get-clause-same : goal.returns-in_ok-places-in-Some-get-clause-same
returns-in_ok-places-in-Some-get-clause-same c = λ v.
    let names = c.args.names.now in
    let in_group = membership names c.args.self.now in
    let name = c.in-Group.name in
    let marks = c.deref.result.now in
    let places = c.in_ok-places-in-Some-get.places.items in
    let at : get name_cmp c.args.self.now.members name ≡ Some c.in-Some-get.marks.now = (let value = c.in-Some-get.ensures.value in cc) in
    let same = λ (u : Name). ap (λ (found : Option (Vec Bool Global)). option_map_or (λ members. is_marked_name names members.items u) found false) at ∙ ap (λ (l : List Bool). is_marked_name names l u) (sym c.deref.ensures.value) in
    subst (λ (one : Operand). ((i : ℕ) × StandsAt names places i v) ↔ IsTrue (stands_for in_group v one)) (sym c.in-Group.is) (of-marks names c.requires.order in_group name marks places same c.in_ok-places-in-Some-get.ensures v)

pub returns-in_ok-places-in-Some-get-clause-within : goal.returns-in_ok-places-in-Some-get-clause-within
returns-in_ok-places-in-Some-get-clause-within c = λ i place h. (c.in_ok-places-in-Some-get.ensures.within i place h).0
