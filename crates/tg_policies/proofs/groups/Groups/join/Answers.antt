use Rattle.std.proofs.Common.{◌≡◌, ◌||◌, Bool, false, List, Option, Vec, Global, length, sym, ap, ◌∙◌, arith}
use Rattle.std.specs.Option.{option_map_or}
use Rattle.std.specs.Vec.{with_items}
use Rattle.std.proofs.lemmas.List.{with_items_is}
use Rattle.tg_names.specs.Names.{Name}
use Rattle.tg_policies.specs.declared.groups.Groups.{Groups}
use Rattle.tg_policies.specs.PolicyParts.{is_marked_name, membership}
use Rattle.tg_policies.proofs.GroupLaws.{empty-marks, group-joined, marks-joined, or_other}
use Rattle.tg_policies.proofs.groups.Groups.join.Goals as goal
use Rattle.tg_policies.proofs.groups.Groups.join.Goals.{in-Some, in-None}

pub returns : goal.returns
returns c = λ names low n v.
    let old = c.args.self.now in
    let new : Groups = record { members = c.insert.new.self } in
    let group = c.args.group in
    let marks = c.args.marks.items in
    let others = c.match-remove.others in
    let removed = c.remove.ensures.updates in
    let updates = c.in_ok-insert.ensures.updates in
    let start = λ (v : Name). (
    let stayed : is_marked_name names others.items v ≡ membership names old group v = elim c.match-remove.branch [
      | in-Some w ↦
          ap (λ (s : Vec Bool Global). is_marked_name names s.items v) w.others-is
          ∙ sym (ap (λ (found : Option (Vec Bool Global)). option_map_or (λ members. is_marked_name names members.items v) found false) (sym c.remove.ensures.value ∙ w.in-Some.is))
      | in-None w ↦
          ap (λ (s : Vec Bool Global). is_marked_name names s.items v) w.others-is
          ∙ ap (λ (l : List Bool). is_marked_name names l v) w.new-others.ensures.items
          ∙ empty-marks names v
          ∙ sym (ap (λ (found : Option (Vec Bool Global)). option_map_or (λ members. is_marked_name names members.items v) found false) (sym c.remove.ensures.value ∙ w.in-None.is))
    ] in
    stayed) in
    let kept : (with_items c.args.marks c.mark_all.new.marks).items ≡ c.mark_all.new.marks = with_items_is c.args.marks c.mark_all.new.marks (c.mark_all.ensures.len ∙ ap length c.deref_mut.ensures.value ∙ sym c.args.marks.ok.0) in
    let put = λ (v : Name).
    ap (λ (l : List Bool). is_marked_name names l v) kept
    ∙ marks-joined names c.deref_mut.result.now c.mark_all.new.marks c.deref.result.now (λ place less. c.mark_all.ensures.each place (omega (arith, less, low, ap length c.deref_mut.ensures.value))) v
    ∙ ap (λ (l : List Bool). is_marked_name names l v || is_marked_name names c.deref.result.now v) c.deref_mut.ensures.value
    ∙ ap (λ (l : List Bool). is_marked_name names marks v || is_marked_name names l v) c.deref.ensures.value
    ∙ ap (λ b. is_marked_name names marks v || b) (start v)
    ∙ or_other (is_marked_name names marks v) (membership names old group v) in
    group-joined names old new group (with_items c.args.marks c.mark_all.new.marks) (is_marked_name names marks) put updates.1 (λ m apart. updates.2 m apart ∙ removed.2 m apart) n v
