use Rattle.std.proofs.Common.{◌+◌, sym, ap, subst, ◌∙◌, ◌++◌, ◌∷◌, [], IfSome, IsSome, true≢false}
use Rattle.tg_graph.specs.GraphOf.{graph_of}
use Rattle.tg_hall.specs.declared.records.Record.{Record}
use Rattle.tg_hall.specs.declared.seats.SeatState.{SeatState}
use Rattle.tg_hall.specs.Answers.{after_steps}
use Rattle.tg_hall.specs.Histories.{count_of}
use Rattle.tg_hall.specs.Seats.{IsSessionOn}
use Rattle.tg_hall.proofs.Numbers.{count-own}
use Rattle.tg_hall.proofs.SeatLemmas.{rests-put}
use Rattle.tg_graph.specs.Drafts.{ArePositionsOf}
use Rattle.tg_hall.specs.declared.seats.OpenSession.{OpenSession}
use Rattle.tg_hall.specs.Drafted.{drafted, IsDraftOf}
use Rattle.tg_hall.specs.Trails.{Notes}
use Rattle.tg_hall.proofs.TrailLemmas.{trail-same, trail-joined}
use Rattle.tg_hall.proofs.seats.SeatState.join.Goals as goal
use Rattle.tg_hall.proofs.seats.SeatState.join.Goals.{in-Some+in-Ok-merge, in_default-take}

pub returns-clause-counted : goal.returns-clause-counted
returns-clause-counted c =
    let old = c.args.self.now in
    let number = c.args.number in
    elim c.match-take.branch [
      | in-Some+in-Ok-merge w ↦
          ap (λ (s : SeatState). s.commits) w.self-is ∙ ap (λ n. n + 1) c.requires.counted ∙ sym (count-own number c.args.records.now.items old.commits w.from_vec.result)
          ∙ ap (count_of number) (sym (ap (λ v. v.items) w.records-is ∙ w.push_reserved.ensures.items ∙ ap (λ xs. xs ++ (record { seat = number; number = old.commits; steps = w.from_vec.result }) ∷ []) c.make_room.ensures.records))
      | in_default-take w ↦ absurd (true≢false (sym (subst IsSome (sym c.take.ensures.value ∙ w.in_default-take.is) c.requires.open)))
    ]

pub returns-clause-rests : goal.returns-clause-rests
returns-clause-rests c g h =
    let old = c.args.self.now in
    elim c.match-take.branch [
      | in-Some+in-Ok-merge w ↦
          let r : Record = record { seat = c.args.number; number = old.commits; steps = w.from_vec.result } in
          let on = subst (λ s. IfSome s (IsSessionOn old.graph)) (sym w.in-Some.ensures.value) c.requires.consistent in
          rests-put g c.args.records.now.items c.match-take.records.items old c.match-take.self r c.requires.all_taken
          (ap (λ v. v.items) w.records-is ∙ w.push_reserved.ensures.items ∙ ap (λ xs. xs ++ r ∷ []) c.make_room.ensures.records)
          (ap (λ (s : SeatState). s.taken) w.self-is)
          (ap (λ (s : SeatState). graph_of s.graph) w.self-is ∙ ap graph_of w.in-Ok-merge.ensures.merged ∙ ap (drafted old.graph) w.into_parts-draft.ensures.draft ∙ on.drawn.stands ∙ ap (after_steps (graph_of old.graph)) (sym (ap (λ v. v.items) w.into_parts-draft.ensures.kept) ∙ sym w.from_vec.ensures)) h
      | in_default-take w ↦ absurd (true≢false (sym (subst IsSome (sym c.take.ensures.value ∙ w.in_default-take.is) c.requires.open)))
    ]

pub returns-in_default-clause-trail : goal.returns-in_default-clause-trail
returns-in_default-clause-trail c g rest h = trail-same g c.args.records.now.items c.make_room.new.records.items c.args.trail.now c.make_room.new.trail c.make_room.ensures.records c.make_room.ensures.trail h

pub returns-in-Err-clause-trail : goal.returns-in-Err-clause-trail
returns-in-Err-clause-trail c g rest h = trail-same g c.args.records.now.items c.make_room.new.records.items c.args.trail.now c.make_room.new.trail c.make_room.ensures.records c.make_room.ensures.trail h

pub returns-clause-trail : goal.returns-clause-trail
returns-clause-trail c g rest h =
    let old = c.args.self.now in
    elim c.match-take.branch [
      | in-Some+in-Ok-merge w ↦
          let r : Record = record { seat = c.args.number; number = old.commits; steps = w.from_vec.result } in
          let on = subst (λ s. IfSome s (IsSessionOn old.graph)) (sym w.in-Some.ensures.value) c.requires.consistent in
          let ps = w.as_slice.result.now in
          let at = subst (λ s. IfSome s (λ (o : OpenSession). ArePositionsOf old.graph o.draft c.in-Ok.positions.items)) (sym w.in-Some.ensures.value) c.in-Ok.ensures.positions in
          trail-joined g c.args.records.now.items c.match-take.records.items old c.args.trail.now c.make_room.new.trail c.match-take.trail r w.in-Some.session.draft ps c.requires.all_taken
          (ap (λ v. v.items) w.records-is ∙ w.push_reserved.ensures.items ∙ ap (λ xs. xs ++ r ∷ []) c.make_room.ensures.records)
          c.make_room.ensures.trail
          (subst (λ u. Notes c.make_room.new.trail ps u) (sym w.trail-is) w.note.ensures)
          (subst (λ steps. IsDraftOf old.graph steps w.in-Some.session.draft) (sym (ap (λ v. v.items) w.into_parts-draft.ensures.kept) ∙ sym w.from_vec.ensures) on.drawn)
          (subst (λ ps. ArePositionsOf old.graph w.in-Some.session.draft ps) (sym w.as_slice.ensures.value) at)
          rest h
      | in_default-take w ↦ absurd (true≢false (sym (subst IsSome (sym c.take.ensures.value ∙ w.in_default-take.is) c.requires.open)))
    ]
