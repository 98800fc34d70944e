use Rattle.std.proofs.Common.{length, ◌<◌, sym, ◌∙◌, ap, arith, ◌≡◌, take, take_all}
use Rattle.tg_journal.proofs.Rows.{shared_more, shared_within, Begins_take, Begins_trans, Begins_le, from_take, some_there}
use Rattle.std.specs.declared.option.Option.TheVariants.{Some}
use Rattle.std.specs.List.{slice_get}
use Rattle.tg_journal.proofs.journal.Journal.meet.Goals as goal

pub meet_at-requires-clause-cell : goal.meet_at-requires-clause-cell
meet_at-requires-clause-cell g c κs within =
    from_take c.args.self.now (length c.args.front.now.seen) c.loop-place.place c.note-note.result.cell (ap (λ k. slice_get k c.loop-place.place) (sym c.requires.front) ∙ c.note-note.ensures.cell)

pub meet_at-requires-clause-known : goal.meet_at-requires-clause-known
meet_at-requires-clause-known g c κs within =
    let size : c.loop-place.place < length c.args.front.now.seen = omega arith in
    some_there c.args.front.now.seen c.loop-place.place c.note-note.result.known size c.note-note.ensures.known

pub loop-place-preserved : goal.loop-place-preserved
loop-place-preserved g c =
    let i = c.loop-place in
    let size : i.place < length c.args.front.now.seen = omega arith in
    let known = c.note-note.ensures.known in
    let there = c.meet_at.ensures.met c.if-not-meet_at.false in
    let within = shared_within c.meet_at.new.pass.seen c.args.front.now.seen i.place c.note-note.result.known known size there in
    record {
      number = c.meet_at.ensures.number ∙ i.invariant.number;
      cells = c.meet_at.ensures.cells ∙ i.invariant.cells;
      mine = c.meet_at.ensures.mine ∙ i.invariant.mine;
      known = λ place r k. c.meet_at.ensures.known place r (i.invariant.known place r k);
      pass = c.meet_at.ensures.pass;
      others = λ q h. c.meet_at.ensures.others q (λ e. absurd (omega (arith, e, within))) ∙ i.invariant.others q (omega (arith, Begins_le _ _ c.meet_at.ensures.begins));
      begins = Begins_trans _ _ _ i.invariant.begins c.meet_at.ensures.begins;
      reaches = omega (arith, within);
      longer = omega (arith, c.meet_at.ensures.longer c.if-not-meet_at.false);
      met = shared_more c.meet_at.new.pass.seen c.args.front.now.seen i.place c.note-note.result.known known size (Begins_take _ _ i.place i.invariant.reaches c.meet_at.ensures.begins ∙ i.invariant.met) there;
    }

pub returns-then-not-meet_at-clause-known : goal.returns-then-not-meet_at-clause-known
returns-then-not-meet_at-clause-known g c = λ place r k. c.meet_at.ensures.known place r (c.loop-place.invariant.known place r k)

pub returns-then-not-meet_at-clause-foreign : goal.returns-then-not-meet_at-clause-foreign
returns-then-not-meet_at-clause-foreign g c =
    let i = c.loop-place in
    let size : i.place < length c.args.front.now.seen = omega arith in
    let foreign = c.meet_at.ensures.foreign c.if-not-meet_at.true in
    let new = c.meet_at.new.pass in
    let grows = Begins_le _ _ c.meet_at.ensures.begins in
    let there = foreign.0 ∙ ap Some c.note-note.ensures.known in
    let whole : new.seen ≡ take i.place new.seen = sym (take_all i.place new.seen (omega (arith, foreign.1.0))) in
    let met = whole ∙ Begins_take _ _ i.place i.invariant.reaches c.meet_at.ensures.begins ∙ i.invariant.met in
    (size, met, there, foreign.1, λ q h. c.meet_at.ensures.others q (λ e. absurd (omega (arith, e, h))) ∙ i.invariant.others q (omega (arith, grows, h, foreign.1.0)))
