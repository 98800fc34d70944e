use Rattle.std.proofs.Common.{◌≡◌, length, sym, ◌∙◌, ap, arith, subst, Bool, ℕ}
use Rattle.std.specs.declared.option.Option.TheVariants.{Some}
use Rattle.tg_journal.proofs.Rows.{looked_at, some_is, known_stays}
use Rattle.tg_journal.specs.Answers.{LookSays, IsForeign}
use Rattle.tg_journal.specs.Pass.{IsPass}
use Rattle.std.specs.List.{slice_get}
use Rattle.tg_journal.proofs.journal.Journal.meet_at.Goals as goal

pub returns-then-place-len-clause-pass : goal.returns-then-place-len-clause-pass
returns-then-place-len-clause-pass g c = subst (IsPass g.R.Entry.seat_of) (sym c.compare.ensures.same) c.len.ensures.pass

pub look-requires-clause-known : goal.look-requires-clause-known
look-requires-clause-known g c κs within =
    let known = some_is c.args.note.known c.requires.known in
    (known.0, ap (λ s. slice_get c.learn.new.self.known (length s)) c.learn.ensures.seen ∙ c.learn.ensures.there ∙ ap Some known.1)

pub returns-clause-met : goal.returns-clause-met
returns-clause-met g c = λ t.
    let P : Bool → Type 0 = λ b. LookSays g.R.Entry.seat_of b c.learn.new.self c.look.new.pass in
    let seen = subst P t c.look.ensures.seen in
    let size : length c.args.pass.now.seen ≡ c.args.place = omega arith in
    let there = ap (slice_get c.learn.new.self.known) (sym size) ∙ c.learn.ensures.there in
    looked_at c.learn.new.self.seen c.look.new.pass.seen c.learn.new.self.known c.args.place c.args.note.known (ap length c.learn.ensures.seen ∙ size) there seen.0 seen.1 seen.2

pub returns-clause-foreign : goal.returns-clause-foreign
returns-clause-foreign g c = λ f.
    let P : Bool → Type 0 = λ b. LookSays g.R.Entry.seat_of b c.learn.new.self c.look.new.pass in
    let said = subst P f c.look.ensures.seen in
    let size : length c.args.pass.now.seen ≡ c.args.place = omega arith in
    let at : length c.learn.new.self.seen ≡ c.args.place = ap length c.learn.ensures.seen ∙ size in
    let there = ap (slice_get c.learn.new.self.known) (sym size) ∙ c.learn.ensures.there in
    let Q : ℕ → Type 0 = λ place. IsForeign g.R.Entry.seat_of place c.look.new.pass in
    (known_stays c.learn.new.self c.look.new.pass c.args.place c.args.note.known c.requires.known c.look.ensures.known there, subst Q at said.1)
