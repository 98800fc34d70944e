use Rattle.std.proofs.Common.{get_or, refl, ◌∙◌, arith}
use Rattle.tg_islands.proofs.SetNumbers.{number-read, numbers-again, numbers-next}
use Rattle.tg_islands.proofs.joining.Numbers.add.Goals as goal

pub returns-in_ok-push-in-Some : goal.returns-in_ok-push-in-Some
returns-in_ok-push-in-Some c =
    let set = get_or c.args.sets.now c.args.position 0 in
    let read = number-read c.args.self.now.of_sets.items set c.index.result.now (omega (arith, c.requires.known, c.requires.so_far.slots)) c.index.ensures in
    numbers-again c.args.sets.now c.args.position c.in-Some.number c.args.self.now _ c.requires.so_far (read ∙ c.in-Some.is) refl c.in_ok-push-in-Some.ensures.items refl

pub returns-in_ok-push-in-None : goal.returns-in_ok-push-in-None
returns-in_ok-push-in-None c =
    let set = get_or c.args.sets.now c.args.position 0 in
    let read = number-read c.args.self.now.of_sets.items set c.index.result.now (omega (arith, c.requires.known, c.requires.so_far.slots)) c.index.ensures in
    numbers-next c.args.sets.now c.args.position c.args.self.now _ c.requires.so_far c.requires.known (read ∙ c.in-None.is) refl c.in_ok-push-in-None.ensures.items refl
