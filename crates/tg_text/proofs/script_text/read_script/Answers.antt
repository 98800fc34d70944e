use Rattle.tg_text.proofs.ScriptNumbers.{read_is_within}
use Rattle.tg_text.proofs.script_text.read_script.Goals as goal

pub returns-clause-within : goal.returns-clause-within
returns-clause-within c =
    let script = c.read_lines.new.items in
    read_is_within c.args.text.now c.new.result.items script.header script.lines.items c.in-Whole.seats c.in-Whole.cells c.new.ensures.items c.in-Whole.is c.in_ok-count.ensures.made.1
