use Rattle.std.proofs.Common.{◌≡◌, ◌++◌, take}
use Rattle.tg_names.specs.Letters.{letters_among}
use Rattle.tg_reports.proofs.reach_lines.append_letters.Given as goal

abbrev pub invariant-loop-right : goal.invariant-loop-right
invariant-loop-right l = l.text.items ≡ l.fn.text.items ++ letters_among l.set (take l.right-index l.rights)
