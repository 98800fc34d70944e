use Rattle.std.proofs.Common.{◌≡◌, slice_get, drop}
use Rattle.tg_names.specs.Letters.{letters_among}
use Rattle.tg_names.proofs.right_sets.Rights.letter_among.Given as goal

abbrev pub invariant-loop-right : goal.invariant-loop-right
invariant-loop-right l = slice_get (letters_among l.self l.rights) l.index ≡ slice_get (letters_among l.self (drop l.right-index l.rights)) l.left
