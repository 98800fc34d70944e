use Rattle.std.proofs.Common.{◌≡◌, ◌+◌, ◌≤◌, ◌++◌, length, drop, vec_len, vec_capacity}
use Rattle.tg_names.specs.Letters.{letters_among}
use Rattle.tg_words.proofs.spelling.put_letters.Given as goal

abbrev pub invariant-loop-right : goal.invariant-loop-right
invariant-loop-right l = record {
  items : l.text.items ++ letters_among l.set (drop l.right-index l.rights) ≡ l.initial.text.items ++ letters_among l.set l.rights;
  len : vec_len l.text + length (letters_among l.set (drop l.right-index l.rights)) ≡ vec_len l.initial.text + length (letters_among l.set l.rights);
  room : vec_len l.text ≤ vec_len l.initial.text + l.right-index;
  capacity : vec_capacity l.initial.text ≤ vec_capacity l.text;
}
