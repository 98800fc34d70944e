use Rattle.std.proofs.Common.{◌≡◌, ℕ, ◌<◌, List, Some, true, length, slice_get}
use Rattle.tg_index.specs.declared.by_target.Held.{Held}
use Rattle.tg_analysis.specs.Cases.{AreMembersFrom, HasLooked, is_marked}
use Rattle.tg_analysis.proofs.case_index.Beyond.look_at.Given as goal

abbrev pub invariant-loop-entry : goal.invariant-loop-entry
invariant-loop-entry l = record {
  looked : (place : ℕ) (entry : Held) → place < l.entry-index → slice_get l.entries place ≡ Some entry → entry.number < length l.initial.self.places.items → is_marked l.self.looked.items entry.number ≡ true;
  len : length l.self.looked.items ≡ length l.initial.self.looked.items;
  places : length l.self.places.items ≡ length l.initial.self.places.items;
  has : (numbers : List ℕ) → AreMembersFrom numbers 0 l.members.firsts.items l.members.nexts.items → HasLooked numbers (is_marked l.allowed) l.initial.self → HasLooked numbers (is_marked l.allowed) l.self;
}
