use Rattle.std.proofs.Common.{◌≡◌, ◌++◌, List, [], ℕ, set, length-set, ap, subst, ◌∙◌, arith}
use Rattle.tg_islands.specs.Positions.{IsOneOf}
use Rattle.tg_islands.specs.DisjointSets.{members_of, PutsInto}
use Rattle.tg_islands.proofs.DisjointSets.{members-read, set-moves, sets-moved}
use Rattle.tg_islands.proofs.disjoint_sets.DisjointSets.move_set.Goals as goal

pub put_into-requires : goal.put_into-requires
put_into-requires c =
    let members = c.args.self.now.members.items in
    let read = members-read members c.args.from c.index_mut.result.now (omega (arith, c.requires.from, c.requires.sets.len)) c.index_mut.ensures.value in
    let moved : c.as_slice.result.now ≡ members_of members c.args.from = c.as_slice.ensures ∙ c.replace-moved.ensures.value ∙ read in
    λ a h. (c.requires.sets.only c.args.from a (subst (IsOneOf a) moved h)).0

pub returns-clause-moved : goal.returns-clause-moved
returns-clause-moved c =
    let members = c.args.self.now.members.items in
    let read = members-read members c.args.from c.index_mut.result.now (omega (arith, c.requires.from, c.requires.sets.len)) c.index_mut.ensures.value in
    let moved : c.as_slice.result.now ≡ members_of members c.args.from = c.as_slice.ensures ∙ c.replace-moved.ensures.value ∙ read in
    let puts = subst (λ ps. PutsInto ps c.args.to c.args.self.now.sets.items c.put_into.new.sets.items) moved c.put_into.ensures in
    set-moves c.args.self.now c.put_into.new.sets.items c.args.from c.args.to c.requires.sets puts

pub returns-clause-sets : goal.returns-clause-sets
returns-clause-sets c =
    let members = c.args.self.now.members.items in
    let read = members-read members c.args.from c.index_mut.result.now (omega (arith, c.requires.from, c.requires.sets.len)) c.index_mut.ensures.value in
    let moved : c.as_slice.result.now ≡ members_of members c.args.from = c.as_slice.ensures ∙ c.replace-moved.ensures.value ∙ read in
    let moved_again : c.as_slice-2.result.now ≡ members_of members c.args.from = c.as_slice-2.ensures ∙ c.replace-moved.ensures.value ∙ read in
    let puts = subst (λ ps. PutsInto ps c.args.to c.args.self.now.sets.items c.put_into.new.sets.items) moved c.put_into.ensures in
    let left : c.replace-moved.new.dest ≡ [] = c.replace-moved.ensures.after ∙ c.new-none.ensures in
    let others : List (List ℕ) = set members c.args.from c.replace-moved.new.dest in
    let there : c.index_mut-2.result.now ≡ members_of others c.args.to = members-read others c.args.to c.index_mut-2.result.now (omega (arith, c.requires.to, c.requires.sets.len, length-set members c.args.from c.replace-moved.new.dest)) c.index_mut-2.ensures.value in
    let longer : c.add_all.new.self ≡ members_of others c.args.to ++ members_of members c.args.from = c.in_ok-add_all.ensures.added ∙ ap (λ xs. xs ++ c.as_slice-2.result.now) there ∙ ap (λ ys. members_of others c.args.to ++ ys) moved_again in
    let all : set others c.args.to c.add_all.new.self ≡ set (set members c.args.from []) c.args.to (members_of (set members c.args.from []) c.args.to ++ members_of members c.args.from) = ap (set others c.args.to) longer ∙ ap (λ d. set (set members c.args.from d) c.args.to (members_of (set members c.args.from d) c.args.to ++ members_of members c.args.from)) left in
    sets-moved c.args.self.now _ c.args.from c.args.to c.requires.sets c.requires.from c.requires.to c.requires.other puts all
