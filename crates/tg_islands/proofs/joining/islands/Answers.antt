use Rattle.std.proofs.Common.{sym, subst, ◌∙◌}
use Rattle.std.proofs.lemmas.Map.Entries.{length-keys_of}
use Rattle.tg_islands.specs.JoinedSets.{NumberSets}
use Rattle.tg_islands.proofs.JoinedSets.{joined-start, joined-islands}
use Rattle.tg_islands.proofs.joining.islands.Goals as goal

pub join_all-requires : goal.join_all-requires
join_all-requires c = joined-start c.args.graph.now c.in_ok-sets.sets c.len.result (c.len.ensures.value ∙ sym (length-keys_of c.args.graph.now)) c.in_ok-sets.ensures

pub returns : goal.returns
returns c =
    let numbers = c.in_ok-numbers.numbers in
    let are = subst (λ sets. NumberSets sets numbers) c.as_slice.ensures.value c.in_ok-numbers.ensures in
    joined-islands c.args.graph.now c.len.ensures.graph c.join_all.new.sets c.in_ok-join_all.ensures numbers are
