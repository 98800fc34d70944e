use Rattle.std.proofs.Common.{◌≡◌, ◌++◌, ◌∷◌, [], Vec, Global, arith, sym, ap, ◌∙◌, subst, bytes_eq}
use Rattle.std.specs.Map.{keys_of}
use Rattle.std.specs.List.{list_any, IsDistinct}
use Rattle.std.specs.Cmp.Lexicographic.{nat_list_eq_equiv}
use Rattle.std.proofs.lemmas.List.{take_all}
use Rattle.std.proofs.lemmas.List.Sorted.{list_any-IsPermutation}
use Rattle.std.proofs.lemmas.Map.Keys.{IsDistinct-IsPermutation}
use Rattle.std.proofs.lemmas.Map.Entries.{length-keys_of}
use Rattle.tg_names.specs.Names.{Name}
use Rattle.tg_rows.proofs.Order.{strict_from_sorted}
use Rattle.tg_text.proofs.NameOrder.{strict_same, strict-in_order, among-in_order}
use Rattle.tg_text.proofs.RowLines.{take_one, past_end}
use Rattle.tg_text.proofs.canonical.names_in_order.Goals as goal
use Rattle.tg_text.proofs.canonical.names_in_order.Goals.{in-Some+in_ok-push, in_default}

pub loop-position-preserved : goal.loop-position-preserved
loop-position-preserved c =
    let ks = keys_of c.args.graph.now in
    elim c.match-name_at.branch [
      | in-Some+in_ok-push w ↦
          ap (λ (v : Vec Name Global). v.items) w.names-is ∙ w.in_ok-push.ensures.items ∙ ap (λ ns. ns ++ w.in-Some.name ∷ []) c.loop-position.invariant
          ∙ sym (take_one ks c.loop-position.position w.in-Some.name (sym w.in-Some.ensures))
      | in_default w ↦ absurd (past_end ks c.loop-position.position (omega (arith, length-keys_of c.args.graph.now, c.len.ensures.value, c.len-position-end.ensures.value)) (sym c.name_at.ensures ∙ w.in_default.is))
    ]

pub returns-clause-names : goal.returns-clause-names
returns-clause-names c =
    let ks = keys_of c.args.graph.now in
    let whole : c.loop-position.names.items ≡ ks =
    c.loop-position.invariant ∙ take_all c.loop-position.position ks (omega (arith, length-keys_of c.args.graph.now, c.len-position-end.ensures.value)) in
    let apart = IsDistinct-IsPermutation bytes_eq nat_list_eq_equiv.symm _ _ c.sort_unstable.ensures.permutation (subst (IsDistinct bytes_eq) (sym whole) c.len.ensures.graph.apart) in
    strict_same _ _ (strict_from_sorted _ c.sort_unstable.ensures.sorted apart) (strict-in_order ks)
    (λ v. sym (list_any-IsPermutation (bytes_eq v) _ _ c.sort_unstable.ensures.permutation) ∙ ap (λ ns. list_any (bytes_eq v) ns) whole ∙ sym (among-in_order v ks))
