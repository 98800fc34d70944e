-- The set of one right has that right and no other.
use Rattle.std.proofs.Common.{◌≡◌, ◌^◌, ◌∙◌, sym, ap, subst, IsTrue}
use Rattle.tg_names.specs.declared.right_sets.Right.{Right}
use Rattle.tg_names.specs.declared.right_sets.Rights.{Rights}
use Rattle.tg_names.specs.Sets.{member, bit_of}
use Rattle.tg_names.specs.Names.{Name}
use Rattle.tg_graph.specs.Graphs.{ProtectionGraph}
use Rattle.tg_graph.specs.RuleLists.{CanShare, CanShareAll, after_all}
use Rattle.tg_names.proofs.RightsWords.{one_itself, one_alone}

module _ (g : ProtectionGraph) (right : Right) (s : Rights) (x y : Name) (one : s.0 ≡ 2 ^ bit_of right) where
  pub the_one : CanShareAll g s x y → CanShare g right x y
  the_one all = (all.0, all.1, all.2 right (ap (λ n. member (record { 0 = n }) right) one ∙ one_itself right))

  pub as_set : CanShare g right x y → CanShareAll g s x y
  as_set a = (a.0, a.1, λ other m. subst (λ r. IsTrue ((after_all g a.0).holds x r y)) (one_alone right other (ap (λ n. member (record { 0 = n }) other) (sym one) ∙ m)) a.2)
