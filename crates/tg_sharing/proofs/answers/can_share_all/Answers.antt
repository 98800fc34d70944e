use Rattle.std.proofs.Common.{◌≡◌, ◌∙◌, sym, true≢false}
use Rattle.tg_names.specs.declared.right_sets.Right.{Right}
use Rattle.tg_names.specs.declared.right_sets.Rights.{Rights}
use Rattle.tg_names.specs.Sets.{member}
use Rattle.tg_names.specs.Names.{Name}
use Rattle.tg_graph.specs.Graphs.{ProtectionGraph}
use Rattle.tg_graph.specs.GraphOf.{graph_of}
use Rattle.tg_graph.specs.RuleLists.{CanShareAll}
use Rattle.tg_sharing.proofs.answers.can_share_all.Goals as goal

-- only the members of a set count
same_members : (g : ProtectionGraph) (s t : Rights) (x y : Name) → ((right : Right) → member t right ≡ member s right) → CanShareAll g s x y → CanShareAll g t x y
same_members g s t x y same all = (all.0, all.1, λ right m. all.2 right (sym (same right) ∙ m))

pub returns-clause-exact : goal.returns-clause-exact
returns-clause-exact c =
    let g = graph_of c.args.graph.now in
    let answer = c.in_ok-answer.ensures in (
      λ yes. same_members g c.named-rights.result c.args.rights c.args.x c.args.y (λ right. sym (c.named-rights.ensures.members right)) (answer.0 yes),
      λ all. answer.1 (same_members g c.args.rights c.named-rights.result c.args.x c.args.y c.named-rights.ensures.members all),
    )

pub returns-clause-no : goal.returns-clause-no
returns-clause-no c = λ no all. true≢false (sym (c.in_ok-answer.ensures.1 (same_members (graph_of c.args.graph.now) c.args.rights c.named-rights.result c.args.x c.args.y c.named-rights.ensures.members all)) ∙ no)
