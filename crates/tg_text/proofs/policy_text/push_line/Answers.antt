use Rattle.std.proofs.Common.{◌≡◌, ◌++◌, ◌∷◌, [], sym, ap, subst, ◌∙◌}
use Rattle.std.specs.BTreeSet.{BTreeSet}
use Rattle.tg_names.specs.Names.{Name}
use Rattle.tg_text.specs.declared.policy_text.Claim.{Claim}
use Rattle.tg_text.specs.declared.policy_text.Claim.TheVariants as claim
use Rattle.tg_text.specs.declared.policy_text.PolicyLine.{PolicyLine}
use Rattle.tg_text.specs.PolicyText.{line_of_policy, policy_of}
use Rattle.tg_text.specs.PolicyState.{HasGroupsOf}
use Rattle.tg_text.proofs.PolicyReads.{line_with, policy-pushed, group-joins, no-group-joins, not-group}
use Rattle.tg_text.proofs.policy_text.push_line.Goals as goal
use Rattle.tg_text.proofs.policy_text.push_line.Goals.{in-Group+in_ok-insert, in_default}

pub returns-clause-groups : goal.returns-clause-groups
returns-clause-groups c =
    let lines = policy_of c.args.lines.now.items in
    let operands = c.args.operands.items in
    let value : PolicyLine = record { line = c.args.line; claim = c.match-claim.claim; operands = c.args.operands } in
    let pushed : policy_of c.push.new.self.items ≡ lines ++ line_of_policy value ∷ [] = ap policy_of c.in_ok-push.ensures.items ∙ policy-pushed c.args.lines.now.items value in
    let kept : HasGroupsOf c.match-claim.groups (lines ++ line_with c.args.line c.match-claim.claim operands ∷ []) = elim c.match-claim.branch [
      | in-Group+in_ok-insert w ↦
          let here = group-joins c.args.groups.now w.insert.new.self lines c.requires c.args.line w.in-Group.name operands w.in_ok-insert.ensures.updates in
          subst (λ (says : Claim). HasGroupsOf c.match-claim.groups (lines ++ line_with c.args.line says operands ∷ [])) (sym w.claim-is)
          (subst (λ (s : BTreeSet Name). HasGroupsOf s (lines ++ line_with c.args.line (claim.Group w.in-Group.name) operands ∷ [])) (sym w.groups-is) here)
      | in_default w ↦
          let here = no-group-joins c.args.groups.now c.args.groups.now lines c.requires (line_with c.args.line c.args.claim operands) (not-group c.args.claim w.in_default.not-Group) in
          subst (λ (says : Claim). HasGroupsOf c.match-claim.groups (lines ++ line_with c.args.line says operands ∷ [])) (sym w.claim-is)
          (subst (λ (s : BTreeSet Name). HasGroupsOf s (lines ++ line_with c.args.line c.args.claim operands ∷ [])) (sym w.groups-is) here)
    ] in
    subst (HasGroupsOf c.match-claim.groups) (sym pushed) kept
