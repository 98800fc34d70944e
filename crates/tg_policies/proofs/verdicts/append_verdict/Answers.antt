use Rattle.std.proofs.Common.{◌≡◌, ◌++◌, Option, sym, subst}
use Rattle.tg_analysis.specs.declared.cases.Case.{Case}
use Rattle.tg_policies.specs.Policies.{verdict_line}
use Rattle.tg_policies.proofs.ToldLines.{verdict-appended}
use Rattle.tg_policies.proofs.verdicts.append_verdict.Goals as goal

pub returns : goal.returns
returns c =
    let old = c.args.text.now.items in
    let told = verdict-appended old c.append_number.new.text.items c.extend_from_slice-2.new.self.items c.push.new.self.items c.push-2.new.self.items c.extend_from_slice-3.new.self.items c.push-3.new.self.items c.extend_from_slice-4.new.self.items c.push-4.new.self.items c.as_bytes.result.now c.as_bytes-2.result.now c.args.line c.letter.result c.in-Some.case c.in_ok-append_number.ensures.appended c.in_ok-extend_from_slice-2.ensures.items c.letter.ensures c.in_ok-push.ensures.items c.in_ok-push-2.ensures.items c.as_bytes.ensures.value c.in_ok-extend_from_slice-3.ensures.items c.in_ok-push-3.ensures.items c.as_bytes-2.ensures.value c.in_ok-extend_from_slice-4.ensures.items c.in_ok-push-4.ensures.items in
    subst (λ (verdict : Option Case). c.push-4.new.self.items ≡ old ++ verdict_line c.args.line verdict) (sym c.in-Some.is) told
