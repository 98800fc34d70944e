use Rattle.std.proofs.Common.{◌+◌, refl, sym, subst}
use Rattle.tg_sharing.specs.declared.spreading.Spread.{Spread}
use Rattle.tg_sharing.specs.Spreading.{IsMissing, IsSpread}
use Rattle.tg_islands.proofs.Linked.{row_there}
use Rattle.tg_sharing.proofs.Spreads.{spread-takes, still_missing, holds_no_other, spread-narrows, spread-follows, follows_back, follows_grows, follows_missing, follows_followed}
use Rattle.tg_sharing.proofs.spreading.Spread.step.Goals as goal

pub returns-then-is_empty-clause-missing : goal.returns-then-is_empty-clause-missing
returns-then-is_empty-clause-missing c =
    let taken : Spread = record { flood = record c.args.self.now.flood { waiting = c.pop.new.self }; back = c.args.self.now.back; followed = c.args.self.now.followed + 1; missing = c.difference-self.result; likely = c.args.self.now.likely } in
    let is = spread-takes c.args.graph.now c.requires.graph c.args.asked.now c.args.self.now.missing c.in-Some.position c.args.self.now taken c.requires.spread (record { numbers = refl; current = refl; waiting = c.in-Some.ensures.items }) refl refl in
    still_missing c.args.graph.now c.requires.graph c.args.asked.now c.in-Some.position c.args.self.now.missing c.rights_near-held.result c.difference-self.result c.rights_near-held.ensures.rights c.difference-self.ensures.set taken.flood.waiting.items taken is c.requires.missing

pub follow_on-requires-clause-within : goal.follow_on-requires-clause-within
follow_on-requires-clause-within c = λ a near. let edge = c.requires.spread.back_from a c.in-Some.position near in row_there c.args.graph.now c.requires.graph a edge.0 c.in-Some.position edge.1

pub returns-clause-missing : goal.returns-clause-missing
returns-clause-missing c =
    let taken : Spread = record { flood = record c.args.self.now.flood { waiting = c.pop.new.self }; back = c.args.self.now.back; followed = c.args.self.now.followed + 1; missing = c.difference-self.result; likely = c.args.self.now.likely } in
    let is = spread-takes c.args.graph.now c.requires.graph c.args.asked.now c.args.self.now.missing c.in-Some.position c.args.self.now taken c.requires.spread (record { numbers = refl; current = refl; waiting = c.in-Some.ensures.items }) refl refl in
    let still = still_missing c.args.graph.now c.requires.graph c.args.asked.now c.in-Some.position c.args.self.now.missing c.rights_near-held.result c.difference-self.result c.rights_near-held.ensures.rights c.difference-self.ensures.set taken.flood.waiting.items taken is c.requires.missing in
    subst (λ left. IsMissing c.args.graph.now c.args.asked.now left) (sym (follows_missing c.args.graph.now c.requires.graph c.args.asked.now c.in-Some.position taken c.follow_on.new.self c.in_ok-follow_on.ensures)) still

pub returns-clause-on : goal.returns-clause-on
returns-clause-on c =
    let taken : Spread = record { flood = record c.args.self.now.flood { waiting = c.pop.new.self }; back = c.args.self.now.back; followed = c.args.self.now.followed + 1; missing = c.difference-self.result; likely = c.args.self.now.likely } in
    let is = spread-takes c.args.graph.now c.requires.graph c.args.asked.now c.args.self.now.missing c.in-Some.position c.args.self.now taken c.requires.spread (record { numbers = refl; current = refl; waiting = c.in-Some.ensures.items }) refl refl in
    let narrow = spread-narrows c.args.graph.now c.requires.graph c.args.asked.now c.in-Some.position c.args.self.now.missing c.rights_near-held.result c.difference-self.result c.rights_near-held.ensures.rights c.difference-self.ensures.set _ taken is in
    let idle = holds_no_other c.args.graph.now c.requires.graph c.args.asked.now c.in-Some.position c.args.self.now.missing c.rights_near-held.result c.difference-self.result c.rights_near-held.ensures.rights c.difference-self.ensures.set in
    let on = c.in_ok-follow_on.ensures in
    let next = spread-follows c.args.graph.now c.requires.graph c.args.asked.now c.difference-self.result c.in-Some.position taken c.follow_on.new.self narrow idle on in
    let same = follows_missing c.args.graph.now c.requires.graph c.args.asked.now c.in-Some.position taken c.follow_on.new.self on in
    record {
      is_spread = subst (λ left. IsSpread c.args.graph.now c.args.asked.now left c.follow_on.new.self.flood.waiting.items c.follow_on.new.self) (sym same) next;
      followed = follows_followed c.args.graph.now c.requires.graph c.args.asked.now c.in-Some.position taken c.follow_on.new.self on;
      back = follows_back c.args.graph.now c.requires.graph c.args.asked.now c.in-Some.position taken c.follow_on.new.self on;
      grows = follows_grows c.args.graph.now c.requires.graph c.args.asked.now c.in-Some.position taken c.follow_on.new.self on;
    }
