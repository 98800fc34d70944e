use Rattle.std.proofs.Common.{◌≡◌, ◌+◌, ◌<◌, ◌^◌, ◌++◌, ◌∷◌, [], sym, ap, ◌∙◌, arith}
use Rattle.tg_graph.specs.GraphOf.{graph_of}
use Rattle.tg_names.specs.Names.{helper_name}
use Rattle.tg_sharing.specs.Derivations.{helper_rules}
use Rattle.tg_graph.specs.RuleLists.{after_all}
use Rattle.tg_sharing.proofs.Moved.{move_direct, move_with_helper}
use Rattle.tg_sharing.proofs.Underway.{underway_direct, least_now, underway_helped, linked_ends, goes_on}
use Rattle.tg_sharing.proofs.moves.add_move.Goals as goal

pub returns-in_ok-push-in-Some : goal.returns-in_ok-push-in-Some
returns-in_ok-push-in-Some c =
    let graph = graph_of c.args.graph.now in
    let ends = linked_ends graph c.requires.well_formed c.args.p c.args.q c.requires.linked in
    let after = underway_direct graph c.requires.well_formed c.args.right c.args.y c.args.q c.args.p c.args.rules.now.items c.args.next c.requires.underway c.requires.known ends.1 ends.0 c.in-Some.rule (sym c.in-Some.ensures) in
    goes_on graph c.args.right c.args.y c.args.p c.args.q c.args.rules.now.items (c.in-Some.rule ∷ []) c.push.new.self.items c.args.next c.args.next c.in_ok-push-in-Some.ensures.items after (move_direct graph (after_all graph c.args.rules.now.items) c.args.right c.args.y c.args.p c.args.q c.in-Some.rule (sym c.in-Some.ensures)) (omega arith) (omega arith)

pub returns-in_ok-extend_from_slice-in-None : goal.returns-in_ok-extend_from_slice-in-None
returns-in_ok-extend_from_slice-in-None c =
    let graph = graph_of c.args.graph.now in
    let number = c.free_helper-number in
    let ends = linked_ends graph c.requires.well_formed c.args.p c.args.q c.requires.linked in
    let number-fits : number.result < 2 ^ 32 = omega (arith, number.ensures.within, c.requires.small, c.requires.low) in
    let made : c.helper_rules.result ≡ helper_rules graph c.args.right c.args.y c.args.p c.args.q (helper_name number.result) = c.helper_rules.ensures ∙ ap (helper_rules graph c.args.right c.args.y c.args.p c.args.q) c.helper-helper.ensures in
    let after = underway_helped graph c.requires.well_formed c.args.right c.args.y c.args.q c.args.p c.args.rules.now.items c.args.next c.requires.underway c.requires.known ends.1 ends.0 number.result number.ensures.from number-fits number.ensures.free number.ensures.least (sym c.in-None.ensures) c.requires.linked in
    let least = least_now graph c.requires.well_formed c.args.right c.args.y c.args.q c.args.p c.args.rules.now.items c.args.next c.requires.underway c.requires.known ends.1 ends.0 number.result number.ensures.from number-fits number.ensures.free number.ensures.least in
    goes_on graph c.args.right c.args.y c.args.p c.args.q c.args.rules.now.items (helper_rules graph c.args.right c.args.y c.args.p c.args.q (helper_name number.result)) c.extend_from_slice.new.self.items c.args.next (number.result + 1) (c.in_ok-extend_from_slice-in-None.ensures.items ∙ ap (λ more. c.args.rules.now.items ++ more) made) after (move_with_helper graph (after_all graph c.args.rules.now.items) c.args.right c.args.y c.args.p c.args.q number.result (sym c.in-None.ensures) least) (omega arith) (omega (arith, number.ensures.within, c.requires.small))
