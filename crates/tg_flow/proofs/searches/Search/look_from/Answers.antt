use Rattle.std.proofs.Common.{◌≡◌, Some, ap, sym, ◌∙◌, arith}
use Rattle.tg_flow.specs.Courses.{is_in}
use Rattle.tg_flow.specs.Searches.{search_of, level_by}
use Rattle.tg_flow.proofs.Found.{looks}
use Rattle.tg_flow.proofs.searches.Search.look_from.Goals as goal

pub returns-clause-on : goal.returns-clause-on
returns-clause-on c =
    let old = c.args.ways.now in
    let same : c.in-Some.level ≡ c.in-Ok.level = omega (arith, c.in-Ok.ensures) in
    let level : level_by c.args.self.now.course (is_in c.args.self.now.near.now) old c.args.edge.now c.args.here ≡ Some c.in-Ok.level = sym c.level_by.ensures ∙ c.in-Some.is ∙ ap Some same in
    looks (search_of c.args.self.now) old c.meet.new.self c.at-position.result (record { number = c.args.number; side = c.args.here; level = c.in-Ok.level }) c.args.edge.now c.requires.search (sym c.has_met.ensures ∙ c.if-has_met.false) c.in_ok-meet.ensures.within c.requires.there (sym c.at-position.ensures) level c.in_ok-meet.ensures.met
