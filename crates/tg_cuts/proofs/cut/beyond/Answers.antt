use Rattle.std.proofs.Common.{Bool, List, ◌&&◌, not, subst}
use Rattle.std.proofs.lemmas.Option.{MatchOption-at_some, MatchOption-at_none}
use Rattle.tg_flow.specs.Courses.{is_in}
use Rattle.tg_flow.specs.Filling.{IsEndless, IsFull}
use Rattle.tg_flow.specs.Sides.{AreBeyond}
use Rattle.tg_names.specs.Sets.{member}
use Rattle.tg_islands.specs.Moves.{take_and_grant}
use Rattle.tg_cuts.proofs.cut.beyond.Goals as goal

pub returns-in_default : goal.returns-in_default
returns-in_default c =
    let edges = c.fill.new.self in
    let x = c.args.asked.now.x_position in
    record {
      edges = edges;
      carried = record { first = c.in_ok-network.network; listed = c.in_ok-network.ensures; same = c.in_ok-filled.ensures.same };
      endless = MatchOption-at_none (IsEndless edges x) (λ units. IsFull edges x units) c.in_default.is c.in_ok-filled.ensures.full;
    }

pub returns : goal.returns
returns c =
    let edges = c.fill.new.self in
    let right = c.args.asked.now.right in
    let x = c.args.asked.now.x_position in
    let y = c.args.asked.now.y_position in
    let others = is_in c.in_ok-others.others.items in
    record {
      edges = edges;
      units = c.in-Some._units;
      near = is_in c.in_ok-near.near.items;
      carried = record { first = c.in_ok-network.network; listed = c.in_ok-network.ensures; same = c.in_ok-filled.ensures.same };
      full = MatchOption-at_some (IsEndless edges x) (λ units. IsFull edges x units) c.in-Some._units c.in-Some.is c.in_ok-filled.ensures.full;
      are_near = c.in_ok-near.ensures;
      are_beyond = subst (λ (marks : List Bool). AreBeyond edges (not (member take_and_grant right && is_in marks y)) (is_in marks) others) c.as_slice-marks.ensures.value (subst (λ b. AreBeyond edges b (is_in c.as_slice-marks.result.now) others) c.has_holders-counts.ensures c.in_ok-others.ensures);
    }
