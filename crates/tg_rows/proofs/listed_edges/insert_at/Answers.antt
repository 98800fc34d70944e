use Rattle.std.proofs.Common.{◌≡◌, length, ap, ◌∙◌, ◌+◌, arith}
use Rattle.std.proofs.Math.ListN.{set}
use Rattle.std.specs.List.{copy_within}
use Rattle.tg_rows.proofs.EdgeLists.{inserted}
use Rattle.tg_rows.proofs.listed_edges.insert_at.Goals as goal

pub returns : goal.returns
returns c =
    let place = c.args.place in
    let edge = c.args.edge in
    let end : c.len-end.result ≡ length c.args.edges.now.items = omega (arith, c.len-end.ensures) in
    record {
      items =
          ap (λ edges. set edges place edge) c.copy_within.ensures.items
          ∙ (λ j. set (copy_within (c.in_ok-push.ensures.items j) place (end j) (place + 1)) place edge)
          ∙ inserted c.args.edges.now.items place edge c.requires;
    }
