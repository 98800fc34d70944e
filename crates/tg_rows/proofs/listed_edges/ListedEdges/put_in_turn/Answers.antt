use Rattle.std.proofs.Common.{◌<◌, [], sym, ap, ◌∙◌, length, get_or, arith}
use Rattle.std.specs.List.{insert}
use Rattle.std.proofs.lemmas.List.{length-map}
use Rattle.std.proofs.lemmas.Option.{none-some, slice_get-get_or}
use Rattle.tg_names.specs.Sets.{nothing}
use Rattle.tg_rows.specs.EdgeLists.{names_of, named}
use Rattle.tg_rows.proofs.EdgeLists.{take_one}
use Rattle.tg_rows.proofs.listed_edges.ListedEdges.put_in_turn.Goals as goal
use Rattle.tg_rows.proofs.listed_edges.ListedEdges.put_in_turn.Goals.{in-Some+in_ok-put, in_default}

pub loop-place-preserved : goal.loop-place-preserved
loop-place-preserved c =
    let edges = c.args.self.now in
    let place = c.loop-place.place in
    let es = c.self.inside.edges.items in
    elim c.match-at.branch [
      | in-Some+in_ok-put w ↦
          w.list-is ∙ w.in_ok-put.ensures.put ∙ ap (λ l. insert l place w.in-Some.edge) c.loop-place.invariant
          ∙ take_one edges place w.in-Some.edge (sym w.in-Some.ensures)
      | in_default w ↦
          let within : place < length edges = omega (arith, c.loop-place-test.true, c.len-place-end.ensures, sym (ap length c.self.view_is), length-map es (named (names_of c.self.inside.targets))) in
          absurd (none-some (get_or edges place ([], nothing)) (sym w.in_default.is ∙ c.at.ensures ∙ slice_get-get_or edges place ([], nothing) within))
    ]
