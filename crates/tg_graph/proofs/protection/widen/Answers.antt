use Rattle.std.proofs.Common.{sym}
use Rattle.tg_graph.proofs.Graphs.{changes-found, same-found}
use Rattle.tg_rows.proofs.Rows.{on_err_from}
use Rattle.tg_graph.proofs.TakenOver.{row-at, set_value-at}
use Rattle.tg_graph.proofs.protection.widen.Goals as goal

pub returns-in_err-add-clause-err : goal.returns-in_err-add-clause-err
returns-in_err-add-clause-err c =
    let es = c.args.rows.now.entries in
    let row = c.in-Some.row.now in
    let found = row-at es c.args.source c.args.x row c.get_index_mut.ensures.unique c.requires.source (sym c.in-Some.ensures.value) in
    let put = set_value-at es c.args.source c.args.x row c.add.new.self c.get_index_mut.ensures.unique c.requires.source found in
    on_err_from c.from_residual.result (same-found es _ c.args.x row c.add.new.self (sym found) put c.in_err-add.ensures.err)

pub returns-clause-widened : goal.returns-clause-widened
returns-clause-widened c =
    let es = c.args.rows.now.entries in
    let row = c.in-Some.row.now in
    let found = row-at es c.args.source c.args.x row c.get_index_mut.ensures.unique c.requires.source (sym c.in-Some.ensures.value) in
    let put = set_value-at es c.args.source c.args.x row c.add.new.self c.get_index_mut.ensures.unique c.requires.source found in
    changes-found es _ c.args.x row c.add.new.self (sym found) put c.in_ok-add.ensures.adds c.in_ok-add.ensures.row
