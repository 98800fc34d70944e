use Rattle.std.proofs.Common.{◌≡◌, ◌≢◌, get_or, set, Some, OnOk, OnErr, sym, ap, subst, ◌∙◌, get_or-set_other, get_or-set_same}
use Rattle.std.proofs.lemmas.List.{set-set, set-get_or, get_or_default}
use Rattle.std.proofs.lemmas.Option.{slice_get-get_or}
use Rattle.tg_graph.specs.GraphOf.{graph_of}
use Rattle.tg_hall.specs.declared.seats.SeatState.{SeatState}
use Rattle.tg_hall.specs.Trails.{LeadsBy, vertices_at, TakesOver}
use Rattle.tg_hall.proofs.seats.take_over.Goals as goal
use Rattle.tg_hall.proofs.seats.take_over.Goals.{in-Ok, in-Err}

pub take_over-outcome-requires : goal.take_over-outcome-requires
take_over-outcome-requires c =
    let xs = c.args.seats.now in
    let i = c.args.index in
    let j = c.args.other in
    let lent = c.lend_graph-graph.new.self in
    let t = c.index-seats-other.result in
    let apart : j ≢ i = λ e. c.requires.apart (sym e) in
    let same : get_or (set xs i lent) j t ≡ get_or xs j t = get_or-set_other xs i j lent t apart in
    let source = get_or (set xs i lent) j t in
    subst (λ g. LeadsBy (graph_of g) (vertices_at (graph_of source.graph) c.args.positions.now) (graph_of source.graph)) (sym c.lend_graph-graph.ensures.graph)
    (c.requires.leads (get_or xs i c.index-seats-index.result) source
    (slice_get-get_or xs i c.index-seats-index.result c.requires.within.0)
    (slice_get-get_or xs j t c.requires.within.1 ∙ ap Some (sym same)))

pub returns-clause-ok : goal.returns-clause-ok
returns-clause-ok c =
    let xs = c.args.seats.now in
    let i = c.args.index in
    let j = c.args.other in
    let lent = c.lend_graph-graph.new.self in
    let d = c.index-seats-index.result in
    let t = c.index-seats-other.result in
    let apart : j ≢ i = λ e. c.requires.apart (sym e) in
    let after = c.settle.new.self in
    let back : get_or (set xs i lent) i c.index-seats-index-2.result ≡ lent = get_or-set_same xs i lent c.index-seats-index-2.result c.requires.within.0 in
    elim c.match-outcome.branch [
      | in-Ok w ↦
          subst (λ r. OnOk r (TakesOver xs i j (set (set xs i lent) i after))) (sym w.in-Ok.is)
          (record {
            seat = get_or xs i d;
            source = get_or xs j t;
            after = after;
            seat_is = slice_get-get_or xs i d c.requires.within.0;
            source_is = slice_get-get_or xs j t c.requires.within.1;
            set = set-set xs i lent after;
            taken =
                ap (λ (s : SeatState). s.taken) c.settle.ensures ∙ w.taken-is
                ∙ ap (λ (s : SeatState). s.taken) (get_or-set_other xs i j lent w.index-seats-other-in-Ok.result apart ∙ get_or_default xs j w.index-seats-other-in-Ok.result t c.requires.within.1);
            graph =
                ap (λ (s : SeatState). graph_of s.graph) c.settle.ensures
                ∙ subst (λ r. OnOk r (graph_of c.take_over-outcome.new.graph ≡ graph_of (get_or (set xs i lent) j t).graph)) w.in-Ok.is c.take_over-outcome.ensures.graph
                ∙ ap (λ (s : SeatState). graph_of s.graph) (get_or-set_other xs i j lent t apart);
            commits = ap (λ (s : SeatState). s.commits) (c.settle.ensures) ∙ ap (λ (s : SeatState). s.commits) (back ∙ c.lend_graph-graph.ensures.rest);
            session = ap (λ (s : SeatState). s.session) (c.settle.ensures) ∙ ap (λ (s : SeatState). s.session) (back ∙ c.lend_graph-graph.ensures.rest);
          })
      | in-Err w ↦ subst (λ r. OnOk r (TakesOver xs i j (set (set xs i lent) i after))) (sym w.in-Err.is) tt
    ]

pub returns-clause-err : goal.returns-clause-err
returns-clause-err c =
    let xs = c.args.seats.now in
    let i = c.args.index in
    let lent = c.lend_graph-graph.new.self in
    let d = c.index-seats-index.result in
    let after = c.settle.new.self in
    let old = get_or xs i d in
    let back = get_or-set_same xs i lent c.index-seats-index-2.result c.requires.within.0 ∙ c.lend_graph-graph.ensures.rest in
    elim c.match-outcome.branch [
      | in-Ok w ↦ subst (λ r. OnErr r (set (set xs i lent) i after ≡ xs)) (sym w.in-Ok.is) tt
      | in-Err w ↦
          let graph : c.take_over-outcome.new.graph ≡ old.graph =
          subst (λ r. OnErr r (c.take_over-outcome.new.graph ≡ c.lend_graph-graph.result)) w.in-Err.is c.take_over-outcome.ensures.err ∙ c.lend_graph-graph.ensures.graph in
          let taken : c.match-outcome.taken ≡ old.taken =
          w.taken-is ∙ ap (λ (s : SeatState). s.taken) (get_or-set_same xs i lent w.index-seats-index-in-Err.result c.requires.within.0 ∙ c.lend_graph-graph.ensures.rest) in
          let same : after ≡ old = c.settle.ensures ∙ (λ k. record (back k) { graph = graph k; taken = taken k }) in
          subst (λ r. OnErr r (set (set xs i lent) i after ≡ xs)) (sym w.in-Err.is) (set-set xs i lent after ∙ ap (set xs i) same ∙ set-get_or xs i d)
    ]
