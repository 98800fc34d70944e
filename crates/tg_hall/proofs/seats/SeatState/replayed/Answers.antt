use Rattle.std.proofs.Common.{◌≡◌, ◌-◌, Result, Ok, Err, IfOk, ap, ◌∙◌, take, drop, length, arith}
use Rattle.std.proofs.lemmas.List.{take_all, length-drop}
use Rattle.tg_graph.specs.Graphs.{ProtectionGraph}
use Rattle.tg_rows.specs.Rows.{Entries}
use Rattle.tg_graph.specs.GraphOf.{graph_of}
use Rattle.tg_hall.specs.Histories.{replay}
use Rattle.tg_hall.specs.Seats.{Rests}
use Rattle.tg_hall.proofs.SeatLemmas.{rests-whole}
use Rattle.tg_hall.proofs.seats.SeatState.replayed.Goals as goal

weaker : {E : Type 0} (r : Result Entries E) (P Q : Entries → Type 0) → ((graph : Entries) → P graph → Q graph) → IfOk r P → IfOk r Q
weaker (Ok graph) P Q f h = f graph h
weaker (Err e) P Q f h = tt

pub returns : goal.returns
returns c =
    let s = c.args.self.now in
    let records = c.args.records.now in
    let left : take (length records - s.taken) (drop s.taken records) ≡ drop s.taken records = take_all (length records - s.taken) (drop s.taken records) (omega (arith, length-drop s.taken records)) in
    weaker c.replayed.result (λ graph. graph_of graph ≡ replay (graph_of s.graph) (take (length records - s.taken) (drop s.taken records)))
    (λ graph. (g : ProtectionGraph) → Rests g records s → graph_of graph ≡ replay g records)
    (λ graph e g h. e ∙ ap (replay (graph_of s.graph)) left ∙ rests-whole g records s h) c.replayed.ensures
