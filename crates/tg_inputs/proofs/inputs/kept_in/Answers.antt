use Rattle.std.proofs.Common.{◌≡◌, ◌∙◌, List, Bor, drop, ℕ, [], ap, sym, subst, map, arith}
use Rattle.std.proofs.lemmas.List.{take_rest}
use Rattle.tg_graph.specs.GraphOf.{graph_of}
use Rattle.tg_cuts.specs.declared.kept.Ends.{Ends}
use Rattle.tg_inputs.specs.Readings.{kept_in}
use Rattle.tg_inputs.specs.Outcomes.{HaveEnds}
use Rattle.tg_inputs.proofs.KeptEdges.{kept_from, kept_from-none, kept_from-more, ends-none, ends-more}
use Rattle.tg_inputs.proofs.inputs.kept_in.Goals as goal

pub loop-left-init : goal.loop-left-init
loop-left-init c =
    let g = graph_of c.args.graph.now in
    let words = map (λ (word : Bor (List ℕ)). word.now) c.args.words.now in
    record {
      made = subst (λ (done : List Ends). kept_from g done words ≡ kept_in g words) (sym c.new-kept.ensures.items) (kept_from-none g words);
      known = subst (HaveEnds g) (sym c.new-kept.ensures.items) (ends-none g);
    }

pub loop-left-preserved : goal.loop-left-preserved
loop-left-preserved c =
    let g = graph_of c.args.graph.now in
    let left = c.loop-left.left.now in
    let word = λ (w : Bor (List ℕ)). w.now in
    let words = map word c.args.words.now in
    let one = kept_from-more g word record { ref_ptr = (0, 0); now = [] } left c.loop-left.kept.items c.in_ok-edge.edge (omega arith) c.in_ok-edge.ensures.made ∙ c.loop-left.invariant.made in
    let more = ends-more g c.loop-left.kept.items c.in_ok-edge.edge c.loop-left.invariant.known c.in_ok-edge.ensures.source c.in_ok-edge.ensures.target in
    record {
      made = ap (λ (rest : List (Bor (List ℕ))). kept_from g c.add_edge.new.edges.items (map word rest)) (take_rest left 3) ∙ subst (λ (done : List Ends). kept_from g done (map word (drop 3 left)) ≡ kept_in g words) (sym c.in_ok-add_edge.ensures) one;
      known = subst (HaveEnds g) (sym c.in_ok-add_edge.ensures) more;
    }
