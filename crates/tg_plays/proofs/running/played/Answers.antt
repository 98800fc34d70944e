use Rattle.std.proofs.Common.{refl, sym, ap, subst, ◌∙◌, ◌++◌}
use Rattle.tg_graph.specs.GraphOf.{graph_of}
use Rattle.tg_text.specs.Canonical.{canonical_text}
use Rattle.tg_hall.specs.Histories.{replay, IsLegal}
use Rattle.tg_hall.specs.Worlds.{World}
use Rattle.tg_plays.specs.Runs.{Plays}
use Rattle.tg_plays.proofs.ScriptLemmas.{plays_keep}
use Rattle.tg_plays.proofs.running.played.Goals as goal

pub returns : goal.returns
returns c =
    let start = c.in_ok-hall.hall in
    let end = c.give_up_known.new.self in
    let outcomes = c.in_ok-bytes.bytes.items in
    let events = c.args.script.now.lines.items in
    let played = subst (λ es. Plays start es outcomes c.play_all.new.hall) c.deref.ensures.value c.in_ok-bytes.ensures in
    let plays = subst (λ (w : World). Plays start events outcomes w) (sym c.give_up_known.ensures) played in
    let opening = plays_keep start end events outcomes plays ∙ ap (λ w. w.opening) c.in_ok-hall.ensures in
    let graph = c.in_ok-last.ensures.graph ∙ ap (λ rows. replay (graph_of rows) end.history) opening in
    let text = ap canonical_text graph in
    record {
      opening = c.args.graph.now;
      end = end;
      outcomes = outcomes;
      opens = refl;
      plays = subst (λ w. Plays w events outcomes end) c.in_ok-hall.ensures plays;
      legal = subst (λ rows. IsLegal (graph_of rows) end.history) opening c.in_ok-last.ensures.legal;
      says = ap (λ bytes. record { bytes = bytes; status = 0 }) (c.in_ok-write_graph_behind.ensures ∙ (λ i. c.in_ok-extend_from_slice.ensures.items i ++ text i));
    }
