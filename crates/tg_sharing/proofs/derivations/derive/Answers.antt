use Rattle.std.proofs.Common.{get_or, ap, sym, ◌∙◌, subst, arith}
use Rattle.tg_names.specs.declared.right_sets.Right.TheVariants.{T}
use Rattle.tg_names.specs.Letters.{all_rights}
use Rattle.tg_names.specs.Names.{Name}
use Rattle.tg_graph.specs.GraphOf.{graph_of}
use Rattle.tg_graph.specs.RuleLists.{CanShare}
use Rattle.tg_sharing.specs.declared.chains.Search.{Search}
use Rattle.tg_sharing.specs.SetDerivations.{AddsPart}
use Rattle.tg_sharing.proofs.Moved.{so_far_none}
use Rattle.tg_islands.proofs.NoOthers.{no_other}
use Rattle.tg_sharing.proofs.Parts.{parts_none, parts_skip, parts_next, parts_whole, not_all}
use Rattle.tg_sharing.proofs.derivations.derive.Goals as goal
use Rattle.tg_sharing.proofs.derivations.derive.Goals.{then-has+in_ok-last+in-Some, else-has}

-- what no vertex holds can't be shared
pub returns-then-lacks_holder : goal.returns-then-lacks_holder
returns-then-lacks_holder c =
    let graph = graph_of c.args.graph.now in
    λ can. c.lacks_holder.ensures c.if-lacks_holder.true (λ right within. let held = no_other graph right c.args.x c.args.y c.requires.well_formed c.requires.known c.requires.known_too (can.0, can.1, can.2 right within) in (held.0, held.1))

pub loop-right-init : goal.loop-right-init
loop-right-init c = record {
  searching = c.in_ok-search.ensures.searching;
  start = c.in_ok-search.ensures.start;
  parts = parts_none (graph_of c.args.graph.now) c.args.rights c.args.x c.args.y c.new-rules.result.items c.new-rules.ensures.items (so_far_none (graph_of c.args.graph.now) c.new-rules.result.items c.new-rules.ensures.items);
}

pub returns-in-None : goal.returns-in-None
returns-in-None c =
    let right = get_or all_rights c.loop-right.right-index T in
    not_all (graph_of c.args.graph.now) c.args.rights right c.args.x c.args.y (sym c.has.ensures ∙ c.if-has.true)
    (subst (λ (x : Name). CanShare (graph_of c.args.graph.now) right x c.args.y → ⊥) c.loop-right.invariant.start (rw c.in-None.is at c.in_ok-last.ensures.part))

pub loop-right-preserved : goal.loop-right-preserved
loop-right-preserved c =
    let graph = graph_of c.args.graph.now in
    let right = get_or all_rights c.loop-right.right-index T in
    let before = c.loop-right.invariant in
    elim c.if-has.branch [
      | then-has+in_ok-last+in-Some w ↦ record {
        searching = rw w.search-is w.in_ok-last.ensures.on.searching;
        start = ap (λ (s : Search). s.start) w.search-is ∙ w.in_ok-last.ensures.on.start ∙ before.start;
        parts = rw (w.rules-is, w.next-is) (parts_next graph c.args.rights c.args.x c.args.y all_rights c.loop-right.right-index T c.loop-right.rules.items w.add_part.new.rules.items c.loop-right.next w.in-Some.last (omega arith) (sym c.has.ensures ∙ w.if-has.true) before.parts (subst (λ (x : Name). AddsPart graph right x c.args.y c.loop-right.rules.items w.add_part.new.rules.items c.loop-right.next w.in-Some.last) before.start (rw w.in-Some.is at w.in_ok-last.ensures.part)));
      }
      | else-has w ↦ record {
        searching = rw w.search-is before.searching;
        start = ap (λ (s : Search). s.start) w.search-is ∙ before.start;
        parts = rw (w.rules-is, w.next-is) (parts_skip graph c.args.rights c.args.x c.args.y all_rights c.loop-right.right-index T c.loop-right.rules.items c.loop-right.next (omega arith) (sym c.has.ensures ∙ w.if-has.false) before.parts);
      }
    ]

pub returns : goal.returns
returns c = parts_whole (graph_of c.args.graph.now) c.args.rights c.args.x c.args.y c.loop-right.right-index c.loop-right.rules.items c.loop-right.next (omega arith) c.loop-right.invariant.parts
