use Rattle.std.proofs.Common.{◌≡◌, ◌<◌, ◌∙◌, [], ℕ, List, sym, ap, subst, Some, None, false, true, length, get_or, set, not, arith, refl}
use Rattle.std.specs.Prelude.{if◌then◌else◌, slice_get}
use Rattle.std.specs.Map.{keys_of}
use Rattle.std.proofs.lemmas.Bool.Decides.{Decides-eqb}
use Rattle.std.proofs.lemmas.List.{length-map, get_or_read_under}
use Rattle.std.proofs.lemmas.Option.{slice_get_within}
use Rattle.tg_graph.specs.declared.protection.EdgeFault.TheVariants.{EdgeThere, Empty}
use Rattle.tg_names.specs.declared.right_sets.Rights.{Rights}
use Rattle.tg_names.specs.Names.{Name}
use Rattle.tg_rows.specs.Rows.{Entries, Edges}
use Rattle.tg_names.specs.Sets.{nothing, is_empty_set, IsNamed}
use Rattle.tg_graph.specs.Waiting.{graph_built, MayWait}
use Rattle.tg_graph.proofs.BuiltGraphs.{inside, fault-waits, built-waits}
use Rattle.tg_graph.proofs.waiting.add_waiting.Goals as goal

-- there is a label for the target
target_within : (es : Entries) (waits : List (List Rights)) (source target : ℕ) (y : Name) → MayWait (es, waits) → 0 < length (get_or waits source []) → slice_get (keys_of es) target ≡ Some y → target < length (get_or waits source [])
target_within es waits source target y m some at = omega (arith, slice_get_within (keys_of es) target y at, length-map es (λ (e : Name × Edges). e.0), (m source some).1)

read : (waits : List (List Rights)) (source : ℕ) (x : List Rights) → x ≡ get_or waits source x → 0 < length (get_or waits source []) → x ≡ get_or waits source []
read waits source x e some = get_or_read_under waits source (length waits) x [] e (inside waits source some) refl

pub at-requires : goal.at-requires
at-requires c =
    let r = c.requires in
    let waits = c.args.waits.now.items in
    omega (arith, target_within c.args.graph.now waits c.args.source c.args.target c.args.y r.may_wait r.waits r.target, ap length (read waits c.args.source c.index.result.now c.index.ensures r.waits))

pub set-requires-clause-place : goal.set-requires-clause-place
set-requires-clause-place c =
    let r = c.requires in
    let waits = c.args.waits.now.items in
    omega (arith, target_within c.args.graph.now waits c.args.source c.args.target c.args.y r.may_wait r.waits r.target, ap length (read waits c.args.source c.index_mut.result.now c.index_mut.ensures.value r.waits))

pub returns-then-not-is_empty-clause-added : goal.returns-then-not-is_empty-clause-added
returns-then-not-is_empty-clause-added c =
    let r = c.requires in
    let waits = c.args.waits.now.items in
    let target = c.args.target in
    let label : c.at.result ≡ get_or (get_or waits c.args.source []) target nothing = c.at.ensures.value ∙ ap (λ l. get_or l target nothing) (read waits c.args.source c.index.result.now c.index.ensures r.waits) in
    let full : is_empty_set (get_or (get_or waits c.args.source []) target nothing) ≡ false = ap (λ (l : Rights). is_empty_set l) (sym label) ∙ sym (c.is_empty.ensures tt) ∙ c.if-not-is_empty.true in
    fault-waits c.args.graph.now waits c.args.source c.args.x c.len.ensures.graph.apart r.source r.waits target c.args.y c.args.rights r.target (subst IsNamed label c.at.ensures.named)
    ∙ ap (λ b. if not b then Some EdgeThere else (if is_empty_set c.args.rights then Some Empty else None)) full

pub returns-then-is_empty-clause-added : goal.returns-then-is_empty-clause-added
returns-then-is_empty-clause-added c =
    let r = c.requires in
    let waits = c.args.waits.now.items in
    let target = c.args.target in
    let label : c.at.result ≡ get_or (get_or waits c.args.source []) target nothing = c.at.ensures.value ∙ ap (λ l. get_or l target nothing) (read waits c.args.source c.index.result.now c.index.ensures r.waits) in
    let free : is_empty_set (get_or (get_or waits c.args.source []) target nothing) ≡ true = ap (λ (l : Rights). is_empty_set l) (sym label) ∙ sym (c.is_empty.ensures tt) ∙ c.if-not-is_empty.false in
    let empty : is_empty_set c.args.rights ≡ true = sym (c.is_empty-2.ensures tt) ∙ c.if-is_empty.true in
    fault-waits c.args.graph.now waits c.args.source c.args.x c.len.ensures.graph.apart r.source r.waits target c.args.y c.args.rights r.target (subst IsNamed label c.at.ensures.named)
    ∙ (λ i. if not (free i) then Some EdgeThere else (if empty i then Some Empty else None))

pub returns-clause-added : goal.returns-clause-added
returns-clause-added c =
    let r = c.requires in
    let waits = c.args.waits.now.items in
    let source = c.args.source in
    let target = c.args.target in
    let label : c.at.result ≡ get_or (get_or waits source []) target nothing = c.at.ensures.value ∙ ap (λ l. get_or l target nothing) (read waits source c.index.result.now c.index.ensures r.waits) in
    let free : is_empty_set (get_or (get_or waits source []) target nothing) ≡ true = ap (λ (l : Rights). is_empty_set l) (sym label) ∙ sym (c.is_empty.ensures tt) ∙ c.if-not-is_empty.false in
    let some : is_empty_set c.args.rights ≡ false = sym (c.is_empty-2.ensures tt) ∙ c.if-is_empty.false in
    let labels : c.set.new.self ≡ set (get_or waits source []) target c.args.rights = c.set.ensures ∙ ap (λ l. set l target c.args.rights) (read waits source c.index_mut.result.now c.index_mut.ensures.value r.waits) in (
      fault-waits c.args.graph.now waits source c.args.x c.len.ensures.graph.apart r.source r.waits target c.args.y c.args.rights r.target (subst IsNamed label c.at.ensures.named)
          ∙ (λ i. if not (free i) then Some EdgeThere else (if some i then Some Empty else None)),
      ap (λ l. graph_built (c.args.graph.now, set waits source l)) labels
          ∙ built-waits c.args.graph.now waits source c.args.x c.len.ensures.graph.apart r.source r.waits target c.args.y c.args.rights r.target
          (target_within c.args.graph.now waits source target c.args.y r.may_wait r.waits r.target) ((Decides-eqb (get_or (get_or waits source []) target nothing).0 0).0 free),
    )
