use Rattle.std.proofs.Common.{◌≡◌, ◌<◌, Some, List, length, slice_get, slice_set, refl, sym, ap, ◌∙◌, arith}
use Rattle.std.specs.Prelude.{option_map}
use Rattle.std.proofs.lemmas.List.{map-set, length-map}
use Rattle.std.proofs.lemmas.Option.{same_Some, slice_get-map, slice_get_read, slice_get_within}
use Rattle.tg_flow.specs.declared.edges.FlowEdge.{FlowEdge}
use Rattle.tg_flow.specs.Edges.{with_flow}
use Rattle.tg_flow.specs.Packed.{edge_of}
use Rattle.tg_flow.proofs.network.Network.set_flow.Goals as goal

pub returns-then-number-len : goal.returns-then-number-len
returns-then-number-len c = λ e at.
    let items = c.self.inside.edges.items in
    let number = c.args.number in
    let packed = c.index.result.now in
    let within : number < length items = omega (arith, slice_get_within c.args.self.now number e at, ap length c.self.view_is, length-map items edge_of) in
    let read : slice_get items number ≡ Some packed = slice_get_read items (length items) number packed refl within c.index.ensures in
    let is : edge_of packed ≡ e = same_Some (edge_of packed) e (sym (slice_get-map edge_of items number ∙ ap (option_map edge_of) read) ∙ ap (λ (es : List FlowEdge). slice_get es number) c.self.view_is ∙ at) in
    let changed : edge_of c.with_flow.result ≡ with_flow e c.args.flow = c.with_flow.ensures ∙ ap (λ (o : FlowEdge). with_flow o c.args.flow) is in
    map-set edge_of items number c.with_flow.result ∙ (λ i. slice_set (c.self.view_is i) number (changed i))
