use Rattle.std.proofs.Common.{◌≡◌, ◌↔◌, ◌∙◌, sym, subst, ℕ, List, Some, IsTrue, false, get_or, length, ◌<◌, slice_get}
use Rattle.type_table.specs.Lookups.{names_in, AreNumbered}
use Rattle.type_table.specs.Naming.{ids_of}
use Rattle.type_table.specs.Refusals.{IsRepeatedId}
use Rattle.graph_cycles.specs.Graph.{IsClosed}
use Rattle.type_table.proofs.ResolvedLaws.{graph_right, closed, resolved}
use Rattle.type_table.proofs.resolved.resolve.Goals as goal

pub find_cycles-requires : goal.find_cycles-requires
find_cycles-requires c =
    let ds = c.args.declarations.now in
    subst IsClosed (sym (c.in_ok-graph.ensures ∙ graph_right ds c.in_ok-ids.ids.positions c.in_ok-ids.ensures.first)) (closed ds)

pub returns : goal.returns
returns c =
    let ds = c.args.declarations.now in
    resolved ds _ c.deref.result.now c.deref-3.result.now c.deref-2.result.now c.in_ok-ids.ensures.first
    (subst (λ l. (i : ℕ) (id : List ℕ) → slice_get (ids_of ds) i ≡ Some id → IsTrue (get_or l i false) ↔ IsRepeatedId (ids_of ds) i id) (sym c.deref-2.ensures.value) c.in_ok-ids.ensures.repeated)
    (subst (λ l. ((i : ℕ) → i < length ds → get_or l i false ≡ false) → (names_in c.in_ok-ids.ids.positions ≡ ids_of ds) × AreNumbered c.in_ok-ids.ids.positions) (sym c.deref-2.ensures.value) c.in_ok-ids.ensures.listed)
    (c.in_ok-graph.ensures ∙ graph_right ds c.in_ok-ids.ids.positions c.in_ok-ids.ensures.first)
    (c.deref.ensures.value ∙ c.in_ok-generics.ensures) c.deref-3.ensures.value
    c.in_ok-kinds.ensures c.in_ok-repeated.ensures c.in_ok-cycles.ensures.cyclic c.in_ok-cycles.ensures.each_once c.in_ok-cycles.ensures.targets_first
