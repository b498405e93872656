use Rattle.std.proofs.Common.{◌≡◌, ◌<◌, ◌∙◌, ◌↔◌, List, ℕ, length, get_or, subst, arith}
use Rattle.std.specs.Prelude.{IsTrue}
use Rattle.graph_cycles.proofs.RowLaws.{closed_list}
use Rattle.graph_cycles.proofs.graph.Graph.is_closed.Goals as goal

pub returns : goal.returns
returns c =
    let count : c.len.result ≡ length c.self.inside.ends.items = omega arith in
    let here : IsTrue c.all_below.result ↔ ((k : ℕ) → k < length c.deref.result.now → get_or c.deref.result.now k 0 < c.len.result) = c.all_below.ensures in
    let moved = subst (λ (xs : List ℕ). IsTrue c.all_below.result ↔ ((k : ℕ) → k < length xs → get_or xs k 0 < c.len.result)) c.deref.ensures.value here in
    let below = subst (λ (n : ℕ). IsTrue c.all_below.result ↔ ((k : ℕ) → k < length c.self.inside.targets.items → get_or c.self.inside.targets.items k 0 < n)) count moved in
    let closed = closed_list c.self.inside.ends.items c.self.inside.targets.items c.args.self.now c.self.invariant c.self.view_is in
    (λ is. closed.0 (below.0 is), λ is. below.1 (closed.1 is))
