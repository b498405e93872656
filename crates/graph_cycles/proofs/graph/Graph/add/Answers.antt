use Rattle.std.proofs.Common.{◌≡◌, ◌+◌, ◌++◌, ◌∷◌, [], length, rules, arith, length-append}
use Rattle.graph_cycles.proofs.RowLaws.{rows-push, EndAt-push}
use Rattle.graph_cycles.proofs.graph.Graph.add.Goals as goal

pub invariant_of-self-else-is_err : goal.invariant_of-self-else-is_err
invariant_of-self-else-is_err c =
    let ends : c.push.new.self.items ≡ c.self.inside.ends.items ++ c.len.result ∷ [] = search rules in
    let targets : c.extend_from_slice.new.self.items ≡ c.self.inside.targets.items ++ c.args.targets.now = c.in_ok-extend_from_slice.ensures.items in
    let end : c.len.result ≡ length c.self.inside.targets.items + length c.args.targets.now = omega (arith, c.in_ok-extend_from_slice.ensures.len) in
    let all = length-append c.self.inside.targets.items c.args.targets.now in
    rw (ends, targets) (EndAt-push 0 c.self.inside.ends.items (length c.self.inside.targets.items) c.len.result _ c.self.invariant (omega arith) (omega arith))

pub returns-clause-ok : goal.returns-clause-ok
returns-clause-ok c =
    let ends : c.push.new.self.items ≡ c.self.inside.ends.items ++ c.len.result ∷ [] = search rules in
    let targets : c.extend_from_slice.new.self.items ≡ c.self.inside.targets.items ++ c.args.targets.now = c.in_ok-extend_from_slice.ensures.items in
    let end : c.len.result ≡ length c.self.inside.targets.items + length c.args.targets.now = omega (arith, c.in_ok-extend_from_slice.ensures.len) in
    rw (ends, targets, ← c.self.view_is) (rows-push 0 c.self.inside.ends.items c.self.inside.targets.items c.args.targets.now c.len.result c.self.invariant end)
