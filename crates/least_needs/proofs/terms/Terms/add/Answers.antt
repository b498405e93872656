use Rattle.std.proofs.Common.{◌≡◌, ◌+◌, ◌++◌, ◌∷◌, [], length, rules, arith, length-append}
use Rattle.least_needs.proofs.RowLaws.{rows-push, EndAt-push}
use Rattle.least_needs.proofs.terms.Terms.add.Goals as goal

pub invariant_of-self-else-is_err : goal.invariant_of-self-else-is_err
invariant_of-self-else-is_err c =
    let ends : c.push.new.self.items ≡ c.self.inside.ends.items ++ c.len.result ∷ [] = search rules in
    let terms : c.extend_from_slice.new.self.items ≡ c.self.inside.terms.items ++ c.args.terms.now = c.in_ok-extend_from_slice.ensures.items in
    let end : c.len.result ≡ length c.self.inside.terms.items + length c.args.terms.now = omega (arith, c.in_ok-extend_from_slice.ensures.len) in
    let all = length-append c.self.inside.terms.items c.args.terms.now in
    rw (ends, terms) (EndAt-push 0 c.self.inside.ends.items (length c.self.inside.terms.items) c.len.result _ c.self.invariant (omega arith) (omega arith))

pub returns-clause-ok : goal.returns-clause-ok
returns-clause-ok c =
    let ends : c.push.new.self.items ≡ c.self.inside.ends.items ++ c.len.result ∷ [] = search rules in
    let terms : c.extend_from_slice.new.self.items ≡ c.self.inside.terms.items ++ c.args.terms.now = c.in_ok-extend_from_slice.ensures.items in
    let end : c.len.result ≡ length c.self.inside.terms.items + length c.args.terms.now = omega (arith, c.in_ok-extend_from_slice.ensures.len) in
    rw (ends, terms, ← c.self.view_is) (rows-push 0 c.self.inside.ends.items c.self.inside.terms.items c.args.terms.now c.len.result c.self.invariant end)
