use Rattle.std.proofs.Common.{◌≡◌, ℕ, List, length, subst, arith}
use Rattle.std.specs.List.{All}
use Rattle.std.specs.Prelude.{◌↔◌, IsTrue}
use Rattle.least_needs.specs.declared.terms.Term.{Term}
use Rattle.least_needs.specs.Terms.{AreBelow, listed}
use Rattle.least_needs.proofs.ClosedTerms.{closed_terms}
use Rattle.least_needs.proofs.terms.Terms.is_closed.Goals as goal

pub returns : goal.returns
returns c =
    let count : c.len.result ≡ length c.self.inside.ends.items = omega arith in
    let moved = subst (λ (xs : List Term). IsTrue c.all_below.result ↔ All (λ x. AreBelow c.len.result (listed x.targets)) xs) c.deref.ensures.value c.all_below.ensures in
    let below = subst (λ (n : ℕ). IsTrue c.all_below.result ↔ All (λ x. AreBelow n (listed x.targets)) c.self.inside.terms.items) count moved in
    let closed = closed_terms c.self.inside.ends.items c.self.inside.terms.items c.args.self.now c.self.invariant c.self.view_is in
    (λ is. closed.0 (below.0 is), λ is. below.1 (closed.1 is))
