use Rattle.std.proofs.Common.{◌≡◌, Ok, refl, arith, inr}
use Rattle.std.proofs.lemmas.Grind.{common_steps}
use Rattle.first_form.proofs.accepted.test_state.Goals as goal

pub returns-then-eq-2-clause-ok : goal.returns-then-eq-2-clause-ok
returns-then-eq-2-clause-ok c =
    let stepped : c.step.result ≡ Ok c.in_ok-next.next = grind (arith, common_steps) in
    record {
      not_early = grind (arith, common_steps);
      next = c.in_ok-next.next;
      step = (c.step.ensures.step c.in_ok-next.next).0 stepped;
      next_is = grind (arith, common_steps);
    }

pub returns-else-eq-2-clause-err : goal.returns-else-eq-2-clause-err
returns-else-eq-2-clause-err c =
    let stepped : c.step.result ≡ Ok c.in_ok-next.next = grind (arith, common_steps) in
    inr (grind (arith, common_steps), inr (c.in_ok-next.next, (c.step.ensures.step c.in_ok-next.next).0 stepped, refl, grind (arith, common_steps)))
