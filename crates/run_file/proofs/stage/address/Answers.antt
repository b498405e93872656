use Rattle.std.proofs.Common.{arith}
use Rattle.std.proofs.lemmas.Result.{err_from_is_err_and}
use Rattle.run_file.proofs.StageLaws.{address_step, address_refused, address_no_word}
use Rattle.run_file.proofs.stage.address.Goals as goal

pub returns-in_err-address-clause-read : goal.returns-in_err-address-clause-read
returns-in_err-address-clause-read c =
    let p = err_from_is_err_and c.from_residual.result c.from_residual.ensures.1 in
    rw (p.1, p.2) (c.in_err-address.ensures.0, λ more. address_no_word c.args.least _ c.in_err-address.field-0.0 (c.in_err-address.ensures.1 more))

pub returns-then-value-least-clause-read : goal.returns-then-value-least-clause-read
returns-then-value-least-clause-read c =
    (tt, λ more. address_refused c.args.least _ _ c.in_ok-address.address (c.in_ok-address.ensures more) (omega (arith, c.value.ensures.value, c.if-value-least.true)))

pub returns-clause-read : goal.returns-clause-read
returns-clause-read c more =
    address_step c.args.least _ _ c.in_ok-address.address (c.in_ok-address.ensures more) (omega (arith, c.value.ensures.value, c.if-value-least.false))
