use Rattle.std.proofs.Common.{◌≡◌, ◌<◌, ℕ, Err, ap, arith}
use Rattle.sierra_tool.proofs.evaluate.outcome_of.Goals as goal

-- the input has too little gas
pub returns-in-Err-NotEnoughGas : goal.returns-in-Err-NotEnoughGas
returns-in-Err-NotEnoughGas c =
    let short = (c.in-Err-NotEnoughGas.ensures.short c.in-Err-NotEnoughGas.need c.in-Err-NotEnoughGas.given).0 (ap Err c.in-Err-NotEnoughGas.field-0-is) in
    let need : c.in-Err-NotEnoughGas.need ≡ c.args.accepted.now.plan.entry = short.1 in
    let given : c.in-Err-NotEnoughGas.given ≡ c.args.input.now.gas = short.2 in
    let need_is = c.in-Err-NotEnoughGas.need-is in
    let given_is = c.in-Err-NotEnoughGas.given-is in
    (omega (arith, short.0, need, given), cc)
