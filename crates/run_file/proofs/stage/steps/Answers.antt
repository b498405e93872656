use Rattle.run_file.proofs.StageLaws.{steps_step, steps_refused}
use Rattle.run_file.proofs.stage.steps.Goals as goal

pub returns-then-steps-clause-read : goal.returns-then-steps-clause-read
returns-then-steps-clause-read c at more =
    rw c.from_le_bytes-steps.ensures (steps_step at c.args.number more c.requires (rw c.from_le_bytes-steps.ensures at c.if-steps.true))

pub returns-else-steps-clause-read : goal.returns-else-steps-clause-read
returns-else-steps-clause-read c at =
    (tt, λ more. steps_refused at c.args.number more c.requires (rw c.from_le_bytes-steps.ensures at c.if-steps.false))
