use Rattle.std.proofs.Common.{◌-◌, sym, ap, ◌∙◌, arith}
use Rattle.run_file.specs.Stages.{from_states, from_stage}
use Rattle.run_file.proofs.StageLaws.{no_states, some_states}
use Rattle.run_file.proofs.stage.states.Goals as goal

pub returns-in-0-clause-goes_on : goal.returns-in-0-clause-goes_on
unfolding from_stage
returns-in-0-clause-goes_on c l p = rw c.in-0.is (sym (no_states l p))

pub returns-in_default-clause-goes_on : goal.returns-in_default-clause-goes_on
returns-in_default-clause-goes_on c l p = sym (some_states (c.args.count - 1) l p) ∙ ap (λ n. from_states n l p) (omega arith)
