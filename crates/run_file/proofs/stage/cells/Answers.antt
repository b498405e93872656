use Rattle.std.proofs.Common.{◌-◌, sym, ap, ◌∙◌, arith}
use Rattle.run_file.specs.Stages.{from_cells, from_stage}
use Rattle.run_file.proofs.StageLaws.{no_cells, some_cells}
use Rattle.run_file.proofs.stage.cells.Goals as goal

pub returns-in-0-clause-goes_on : goal.returns-in-0-clause-goes_on
unfolding from_stage
returns-in-0-clause-goes_on c l p = rw c.in-0.is (sym (no_cells c.args.least l p))

pub returns-in_default-clause-goes_on : goal.returns-in_default-clause-goes_on
returns-in_default-clause-goes_on c l p = sym (some_cells c.args.least (c.args.count - 1) l p) ∙ ap (λ n. from_cells c.args.least n l p) (omega arith)
