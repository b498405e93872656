use Rattle.run_file.proofs.Order.{none_at_first}
use Rattle.run_file.proofs.progress.Progress.new.Goals as goal

pub returns-clause-fits : goal.returns-clause-fits
returns-clause-fits c = rw c.new.ensures none_at_first
