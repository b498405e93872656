use Rattle.std.proofs.Common.{refl}
use Rattle.run_file.proofs.Order.{same_cells}
use Rattle.run_file.proofs.progress.Progress.into_run.Goals as goal

pub returns : goal.returns
returns c = rw (c.new.ensures, same_cells c.args.self.run.memory) refl
