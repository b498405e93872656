use Rattle.cell_forms.specs.Standing.{Asked}
use Rattle.cell_forms.specs.LogStands.{LogStands, OpenLogStands}
use Rattle.cell_forms.proofs.Logs.{log_long, open_log_long}
use Rattle.cell_forms.proofs.Sides.{all_of_both, both_of_all}
use Rattle.cell_forms.proofs.laws.standing_side_by_side.Goals as goal

pub returns-clause-together : goal.returns-clause-together
returns-clause-together c padding m ts us cells more vs ws h k =
    all_of_both (Asked padding) (LogStands m) (OpenLogStands m) m (log_long m) (open_log_long m) ts us cells more vs ws h k

pub returns-clause-apart : goal.returns-clause-apart
returns-clause-apart c padding m ts us cells xs h =
    both_of_all (Asked padding) (LogStands m) (OpenLogStands m) m (log_long m) (open_log_long m) ts us cells xs h
