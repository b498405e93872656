use Rattle.cell_forms.specs.Standing.{Asked}
use Rattle.cell_forms.specs.LogStands.{LogStands, OpenLogStands}
use Rattle.cell_forms.proofs.Snapshots.{to_type, to_snap}
use Rattle.cell_forms.proofs.laws.snapshots_stand_alike.Goals as goal

pub returns-clause-plain : goal.returns-clause-plain
returns-clause-plain c padding m ty cells v = (to_type (Asked padding) _ _ m ty cells v, to_snap (Asked padding) _ _ m ty cells v)

pub returns-clause-logged : goal.returns-clause-logged
returns-clause-logged c padding m ty cells v =
    (to_type (Asked padding) (LogStands m) (OpenLogStands m) m ty cells v, to_snap (Asked padding) (LogStands m) (OpenLogStands m) m ty cells v)
