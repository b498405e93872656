use Rattle.std.proofs.Common.{ap, length}
use Rattle.cell_forms.proofs.Sizes.{stands_long}
use Rattle.cell_forms.specs.Standing.{Asked}
use Rattle.cell_forms.specs.LogStands.{LogStands, OpenLogStands}
use Rattle.cell_forms.proofs.laws.standing_takes_its_cells.Goals as goal

pub returns-clause-plain : goal.returns-clause-plain
returns-clause-plain c padding m ty cells v h = stands_long (Asked padding) _ _ m (λ k cells d h. absurd h) (λ k cells e h. absurd h) ty cells v h

pub returns-clause-logged : goal.returns-clause-logged
returns-clause-logged c padding m ty cells v h =
    stands_long (Asked padding) (LogStands m) (OpenLogStands m) m (λ k cells d h. ap length h.2) (λ k cells e h. ap length h.2) ty cells v h
