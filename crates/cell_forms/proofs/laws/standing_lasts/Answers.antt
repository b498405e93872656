use Rattle.cell_forms.specs.Standing.{Asked}
use Rattle.cell_forms.specs.LogStands.{LogStands, OpenLogStands}
use Rattle.cell_forms.proofs.Growth.{stands_kept}
use Rattle.cell_forms.proofs.Logs.{asked_kept, log_kept, open_log_kept}
use Rattle.cell_forms.proofs.laws.standing_lasts.Goals as goal

pub returns-clause-plain : goal.returns-clause-plain
returns-clause-plain c padding m more ty cells grown v grows keeps h =
    stands_kept (Asked padding) (Asked padding) (asked_kept padding) m more grows _ _ _ _ (λ k cells grown d keeps h. absurd h) (λ k cells grown e keeps h. absurd h) ty cells grown v keeps h

pub returns-clause-logged : goal.returns-clause-logged
returns-clause-logged c padding m more ty cells grown v grows keeps h =
    stands_kept (Asked padding) (Asked padding) (asked_kept padding) m more grows (LogStands m) (LogStands more) (OpenLogStands m) (OpenLogStands more)
    (log_kept m more grows) (open_log_kept m more grows) ty cells grown v keeps h
