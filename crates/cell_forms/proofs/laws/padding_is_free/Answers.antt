use Rattle.cell_forms.specs.Standing.{Asked, any}
use Rattle.cell_forms.specs.LogStands.{LogStands, OpenLogStands}
use Rattle.cell_forms.proofs.Growth.{stands_kept, keep_same}
use Rattle.cell_forms.proofs.Logs.{log_kept, open_log_kept}
use Rattle.cell_forms.proofs.laws.padding_is_free.Goals as goal

pub returns-clause-plain : goal.returns-clause-plain
returns-clause-plain c padding m ty cells v h =
    stands_kept (Asked padding) (Asked any) (λ o p keeps h. tt) m m (λ a n h. h) _ _ _ _ (λ k cells grown d keeps h. absurd h) (λ k cells grown e keeps h. absurd h)
    ty cells cells v (keep_same cells) h

pub returns-clause-logged : goal.returns-clause-logged
returns-clause-logged c padding m ty cells v h =
    stands_kept (Asked padding) (Asked any) (λ o p keeps h. tt) m m (λ a n h. h) (LogStands m) (LogStands m) (OpenLogStands m) (OpenLogStands m)
    (log_kept m m (λ a n h. h)) (open_log_kept m m (λ a n h. h)) ty cells cells v (keep_same cells) h
