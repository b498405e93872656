use Rattle.std.proofs.Common.{refl}
use Rattle.first_form.proofs.judgement.judge.Goals as goal

-- the first part that fails
pub returns-in-Err : goal.returns-in-Err
returns-in-Err c = (c.in-Err.ensures.err c.in-Err.fault).0 refl
