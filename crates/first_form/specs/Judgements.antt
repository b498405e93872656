-- What the check says of a run.
use Rattle.run_file.specs.declared.run.Run.{Run}
use Rattle.first_form.specs.declared.program.Program.{Program}
use Rattle.first_form.specs.declared.input.Input.{Input}
use Rattle.first_form.specs.declared.judgement.Judgement.{Judgement}
use Rattle.first_form.specs.declared.judgement.Judgement.TheVariants as judgements
use Rattle.first_form.specs.Rejected.{IsRejected}
use Rattle.first_form.specs.Runs.{IsAccepted, IsVerdict}

-- the run is accepted and this is its verdict, or it is rejected for this fault
abbrev pub IsJudgement : Program → Input → Run → Judgement → Type 0
IsJudgement program input run (judgements.Accepted verdict) = IsAccepted program input run × IsVerdict program input run verdict
IsJudgement program input run (judgements.Rejected fault) = IsRejected program input run fault
