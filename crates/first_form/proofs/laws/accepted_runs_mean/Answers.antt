use Rattle.first_form.proofs.Soundness.{soundness}
use Rattle.first_form.proofs.laws.accepted_runs_mean.Goals as goal

pub returns : goal.returns
returns c = λ program input rc m states verdict accepts. soundness program input rc m states accepts verdict
