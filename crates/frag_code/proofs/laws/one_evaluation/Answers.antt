use Rattle.frag_code.specs.Form.{has_jump}
use Rattle.frag_code.specs.Evaluation.{nothing}
use Rattle.frag_code.proofs.Evaluations.{evaluates_once}
use Rattle.frag_code.proofs.laws.one_evaluation.Goals as goal

pub returns : goal.returns
returns c = λ f m a fp k l end last first second. evaluates_once m a fp (has_jump f) f 0 0 nothing k l end last first second
