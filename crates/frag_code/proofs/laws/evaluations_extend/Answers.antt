use Rattle.frag_code.specs.Form.{has_jump}
use Rattle.frag_code.specs.Evaluation.{nothing}
use Rattle.frag_code.proofs.Evaluations.{evaluates_extends}
use Rattle.frag_code.proofs.laws.evaluations_extend.Goals as goal

pub returns : goal.returns
returns c = λ f m more a fp k end extends evaluation. evaluates_extends m more extends a fp (has_jump f) f 0 0 nothing k end evaluation
