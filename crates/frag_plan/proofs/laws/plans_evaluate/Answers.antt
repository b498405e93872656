use Rattle.std.proofs.Common.{[], subst, sym, append-nil}
use Rattle.frag_code.specs.Form.{has_jump}
use Rattle.frag_code.specs.Evaluation.{nothing, Evaluates}
use Rattle.frag_plan.specs.Plan.{fragment}
use Rattle.frag_plan.proofs.Bridges.{facts_of, eval_of}
use Rattle.frag_plan.proofs.laws.plans_evaluate.Goals as goal

pub returns : goal.returns
returns c = λ m a fp k end args p.
    let f = fragment args p in (
      λ evaluation. facts_of m a fp args (has_jump f) p [] 0 nothing k end (subst (λ ps. Evaluates m a fp (has_jump f) ps 0 0 nothing k end) (sym (append-nil f)) evaluation),
      λ way. subst (λ ps. Evaluates m a fp (has_jump f) ps 0 0 nothing k end) (append-nil f) (eval_of m a fp args (has_jump f) p [] 0 nothing k end way),
    )
