use Rattle.std.proofs.Common.{◌≡◌, ◌++◌, ap, ◌∙◌, arith}
use Rattle.least_needs.specs.Terms.{all_targets, terms_of}
use Rattle.least_needs.proofs.ClosedTerms.{graph_more}
use Rattle.least_needs.proofs.solving.graph_of.Goals as goal

pub loop-statement-preserved : goal.loop-statement-preserved
loop-statement-preserved c =
    let i = c.loop-statement.statement in
    let row : c.deref.result.now ≡ all_targets (terms_of c.args.terms.now i) = c.deref.ensures.value ∙ c.in_ok-push_all_targets.ensures ∙ ap (λ xs. xs ++ all_targets c.of.result.now) c.clear.ensures.items ∙ ap all_targets c.of.ensures in
    c.in_ok-add.ensures.ok ∙ graph_more c.args.terms.now i c.loop-statement.graph c.deref.result.now (omega arith) c.loop-statement.invariant row
