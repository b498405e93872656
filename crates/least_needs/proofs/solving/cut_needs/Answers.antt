use Rattle.std.proofs.Common.{◌≡◌, min, length, get_or, sym, ap, subst, ◌∙◌, arith}
use Rattle.least_needs.specs.Terms.{AreBelow, all_targets, graph_of, terms_of}
use Rattle.least_needs.specs.Needs.{largest, limit}
use Rattle.least_needs.proofs.Bounds.{below_targets}
use Rattle.least_needs.proofs.ClosedTerms.{targets_in, length-graph}
use Rattle.least_needs.proofs.CutNeeds.{IsOrder, cut_next, cut_all}
use Rattle.least_needs.proofs.solving.cut_needs.Goals as goal

pub largest-requires-clause-below : goal.largest-requires-clause-below
largest-requires-clause-below c =
    let terms = c.args.terms.now in
    let s = get_or c.args.order.now c.loop-statement.statement-index 0 in
    let below = below_targets (graph_of terms) s c.requires.closed in
    let size : length (graph_of terms) ≡ length c.deref.result.now = length-graph terms ∙ sym c.loop-statement.invariant.size ∙ ap length (sym c.deref.ensures.value) in
    subst (λ xs. AreBelow (length c.deref.result.now) (all_targets xs)) (sym c.of.ensures) (subst (λ n. AreBelow n (all_targets (terms_of terms s))) size (subst (λ xs. AreBelow (length (graph_of terms)) xs) (targets_in terms s) below))

pub loop-statement-preserved : goal.loop-statement-preserved
loop-statement-preserved c =
    let terms = c.args.terms.now in
    let s = get_or c.args.order.now c.loop-statement.statement-index 0 in
    let order : IsOrder terms c.args.order.now = record { each_once = c.requires.each_once; first = c.requires.targets_first; acyclic = c.requires.acyclic } in
    let is : c.largest.result ≡ min (largest (λ t. get_or c.loop-statement.needs.items t 0) (terms_of terms s)) limit = c.largest.ensures ∙ ap (λ ns. min (largest (λ t. get_or ns t 0) c.of.result.now) limit) c.deref.ensures.value ∙ ap (λ xs. min (largest (λ t. get_or c.loop-statement.needs.items t 0) xs) limit) c.of.ensures in
    cut_next terms c.args.order.now c.loop-statement.statement-index c.loop-statement.needs.items c.largest.result order c.loop-statement-test.true c.loop-statement.invariant is

pub returns-clause-needs : goal.returns-clause-needs
returns-clause-needs c =
    let order : IsOrder c.args.terms.now c.args.order.now = record { each_once = c.requires.each_once; first = c.requires.targets_first; acyclic = c.requires.acyclic } in
    cut_all c.args.terms.now c.args.order.now c.loop-statement.statement-index c.loop-statement.needs.items order (omega arith) c.loop-statement.invariant
