use Rattle.std.proofs.Common.{◌≡◌, ◌+◌, ◌∙◌, ap, sym, subst, ℕ, length, Some, None, get_or, set, slice_get, ◌<◌, ◌≤◌}
use Rattle.std.specs.List.{Contains}
use Rattle.graph_cycles.specs.Graph.{OnCycle}
use Rattle.sierra_types.specs.declared.program.TypeDecl.{TypeDecl}
use Rattle.type_table.specs.Refusals.{arguments}
use Rattle.type_table.specs.Rows.{targets}
use Rattle.type_table.specs.Found.{IsFoundOf, IsRightAt}
use Rattle.type_table.specs.Judged.{known_of, first_after}
use Rattle.type_table.proofs.JudgeSteps.{targets_known, judged_more, judged_all, judged_as, decl_here}
use Rattle.type_table.proofs.judging.judge_all.Goals as goal

pub judge-requires-clause-known : goal.judge-requires-clause-known
judge-requires-clause-known c =
    let ds = c.args.declarations.now in
    let m = c.loop-i.i-index in
    let order = c.args.resolved.now.cycles.order in
    let less = subst (λ l. m < length l) c.order-i-items.ensures c.loop-i-test.true in
    subst (λ l. (d : TypeDecl) → slice_get ds (get_or l m 0) ≡ Some d → (OnCycle (arguments ds) (get_or l m 0) → ⊥) → (t : ℕ) → Contains (targets ds d) t → IsRightAt ds t (get_or c.deref.result.now t None))
    (sym c.order-i-items.ensures)
    (λ d here acyclic t among. subst (λ l. IsRightAt ds t (get_or l t None)) (sym c.deref.ensures.value)
    (targets_known ds order c.requires.each_once c.requires.targets_first m c.loop-i.known.items c.loop-i.first c.loop-i.invariant less d here acyclic t among))

pub loop-i-preserved : goal.loop-i-preserved
loop-i-preserved c =
    let ds = c.args.declarations.now in
    let m = c.loop-i.i-index in
    let order = c.args.resolved.now.cycles.order in
    let known = c.loop-i.known.items in
    let outcome = c.in_ok-outcome.outcome in
    let E = c.order-i-items.ensures in
    let less = subst (λ l. m < length l) E c.loop-i-test.true in
    let decl = decl_here ds (get_or order m 0) (c.requires.each_once.below m less) in
    let found : IsFoundOf ds known (get_or order m 0) decl.0 outcome =
    subst (λ l. IsFoundOf ds l (get_or order m 0) decl.0 outcome) c.deref.ensures.value
    (subst (λ l. (d : TypeDecl) → slice_get ds (get_or l m 0) ≡ Some d → IsFoundOf ds c.deref.result.now (get_or l m 0) d outcome) E c.in_ok-outcome.ensures decl.0 decl.1) in
    let more = judged_more ds order c.requires.each_once c.requires.targets_first m known c.loop-i.first c.loop-i.invariant less decl.0 decl.1 outcome found in
    judged_as ds order (m + 1) more
    (c.note-first.ensures.known ∙ ap (λ l. set known (get_or l m 0) (known_of outcome)) E)
    (c.note-first.ensures.first ∙ ap (λ l. first_after c.loop-i.first (get_or l m 0) outcome) E)

pub returns : goal.returns
returns c =
    judged_all c.args.declarations.now c.args.resolved.now.cycles.order c.requires.each_once c.requires.targets_first c.loop-i.i-index c.loop-i.known.items c.loop-i.first
    (subst (λ l. length l ≤ c.loop-i.i-index) c.order-i-items.ensures c.loop-i-test.false) c.loop-i.invariant
