use Rattle.std.proofs.Common.{refl, sym, ap, subst, ◌∙◌, ◌+◌, arith, length, slice_index}
use Rattle.graph_cycles.specs.Graph.{IsClosed}
use Rattle.least_needs.specs.Terms.{graph_of}
use Rattle.gas_solver.specs.Plans.{amounts_from}
use Rattle.gas_solver.proofs.ClosedTerms.{closed}
use Rattle.gas_solver.proofs.Knowing.{prepared}
use Rattle.gas_solver.proofs.Listing.{length-amounts}
use Rattle.gas_solver.proofs.Answering.{needs_long, need_small, start_inside, entry_fault, plan_made}
use Rattle.gas_solver.proofs.solving.solve.Goals as goal

pub all_terms-requires : goal.all_terms-requires
all_terms-requires c =
    prepared c.args.program.now c.args.types.now c.args.sigs.now c.args.envs.now c.items.result.now c.in_ok-libfunc_positions.field-0
    c.items.ensures c.in_ok-libfunc_positions.ensures c.requires.types c.requires.signatures c.requires.typed

pub least-requires : goal.least-requires
least-requires c =
    subst (λ x. IsClosed (graph_of x)) (sym c.in_ok-terms.ensures)
    (closed c.args.program.now c.args.types.now c.args.sigs.now c.args.envs.now c.requires.types c.requires.signatures c.requires.typed)

pub index-requires : goal.index-requires
index-requires c =
    let inside = start_inside c.args.program.now c.args.types.now c.args.sigs.now c.args.envs.now c.args.main c.entry-start.result c.in_ok-terms.terms c.in_ok-needs.needs.items
    c.requires.types c.requires.typed c.requires.main c.in_ok-terms.ensures c.in_ok-needs.ensures.needs c.entry-start.ensures in
    omega (arith, c.in_ok-needs.needs.ok)

pub overflow_add-entry : goal.overflow_add-entry
overflow_add-entry c =
    let inside = start_inside c.args.program.now c.args.types.now c.args.sigs.now c.args.envs.now c.args.main c.entry-start.result c.in_ok-terms.terms c.in_ok-needs.needs.items
    c.requires.types c.requires.typed c.requires.main c.in_ok-terms.ensures c.in_ok-needs.ensures.needs c.entry-start.ensures in
    let small = need_small c.in_ok-terms.terms c.in_ok-needs.needs.items c.entry-start.result c.index.result.now c.in_ok-needs.ensures.needs inside c.index.ensures in
    omega arith

pub returns-then-entry-ge-LIMIT-clause-fault : goal.returns-then-entry-ge-LIMIT-clause-fault
returns-then-entry-ge-LIMIT-clause-fault c =
    let inside = start_inside c.args.program.now c.args.types.now c.args.sigs.now c.args.envs.now c.args.main c.entry-start.result c.in_ok-terms.terms c.in_ok-needs.needs.items
    c.requires.types c.requires.typed c.requires.main c.in_ok-terms.ensures c.in_ok-needs.ensures.needs c.entry-start.ensures in
    λ not. entry_fault c.args.program.now c.args.types.now c.args.sigs.now c.args.main c.entry-start.result c.index.result.now (100 + c.index.result.now) c.in_ok-terms.terms c.in_ok-needs.needs.items
    c.in_ok-terms.ensures c.in_ok-needs.ensures.needs c.entry-start.ensures inside c.index.ensures refl c.if-entry-ge-LIMIT.true

pub amounts-requires-clause-prepared : goal.amounts-requires-clause-prepared
amounts-requires-clause-prepared c =
    prepared c.args.program.now c.args.types.now c.args.sigs.now c.args.envs.now c.items.result.now c.in_ok-libfunc_positions.field-0
    c.items.ensures c.in_ok-libfunc_positions.ensures c.requires.types c.requires.signatures c.requires.typed

pub amounts-requires-clause-all : goal.amounts-requires-clause-all
amounts-requires-clause-all c =
    ap length c.deref.ensures.value ∙ needs_long c.args.program.now c.args.types.now c.args.sigs.now c.in_ok-terms.terms c.in_ok-needs.needs.items c.in_ok-terms.ensures c.in_ok-needs.ensures.needs

pub new-requires : goal.new-requires
new-requires c =
    let long = needs_long c.args.program.now c.args.types.now c.args.sigs.now c.in_ok-terms.terms c.in_ok-needs.needs.items c.in_ok-terms.ensures c.in_ok-needs.ensures.needs in
    ap length c.in_ok-amounts.ensures ∙ length-amounts c.args.program.now c.args.sigs.now (slice_index c.deref.result.now) 0 c.args.program.now.statements ∙ sym long

pub returns-clause-plan : goal.returns-clause-plan
returns-clause-plan c =
    let inside = start_inside c.args.program.now c.args.types.now c.args.sigs.now c.args.envs.now c.args.main c.entry-start.result c.in_ok-terms.terms c.in_ok-needs.needs.items
    c.requires.types c.requires.typed c.requires.main c.in_ok-terms.ensures c.in_ok-needs.ensures.needs c.entry-start.ensures in
    let amounts = c.new.ensures.amount ∙ c.in_ok-amounts.ensures ∙ ap (λ xs. amounts_from c.args.program.now c.args.sigs.now (slice_index xs) 0 c.args.program.now.statements) c.deref.ensures.value in
    plan_made c.args.program.now c.args.types.now c.args.sigs.now c.args.main c.entry-start.result c.index.result.now (100 + c.index.result.now) c.in_ok-terms.terms c.in_ok-needs.needs.items c.new.result
    c.in_ok-terms.ensures c.in_ok-needs.ensures.needs c.entry-start.ensures inside c.index.ensures refl (omega (arith, c.if-entry-ge-LIMIT.false)) c.new.ensures.need amounts c.new.ensures.entry
