use Rattle.std.proofs.Common.{◌≡◌, None, sym, ◌∙◌}
use Rattle.ap_refs.specs.Flow.{invoke_fault}
use Rattle.ap_refs.proofs.Lawfulness.{step_none}
use Rattle.ap_refs.proofs.Ready.{placed_of, can_step}
use Rattle.ap_refs.proofs.Stopped.{not_some, pass_done}
use Rattle.ap_refs.proofs.placing.Placing.pass_cells.Goals as goal

pub step_at-step-requires-clause-placed : goal.step_at-step-requires-clause-placed
step_at-step-requires-clause-placed c = placed_of c.args.self.now.types.now c.args.sig.now c.requires.begin.table c.requires.begin.signature

pub give_all-requires-clause-placed : goal.give_all-requires-clause-placed
give_all-requires-clause-placed c = placed_of c.args.self.now.types.now c.args.sig.now c.requires.begin.table c.requires.begin.signature

pub give_all-requires-clause-step : goal.give_all-requires-clause-step
give_all-requires-clause-step c =
    let types = c.args.self.now.types.now in
    let sig = c.args.sig.now in
    let step = c.step_at-step.result in
    let none = sym (c.invoke_fault-fault.ensures types) ∙ not_some c.invoke_fault-fault.result c.if-is_some.ensures in
    can_step types c.args.statement sig c.args.branches.now c.args.place.now c.args.args.now c.args.cells.now c.args.rest c.in-Some.locals c.in-Some.amount c.requires.begin
    c.requires.cells (step_none c.args.statement types sig.libfunc c.args.args.now c.args.rest step none).0
    (sym c.step_at-step.ensures ∙ c.in-Some.is)

pub returns : goal.returns
returns c =
    let types = c.args.self.now.types.now in
    pass_done types c.args.statement c.args.sig.now c.args.place.now c.args.branches.now c.args.args.now c.args.rest c.args.cells.now c.in-Some.locals c.in-Some.amount
    c.step_at-step.result c.invoke_fault-fault.result c.in_ok-give_all.field-0.items c.requires.cells c.in-Some.is c.step_at-step.ensures
    (c.invoke_fault-fault.ensures types) (not_some c.invoke_fault-fault.result c.if-is_some.ensures) c.in_ok-give_all.ensures
