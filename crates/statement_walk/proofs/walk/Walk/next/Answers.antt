use Rattle.std.proofs.Common.{Some, arith}
use Rattle.std.proofs.lemmas.Option.{slice_get_within}
use Rattle.statement_walk.specs.Waits.{has}
use Rattle.statement_walk.proofs.Storing.{if_idle, taken_seen, next_found, stored_there, never_missing}
use Rattle.statement_walk.proofs.walk.Walk.next.Goals as goal

pub returns-in_err-statement-clause-idle : goal.returns-in_err-statement-clause-idle
returns-in_err-statement-clause-idle g c =
    if_idle c.self.inside.waiting _ c.self.inside.stored.items c.args.self.now c.from_residual.result c.self.view_is c.in_err-statement.ensures.none

pub index-requires : goal.index-requires
index-requires g c =
    let stored = c.self.invariant c.in_ok-statement.statement c.in_ok-statement.ensures.member in
    omega (arith, slice_get_within c.self.inside.stored.items c.in_ok-statement.statement (Some stored.0) stored.1, c.self.inside.stored.ok.0)

pub invariant_of-self-in_err-function : goal.invariant_of-self-in_err-function
invariant_of-self-in_err-function g c = taken_seen _ _ _ _ c.in_ok-statement.ensures.updates c.self.invariant

pub returns-in_err-function-clause-idle : goal.returns-in_err-function-clause-idle
returns-in_err-function-clause-idle g c =
    absurd (never_missing c.self.inside.stored.items c.in_ok-statement.statement c.index.result.now (c.self.invariant c.in_ok-statement.statement c.in_ok-statement.ensures.member) c.index.ensures c.in_err-function.ensures.value)

pub invariant_of-self-2 : goal.invariant_of-self-2
invariant_of-self-2 g c = taken_seen _ _ _ _ c.in_ok-statement.ensures.updates c.self.invariant

pub returns-clause-next : goal.returns-clause-next
returns-clause-next g c =
    let stored = c.self.invariant c.in_ok-statement.statement c.in_ok-statement.ensures.member in
    next_found (has c.self.inside.waiting) _ c.self.inside.stored.items c.args.self.now c.in_ok-statement.statement c.in_ok-function.field-0.now c.self.view_is c.in_ok-statement.ensures.member c.in_ok-statement.ensures.least c.in_ok-statement.ensures.updates
    (stored_there c.self.inside.stored.items c.in_ok-statement.statement c.index.result.now c.in_ok-function.field-0.now (slice_get_within c.self.inside.stored.items c.in_ok-statement.statement (Some stored.0) stored.1) c.index.ensures c.in_ok-function.ensures.value)
