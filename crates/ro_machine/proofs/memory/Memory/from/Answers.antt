use Rattle.ro_machine.proofs.FirstFrom.{first_of_item, none_of_item}
use Rattle.ro_machine.proofs.Order.{in_field}
use Rattle.ro_machine.proofs.memory.Memory.from.Goals as goal

pub returns-in_err-get-in-None-clause-none : goal.returns-in_err-get-in-None-clause-none
returns-in_err-get-in-None-clause-none c =
    let place = rw c.deref.ensures.value at c.place_of-at.ensures in
    let unlisted = rw c.deref-2.ensures.value at c.in-None.ensures in
    let item = rw c.deref-in-None.ensures.value at c.in_err-get-in-None.ensures.lookup in
    rw c.from_residual.ensures (none_of_item _ _ _ _ c.self.invariant.apart c.self.view_is place unlisted item)

pub returns-in_err-get-in-None-clause-in_field : goal.returns-in_err-get-in-None-clause-in_field
returns-in_err-get-in-None-clause-in_field c = in_field _ c.self.invariant.apart _ c.self.view_is

pub returns-in-Some-clause-in_field : goal.returns-in-Some-clause-in_field
returns-in-Some-clause-in_field c = in_field _ c.self.invariant.apart _ c.self.view_is

pub returns-in_ok-get-in-None-clause-first : goal.returns-in_ok-get-in-None-clause-first
returns-in_ok-get-in-None-clause-first c =
    let place = rw c.deref.ensures.value at c.place_of-at.ensures in
    let unlisted = rw c.deref-2.ensures.value at c.in-None.ensures in
    let item = rw c.deref-in-None.ensures.value at c.in_ok-get-in-None.ensures.lookup in
    rw c.first.ensures (first_of_item _ _ _ _ c.in_ok-get-in-None.field-0 c.self.invariant.apart c.self.view_is place unlisted item)

pub returns-in_ok-get-in-None-clause-in_field : goal.returns-in_ok-get-in-None-clause-in_field
returns-in_ok-get-in-None-clause-in_field c = in_field _ c.self.invariant.apart _ c.self.view_is
