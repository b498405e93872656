use Rattle.std.proofs.Common.{sym, ap, ◌∙◌, arith}
use Rattle.held_list.specs.Held.{get}
use Rattle.held_list.proofs.Placing.{at_within, get-at, get-gap}
use Rattle.held_list.proofs.held.Held.get.Goals as goal

pub index-requires : goal.index-requires
index-requires g c = omega (arith, at_within _ _ _ c.in-Ok.ensures, c.deref.ensures.len)

pub returns-in-Ok : goal.returns-in-Ok
returns-in-Ok g c =
    let at = rw c.deref.ensures.value at c.in-Ok.ensures in
    sym (get-at _ _ _ _ at c.index.ensures) ∙ ap (get c.args.variable) c.self.view_is

pub returns-in-Err : goal.returns-in-Err
returns-in-Err g c =
    let gap = rw c.deref.ensures.value at c.in-Err.ensures in
    sym (get-gap _ 0 _ _ c.self.invariant gap) ∙ ap (get c.args.variable) c.self.view_is
