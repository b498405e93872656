use Rattle.std.proofs.Common.{refl, sym, ap, ◌∙◌, arith}
use Rattle.held_list.specs.Editing.{take}
use Rattle.held_list.proofs.Placing.{at_within, get-gap, take-at, take-missing}
use Rattle.held_list.proofs.Rising.{take_rises}
use Rattle.held_list.proofs.held.Held.take.Goals as goal

pub remove-requires : goal.remove-requires
remove-requires g c = omega (arith, at_within _ _ _ c.in-Ok.ensures, c.deref.ensures.len)

pub invariant_of-self : goal.invariant_of-self
invariant_of-self g c =
    let at = rw c.deref.ensures.value at c.in-Ok.ensures in
    rw c.remove.ensures.items (take_rises _ 0 _ _ _ c.self.invariant (take-at _ _ _ _ at c.remove.ensures.value))

pub returns-in-Ok-clause-held : goal.returns-in-Ok-clause-held
returns-in-Ok-clause-held g c =
    let at = rw c.deref.ensures.value at c.in-Ok.ensures in
    rw c.remove.ensures.items (ap (take c.args.variable) (sym c.self.view_is) ∙ take-at _ _ _ _ at c.remove.ensures.value)

pub returns-in-Err-clause-missing : goal.returns-in-Err-clause-missing
returns-in-Err-clause-missing g c =
    let gap = rw c.deref.ensures.value at c.in-Err.ensures in
    (ap (take c.args.variable) (sym c.self.view_is) ∙ take-missing c.self.inside.pairs.items c.args.variable (get-gap _ 0 _ _ c.self.invariant gap), refl)
