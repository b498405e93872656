use Rattle.std.proofs.Common.{sym, ap, ◌∙◌, arith}
use Rattle.held_list.specs.Editing.{take}
use Rattle.held_list.proofs.Placing.{at_within, take-at}
use Rattle.held_list.proofs.Rising.{take_rises}
use Rattle.held_list.proofs.held.Held.take_held.Goals as goal

pub remove-requires : goal.remove-requires
remove-requires g c = omega (arith, at_within _ _ _ c.index_of-at.ensures, c.deref.ensures.len)

pub invariant_of-self : goal.invariant_of-self
invariant_of-self g c =
    let at = rw c.deref.ensures.value at c.index_of-at.ensures in
    rw c.remove.ensures.items (take_rises _ 0 _ _ _ c.self.invariant (take-at _ _ _ _ at c.remove.ensures.value))

pub returns : goal.returns
returns g c =
    let at = rw c.deref.ensures.value at c.index_of-at.ensures in
    rw c.remove.ensures.items (ap (take c.args.variable) (sym c.self.view_is) ∙ take-at _ _ _ _ at c.remove.ensures.value)
