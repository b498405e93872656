use Rattle.std.proofs.Common.{sym, subst}
use Rattle.held_list.specs.Held.{IsRising}
use Rattle.held_list.proofs.Maps.{remove_rises}
use Rattle.held_list.proofs.map.HeldMapHeldSteps.take.Goals as goal

pub invariant_of-self : goal.invariant_of-self
invariant_of-self g c = subst IsRising (sym c.remove.ensures.entries) (remove_rises _ _ 0 c.self.invariant)
