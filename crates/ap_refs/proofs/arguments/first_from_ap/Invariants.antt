use Rattle.std.proofs.Common.{◌≡◌, length}
use Rattle.ap_refs.specs.Arguments.{first_from_ap}
use Rattle.ap_refs.proofs.arguments.first_from_ap.Given as goal

abbrev pub decreases-loop-held : goal.decreases-loop-held
decreases-loop-held l = length l.held

abbrev pub invariant-loop-held : goal.invariant-loop-held
invariant-loop-held l = first_from_ap l.fn.held ≡ first_from_ap l.held
