use Rattle.std.proofs.Common.{◌≡◌, ◌∷◌, [], map, take}
use Rattle.libfunc_registry.proofs.finding.each_alone.Given as goal

abbrev pub invariant-loop-part : goal.invariant-loop-part
invariant-loop-part l = l.branches.items ≡ map (λ part. part ∷ []) (take l.part-index l.parts)
