use Rattle.std.proofs.Common.{◌≡◌, length}
use Rattle.std.specs.Vec.Iter.{into_iter_items}
use Rattle.statement_walk.specs.Walk.{deliver}
use Rattle.statement_walk.specs.Turning.{AreInside, parts_of}
use Rattle.statement_walk.proofs.driver.deliver.Given as goal

abbrev pub invariant-loop-target : goal.invariant-loop-target
invariant-loop-target g l =
    AreInside (length l.walk) (into_iter_items l.target-iterator)
    × (deliver (g.R.WalkRules.rules l.rules) l.function l.statement (parts_of (into_iter_items l.initial.target-iterator) l.branches.fault) l.initial.walk
    ≡ deliver (g.R.WalkRules.rules l.rules) l.function l.statement (parts_of (into_iter_items l.target-iterator) l.branches.fault) l.walk)
