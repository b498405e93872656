use Rattle.std.proofs.Common.{◌-◌, ◌≤◌}
use Rattle.std.specs.FinMap.{get}
use Rattle.felt64.specs.Field.{modulus}
use Rattle.first_form.specs.Ranges.{AllNarrow}
use Rattle.first_form.proofs.accepted.wide_between.Given as goal

-- the cells before `from` are narrow
abbrev pub invariant-loop-from : goal.invariant-loop-from
invariant-loop-from l = record { at_or_above : l.fn.first ≤ l.from; narrow : AllNarrow (get l.memory) l.fn.first l.from }

-- how many cells are left
abbrev pub decreases-loop-from : goal.decreases-loop-from
decreases-loop-from l = modulus - l.from
