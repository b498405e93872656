use Rattle.std.proofs.Common.{◌≡◌, ◌++◌}
use Rattle.lower_core.specs.Tests.{all_tests}
use Rattle.lower_core.proofs.data.push_tests.Given as goal

abbrev pub invariant-loop-i : goal.invariant-loop-i
invariant-loop-i l = l.frag ≡ l.initial.frag ++ all_tests l.args l.i
