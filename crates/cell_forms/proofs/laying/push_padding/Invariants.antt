use Rattle.std.proofs.Common.{◌≡◌, ◌++◌, ◌-◌, replicate}
use Rattle.cell_forms.proofs.laying.push_padding.Given as goal

-- what was pushed and what is left are all of the padding
abbrev pub invariant-loop : goal.invariant-loop
invariant-loop l = l.words.items ++ replicate (l.count - l.counter) 0 ≡ l.fn.words.items ++ replicate l.count 0
