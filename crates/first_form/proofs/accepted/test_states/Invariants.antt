use Rattle.std.proofs.Common.{◌≡◌, ℕ, ◌<◌, drop}
use Rattle.std.specs.FinMap.{get}
use Rattle.std.specs.Iterator.Adapters.{enumerate_source, enumerate_count}
use Rattle.std.specs.Slice.Iter.{windows_size, windows_rest}
use Rattle.ro_machine.specs.declared.machine.State.{State}
use Rattle.first_form.specs.Accepted.{GoesOn, Follows}
use Rattle.first_form.proofs.accepted.test_states.Given as goal

-- the first states go on, and the pairs behind them are left
abbrev pub invariant-loop-number : goal.invariant-loop-number
invariant-loop-number l = record {
  size : windows_size (enumerate_source l.number-iterator) ≡ 2;
  left : windows_rest (enumerate_source l.number-iterator) ≡ drop (enumerate_count l.number-iterator) l.states;
  goes : (k : ℕ) (s follower : State) → k < enumerate_count l.number-iterator → Follows l.states k s follower → GoesOn (get l.memory) s follower;
}
