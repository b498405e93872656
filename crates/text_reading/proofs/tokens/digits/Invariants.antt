use Rattle.std.proofs.Common.{◌≡◌, ◌≤◌, ◌+◌, length, Some}
use Rattle.text_reading.specs.TokenReading.{digits_at}
use Rattle.text_reading.proofs.TokenFacts.{number_from}
use Rattle.text_reading.proofs.tokens.digits.Given as goal

abbrev pub invariant-loop-byte : goal.invariant-loop-byte
invariant-loop-byte g l = record {
  read : number_from (Some (l.fn.greatest + 1)) l.fn.zero_too l.fn.kind (Some l.n) l.rest.now ≡ digits_at (Some (l.fn.greatest + 1)) l.fn.zero_too l.fn.kind l.fn.rest.now;
  within : l.n ≤ l.fn.greatest;
}

abbrev pub decreases-loop-byte : goal.decreases-loop-byte
decreases-loop-byte g l = length l.rest.now
