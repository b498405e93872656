use Rattle.std.proofs.Common.{◌≡◌, length}
use Rattle.text_reading.specs.Reading.{scan}
use Rattle.text_reading.specs.TokenReading.{next_spot, blanks_end, blanks_at}
use Rattle.text_reading.proofs.tokens.blanks.Given as goal

abbrev pub invariant-loop-byte : goal.invariant-loop-byte
invariant-loop-byte g l = scan next_spot (blanks_end {K = g.row.K.Denot}) l.spot l.rest.now ≡ blanks_at {K = g.row.K.Denot} l.fn.rest.now

abbrev pub decreases-loop-byte : goal.decreases-loop-byte
decreases-loop-byte g l = length l.rest.now
