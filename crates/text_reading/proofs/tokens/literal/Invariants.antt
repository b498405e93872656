use Rattle.std.proofs.Common.{◌≡◌, length}
use Rattle.text_reading.specs.Reading.{scan}
use Rattle.text_reading.specs.TokenReading.{next_literal, literal_end, literal_at}
use Rattle.text_reading.proofs.tokens.literal.Given as goal

abbrev pub invariant-loop-first : goal.invariant-loop-first
invariant-loop-first g l =
    scan next_literal (literal_end {K = g.row.K.Denot}) l.wanted l.rest.now ≡ literal_at {K = g.row.K.Denot} l.fn.bytes l.fn.rest.now

abbrev pub decreases-loop-first : goal.decreases-loop-first
decreases-loop-first g l = length l.wanted
