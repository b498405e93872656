-- Bytes that are kept in memory, from writes that fail by a list of calls.
use Rattle.std.specs.Prelude.{ℕ, ◌≡◌, ◌+◌, ◌-◌, ◌^◌, List, [], ◌++◌, length, take, Bool, true, false, Option, None, Some, Result, Ok, Err, min, max, ◌==◌, if◌then◌else◌}
use Rattle.edge_io.specs.declared.sinks.Failed.{Failed}
use Rattle.edge_io.specs.Counts.{risen, call_fails}
use Rattle.edge_io.specs.Sinks.{SinkView}

-- The bytes that were kept, for how many there is room, how many were left out past it, how many a write takes at
-- most, the numbers of the calls that fail, and how many calls there were and how many of them failed.
pub record KeptBytes : Type 0 where
  pub bytes : List ℕ
  pub room : ℕ
  pub left_out : ℕ
  pub cut : ℕ
  pub fails : List ℕ
  pub calls : ℕ
  pub faults : ℕ

-- before the first call
abbrev pub nothing_kept : ℕ → List ℕ → ℕ → KeptBytes
nothing_kept cut fails room = record { bytes = []; room = room; left_out = 0; cut = cut; fails = fails; calls = 0; faults = 0 }

-- all that was written, while nothing was left out
abbrev pub all_kept : KeptBytes → Option (List ℕ)
all_kept k = if k.left_out == 0 then Some k.bytes else None

-- what the sink tells of itself
abbrev pub kept_view : KeptBytes → SinkView
kept_view k = record { written = all_kept k; faults = k.faults }

-- the same of one whose writes never fail
abbrev pub quiet_sink_view : KeptBytes → SinkView
quiet_sink_view k = record { written = all_kept k; faults = 0 }

-- how many bytes of so many a write takes
abbrev pub taken : KeptBytes → ℕ → ℕ
taken k size = min size (max k.cut 1)

-- how many bytes of so many have room
abbrev pub fitting : KeptBytes → ℕ → ℕ
fitting k size = min size (k.room - length k.bytes)

-- after these bytes were taken: those past the room are counted in place of kept
abbrev pub kept : KeptBytes → List ℕ → KeptBytes
kept k piece = record k {
  bytes = k.bytes ++ take (fitting k (length piece)) piece;
  left_out = min (k.left_out + (length piece - fitting k (length piece))) (2 ^ 64 - 1);
}

-- the call fails where the list has its number, and else takes as many bytes as it may
abbrev pub WriteAnswers : KeptBytes → List ℕ → Result ℕ Failed → Type 0
WriteAnswers k piece (Ok n) = (call_fails k.fails k.calls ≡ false) × (n ≡ taken k (length piece))
WriteAnswers k piece (Err e) = call_fails k.fails k.calls ≡ true

-- the counts after a call that fails or doesn't
abbrev pub called : KeptBytes → Bool → KeptBytes
called k true = record k { calls = risen k.calls; faults = risen k.faults }
called k false = record k { calls = risen k.calls }

-- after a write of this piece with this answer
abbrev pub after_write : KeptBytes → List ℕ → Result ℕ Failed → KeptBytes
after_write k piece (Ok n) = kept (called k false) (take n piece)
after_write k piece (Err e) = called k true
