-- What a reader of the code answers, by the reader on lists.
use Rattle.std.specs.Prelude.{◌≡◌, ℕ, List, None, Some, Result, Ok, Err}
use Rattle.text_reading.specs.declared.stop.Stop.{Stop}
use Rattle.text_reading.specs.declared.stop.Stop.TheVariants as stops
use Rattle.text_reading.specs.Reading.{Answer, Answer.answers}

-- What a reader returned, seen by view, and the bytes that it left are what the reader on lists answers, unless it
-- ran out of memory.
abbrev pub Gives : {K X A : Type 0} → (X → A) → Result X (Stop K) → List ℕ → Answer K A → Type 0
Gives view (Ok x) rest answer = answer ≡ answers (Ok (view x)) rest
Gives view (Err stops.Syntax) rest answer = answer ≡ answers (Err None) rest
Gives view (Err (stops.Limit kind)) rest answer = answer ≡ answers (Err (Some kind)) rest
Gives view (Err stops.Memory) rest answer = Unit {0}
