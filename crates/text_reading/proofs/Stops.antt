-- A stop of a part that is a stop of the whole.
use Rattle.std.proofs.Common.{◌≡◌, ℕ, List, Option, None, Some, Err}
use Rattle.text_reading.specs.declared.stop.Stop.{Stop}
use Rattle.text_reading.specs.declared.stop.Stop.TheVariants as stops
use Rattle.text_reading.specs.Reading.{Answer, Answer.answers}
use Rattle.text_reading.specs.Given.{Gives}

pub gives_stop : {K X Y A B : Type 0} (view : X → A) (other : Y → B) (stop : Stop K) (rest : List ℕ) (part : Answer K A) (whole : Answer K B)
    → ((why : Option K) → part ≡ answers (Err why) rest → whole ≡ answers (Err why) rest) → Gives view (Err stop) rest part → Gives other (Err stop) rest whole
gives_stop view other stops.Syntax rest part whole passes h = passes None h
gives_stop view other (stops.Limit kind) rest part whole passes h = passes (Some kind) h
gives_stop view other stops.Memory rest part whole passes h = tt
