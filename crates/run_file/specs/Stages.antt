-- A run file from a stage on: what the bytes still to come say, with what was read before them.
use Rattle.std.specs.Prelude.{ℕ, ◌+◌, ◌≡◌, ◌<◌, ◌≤◌, ◌^◌, Bool, true, false, IsTrue, List, [], ◌∷◌, ◌++◌, Result, Ok, Err}
use Rattle.std.specs.FinMap.{insert}
use Rattle.byte_reading.specs.Reading.{Place, ◌>>=◌}
use Rattle.ro_machine.specs.Cells.{Cells, NoneFrom}
use Rattle.ro_machine.specs.declared.machine.State.{State}
use Rattle.run_file.specs.declared.refusal.FileRefusal.{FileRefusal}
use Rattle.run_file.specs.declared.refusal.FileRefusal.TheVariants as refusals
use Rattle.run_file.specs.declared.stage.Stage.{Stage}
use Rattle.run_file.specs.declared.stage.Stage.TheVariants as stages
use Rattle.run_file.specs.declared.stage.Meaning.{Meaning}
use Rattle.run_file.specs.declared.stage.Meaning.TheVariants as meanings
use Rattle.run_file.specs.declared.stage.Next.{Next}
use Rattle.run_file.specs.declared.stage.Part.{Part}
use Rattle.run_file.specs.declared.stage.Part.TheVariants as parts
use Rattle.run_file.specs.Spelling.{Listing}
use Rattle.run_file.specs.Reading.{magic_at, number_at, word_at, address_at, cells_at, steps_at, states_at, ends_at}

-- nothing read
abbrev pub nothing : Listing
nothing = record { rc = 0; cells = []; states = [] }

abbrev pub with_rc : Listing → ℕ → Listing
with_rc l rc = record { rc = rc; cells = l.cells; states = l.states }

abbrev pub with_cells : Listing → List (ℕ × ℕ) → Listing
with_cells l cells = record { rc = l.rc; cells = l.cells ++ cells; states = l.states }

abbrev pub with_states : Listing → List State → Listing
with_states l states = record { rc = l.rc; cells = l.cells; states = l.states ++ states }

-- with what a number completed
abbrev pub with_part : Listing → Part → Listing
with_part l parts.Nothing = l
with_part l (parts.Rc rc) = with_rc l rc
with_part l (parts.Cell address word) = with_cells l ((address, word) ∷ [])
with_part l (parts.Steps n) = l
with_part l (parts.State s) = with_states l (s ∷ [])

unfoldable pub from_states : ℕ → Listing → Place → Result Listing FileRefusal
from_states left l p = do
  states ← states_at left p
  ends_at (with_states l states.0) states.1

unfoldable pub from_steps : Listing → Place → Result Listing FileRefusal
from_steps l p = do
  steps ← steps_at p
  from_states (steps.0 + 1) l steps.1

unfoldable pub from_cells : ℕ → ℕ → Listing → Place → Result Listing FileRefusal
from_cells least left l p = do
  cells ← cells_at least left p
  from_steps (with_cells l cells.0) cells.1

unfoldable pub from_count : Listing → Place → Result Listing FileRefusal
from_count l p = do
  count ← number_at p
  from_cells 0 count.0 l count.1

-- a number of the field was read, and this is what it is
unfoldable pub from_word : Meaning → ℕ → Listing → Place → Result Listing FileRefusal
from_word meanings.Rc rc l p = from_count (with_rc l rc) p
from_word (meanings.CellWord address left) word l p = from_cells (address + 1) left (with_cells l ((address, word) ∷ [])) p
from_word (meanings.Pc left) pc l p = do
  ap ← word_at p
  fp ← word_at ap.1
  from_states left (with_states l (record { pc = pc; ap = ap.0; fp = fp.0 } ∷ [])) fp.1
from_word (meanings.Ap pc left) ap l p = do
  fp ← word_at p
  from_states left (with_states l (record { pc = pc; ap = ap; fp = fp.0 } ∷ [])) fp.1
from_word (meanings.Fp pc ap left) fp l p = from_states left (with_states l (record { pc = pc; ap = ap; fp = fp } ∷ [])) p

-- what the bytes from a stage on say
unfoldable pub from_stage : Stage → Listing → Place → Result Listing FileRefusal
from_stage stages.Magic l p = do
  start ← magic_at p
  rc ← word_at start
  from_count (with_rc l rc.0) rc.1
from_stage stages.CellCount l p = from_count l p
from_stage (stages.Address least left) l p = do
  address ← address_at least p
  word ← word_at address.1
  from_cells (address.0 + 1) left (with_cells l ((address.0, word.0) ∷ [])) word.1
from_stage stages.StepCount l p = from_steps l p
from_stage (stages.Word meaning) l p = do
  word ← word_at p
  from_word meaning word.0 l word.1
from_stage stages.End l p = ends_at l p

-- a refusal that no byte to come can change: not that the file ends early, and not that memory ran out
abbrev pub IsFinal : FileRefusal → Type 0
IsFinal refusals.Magic = Unit {0}
IsFinal (refusals.WordRange at) = Unit {0}
IsFinal (refusals.Order at) = Unit {0}
IsFinal (refusals.Cut at) = ⊥
IsFinal (refusals.Extra at) = Unit {0}
IsFinal refusals.StepsAbove = Unit {0}
IsFinal refusals.Memory = ⊥

-- what the reader says of these eight bytes at this offset, whatever follows them
abbrev pub ReadsAs : {X : Type 0} → (Place → Result (X × Place) FileRefusal) → ℕ → List ℕ → Result X FileRefusal → Type 0
ReadsAs reader at number (Ok x) = (more : List ℕ) → reader (record { at = at; rest = number ++ more }) ≡ Ok (x, record { at = at + 8; rest = more })
ReadsAs reader at number (Err e) = IsFinal e × ((more : List ℕ) → reader (record { at = at; rest = number ++ more }) ≡ Err e)

-- behind these eight bytes the file goes on from the next stage, with what is whole by then, or it is refused
abbrev pub GoesOn : Stage → ℕ → List ℕ → Result Next FileRefusal → Type 0
GoesOn stage at number (Ok next) = (l : Listing) (more : List ℕ) → from_stage stage l (record { at = at; rest = number ++ more }) ≡ from_stage next.stage (with_part l next.part) (record { at = at + 8; rest = more })
GoesOn stage at number (Err e) = IsFinal e × ((l : Listing) (more : List ℕ) → from_stage stage l (record { at = at; rest = number ++ more }) ≡ Err e)

-- ---- what a stage knows of the parts that are whole

-- the cells with a part, if it is a cell
abbrev pub cells_with : Cells → Part → Cells
cells_with cells parts.Nothing = cells
cells_with cells (parts.Rc rc) = cells
cells_with cells (parts.Cell address word) = insert cells address word
cells_with cells (parts.Steps n) = cells
cells_with cells (parts.State s) = cells

-- no cell is listed where the next ones may stand, and in the states there is room for all that are still to come
abbrev pub Fits : Stage → Cells → ℕ → Type 0
Fits stages.Magic cells room = NoneFrom cells 0
Fits stages.CellCount cells room = NoneFrom cells 0
Fits (stages.Address least left) cells room = NoneFrom cells least
Fits stages.StepCount cells room = Unit {0}
Fits (stages.Word meanings.Rc) cells room = NoneFrom cells 0
Fits (stages.Word (meanings.CellWord address left)) cells room = NoneFrom cells address
Fits (stages.Word (meanings.Pc left)) cells room = left < room
Fits (stages.Word (meanings.Ap pc left)) cells room = left < room
Fits (stages.Word (meanings.Fp pc ap left)) cells room = left < room
Fits stages.End cells room = Unit {0}

-- the part can be added
abbrev pub Allows : Cells → ℕ → Part → Type 0
Allows cells room parts.Nothing = Unit {0}
Allows cells room (parts.Rc rc) = Unit {0}
Allows cells room (parts.Cell address word) = NoneFrom cells address
Allows cells room (parts.Steps n) = n < 2 ^ 32
Allows cells room (parts.State s) = 0 < room

-- the room for states behind a part
abbrev pub HasRoom : ℕ → Part → ℕ → Type 0
HasRoom room parts.Nothing later = room ≤ later
HasRoom room (parts.Rc rc) later = room ≤ later
HasRoom room (parts.Cell address word) later = room ≤ later
HasRoom room (parts.Steps n) later = n < later
HasRoom room (parts.State s) later = room ≤ later + 1

abbrev pub KeepsFit : Stage → Next → Type 0
KeepsFit stage next = (cells : Cells) (room : ℕ) → Fits stage cells room → Allows cells room next.part × ((later : ℕ) → HasRoom room next.part later → Fits next.stage (cells_with cells next.part) later)

-- the number of steps was read
abbrev pub in_states : Stage → Bool
in_states stages.Magic = false
in_states stages.CellCount = false
in_states (stages.Address least left) = false
in_states stages.StepCount = false
in_states (stages.Word meanings.Rc) = false
in_states (stages.Word (meanings.CellWord address left)) = false
in_states (stages.Word (meanings.Pc left)) = true
in_states (stages.Word (meanings.Ap pc left)) = true
in_states (stages.Word (meanings.Fp pc ap left)) = true
in_states stages.End = true

-- the part takes memory
abbrev pub takes_memory : Part → Bool
takes_memory parts.Nothing = false
takes_memory (parts.Rc rc) = false
takes_memory (parts.Cell address word) = true
takes_memory (parts.Steps n) = true
takes_memory (parts.State s) = false

-- behind a number in the states come the states still, and its part takes no memory
abbrev pub StaysInStates : Next → Type 0
StaysInStates next = IsTrue (in_states next.stage) × (takes_memory next.part ≡ false)

-- the stage that was gone to, with the part that was given
abbrev pub advanced : Stage → Result Part FileRefusal → Result Next FileRefusal
advanced stage (Ok part) = Ok (record { stage = stage; part = part })
advanced stage (Err e) = Err e
