-- Accepted runs: what a run file has to hold for its run to be believed.
use Rattle.std.specs.Prelude.{ℕ, ◌≡◌, ◌≢◌, ◌<◌, ◌≤◌, ◌+◌, ◌-◌, ◌^◌, List, length, Option, Some, slice_get}
use Rattle.felt64.specs.Field.{sum}
use Rattle.ro_machine.specs.declared.machine.State.{State}
use Rattle.ro_machine.specs.Readings.{cells_below}
use Rattle.ro_machine.specs.Step.{Step}
use Rattle.first_form.specs.Values.{Ty, Val, sizes, StandAll}

-- a run has at most this number of states, so fewer steps
abbrev pub most_states : ℕ
most_states = 2 ^ 32

-- the words of range-check cells are below this
abbrev pub range_limit : ℕ
range_limit = 2 ^ 32

-- the pc of the last state
abbrev pub final_pc : ℕ
final_pc = 2

-- each word of the code is listed in its cell, from address 0 on
abbrev pub HoldsCode : (ℕ → Option ℕ) → List ℕ → Type 0
HoldsCode m code = (k : ℕ) → k < length code → m k ≡ slice_get code k

-- the first state is at the code's first cell, with an empty frame at this address
abbrev pub StartsAt : List State → ℕ → Type 0
StartsAt states base = slice_get states 0 ≡ Some (record { pc = 0; ap = base; fp = base })

-- the arguments stand in the cells that end below this address
abbrev pub ArgumentsStand : (ℕ → Option ℕ) → ℕ → List Ty → List Val → Type 0
ArgumentsStand m base types arguments = StandAll m types (cells_below m base (sizes types)) arguments

-- what holds of a state that another one follows: it isn't at the end, a step starts at it, and what that gives follows
pub record GoesOn (m : ℕ → Option ℕ) (s follower : State) : Type 0 where
  pub not_early : s.pc ≢ final_pc
  pub next : State
  pub step : Step m s next
  pub next_is : follower ≡ next

-- this state stands at place i, and this one after it
pub record Follows (states : List State) (i : ℕ) (s follower : State) : Type 0 where
  pub here : slice_get states i ≡ Some s
  pub after : slice_get states (i + 1) ≡ Some follower

-- each state that another one follows goes on
abbrev pub AllGoOn : (ℕ → Option ℕ) → List State → Type 0
AllGoOn m states = (i : ℕ) (s follower : State) → Follows states i s follower → GoesOn m s follower

abbrev pub IsLast : List State → State → Type 0
IsLast states s = slice_get states (length states - 1) ≡ Some s

-- the last state is at the end
abbrev pub Ends : List State → Type 0
Ends states = (s : State) × IsLast states s × (s.pc ≡ final_pc)

-- the cell that lies k cells from rc, where it is listed, has a word below the limit
abbrev pub IsInRange : (ℕ → Option ℕ) → ℕ → ℕ → Type 0
IsInRange m rc k = (word : ℕ) → m (sum rc k) ≡ Some word → word < range_limit

abbrev pub AllInRange : (ℕ → Option ℕ) → ℕ → ℕ → Type 0
AllInRange m rc count = (k : ℕ) → k < count → IsInRange m rc k

-- A run of this code with these arguments is accepted: rc, the memory, and the states from the first to the last. The
-- parts are in the order of the rejections: each but the first, on the number of states, has those that say it fails.
pub record Accepts (code : List ℕ) (types : List Ty) (arguments : List Val) (rc : ℕ) (m : ℕ → Option ℕ) (states : List State) : Type 0 where
  pub few : length states ≤ most_states
  pub code_cells : HoldsCode m code
  pub base : ℕ
  pub start : StartsAt states base
  pub argument_cells : ArgumentsStand m base types arguments
  pub goes_on : AllGoOn m states
  pub final : Ends states
  pub range_cells : AllInRange m rc (length states)
