-- Paths: states of which each is a step after the one before. A stretch is a path that stays in an interval of cells up to
-- its last state, which may lie anywhere.
use Rattle.std.specs.Prelude.{◌≡◌, ℕ, ◌<◌, ◌≤◌, List, [], ◌∷◌, ◌++◌, length, Option}
use Rattle.ro_machine.specs.declared.machine.State.{State}
use Rattle.ro_machine.specs.Step.{Step}

-- the states us follow s, each by a step, and t is the last one, or s itself
abbrev pub Path : (ℕ → Option ℕ) → State → List State → State → Type 0
Path m s [] t = s ≡ t
Path m s (u ∷ us) t = Step m s u × Path m u us t

-- each state from which a step of the path goes has its pc in these cells, from lo up to hi, which is outside
abbrev pub Inside : ℕ → ℕ → State → List State → Type 0
Inside lo hi s [] = Unit {0}
Inside lo hi s (u ∷ us) = (lo ≤ s.pc) × (s.pc < hi) × Inside lo hi u us

-- A path splits: it begins with a stretch, after which Q holds of the state and of the number of steps so far.
pub record Splits (m : ℕ → Option ℕ) (lo hi : ℕ) (s : State) (us : List State) (z : State) (Q : State → ℕ → Type 0) : Type 0 where
  pub first : List State
  pub rest : List State
  pub mid : State
  pub joins : us ≡ first ++ rest
  pub path : Path m s first mid
  pub inside : Inside lo hi s first
  pub onward : Path m mid rest z
  pub holds : Q mid (length first)

-- all states of a path have their pc in the interval, the last one too
pub record StaysInside (lo hi : ℕ) (s : State) (us : List State) (z : State) : Type 0 where
  pub inside : Inside lo hi s us
  pub above : lo ≤ z.pc
  pub below : z.pc < hi

-- There is a stretch after which Q holds of the state and of the number of steps.
pub record Arrives (m : ℕ → Option ℕ) (lo hi : ℕ) (s : State) (Q : State → ℕ → Type 0) : Type 0 where
  pub states : List State
  pub last : State
  pub path : Path m s states last
  pub inside : Inside lo hi s states
  pub holds : Q last (length states)
