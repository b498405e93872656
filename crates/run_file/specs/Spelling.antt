-- What a run file holds, and the one spelling of each run.
use Rattle.std.specs.Prelude.{ℕ, ◌-◌, ◌<◌, ◌≤◌, ◌^◌, List, ◌++◌, length, codes}
use Rattle.std.specs.FinMap.{entries}
use Rattle.std.specs.List.{flat_map, AllByRecursion}
use Rattle.std.specs.Int.{w64, to_le_bytes}
use Rattle.felt64.specs.Field.{modulus}
use Rattle.ro_machine.specs.declared.machine.State.{State}
use Rattle.run_file.specs.declared.run.Run.{Run}

-- how each run file begins
abbrev pub magic : List ℕ
magic = codes "SIERRUN1"

-- eight bytes, the least significant first
abbrev pub number : ℕ → List ℕ
number n = to_le_bytes w64 n

-- an address and its word
abbrev pub cell : ℕ × ℕ → List ℕ
cell c = number c.0 ++ number c.1

abbrev pub state : State → List ℕ
state s = number s.pc ++ number s.ap ++ number s.fp

-- a run with its cells in order of address
pub record Listing : Type 0 where
  pub rc : ℕ
  pub cells : List (ℕ × ℕ)
  pub states : List State

-- the number of steps is one less than that of the states
abbrev pub listing_spelling : Listing → List ℕ
listing_spelling l =
    magic ++ number l.rc
    ++ number (length l.cells) ++ flat_map cell l.cells
    ++ number (length l.states - 1) ++ flat_map state l.states

abbrev pub IsCell : ℕ × ℕ → Type 0
IsCell c = (c.0 < modulus) × (c.1 < modulus)

pub record IsState (s : State) : Type 0 where
  pub pc : s.pc < modulus
  pub ap : s.ap < modulus
  pub fp : s.fp < modulus

-- what has a spelling
pub record IsListing (l : Listing) : Type 0 where
  pub rc : l.rc < modulus
  pub cells : AllByRecursion IsCell l.cells
  pub cell_count : length l.cells < 2 ^ 64
  pub states : AllByRecursion IsState l.states
  pub some_state : 1 ≤ length l.states
  pub state_count : length l.states ≤ 2 ^ 32

-- what a run file holds of a run
abbrev pub listing : Run → Listing
listing run = record { rc = run.rc; cells = entries run.memory; states = run.states }

abbrev pub spelling : Run → List ℕ
spelling run = listing_spelling (listing run)

abbrev pub IsRun : Run → Type 0
IsRun run = IsListing (listing run)
