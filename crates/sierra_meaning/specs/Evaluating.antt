-- A run of statements with its callers in a list: what it gives, and what it keeps true. It stands at a statement of one function,
-- and each caller waits for the results of the function before it.
use Rattle.std.specs.Prelude.{◌≡◌, ℕ, ◌+◌, ◌*◌, ◌-◌, ◌<◌, ◌≤◌, ◌^◌, max, List, [], ◌∷◌, Ok, zip}
use Rattle.held_list.specs.Held.{Held, total, greatest}
use Rattle.held_list.specs.Editing.{add_all}
use Rattle.sierra_meaning.specs.Facts.{Running, funds, measure}
use Rattle.sierra_meaning.specs.Mean.{Mean}

-- a caller: what it holds, under which names it adds the results, and at which statement it goes on
pub record Caller (V : Type 0) : Type 0 where
  pub rest : Held V
  pub names : List ℕ
  pub next : ℕ

-- the same variables, with what a function gives of their payloads
abbrev pub mapped_held : {A B : Type 0} → (A → B) → Held A → Held B
mapped_held f [] = []
mapped_held f (x ∷ xs) = (x.0, f x.1) ∷ mapped_held f xs

module _ {V : Type 0} (r : Running V) where
  -- some number of statements gives these results
  abbrev pub EndsWith : ℕ → Held V → List V → Type 0
  EndsWith s env results = (n : ℕ) × Mean r.Acts r.entry n s env results

  -- with the results of the function that was called last the callers, one after another, give these in the end
  abbrev pub Back : List (Caller V) → List V → List V → Type 0
  Back [] given results = given ≡ results
  Back (c ∷ callers) given results = (more : Held V) × (ys : List V) × (add_all (zip c.names given) c.rest ≡ Ok more) × EndsWith c.next more ys × Back callers ys results

  -- from here on the results are these in the end
  abbrev pub After : ℕ → Held V → List (Caller V) → List V → Type 0
  After s env callers results = (given : List V) × EndsWith s env given × Back callers given results

  -- what the callers wait with: the gas that they hold, and what they go on with
  abbrev pub waiting : List (Caller V) → ℕ
  waiting [] = 0
  waiting (c ∷ callers) = (total r.gas c.rest + r.worth c.next) + waiting callers

  -- the longest thing that they hold
  abbrev pub longest_waiting : List (Caller V) → ℕ
  longest_waiting [] = 0
  longest_waiting (c ∷ callers) = max (greatest r.long c.rest) (longest_waiting callers)

  -- a number that falls with each statement
  abbrev pub measure_waiting : List (Caller V) → ℕ
  measure_waiting [] = 0
  measure_waiting (c ∷ callers) = ((r.size + 1) * (total r.gas c.rest + r.worth c.next) + (r.size - c.next)) + measure_waiting callers

  abbrev pub measure_all : ℕ → Held V → List (Caller V) → ℕ
  measure_all s env callers = measure r s env + measure_waiting callers

  -- Each caller can go on with any results of the function before it, and the last one is of function `first`.
  abbrev pub AreWaiting : ℕ → ℕ → List (Caller V) → Type 0
  AreWaiting first f [] = f ≡ first
  AreWaiting first f (c ∷ callers) =
      (g : ℕ) × (c.next < r.size) × ((given : List V) → r.AreResults f given → (more : Held V) × (add_all (zip c.names given) c.rest ≡ Ok more) × r.IsTyped g c.next more)
      × AreWaiting first g callers

  -- It stands at statement s of function f with these values; all gas and all that is worth something is within the limit.
  pub record IsStacked (first f s : ℕ) (env : Held V) (callers : List (Caller V)) : Type 0 where
    pub inside : s < r.size
    pub typed : r.IsTyped f s env
    pub callers_wait : AreWaiting first f callers
    pub small : funds r s env + waiting callers < 2 ^ 32
    pub short : 100 * max (greatest r.long env) (longest_waiting callers) + (funds r s env + waiting callers) ≤ 100 * 2 ^ 20 + 2 ^ 32

  -- One statement later: what comes after it now came after it before, and the measure is lower.
  pub record IsTurn (s : ℕ) (env : Held V) (callers : List (Caller V)) (t : ℕ) (more : Held V) (waiting_then : List (Caller V)) : Type 0 where
    pub after : (results : List V) → After t more waiting_then results → After s env callers results
    pub lower : measure_all t more waiting_then < measure_all s env callers
