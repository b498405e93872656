-- What is asked of each statement, so that every run of statements ends: its action is paid by the gas that is held and by what
-- the statement is worth, and leads to variables of the right types.
use Rattle.std.specs.Prelude.{◌≡◌, ◌⊎◌, ℕ, ◌+◌, ◌*◌, ◌-◌, ◌<◌, ◌≤◌, ◌^◌, max, List, [], ◌∷◌, Ok, zip}
use Rattle.std.specs.List.{sum_by}
use Rattle.held_list.specs.Held.{Held, total, greatest}
use Rattle.held_list.specs.Editing.{add_all}
use Rattle.sierra_meaning.specs.Mean.{Action, returns, goes, calls}

-- statements that act, and what is measured of them
pub record Running (V : Type 0) : Type 1 where
  pub Acts : ℕ → Held V → Action V → Type 0
  -- where a function begins
  pub entry : ℕ → ℕ
  -- how many statements there are
  pub size : ℕ
  -- what a statement is worth: the gas that it and what follows need
  pub worth : ℕ → ℕ
  -- the gas in a value
  pub gas : V → ℕ
  -- the length of the longest thing in a value
  pub long : V → ℕ
  -- the values are those of the variables of statement s, which is of function f
  pub IsTyped : (f s : ℕ) → Held V → Type 0
  -- the values are of the types of a function's results
  pub AreResults : (f : ℕ) → List V → Type 0

-- the greatest of a number of each value, 0 of none
abbrev pub greatest_of : {V : Type 0} → (V → ℕ) → List V → ℕ
greatest_of f [] = 0
greatest_of f (v ∷ vs) = max (f v) (greatest_of f vs)

module _ {V : Type 0} (r : Running V) where
  -- the gas that is held, and what the statement is worth
  abbrev pub funds : ℕ → Held V → ℕ
  funds s env = total r.gas env + r.worth s

  -- a number that falls with each statement
  abbrev pub measure : ℕ → Held V → ℕ
  measure s env = (r.size + 1) * funds s env + (r.size - s)

  -- Statement s of function f begins with these values. The gas is below 2 ^ 32, and what is longer than an input's arrays may
  -- be was paid for: 100 for each element.
  pub record IsGood (f s : ℕ) (env : Held V) : Type 0 where
    pub inside : s < r.size
    pub typed : r.IsTyped f s env
    pub small : funds s env < 2 ^ 32
    pub short : 100 * greatest r.long env + funds s env ≤ 100 * 2 ^ 20 + 2 ^ 32

  -- what is asked of a return
  pub record ReturnsWell (f s : ℕ) (env : Held V) (results : List V) : Type 0 where
    pub typed : r.AreResults f results
    pub paid : 100 ≤ r.worth s
    pub no_more_gas : sum_by r.gas results ≤ total r.gas env
    pub no_longer : greatest_of r.long results ≤ greatest r.long env

  -- What is asked where a statement goes on. What is free goes on at the next statement.
  pub record GoesWell (f s : ℕ) (env : Held V) (cost next : ℕ) (more : Held V) : Type 0 where
    pub inside : next < r.size
    pub typed : r.IsTyped f next more
    pub paid : cost + funds next more ≤ funds s env
    pub grown : 100 * greatest r.long more ≤ 100 * greatest r.long env + cost
    pub free : ((cost ≡ 0) × (next ≡ s + 1)) ⊎ (10 ≤ cost)

  -- What is asked of a call. Whatever results the callee gives, the caller goes on with them.
  pub record CallsWell (f s : ℕ) (env : Held V) (g : ℕ) (args rest : Held V) (names : List ℕ) (next : ℕ) : Type 0 where
    pub begins : r.entry g < r.size
    pub typed : r.IsTyped g (r.entry g) args
    pub inside : next < r.size
    pub goes_on : (given : List V) → r.AreResults g given → (more : Held V) × (add_all (zip names given) rest ≡ Ok more) × r.IsTyped f next more
    pub paid : 100 + r.worth (r.entry g) + r.worth next ≤ r.worth s
    pub no_more_gas : total r.gas args + total r.gas rest ≤ total r.gas env
    pub args_no_longer : greatest r.long args ≤ greatest r.long env
    pub rest_no_longer : greatest r.long rest ≤ greatest r.long env

  -- each action of each statement is as asked
  pub record Facts : Type 0 where
    pub on_return : (f s : ℕ) (env : Held V) (results : List V) → IsGood f s env → r.Acts s env (returns results) → ReturnsWell f s env results
    pub on_goes : (f s : ℕ) (env : Held V) (cost next : ℕ) (more : Held V) → IsGood f s env → r.Acts s env (goes cost next more) → GoesWell f s env cost next more
    pub on_call : (f s : ℕ) (env : Held V) (g : ℕ) (args rest : Held V) (names : List ℕ) (next : ℕ) → IsGood f s env → r.Acts s env (calls g args rest names next)
        → CallsWell f s env g args rest names next

  -- no statement is stuck
  abbrev pub Moves : Type 0
  Moves = (f s : ℕ) (env : Held V) → IsGood f s env → (action : Action V) × r.Acts s env action

  -- a statement has one action
  abbrev pub ActsOnce : Type 0
  ActsOnce = (s : ℕ) (env : Held V) (one other : Action V) → r.Acts s env one → r.Acts s env other → one ≡ other

  -- What a run has spent that was charged so much: its results are of the right types, no gas was made, what grew was paid for,
  -- and the number of its statements is bounded.
  pub record Spent (f n s : ℕ) (env : Held V) (results : List V) (charge : ℕ) : Type 0 where
    pub typed : r.AreResults f results
    pub paid : charge + sum_by r.gas results ≤ funds s env
    pub small : 100 * greatest_of r.long results + sum_by r.gas results ≤ 100 * greatest r.long env + funds s env
    pub light : n + (r.size + 1) * sum_by r.gas results ≤ measure s env
