-- What a run of statements gives: big step, with the number of statements. It knows statements, values and calls alone; what
-- one statement does is a parameter, so that the meaning of a program and a run whose dictionaries are logged are one
-- definition.
use Rattle.std.specs.Prelude.{◌≡◌, ℕ, suc, ◌+◌, List, Ok, zip}
use Rattle.held_list.specs.Held.{Held}
use Rattle.held_list.specs.Editing.{add_all}

-- what a statement does with the values of its variables
pub data Action (V : Type 0) : Type 0 where
  -- it ends its function with these results
  returns : List V → Action V
  -- it is charged so much and goes on at this statement
  goes : (cost next : ℕ) → Held V → Action V
  -- It calls a function with these variables. The rest waits, to which the results are added under these names, and then this
  -- statement is next.
  calls : (f : ℕ) → (args rest : Held V) → (names : List ℕ) → (next : ℕ) → Action V

-- From statement s with these values its function's results are these, after n statements, those of the functions that are
-- called included. `entry` is where a function begins.
pub data Mean {V : Type 0} (Acts : ℕ → Held V → Action V → Type 0) (entry : ℕ → ℕ) : ℕ → ℕ → Held V → List V → Type 0 where
  ends : (n s : ℕ) (env : Held V) (results : List V) → Acts s env (returns results) → n ≡ 1 → Mean Acts entry n s env results
  goes_on : (n s : ℕ) (env : Held V) (results : List V) (m cost next : ℕ) (more : Held V) → Acts s env (goes cost next more)
      → Mean Acts entry m next more results → n ≡ suc m → Mean Acts entry n s env results
  calls_and_goes_on : (n s : ℕ) (env : Held V) (results : List V) (f : ℕ) (args rest : Held V) (names : List ℕ) (a b next : ℕ) (given : List V) (more : Held V)
      → Acts s env (calls f args rest names next) → Mean Acts entry a (entry f) args given → add_all (zip names given) rest ≡ Ok more
      → Mean Acts entry b next more results → n ≡ suc (a + b) → Mean Acts entry n s env results

-- What all its statements are charged. A call and a return are charged 100.
abbrev pub charged : {V : Type 0} {Acts : ℕ → Held V → Action V → Type 0} {entry : ℕ → ℕ} (n s : ℕ) (env : Held V) (results : List V) → Mean Acts entry n s env results → ℕ
charged n s env results (ends _ _ _ _ acts is) = 100
charged n s env results (goes_on _ _ _ _ m cost next more acts later is) = cost + charged m next more results later
charged {V} {Acts} {entry} n s env results (calls_and_goes_on _ _ _ _ f args rest names a b next given more acts callee added later is) =
    100 + (charged a (entry f) args given callee + charged b next more results later)
