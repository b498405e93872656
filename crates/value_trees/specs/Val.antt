-- Values of Sierra's types: no cells, no addresses, no hints. What a dictionary holds, and what an open entry of one holds, are
-- parameters. In the meaning of a program a dictionary is a map from its keys to words; in a run whose accesses are logged it
-- is its log.
use Rattle.std.specs.Prelude.{ℕ, List, [], ◌∷◌}
use Rattle.std.specs.Ordering.{nat_cmp}
use Rattle.std.specs.FinMap.{FinMap}
use Rattle.type_trees.specs.declared.num.Num.{Num}

-- A snapshot of a type has the values of the type, and a `NonZero` those of its type that aren't 0.
mutual
  pub data Val (D E : Type 0) : Type 0 where
    -- a number of a type of numbers
    number : Num → ℕ → Val D E
    -- the members, in order
    struct : Vals D E → Val D E
    -- the variant's index and its payload
    enum : ℕ → Val D E → Val D E
    -- the elements, in order
    array : Vals D E → Val D E
    boxed : Val D E → Val D E
    dict : D → Val D E
    dict_entry : E → Val D E
    squashed_dict : FinMap nat_cmp ℕ → Val D E
    gas : ℕ → Val D E
    -- the token of range checks, which has no content
    check : Val D E
    -- what is uninitialized
    empty : Val D E

  -- some values, in order
  pub data Vals (D E : Type 0) : Type 0 where
    no_values : Vals D E
    values : Val D E → Vals D E → Vals D E

-- some values as a list, and back
abbrev pub list_of : {D E : Type 0} → Vals D E → List (Val D E)
list_of no_values = []
list_of (values v vs) = v ∷ list_of vs

abbrev pub vals_of : {D E : Type 0} → List (Val D E) → Vals D E
vals_of [] = no_values
vals_of (v ∷ vs) = values v (vals_of vs)

-- From keys to words. A dictionary's map has each key that was accessed so far, with its last word, which is 0 at first.
abbrev pub WordMap : Type 0
WordMap = FinMap nat_cmp ℕ

-- a dictionary of which an entry is open: its map, and the entry's key
pub record OpenMap : Type 0 where
  pub map : WordMap
  pub key : ℕ

-- the values that a program's meaning speaks of
abbrev pub Plain : Type 0
Plain = Val WordMap OpenMap
