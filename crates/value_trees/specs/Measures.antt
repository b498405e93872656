-- How much gas is in a value, and how long the longest thing in it is. What a dictionary and an open entry count for are
-- parameters.
use Rattle.std.specs.Prelude.{ℕ, suc, ◌+◌, max}
use Rattle.std.specs.FinMap.{len}
use Rattle.value_trees.specs.Val.{Val, Vals, number, struct, enum, array, boxed, dict, dict_entry, squashed_dict, gas, check, empty, no_values, values}

-- how many values
abbrev pub count : {D E : Type 0} → Vals D E → ℕ
count no_values = 0
count (values v vs) = suc (count vs)

module _ {D E : Type 0} (of_dict : D → ℕ) (of_entry : E → ℕ) where
  abbrev mutual
    -- the sum of the amounts of gas, at any depth
    pub weight : Val D E → ℕ
    weight (number k n) = 0
    weight (struct vs) = total_weight vs
    weight (enum index v) = weight v
    weight (array vs) = total_weight vs
    weight (boxed v) = weight v
    weight (dict d) = of_dict d
    weight (dict_entry e) = of_entry e
    weight (squashed_dict m) = 0
    weight (gas n) = n
    weight check = 0
    weight empty = 0

    pub total_weight : Vals D E → ℕ
    total_weight no_values = 0
    total_weight (values v vs) = weight v + total_weight vs

  abbrev mutual
    -- the greatest length of an array or a map, at any depth
    pub longest : Val D E → ℕ
    longest (number k n) = 0
    longest (struct vs) = longest_of vs
    longest (enum index v) = longest v
    longest (array vs) = max (count vs) (longest_of vs)
    longest (boxed v) = longest v
    longest (dict d) = of_dict d
    longest (dict_entry e) = of_entry e
    longest (squashed_dict m) = len m
    longest (gas n) = 0
    longest check = 0
    longest empty = 0

    pub longest_of : Vals D E → ℕ
    longest_of no_values = 0
    longest_of (values v vs) = max (longest v) (longest_of vs)
