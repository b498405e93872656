-- The texts of values one after another.
use Rattle.std.specs.Prelude.{ℕ, ◌++◌, Bool, true, false, List, [], ◌∷◌, codes, if◌then◌else◌}
use Rattle.value_trees.specs.Val.{Plain, vals_of}
use Rattle.typed_values.specs.Texts.{value_text, values_text}

-- a value, behind a comma where it isn't the first
abbrev pub next_text : Bool → Plain → List ℕ
next_text true v = value_text v
next_text false v = codes ", " ++ value_text v

-- the values that are left
abbrev pub left_text : Bool → List Plain → List ℕ
left_text true vs = values_text (vals_of vs)
left_text false [] = []
left_text false (v ∷ vs) = codes ", " ++ values_text (vals_of (v ∷ vs))
