-- Inputs: which ones fit main, their texts, and which fault is told of a text that is no input's.
use Rattle.std.specs.Prelude.{◌≡◌, ℕ, zero, suc, ◌/◌, ◌^◌, ◌<◌, ◌≤◌, ◌++◌, max, List, [], ◌∷◌, length, codes}
use Rattle.std.specs.List.{AllByRecursion, concat, flat_map}
use Rattle.byte_reading.specs.Decimal.{decimal_text}
use Rattle.type_trees.specs.Ty.{Ty, Tys, number, nonzero, range_check, gas_builtin, box, array, snapshot, struct, enum, dict, dict_entry, squashed_dict, uninitialized, no_types, types, size}
use Rattle.value_trees.specs.Of.{bound}
use Rattle.value_trees.specs.Val.{Plain, vals_of}
use Rattle.value_trees.specs.Val as val
use Rattle.typed_values.specs.Texts.{value_text}

-- an array has at most this many cells
abbrev pub most_cells : ℕ
most_cells = 2 ^ 20

-- as many elements as have so many cells together: an element of an array takes a cell at least
abbrev pub most_elements : Ty → ℕ
most_elements ty = most_cells / max 1 (size ty)

-- The values of the type in which no array is longer than the limit. Main's arguments are of plain types; of what is in no plain type
-- but for arrays in arrays there are none here.
module _ (most : Ty → ℕ) where
  abbrev mutual
    pub IsGiven : Ty → Plain → Type 0
    IsGiven (number k) v = (n : ℕ) × (v ≡ val.number k n) × (n < bound k)
    IsGiven (array ty) v = (vs : List Plain) × (v ≡ val.array (vals_of vs)) × AllByRecursion (IsGiven ty) vs × (length vs ≤ most ty)
    IsGiven (struct name tys) v = (vs : List Plain) × (v ≡ val.struct (vals_of vs)) × AreGiven tys vs
    IsGiven (enum name tys) v = (index : ℕ) × (payload : Plain) × (v ≡ val.enum index payload) × IsGivenVariant tys index payload
    IsGiven (nonzero k) v = ⊥
    IsGiven range_check v = ⊥
    IsGiven gas_builtin v = ⊥
    IsGiven (box ty) v = ⊥
    IsGiven (snapshot ty) v = ⊥
    IsGiven (dict k) v = ⊥
    IsGiven (dict_entry k) v = ⊥
    IsGiven (squashed_dict k) v = ⊥
    IsGiven (uninitialized ty) v = ⊥

    -- the values are of these types, in order
    pub AreGiven : Tys → List Plain → Type 0
    AreGiven no_types vs = vs ≡ []
    AreGiven (types ty tys) vs = (v : Plain) × (rest : List Plain) × (vs ≡ v ∷ rest) × IsGiven ty v × AreGiven tys rest

    -- there is a variant with this index, and the payload is of it
    pub IsGivenVariant : Tys → ℕ → Plain → Type 0
    IsGivenVariant no_types index v = ⊥
    IsGivenVariant (types ty tys) zero v = IsGiven ty v
    IsGivenVariant (types ty tys) (suc index) v = IsGivenVariant tys index v

  -- the values are of these types, in order
  abbrev pub AllGiven : List Ty → List Plain → Type 0
  AllGiven [] vs = vs ≡ []
  AllGiven (ty ∷ tys) vs = (v : Plain) × (rest : List Plain) × (vs ≡ v ∷ rest) × IsGiven ty v × AllGiven tys rest

-- the input's gas, and the values of main's parameters that are no builtins
pub record InputView : Type 0 where
  pub gas : ℕ
  pub args : List Plain

-- the input fits main, whose parameters that are no builtins are of these types
pub record FitsMain (tys : List Ty) (i : InputView) : Type 0 where
  pub gas : i.gas < 2 ^ 32
  pub args : AllGiven most_elements tys i.args

abbrev pub line_of : Plain → List ℕ
line_of v = value_text v ++ codes "\n"

-- a line for the gas, and one for each value
abbrev pub input_text : InputView → List ℕ
input_text i = concat (codes "gas " ∷ decimal_text i.gas ∷ codes "\n" ∷ flat_map line_of i.args ∷ [])
