-- Why a text is no input of main, by texts alone. The order is: the first line, the gas, the number of lines, and then the lines of the
-- values. In these the first place counts of a byte with which no input goes on, of a number or an index that is out of range, and of an
-- array that is too long.
use Rattle.std.specs.Prelude.{◌≡◌, ◌≢◌, ◌⊎◌, ℕ, zero, suc, ◌^◌, ◌<◌, ◌≤◌, ◌++◌, List, [], ◌∷◌, length, codes, false}
use Rattle.std.specs.List.{AllByRecursion}
use Rattle.byte_reading.specs.Decimal.{decimal_text, StartsWithNumber}
use Rattle.text_reading.specs.Places.{Continues, IsPlace, line_behind, column_behind}
use Rattle.text_reading.specs.Tokens.{is_digit}
use Rattle.text_reading.specs.declared.place.Place.{Place}
use Rattle.type_trees.specs.Ty.{Ty, Tys, number, nonzero, range_check, gas_builtin, box, array, snapshot, struct, enum, dict, dict_entry, squashed_dict, uninitialized, no_types, types, holds_array}
use Rattle.value_trees.specs.Val.{Plain, vals_of}
use Rattle.value_trees.specs.Val as val
use Rattle.typed_values.specs.Inputs.{InputView, FitsMain, input_text, most_elements}
use Rattle.typed_values.specs.Reading.{line_count}
use Rattle.typed_values.specs.declared.fault.InputFault.{InputFault}
use Rattle.typed_values.specs.declared.fault.InputFault.TheVariants as faults

-- No text of the language is the text, and the front is its longest prefix with which one begins.
pub record Ends {A : Type 0} (IsText : A → List ℕ → Type 0) (text front rest : List ℕ) : Type 0 where
  pub place : IsPlace IsText text front rest
  pub none : (tree : A) → IsText tree text → ⊥

-- the place of the byte behind these bytes
abbrev pub place_behind : List ℕ → Place
place_behind front = record { line = line_behind front; column = column_behind front }

-- ---- the first line

-- the first line is the one of this gas, which may be any number, and these bytes stand behind it
abbrev pub HasGas : ℕ → List ℕ → List ℕ → Type 0
HasGas gas text rest = text ≡ codes "gas " ++ (decimal_text gas ++ (codes "\n" ++ rest))

abbrev pub BeginsWithGas : ℕ → List ℕ → Type 0
BeginsWithGas gas text = (rest : List ℕ) × HasGas gas text rest

-- the gas is in its range, and there is a line for each type
pub record HasLines (tys : List Ty) (text : List ℕ) : Type 0 where
  pub gas : ℕ
  pub behind : List ℕ
  pub is_gas : HasGas gas text behind
  pub in_range : gas < 2 ^ 32
  pub lines : line_count behind ≡ length tys

-- ---- the lines of the values

-- the text is that of an input that fits main
abbrev pub IsInputOf : List Ty → InputView → List ℕ → Type 0
IsInputOf tys i text = FitsMain tys i × (text ≡ input_text i)

-- Values that have the form of a type. Their numbers are any. How many elements an array may have is asked of by `Few`, and where an
-- index has no variant, `Beyond` holds if such an index has the form too, with any payload.
module _ (Few : Ty → ℕ → Type 0) (Beyond : Type 0) where
  abbrev mutual
    pub HasForm : Ty → Plain → Type 0
    HasForm (number k) v = (n : ℕ) × (v ≡ val.number k n)
    HasForm (array ty) v = (vs : List Plain) × (v ≡ val.array (vals_of vs)) × AllByRecursion (HasForm ty) vs × Few ty (length vs)
    HasForm (struct name tys) v = (vs : List Plain) × (v ≡ val.struct (vals_of vs)) × HaveForms tys vs
    HasForm (enum name tys) v = (index : ℕ) × (payload : Plain) × (v ≡ val.enum index payload) × HasVariantForm tys index payload
    HasForm (nonzero k) v = ⊥
    HasForm range_check v = ⊥
    HasForm gas_builtin v = ⊥
    HasForm (box ty) v = ⊥
    HasForm (snapshot ty) v = ⊥
    HasForm (dict k) v = ⊥
    HasForm (dict_entry k) v = ⊥
    HasForm (squashed_dict k) v = ⊥
    HasForm (uninitialized ty) v = ⊥

    -- the values have the forms of these types, in order
    pub HaveForms : Tys → List Plain → Type 0
    HaveForms no_types vs = vs ≡ []
    HaveForms (types ty tys) vs = (v : Plain) × (rest : List Plain) × (vs ≡ v ∷ rest) × HasForm ty v × HaveForms tys rest

    -- the payload has the form of the variant with this index
    pub HasVariantForm : Tys → ℕ → Plain → Type 0
    HasVariantForm no_types index v = Beyond
    HasVariantForm (types ty tys) zero v = HasForm ty v
    HasVariantForm (types ty tys) (suc index) v = HasVariantForm tys index v

  -- the values have the forms of these types, in order
  abbrev pub AllFormed : List Ty → List Plain → Type 0
  AllFormed [] vs = vs ≡ []
  AllFormed (ty ∷ tys) vs = (v : Plain) × (rest : List Plain) × (vs ≡ v ∷ rest) × HasForm ty v × AllFormed tys rest

  -- the text is an input's whose values have the forms of these types
  abbrev pub IsFormOf : List Ty → InputView → List ℕ → Type 0
  IsFormOf tys i text = AllFormed tys i.args × (text ≡ input_text i)

-- of any length, and not longer than an input's
abbrev pub any_length : Ty → ℕ → Type 0
any_length ty n = Unit {0}

abbrev pub few_elements : Ty → ℕ → Type 0
few_elements ty n = n ≤ most_elements ty

-- the form with any numbers, any indices, and arrays of any length
abbrev pub IsAnyFormOf : List Ty → InputView → List ℕ → Type 0
IsAnyFormOf = IsFormOf any_length (Unit {0})

-- No input has the text, and some input begins with the front, but none with a longer prefix, and nothing of the form does.
pub record IsSyntax (tys : List Ty) (text front rest : List ℕ) : Type 0 where
  pub ends : Ends (IsInputOf tys) text front rest
  pub no_form : (byte : ℕ) (more : List ℕ) → rest ≡ byte ∷ more → Continues (IsAnyFormOf tys) (front ++ (byte ∷ [])) → ⊥

-- Behind the front stands a number as far as it goes. An input begins with the front, and the form goes on with the number, but no input does.
pub record IsOutOfRange (tys : List Ty) (text front : List ℕ) : Type 0 where
  pub number : ℕ
  pub there : List ℕ
  pub behind : List ℕ
  pub parts : text ≡ front ++ there
  pub is_number : StartsWithNumber there number behind
  pub begins_there : (before : List ℕ) (byte : ℕ) → front ≡ before ++ (byte ∷ []) → is_digit byte ≡ false
  pub before : Continues (IsInputOf tys) front
  pub form : Continues (IsAnyFormOf tys) (front ++ decimal_text number)
  pub no_input : Continues (IsInputOf tys) (front ++ decimal_text number) → ⊥

-- Behind the front stands `[`, with which some input goes on, and then a comma in the same array, with which the form goes on where
-- arrays have any length, but not where they are as short as an input's. Numbers are any, and each index has a variant.
pub record IsLong (tys : List Ty) (text front : List ℕ) : Type 0 where
  pub elements : List ℕ
  pub behind : List ℕ
  pub parts : text ≡ front ++ (codes "[" ++ (elements ++ (codes "," ++ behind)))
  pub same_array : AllByRecursion (λ byte. byte ≢ 91) elements
  pub before : Continues (IsInputOf tys) (front ++ codes "[")
  pub form : Continues (IsFormOf any_length ⊥ tys) (front ++ (codes "[" ++ (elements ++ codes ",")))
  pub too_long : Continues (IsFormOf few_elements ⊥ tys) (front ++ (codes "[" ++ (elements ++ codes ","))) → ⊥

-- the number at this place is out of range
abbrev pub HasNumberOutOfRange : List Ty → List ℕ → Place → Type 0
HasNumberOutOfRange tys text place = (front : List ℕ) × HasLines tys text × IsOutOfRange tys text front × (place ≡ place_behind front)

-- ---- all of it

-- Why a text is no input of main, whose parameters that are no builtins are of these types. A number out of range is told unless it
-- stands in an array that is too long, which begins before it; a byte with which no input goes on never stands before them.
abbrev pub IsInputFault : List Ty → List ℕ → InputFault → Type 0
IsInputFault tys text (faults.Syntax place) =
    (front : List ℕ) × (rest : List ℕ) × (place ≡ place_behind front) × (Ends BeginsWithGas text front rest ⊎ (HasLines tys text × IsSyntax tys text front rest))
IsInputFault tys text faults.GasRange = (gas : ℕ) × (rest : List ℕ) × HasGas gas text rest × (2 ^ 32 ≤ gas)
IsInputFault tys text (faults.LineCount expected found) =
    (gas : ℕ) × (rest : List ℕ) × HasGas gas text rest × (gas < 2 ^ 32) × (expected ≡ length tys) × (found ≡ line_count rest) × (found ≢ expected)
IsInputFault tys text (faults.OutOfRange place) = HasNumberOutOfRange tys text place × ((front : List ℕ) → IsLong tys text front → ⊥)
IsInputFault tys text (faults.LongArray place) = (front : List ℕ) × HasLines tys text × IsLong tys text front × (place ≡ place_behind front)
IsInputFault tys text faults.Memory = ⊥

-- ---- the types

-- Values of the type can be given: it is a number, a struct, an enum of one variant or more, or an array. Of a plain type it holds where
-- each enum in it has a variant, as the enums of a table have.
abbrev mutual
  pub CanBeGiven : Ty → Type 0
  CanBeGiven (number k) = Unit {0}
  CanBeGiven (array ty) = CanBeGiven ty
  CanBeGiven (struct name tys) = CanAllBeGiven tys
  CanBeGiven (enum name no_types) = ⊥
  CanBeGiven (enum name (types ty tys)) = CanBeGiven ty × CanAllBeGiven tys
  CanBeGiven (nonzero k) = ⊥
  CanBeGiven range_check = ⊥
  CanBeGiven gas_builtin = ⊥
  CanBeGiven (box ty) = ⊥
  CanBeGiven (snapshot ty) = ⊥
  CanBeGiven (dict k) = ⊥
  CanBeGiven (dict_entry k) = ⊥
  CanBeGiven (squashed_dict k) = ⊥
  CanBeGiven (uninitialized ty) = ⊥

  pub CanAllBeGiven : Tys → Type 0
  CanAllBeGiven no_types = Unit {0}
  CanAllBeGiven (types ty tys) = CanBeGiven ty × CanAllBeGiven tys

-- Each array in the type may have an element, and in its elements there is no array. It holds of a plain type in which no type has more
-- cells than an array may have.
abbrev mutual
  pub HasFlatArrays : Ty → Type 0
  HasFlatArrays (number k) = Unit {0}
  HasFlatArrays (array ty) = (holds_array ty ≡ false) × (0 < most_elements ty)
  HasFlatArrays (struct name tys) = HaveFlatArrays tys
  HasFlatArrays (enum name tys) = HaveFlatArrays tys
  HasFlatArrays (nonzero k) = Unit {0}
  HasFlatArrays range_check = Unit {0}
  HasFlatArrays gas_builtin = Unit {0}
  HasFlatArrays (box ty) = Unit {0}
  HasFlatArrays (snapshot ty) = Unit {0}
  HasFlatArrays (dict k) = Unit {0}
  HasFlatArrays (dict_entry k) = Unit {0}
  HasFlatArrays (squashed_dict k) = Unit {0}
  HasFlatArrays (uninitialized ty) = Unit {0}

  pub HaveFlatArrays : Tys → Type 0
  HaveFlatArrays no_types = Unit {0}
  HaveFlatArrays (types ty tys) = HasFlatArrays ty × HaveFlatArrays tys
