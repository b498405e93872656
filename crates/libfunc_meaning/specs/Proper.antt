-- What is known of a family that is declared, and of its arguments besides their types.
use Rattle.std.specs.Prelude.{ℕ, ◌≡◌, ◌≢◌, ◌<◌, ◌≤◌, ◌^◌, List, [], ◌∷◌, length}
use Rattle.type_trees.specs.Ty.{Ty, Tys, struct, enum}
use Rattle.type_table.specs.Trees.{listed}
use Rattle.libfunc_registry.specs.declared.width.Width.TheVariants as widths
use Rattle.libfunc_registry.specs.Arguments.{bits}
use Rattle.libfunc_registry.specs.Fam.{Fam, gas, felts, integers, data_, arrays}
use Rattle.libfunc_registry.specs.Gas.{function_call}
use Rattle.libfunc_registry.specs.Felts.{FeltsFam, const}
use Rattle.libfunc_registry.specs.Integers.{IntegersFam, wide_mul, upcast}
use Rattle.libfunc_registry.specs.Data.{DataFam, enum_init, enum_match, enum_snapshot_match, struct_construct, struct_deconstruct, struct_snapshot_deconstruct}
use Rattle.libfunc_registry.specs.Arrays.{ArraysFam, array_len}
use Rattle.value_trees.specs.Of.{bound}
use Rattle.value_trees.specs.Val.{Val, vals_of}
use Rattle.value_trees.specs.Val as val

abbrev pub IsEnum : Ty → Type 0
IsEnum ty = (name : List ℕ) × (variants : Tys) × (ty ≡ enum name variants)

abbrev pub IsStruct : Ty → Type 0
IsStruct ty = (name : List ℕ) × (members : Tys) × (ty ≡ struct name members)

-- the word of a constant is a number of its type
abbrev pub IsProperFelts : FeltsFam → Type 0
IsProperFelts (const num word) = word < bound num
IsProperFelts _ = Unit {0}

-- no wide product is of two u32, and no type is cast up to a narrower one
abbrev pub IsProperIntegers : IntegersFam → Type 0
IsProperIntegers (wide_mul w) = w ≢ widths.W32
IsProperIntegers (upcast a b) = bits a ≤ bits b
IsProperIntegers _ = Unit {0}

-- the type is an enum, which has a variant of this index, or a struct
abbrev pub IsProperData : DataFam → Type 0
IsProperData (enum_init ty index) = (name : List ℕ) × (variants : Tys) × (ty ≡ enum name variants) × (index < length (listed variants))
IsProperData (enum_match ty) = IsEnum ty
IsProperData (enum_snapshot_match ty) = IsEnum ty
IsProperData (struct_construct ty) = IsStruct ty
IsProperData (struct_deconstruct ty) = IsStruct ty
IsProperData (struct_snapshot_deconstruct ty) = IsStruct ty
IsProperData _ = Unit {0}

abbrev pub IsProper : Fam → Type 0
IsProper (felts fam) = IsProperFelts fam
IsProper (integers fam) = IsProperIntegers fam
IsProper (data_ fam) = IsProperData fam
IsProper _ = Unit {0}

-- the family is no call
abbrev pub IsNoCall : Fam → Type 0
IsNoCall (gas (function_call f params results)) = ⊥
IsNoCall _ = Unit {0}

module _ {D E : Type 0} where
  -- an array whose length is told is shorter than 2 ^ 32
  abbrev pub IsCountedArrays : ArraysFam → List (Val D E) → Type 0
  IsCountedArrays (array_len ty) vs = (us : List (Val D E)) → vs ≡ val.array (vals_of us) ∷ [] → length us < 2 ^ 32
  IsCountedArrays _ vs = Unit {0}

  abbrev pub IsCounted : Fam → List (Val D E) → Type 0
  IsCounted (arrays fam) vs = IsCountedArrays fam vs
  IsCounted _ vs = Unit {0}

-- what a family asks of its arguments besides their types
pub record IsAsked {D E : Type 0} (fam : Fam) (vs : List (Val D E)) : Type 0 where
  pub proper : IsProper fam
  pub no_call : IsNoCall fam
  pub counted : IsCounted fam vs
