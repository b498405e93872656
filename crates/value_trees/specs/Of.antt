-- Which values are of a type: by recursion on the type, one line for each generic type.
use Rattle.std.specs.Prelude.{◌≡◌, ◌≢◌, ℕ, zero, suc, ◌<◌, ◌^◌, List, [], ◌∷◌}
use Rattle.std.specs.List.{AllByRecursion}
use Rattle.std.specs.FinMap.{entries}
use Rattle.felt64.specs.Field.{modulus}
use Rattle.type_trees.specs.Ty.{Ty, Tys, number, nonzero, range_check, gas_builtin, box, array, snapshot, struct, enum, dict, dict_entry, squashed_dict, uninitialized, no_types, types}
use Rattle.type_trees.specs.declared.num.Num.{Num}
use Rattle.type_trees.specs.declared.num.Num.TheVariants as nums
use Rattle.value_trees.specs.Val.{Val, Plain, WordMap, OpenMap, vals_of}
use Rattle.value_trees.specs.Val as val

-- the numbers of a type are those below this one
abbrev pub bound : Num → ℕ
bound nums.Felt64 = modulus
bound nums.U8 = 2 ^ 8
bound nums.U16 = 2 ^ 16
bound nums.U32 = 2 ^ 32

-- the keys are felts, and the words are numbers of this type
abbrev pub AreWords : Num → WordMap → Type 0
AreWords k m = AllByRecursion (λ e. (e.0 < modulus) × (e.1 < bound k)) (entries m)

module _ {D E : Type 0} (OfDict : Num → D → Type 0) (OfEntry : Num → E → Type 0) where
  abbrev mutual
    pub IsOf : Ty → Val D E → Type 0
    IsOf (number k) v = (n : ℕ) × (v ≡ val.number k n) × (n < bound k)
    IsOf (nonzero k) v = (n : ℕ) × (v ≡ val.number k n) × (n < bound k) × (n ≢ 0)
    IsOf range_check v = v ≡ val.check
    IsOf gas_builtin v = (n : ℕ) × (v ≡ val.gas n) × (n < 2 ^ 32)
    IsOf (box ty) v = (inner : Val D E) × (v ≡ val.boxed inner) × IsOf ty inner
    IsOf (array ty) v = (vs : List (Val D E)) × (v ≡ val.array (vals_of vs)) × AllByRecursion (IsOf ty) vs
    IsOf (snapshot ty) v = IsOf ty v
    IsOf (struct name tys) v = (vs : List (Val D E)) × (v ≡ val.struct (vals_of vs)) × AreOf tys vs
    IsOf (enum name tys) v = (index : ℕ) × (payload : Val D E) × (v ≡ val.enum index payload) × IsOfVariant tys index payload
    IsOf (dict k) v = (d : D) × (v ≡ val.dict d) × OfDict k d
    IsOf (dict_entry k) v = (e : E) × (v ≡ val.dict_entry e) × OfEntry k e
    IsOf (squashed_dict k) v = (m : WordMap) × (v ≡ val.squashed_dict m) × AreWords k m
    IsOf (uninitialized ty) v = v ≡ val.empty

    -- the values are of these types, in order
    pub AreOf : Tys → List (Val D E) → Type 0
    AreOf no_types vs = vs ≡ []
    AreOf (types ty tys) vs = (v : Val D E) × (rest : List (Val D E)) × (vs ≡ v ∷ rest) × IsOf ty v × AreOf tys rest

    -- there is a variant with this index, and the payload is of it
    pub IsOfVariant : Tys → ℕ → Val D E → Type 0
    IsOfVariant no_types index v = ⊥
    IsOfVariant (types ty tys) zero v = IsOf ty v
    IsOfVariant (types ty tys) (suc index) v = IsOfVariant tys index v

  -- the values are of these types, in order
  abbrev pub AllOf : List Ty → List (Val D E) → Type 0
  AllOf [] vs = vs ≡ []
  AllOf (ty ∷ tys) vs = (v : Val D E) × (rest : List (Val D E)) × (vs ≡ v ∷ rest) × IsOf ty v × AllOf tys rest

abbrev pub IsOpenMap : Num → OpenMap → Type 0
IsOpenMap k e = AreWords k e.map × (e.key < modulus)

-- a value of a type, as a program's meaning speaks of it
abbrev pub IsPlain : Ty → Plain → Type 0
IsPlain ty v = IsOf AreWords IsOpenMap ty v
