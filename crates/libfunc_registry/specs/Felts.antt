-- Felts and constants.
use Rattle.std.specs.Prelude.{ℕ, List, [], ◌∷◌, codes}
use Rattle.type_trees.specs.Ty.{Ty, number, nonzero}
use Rattle.type_trees.specs.declared.num.Num.{Num}
use Rattle.type_trees.specs.declared.num.Num.TheVariants as nums
use Rattle.libfunc_registry.specs.declared.libfunc.Libfunc.TheVariants as libfuncs
use Rattle.libfunc_registry.specs.Arguments.{Form, nothing, a_number_type, a_constant}

-- the generic libfuncs, with what they take as arguments
unfoldable pub felts_rows : List (List ℕ × Form)
felts_rows =
    (codes "felt64_const", a_constant nums.Felt64 (libfuncs.Const nums.Felt64))
    ∷ (codes "u8_const", a_constant nums.U8 (libfuncs.Const nums.U8))
    ∷ (codes "u16_const", a_constant nums.U16 (libfuncs.Const nums.U16))
    ∷ (codes "u32_const", a_constant nums.U32 (libfuncs.Const nums.U32))
    ∷ (codes "felt64_add", nothing libfuncs.FeltAdd)
    ∷ (codes "felt64_sub", nothing libfuncs.FeltSub)
    ∷ (codes "felt64_mul", nothing libfuncs.FeltMul)
    ∷ (codes "felt64_is_zero", nothing (libfuncs.IsZero nums.Felt64))
    ∷ (codes "u8_is_zero", nothing (libfuncs.IsZero nums.U8))
    ∷ (codes "u16_is_zero", nothing (libfuncs.IsZero nums.U16))
    ∷ (codes "u32_is_zero", nothing (libfuncs.IsZero nums.U32))
    ∷ (codes "unwrap_non_zero", a_number_type libfuncs.UnwrapNonZero)
    ∷ []

-- the families; of a constant its word
pub data FeltsFam : Type 0 where
  const : Num → ℕ → FeltsFam
  felt64_add : FeltsFam
  felt64_sub : FeltsFam
  felt64_mul : FeltsFam
  is_zero : Num → FeltsFam
  unwrap_non_zero : Num → FeltsFam

abbrev pub felt : Ty
felt = number nums.Felt64

-- the types of the arguments
abbrev pub felts_takes : FeltsFam → List Ty
felts_takes (const num word) = []
felts_takes felt64_add = felt ∷ felt ∷ []
felts_takes felt64_sub = felt ∷ felt ∷ []
felts_takes felt64_mul = felt ∷ felt ∷ []
felts_takes (is_zero num) = number num ∷ []
felts_takes (unwrap_non_zero num) = nonzero num ∷ []

-- the types of the results of each branch
abbrev pub felts_gives : FeltsFam → List (List Ty)
felts_gives (const num word) = (number num ∷ []) ∷ []
felts_gives felt64_add = (felt ∷ []) ∷ []
felts_gives felt64_sub = (felt ∷ []) ∷ []
felts_gives felt64_mul = (felt ∷ []) ∷ []
felts_gives (is_zero num) = [] ∷ (nonzero num ∷ []) ∷ []
felts_gives (unwrap_non_zero num) = (number num ∷ []) ∷ []
