-- Arrays.
use Rattle.std.specs.Prelude.{ℕ, List, [], ◌∷◌, codes}
use Rattle.type_trees.specs.Ty.{Ty, number, range_check, box, array, snapshot, snap}
use Rattle.type_trees.specs.declared.num.Num.TheVariants as nums
use Rattle.libfunc_registry.specs.declared.libfunc.Libfunc.TheVariants as libfuncs
use Rattle.libfunc_registry.specs.Arguments.{Form, a_type}

-- the generic libfuncs, with what they take as arguments
unfoldable pub arrays_rows : List (List ℕ × Form)
arrays_rows =
    (codes "array_new", a_type libfuncs.ArrayNew)
    ∷ (codes "array_append", a_type libfuncs.ArrayAppend)
    ∷ (codes "array_len", a_type libfuncs.ArrayLen)
    ∷ (codes "array_get", a_type libfuncs.ArrayGet)
    ∷ (codes "array_pop_front", a_type libfuncs.ArrayPopFront)
    ∷ []

-- the families, each by the type of the elements
pub data ArraysFam : Type 0 where
  array_new : Ty → ArraysFam
  array_append : Ty → ArraysFam
  array_len : Ty → ArraysFam
  array_get : Ty → ArraysFam
  array_pop_front : Ty → ArraysFam

abbrev pub u32 : Ty
u32 = number nums.U32

-- the types of the arguments
abbrev pub arrays_takes : ArraysFam → List Ty
arrays_takes (array_new ty) = []
arrays_takes (array_append ty) = array ty ∷ ty ∷ []
arrays_takes (array_len ty) = snapshot (array ty) ∷ []
arrays_takes (array_get ty) = range_check ∷ snapshot (array ty) ∷ u32 ∷ []
arrays_takes (array_pop_front ty) = array ty ∷ []

-- the types of the results of each branch
abbrev pub arrays_gives : ArraysFam → List (List Ty)
arrays_gives (array_new ty) = (array ty ∷ []) ∷ []
arrays_gives (array_append ty) = (array ty ∷ []) ∷ []
arrays_gives (array_len ty) = (u32 ∷ []) ∷ []
arrays_gives (array_get ty) = (range_check ∷ box (snap ty) ∷ []) ∷ (range_check ∷ []) ∷ []
arrays_gives (array_pop_front ty) = (array ty ∷ box ty ∷ []) ∷ (array ty ∷ []) ∷ []
