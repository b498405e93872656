-- Integers of 8, 16 and 32 bits.
use Rattle.std.specs.Prelude.{ℕ, List, [], ◌∷◌, ◌++◌, codes, Bool, nat_lt, nat_le}
use Rattle.type_trees.specs.Ty.{Ty, number, nonzero, range_check}
use Rattle.type_trees.specs.declared.num.Num.{Num}
use Rattle.type_trees.specs.declared.num.Num.TheVariants as nums
use Rattle.libfunc_registry.specs.declared.width.Width.{Width}
use Rattle.libfunc_registry.specs.declared.width.Width.TheVariants as widths
use Rattle.libfunc_registry.specs.declared.libfunc.Libfunc.TheVariants as libfuncs
use Rattle.libfunc_registry.specs.Arguments.{Form, nothing, two_widths, bits, num_of}

-- the generic libfuncs of 8, 16 and 32 bits, with what they take as arguments
unfoldable pub u8_rows : List (List ℕ × Form)
u8_rows =
    (codes "u8_to_felt64", nothing (libfuncs.ToFelt widths.W8))
    ∷ (codes "u8_try_from_felt64", nothing (libfuncs.TryFromFelt widths.W8))
    ∷ (codes "u8_overflowing_add", nothing (libfuncs.OverflowingAdd widths.W8))
    ∷ (codes "u8_overflowing_sub", nothing (libfuncs.OverflowingSub widths.W8))
    ∷ (codes "u8_wide_mul", nothing (libfuncs.WideMul widths.W8))
    ∷ (codes "u8_safe_divmod", nothing (libfuncs.SafeDivmod widths.W8))
    ∷ (codes "u8_eq", nothing (libfuncs.WidthEq widths.W8))
    ∷ []

unfoldable pub u16_rows : List (List ℕ × Form)
u16_rows =
    (codes "u16_to_felt64", nothing (libfuncs.ToFelt widths.W16))
    ∷ (codes "u16_try_from_felt64", nothing (libfuncs.TryFromFelt widths.W16))
    ∷ (codes "u16_overflowing_add", nothing (libfuncs.OverflowingAdd widths.W16))
    ∷ (codes "u16_overflowing_sub", nothing (libfuncs.OverflowingSub widths.W16))
    ∷ (codes "u16_wide_mul", nothing (libfuncs.WideMul widths.W16))
    ∷ (codes "u16_safe_divmod", nothing (libfuncs.SafeDivmod widths.W16))
    ∷ (codes "u16_eq", nothing (libfuncs.WidthEq widths.W16))
    ∷ []

unfoldable pub u32_rows : List (List ℕ × Form)
u32_rows =
    (codes "u32_to_felt64", nothing (libfuncs.ToFelt widths.W32))
    ∷ (codes "u32_try_from_felt64", nothing (libfuncs.TryFromFelt widths.W32))
    ∷ (codes "u32_overflowing_add", nothing (libfuncs.OverflowingAdd widths.W32))
    ∷ (codes "u32_overflowing_sub", nothing (libfuncs.OverflowingSub widths.W32))
    ∷ (codes "u32_split_mul", nothing libfuncs.SplitMul)
    ∷ (codes "u32_safe_divmod", nothing (libfuncs.SafeDivmod widths.W32))
    ∷ (codes "u32_eq", nothing (libfuncs.WidthEq widths.W32))
    ∷ []

abbrev pub is_at_most : Width → Width → Bool
is_at_most a b = nat_le (bits a) (bits b)

abbrev pub is_above : Width → Width → Bool
is_above a b = nat_lt (bits b) (bits a)

-- from one width to another that is at least as wide, or to one that is narrower
unfoldable pub cast_rows : List (List ℕ × Form)
cast_rows =
    (codes "upcast", two_widths is_at_most libfuncs.Upcast)
    ∷ (codes "downcast", two_widths is_above libfuncs.Downcast)
    ∷ []

abbrev pub integers_rows : List (List ℕ × Form)
integers_rows = u8_rows ++ (u16_rows ++ (u32_rows ++ cast_rows))

-- the families
pub data IntegersFam : Type 0 where
  to_felt64 : Width → IntegersFam
  try_from_felt64 : Width → IntegersFam
  overflowing_add : Width → IntegersFam
  overflowing_sub : Width → IntegersFam
  wide_mul : Width → IntegersFam
  split_mul : IntegersFam
  safe_divmod : Width → IntegersFam
  eq : Width → IntegersFam
  upcast : Width → Width → IntegersFam
  downcast : Width → Width → IntegersFam

abbrev pub int : Width → Ty
int w = number (num_of w)

abbrev pub felt : Ty
felt = number nums.Felt64

-- the type of a product of two integers: no wide product is of two u32
abbrev pub num_of_double : Width → Num
num_of_double widths.W8 = nums.U16
num_of_double widths.W16 = nums.U32
num_of_double widths.W32 = nums.U32

-- the types of the arguments
abbrev pub integers_takes : IntegersFam → List Ty
integers_takes (to_felt64 w) = int w ∷ []
integers_takes (try_from_felt64 w) = range_check ∷ felt ∷ []
integers_takes (overflowing_add w) = range_check ∷ int w ∷ int w ∷ []
integers_takes (overflowing_sub w) = range_check ∷ int w ∷ int w ∷ []
integers_takes (wide_mul w) = int w ∷ int w ∷ []
integers_takes split_mul = range_check ∷ int widths.W32 ∷ int widths.W32 ∷ []
integers_takes (safe_divmod w) = range_check ∷ int w ∷ nonzero (num_of w) ∷ []
integers_takes (eq w) = int w ∷ int w ∷ []
integers_takes (upcast a b) = int a ∷ []
integers_takes (downcast a b) = range_check ∷ int a ∷ []

-- the types of the results of each branch
abbrev pub integers_gives : IntegersFam → List (List Ty)
integers_gives (to_felt64 w) = (felt ∷ []) ∷ []
integers_gives (try_from_felt64 w) = (range_check ∷ int w ∷ []) ∷ (range_check ∷ []) ∷ []
integers_gives (overflowing_add w) = (range_check ∷ int w ∷ []) ∷ (range_check ∷ int w ∷ []) ∷ []
integers_gives (overflowing_sub w) = (range_check ∷ int w ∷ []) ∷ (range_check ∷ int w ∷ []) ∷ []
integers_gives (wide_mul w) = (number (num_of_double w) ∷ []) ∷ []
integers_gives split_mul = (range_check ∷ int widths.W32 ∷ int widths.W32 ∷ []) ∷ []
integers_gives (safe_divmod w) = (range_check ∷ int w ∷ int w ∷ []) ∷ []
integers_gives (eq w) = [] ∷ [] ∷ []
integers_gives (upcast a b) = (int b ∷ []) ∷ []
integers_gives (downcast a b) = (range_check ∷ int b ∷ []) ∷ (range_check ∷ []) ∷ []
