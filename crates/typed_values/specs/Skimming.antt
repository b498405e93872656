-- Taking the form of a value alone: a number may be any. So it is found that an array is too long also where a number in it is out of
-- range.
use Rattle.std.specs.Prelude.{ℕ, zero, suc, Bool, true, false, List, [], ◌∷◌, Option, Some, None, Result, Ok, Err}
use Rattle.type_trees.specs.Ty.{Ty, Tys, number, nonzero, range_check, gas_builtin, box, array, snapshot, struct, enum, dict, dict_entry, squashed_dict, uninitialized, no_types, types}
use Rattle.text_reading.specs.Reading.{Answer, Answer.answers, Reader, done, go_on, ◌>>=◌, branch}
use Rattle.typed_values.specs.Marks.{ValueReader, byte_at, leading, number_at, separator_at, space_at, goes_on_at, none_at, count}
use Rattle.typed_values.specs.declared.fault.ValueLimit.{ValueLimit}
use Rattle.typed_values.specs.declared.fault.ValueLimit.TheVariants as limits

abbrev pub taken : Option (ℕ × List ℕ) → List ℕ → Answer ValueLimit (Unit {0})
taken None bytes = answers (Err None) bytes
taken (Some (n, rest)) bytes = answers (Ok tt) rest

-- a number, however great
unfoldable pub any_number_at : ValueReader (Unit {0})
any_number_at bytes = taken (leading bytes) bytes

-- behind an element: the others, if the array goes on
abbrev pub skim_behind : ValueReader (Unit {0}) → Bool → ValueReader (Unit {0})
skim_behind others true = others
skim_behind others false = done tt

module _ (item : ValueReader (Unit {0})) where
  -- an element, and whether the array goes on behind it
  unfoldable pub skim_element : Bool → ValueReader Bool
  skim_element is_first = space_at is_first >>= λ _. item >>= λ _. goes_on_at

  -- the elements of an array that begins at `start`, of which so many more may come, up to its end
  unfoldable pub skim_elements : List ℕ → ℕ → Bool → ValueReader (Unit {0})
  skim_elements start zero is_first bytes = answers (Err (Some limits.LongArray)) start
  skim_elements start (suc room) is_first bytes = (skim_element is_first >>= skim_behind (skim_elements start room false)) bytes

-- an array of so many elements at most
unfoldable pub skim_array : ValueReader (Unit {0}) → ℕ → ValueReader (Unit {0})
skim_array item most bytes = (byte_at 91 >>= λ _. branch 93 (byte_at 93) (skim_elements item bytes most true)) bytes

-- a member, with what stands before it
unfoldable pub skim_member : Bool → ValueReader (Unit {0}) → ValueReader (Unit {0})
skim_member is_first value = separator_at is_first >>= λ _. value

module _ (most : Ty → ℕ) where
  unfoldable mutual
    -- the form of a value of the type
    pub skim_at : Ty → ValueReader (Unit {0})
    skim_at (number k) = any_number_at
    skim_at (array ty) = skim_array (skim_at ty) (most ty)
    skim_at (struct name tys) = byte_at 40 >>= λ _. skim_members true tys >>= λ _. byte_at 41
    skim_at (enum name tys) = number_at (count tys) >>= λ index. byte_at 58 >>= λ _. skim_variant tys index
    skim_at (nonzero k) = none_at
    skim_at range_check = none_at
    skim_at gas_builtin = none_at
    skim_at (box ty) = none_at
    skim_at (snapshot ty) = none_at
    skim_at (dict k) = none_at
    skim_at (dict_entry k) = none_at
    skim_at (squashed_dict k) = none_at
    skim_at (uninitialized ty) = none_at

    -- of the members of a struct
    pub skim_members : Bool → Tys → ValueReader (Unit {0})
    skim_members is_first no_types = done tt
    skim_members is_first (types ty tys) = skim_member is_first (skim_at ty) >>= λ _. skim_members false tys

    -- of the payload of the variant with this index
    pub skim_variant : Tys → ℕ → ValueReader (Unit {0})
    skim_variant no_types index = none_at
    skim_variant (types ty tys) zero = skim_at ty
    skim_variant (types ty tys) (suc index) = skim_variant tys index
