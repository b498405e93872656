-- How values stand in the cells of runs: plain values, and values whose dictionaries are logs.
use Rattle.std.specs.Prelude.{◌≡◌, ℕ, ◌≤◌, ◌^◌, Option, Some, List}
use Rattle.ro_machine.specs.Readings.{Readings}
use Rattle.type_trees.specs.Ty.{Ty, Tys, number, nonzero, range_check, gas_builtin, box, array, snapshot, struct, enum, dict, dict_entry, squashed_dict, uninitialized, no_types, types, size}
use Rattle.value_trees.specs.Val.{Plain}
use Rattle.value_trees.specs.Logs.{Logged}
use Rattle.cell_forms.specs.Stands.{Stands, StandAll}
use Rattle.cell_forms.specs.LogStands.{LogStands, OpenLogStands}

-- what is asked of the padding of enums: nothing, as of any run; that it is listed, as of an honest one; that it is 0, as of
-- main's arguments
pub data Padding : Type 0 where
  any : Padding
  listed : Padding
  zeros : Padding

abbrev pub Asked : Padding → Option ℕ → Type 0
Asked any o = Unit {0}
Asked listed o = (n : ℕ) × (o ≡ Some n)
Asked zeros o = o ≡ Some 0

module _ (padding : Padding) (m : ℕ → Option ℕ) where
  -- a plain value in which no dictionary is
  abbrev pub PlainStands : Ty → Readings → Plain → Type 0
  PlainStands ty cells v = Stands (Asked padding) (λ k cells d. ⊥) (λ k cells e. ⊥) m ty cells v

  abbrev pub AllPlainStand : List Ty → Readings → List Plain → Type 0
  AllPlainStand tys cells vs = StandAll (Asked padding) (λ k cells d. ⊥) (λ k cells e. ⊥) m tys cells vs

  -- a value whose dictionaries are the logs of their accesses
  abbrev pub LoggedStands : Ty → Readings → Logged → Type 0
  LoggedStands ty cells v = Stands (Asked padding) (LogStands m) (OpenLogStands m) m ty cells v

  abbrev pub AllLoggedStand : List Ty → Readings → List Logged → Type 0
  AllLoggedStand tys cells vs = StandAll (Asked padding) (LogStands m) (OpenLogStands m) m tys cells vs

-- the elements of each array, at any depth, take at least one cell and at most as many as a type may, so that an array's end
-- says how many they are
abbrev mutual
  pub HasCountedArrays : Ty → Type 0
  HasCountedArrays (number k) = Unit {0}
  HasCountedArrays (nonzero k) = Unit {0}
  HasCountedArrays range_check = Unit {0}
  HasCountedArrays gas_builtin = Unit {0}
  HasCountedArrays (box ty) = HasCountedArrays ty
  HasCountedArrays (array ty) = (1 ≤ size ty) × (size ty ≤ 2 ^ 14) × HasCountedArrays ty
  HasCountedArrays (snapshot ty) = HasCountedArrays ty
  HasCountedArrays (struct name tys) = HaveCountedArrays tys
  HasCountedArrays (enum name tys) = HaveCountedArrays tys
  HasCountedArrays (dict k) = Unit {0}
  HasCountedArrays (dict_entry k) = Unit {0}
  HasCountedArrays (squashed_dict k) = Unit {0}
  HasCountedArrays (uninitialized ty) = HasCountedArrays ty

  pub HaveCountedArrays : Tys → Type 0
  HaveCountedArrays no_types = Unit {0}
  HaveCountedArrays (types ty tys) = HasCountedArrays ty × HaveCountedArrays tys
