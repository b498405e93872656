-- Inputs of the form that is built, as inputs of programs. Only contracts inside this crate cite it.
use Rattle.std.specs.Prelude.{◌≡◌, ◌<◌, ◌^◌, Bool, true, false, List, [], ◌∷◌}
use Rattle.felt64.specs.Field.{modulus}
use Rattle.first_form.specs.declared.input.Input.{Input}
use Rattle.type_table.specs.Trees.{kind_of}
use Rattle.type_table.specs.declared.kind.TypeKind.{TypeKind}
use Rattle.type_table.specs.declared.kind.TypeKind.TheVariants as kinds
use Rattle.type_trees.specs.Ty.{Ty}
use Rattle.type_trees.specs.declared.num.Num.TheVariants as nums
use Rattle.typed_values.specs.Inputs.{InputView}
use Rattle.value_trees.specs.Val as val

-- the input has one argument, this number of the field
abbrev pub with_number : Input → InputView
with_number input = record { gas = input.gas; args = val.number nums.Felt64 input.argument ∷ [] }

-- the input has one argument, a number of the field
pub record HasOneNumber (input : InputView) : Type 0 where
  pub number : Input
  pub gas_below : number.gas < 2 ^ 32
  pub argument_below : number.argument < modulus
  pub is : input ≡ with_number number

-- the kind of the numbers of the field
abbrev pub is_felt_kind : TypeKind → Bool
is_felt_kind (kinds.Number nums.Felt64) = true
is_felt_kind _ = false

-- one type, that of these numbers
abbrev pub is_one_felt : List Ty → Bool
is_one_felt (ty ∷ []) = is_felt_kind (kind_of ty)
is_one_felt _ = false
