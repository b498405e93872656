-- The form of a declaration's arguments, and what kind of type it is, as the code tells them.
use Rattle.std.specs.Prelude.{ℕ, suc, ◌≡◌, List, [], ◌∷◌, Bool, true, false, length, Option, Some, None, slice_index_or}
use Rattle.std.specs.List.{list_all}
use Rattle.type_trees.specs.declared.num.Num.{Num}
use Rattle.sierra_types.specs.declared.program.Arg.{Arg}
use Rattle.sierra_types.specs.declared.program.Arg.TheVariants.{User}
use Rattle.type_table.specs.declared.generic.Generic.{Generic}
use Rattle.type_table.specs.declared.generic.Generic.TheVariants as generics
use Rattle.type_table.specs.declared.kind.TypeKind.{TypeKind}
use Rattle.type_table.specs.declared.kind.TypeKind.TheVariants as kinds
use Rattle.type_table.specs.declared.forms.Form.{Form}
use Rattle.type_table.specs.declared.forms.Form.TheVariants as forms
use Rattle.type_table.specs.declared.forms.Given.{Given}
use Rattle.type_table.specs.declared.forms.Given.TheVariants as givens
use Rattle.type_table.specs.Refusals.{named_types}
use Rattle.type_table.specs.Resolving.{type_args, written}

abbrev pub IsForm : Form → List Arg → Type 0
IsForm forms.Types args = args ≡ type_args (named_types args)
IsForm (forms.User name) args = args ≡ User name.now ∷ type_args (named_types args)
IsForm forms.Other args = (user : Option (List ℕ)) (ids : List (List ℕ)) → args ≡ written user ids → ⊥

-- a generic name that isn't in the table is no builtin's
abbrev pub is_ordinary : Option Generic → Bool
is_ordinary None = true
is_ordinary (Some generics.RangeCheck) = false
is_ordinary (Some generics.GasBuiltin) = false
is_ordinary (Some generics.Uninitialized) = false
is_ordinary (Some _) = true

abbrev pub is_initialized : Option Generic → Bool
is_initialized None = true
is_initialized (Some generics.Uninitialized) = false
is_initialized (Some _) = true

-- the generic type of the declaration at a position
abbrev pub generic_at : List (Option Generic) → ℕ → Option Generic
generic_at generics t = slice_index_or generics t None

abbrev pub all_ordinary : List (Option Generic) → List ℕ → Bool
all_ordinary generics targets = list_all (λ t. is_ordinary (generic_at generics t)) targets

abbrev pub given_members : Bool → ℕ → Given
given_members true n = givens.Members n
given_members false n = givens.Other

abbrev pub given_types : List (Option Generic) → List ℕ → Given
given_types generics [] = givens.Nothing
given_types generics (t ∷ []) = givens.One (generic_at generics t)
given_types generics (t ∷ u ∷ targets) = givens.Other

abbrev pub given_of : Form → List (Option Generic) → List ℕ → Given
given_of forms.Types generics targets = given_types generics targets
given_of (forms.User name) generics targets = given_members (all_ordinary generics targets) (length targets)
given_of forms.Other generics targets = givens.Other

abbrev pub number_given : (Num → TypeKind) → Given → Option TypeKind
number_given made (givens.One (Some (generics.Number num))) = Some (made num)
number_given made _ = None

abbrev pub if_true : Bool → TypeKind → Option TypeKind
if_true true kind = Some kind
if_true false kind = None

abbrev pub nothing_given : TypeKind → Given → Option TypeKind
nothing_given kind givens.Nothing = Some kind
nothing_given kind _ = None

abbrev pub type_given : TypeKind → Given → Option TypeKind
type_given kind (givens.One generic) = if_true (is_ordinary generic) kind
type_given kind _ = None

abbrev pub initialized_given : TypeKind → Given → Option TypeKind
initialized_given kind (givens.One generic) = if_true (is_initialized generic) kind
initialized_given kind _ = None

abbrev pub members_given : Given → Option TypeKind
members_given (givens.Members n) = Some kinds.Struct
members_given _ = None

abbrev pub variants_given : Given → Option TypeKind
variants_given (givens.Members (suc n)) = Some kinds.Enum
variants_given _ = None

abbrev pub kind_given : Generic → Given → Option TypeKind
kind_given (generics.Number num) given = nothing_given (kinds.Number num) given
kind_given generics.RangeCheck given = nothing_given kinds.RangeCheck given
kind_given generics.GasBuiltin given = nothing_given kinds.GasBuiltin given
kind_given generics.NonZero given = number_given (λ num. kinds.NonZero num) given
kind_given generics.Box given = type_given kinds.Box given
kind_given generics.Array given = type_given kinds.Array given
kind_given generics.Snapshot given = type_given kinds.Snapshot given
kind_given generics.Struct given = members_given given
kind_given generics.Enum given = variants_given given
kind_given generics.Dict given = number_given (λ num. kinds.Dict num) given
kind_given generics.DictEntry given = number_given (λ num. kinds.DictEntry num) given
kind_given generics.SquashedDict given = number_given (λ num. kinds.SquashedDict num) given
kind_given generics.Uninitialized given = initialized_given kinds.Uninitialized given
