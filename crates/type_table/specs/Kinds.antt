-- What kind of type a declaration makes, as far as names and the form of arguments tell, and as the code tells it.
use Rattle.std.specs.Prelude.{ℕ, ◌≡◌, ◌≢◌, ◌⊎◌, List, [], length, Option, Some, None, Result, Ok, Err, slice_get, slice_index_or}
use Rattle.sierra_types.specs.declared.program.TypeDecl.{TypeDecl}
use Rattle.sierra_types.specs.declared.program.Arg.{Arg}
use Rattle.type_table.specs.declared.generic.Generic.{Generic}
use Rattle.type_table.specs.declared.kind.TypeKind.{TypeKind}
use Rattle.type_table.specs.declared.forms.Form.{Form}
use Rattle.type_table.specs.declared.rules.TypeRule.{TypeRule}
use Rattle.type_table.specs.declared.rules.TypeRule.TheVariants as rules
use Rattle.type_table.specs.Refusals.{named_types}
use Rattle.type_table.specs.Forms.{IsForm, generic_at, given_of, kind_given}

-- the generic name and the types among the arguments are known, the arguments have this form, and this is made of them
pub record IsMade (generic : Option Generic) (args : List Arg) (generics : List (Option Generic)) (targets : List ℕ) (kind : Option TypeKind) : Type 0 where
  pub g : Generic
  pub form : Form
  pub generic_is : generic ≡ Some g
  pub all_known : length (named_types args) ≡ length targets
  pub form_right : IsForm form args
  pub kind_is : kind_given g (given_of form generics targets) ≡ kind

abbrev pub IsKindTold : Option Generic → List Arg → List (Option Generic) → List ℕ → Result TypeKind TypeRule → Type 0
IsKindTold generic args generics targets (Ok kind) = IsMade generic args generics targets (Some kind)
IsKindTold generic args generics targets (Err rule) =
    ((rule ≡ rules.NamesKnown) × ((generic ≡ None) ⊎ (length (named_types args) ≢ length targets)))
    ⊎ ((rule ≡ rules.ArgumentsFit) × IsMade generic args generics targets None)

-- what is told of each declaration
pub record AreKindsTold (ds : List TypeDecl) (generics : List (Option Generic)) (graph : List (List ℕ)) (kinds : List (Result TypeKind TypeRule)) : Type 0 where
  pub each : length kinds ≡ length ds
  pub right : (i : ℕ) (d : TypeDecl) (kind : Result TypeKind TypeRule) → slice_get ds i ≡ Some d → slice_get kinds i ≡ Some kind
      → IsKindTold (generic_at generics i) d.args generics (slice_index_or graph i []) kind
