-- Generic types, one line for each: their names, and the form of their arguments. The form is what can be asked of the
-- arguments while nothing is known of the types that they name but the generic names of these.
use Rattle.std.specs.Prelude.{ℕ, ◌≡◌, ◌≢◌, List, [], ◌∷◌, codes}
use Rattle.std.specs.List.{All}
use Rattle.type_trees.specs.Ty.{number_name}
use Rattle.type_trees.specs.declared.num.Num.{Num}
use Rattle.sierra_types.specs.declared.program.TypeDecl.{TypeDecl}
use Rattle.sierra_types.specs.declared.program.Arg.{Arg}
use Rattle.sierra_types.specs.declared.program.Arg.TheVariants.{OfType, User}
use Rattle.type_table.specs.declared.generic.Generic.{Generic}
use Rattle.type_table.specs.declared.generic.Generic.TheVariants as generics
use Rattle.type_table.specs.Naming.{Names}

abbrev pub generic_name : Generic → List ℕ
generic_name (generics.Number num) = number_name num
generic_name generics.RangeCheck = codes "RangeCheck"
generic_name generics.GasBuiltin = codes "GasBuiltin"
generic_name generics.NonZero = codes "NonZero"
generic_name generics.Box = codes "Box"
generic_name generics.Array = codes "Array"
generic_name generics.Snapshot = codes "Snapshot"
generic_name generics.Struct = codes "Struct"
generic_name generics.Enum = codes "Enum"
generic_name generics.Dict = codes "Felt64Dict"
generic_name generics.DictEntry = codes "Felt64DictEntry"
generic_name generics.SquashedDict = codes "SquashedFelt64Dict"
generic_name generics.Uninitialized = codes "Uninitialized"

-- the generic name is in the table
abbrev pub IsGeneric : List ℕ → Type 0
IsGeneric name = (g : Generic) × (name ≡ generic_name g)

-- the generic name is that of a type of numbers
abbrev pub IsNumber : List ℕ → Type 0
IsNumber name = (num : Num) × (name ≡ number_name num)

abbrev pub IsInitialized : List ℕ → Type 0
IsInitialized name = name ≢ codes "Uninitialized"

-- the generic name is none of a builtin, nor `Uninitialized`
pub record IsOrdinary (name : List ℕ) : Type 0 where
  pub no_check : name ≢ codes "RangeCheck"
  pub no_gas : name ≢ codes "GasBuiltin"
  pub initialized : IsInitialized name

module _ (ds : List TypeDecl) where
  -- the argument names a declared type, and its generic name is such a one
  pub record NamesType (Is : List ℕ → Type 0) (arg : Arg) : Type 0 where
    pub id : List ℕ
    pub position : ℕ
    pub decl : TypeDecl
    pub arg_is : arg ≡ OfType id
    pub names : Names ds id position decl
    pub generic : Is decl.generic

  -- one type, with such a generic name
  abbrev pub OneType : (List ℕ → Type 0) → List Arg → Type 0
  OneType Is args = (arg : Arg) × (args ≡ arg ∷ []) × NamesType Is arg

  -- a user's type, then types other than builtins and uninitialized ones
  abbrev pub UserThenTypes : List Arg → List Arg → Type 0
  UserThenTypes args members = (name : List ℕ) × (args ≡ User name ∷ members) × All (NamesType IsOrdinary) members

  abbrev pub FitsGeneric : Generic → List Arg → Type 0
  FitsGeneric (generics.Number num) args = args ≡ []
  FitsGeneric generics.RangeCheck args = args ≡ []
  FitsGeneric generics.GasBuiltin args = args ≡ []
  FitsGeneric generics.NonZero args = OneType IsNumber args
  FitsGeneric generics.Box args = OneType IsOrdinary args
  FitsGeneric generics.Array args = OneType IsOrdinary args
  FitsGeneric generics.Snapshot args = OneType IsOrdinary args
  FitsGeneric generics.Struct args = (members : List Arg) × UserThenTypes args members
  FitsGeneric generics.Enum args = (variant : Arg) × (more : List Arg) × UserThenTypes args (variant ∷ more)
  FitsGeneric generics.Dict args = OneType IsNumber args
  FitsGeneric generics.DictEntry args = OneType IsNumber args
  FitsGeneric generics.SquashedDict args = OneType IsNumber args
  FitsGeneric generics.Uninitialized args = OneType IsInitialized args

  -- the arguments have the form that the table asks for this generic name
  abbrev pub Fits : List ℕ → List Arg → Type 0
  Fits name args = (g : Generic) × (name ≡ generic_name g) × FitsGeneric g args
