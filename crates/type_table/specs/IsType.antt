-- What a declared type is. That an id is a type says that neither its declaration nor one that it reaches is refused.
use Rattle.std.specs.Prelude.{ℕ, ◌≡◌, ◌<◌, ◌≤◌, ◌^◌, ◌⊎◌, List, [], ◌∷◌, codes, length, Option, Some, None, slice_get}
use Rattle.type_trees.specs.Ty.{Ty, Tys, number, nonzero, range_check, gas_builtin, box, array, snapshot, struct, enum, dict, dict_entry, squashed_dict, uninitialized, no_types, types, size, depth, number_name}
use Rattle.type_trees.specs.declared.num.Num.{Num}
use Rattle.sierra_types.specs.declared.program.TypeDecl.{TypeDecl}
use Rattle.sierra_types.specs.declared.program.Info.{Info}
use Rattle.sierra_types.specs.declared.program.Arg.{Arg}
use Rattle.sierra_types.specs.declared.program.Arg.TheVariants.{OfType, User}
use Rattle.type_table.specs.Naming.{Names}
use Rattle.type_table.specs.Generics.{Fits}
use Rattle.type_table.specs.Trees.{IsAllowed, info_of}

-- a type has at most so many cells
abbrev pub most_cells : ℕ
most_cells = 2 ^ 14

-- a declaration has at most so many arguments
abbrev pub most_arguments : ℕ
most_arguments = 2 ^ 24

-- a type's depth is at most this
abbrev pub most_depth : ℕ
most_depth = 2 ^ 8

-- the written info, where there is one, is what holds of the type
abbrev pub InfoFits : Option Info → Ty → Type 0
InfoFits None ty = Unit {0}
InfoFits (Some info) ty =
    info ≡ record { storable = (info_of ty).storable; drop = (info_of ty).drop; dup = (info_of ty).dup; zero_sized = (info_of ty).zero_sized }

-- the type and its declaration are within the limits
pub record IsWithin (d : TypeDecl) (ty : Ty) : Type 0 where
  pub few_cells : size ty ≤ most_cells
  pub few_arguments : length d.args ≤ most_arguments
  pub shallow : depth ty ≤ most_depth

-- the same id, or the same generic name with the same arguments as written
abbrev pub IsSame : TypeDecl → TypeDecl → Type 0
IsSame d e = (d.id ≡ e.id) ⊎ ((d.generic ≡ e.generic) × (d.args ≡ e.args))

module _ (ds : List TypeDecl) where
  -- a declaration before position i is the same
  abbrev pub IsRepeated : ℕ → TypeDecl → Type 0
  IsRepeated i d = (j : ℕ) × (e : TypeDecl) × (j < i) × (slice_get ds j ≡ Some e) × IsSame e d

  -- declaration d, which is at position i and whose arguments make this type, isn't refused
  pub record Passes (i : ℕ) (d : TypeDecl) (ty : Ty) : Type 0 where
    pub fits : Fits ds d.generic d.args
    pub allowed : IsAllowed ty
    pub info : InfoFits d.info ty
    pub within : IsWithin d ty
    pub fresh : IsRepeated i d → ⊥

  -- the id is that of a declaration whose arguments make this type, as Has says, and which isn't refused
  abbrev pub IsTypeBy : (TypeDecl → Type 0) → Ty → List ℕ → Type 0
  IsTypeBy Has ty id = (i : ℕ) × (d : TypeDecl) × Names ds id i d × Has d × Passes i d ty

  abbrev pub HasNumber : Num → TypeDecl → Type 0
  HasNumber num d = (d.generic ≡ number_name num) × (d.args ≡ [])

  -- the one argument is a type, as Is says
  abbrev pub OneArgument : (List ℕ → Type 0) → List Arg → Type 0
  OneArgument Is args = (id : List ℕ) × (args ≡ OfType id ∷ []) × Is id

  abbrev mutual
    -- the generic name and the arguments make this type, and the arguments aren't refused
    pub HasArgs : Ty → TypeDecl → Type 0
    HasArgs (number num) d = HasNumber num d
    HasArgs range_check d = (d.generic ≡ codes "RangeCheck") × (d.args ≡ [])
    HasArgs gas_builtin d = (d.generic ≡ codes "GasBuiltin") × (d.args ≡ [])
    HasArgs (nonzero num) d = (d.generic ≡ codes "NonZero") × OneArgument (IsTypeBy (HasNumber num) (number num)) d.args
    HasArgs (box ty) d = (d.generic ≡ codes "Box") × OneArgument (IsTypeBy (HasArgs ty) ty) d.args
    HasArgs (array ty) d = (d.generic ≡ codes "Array") × OneArgument (IsTypeBy (HasArgs ty) ty) d.args
    HasArgs (snapshot ty) d = (d.generic ≡ codes "Snapshot") × OneArgument (IsTypeBy (HasArgs ty) ty) d.args
    HasArgs (struct name tys) d = (d.generic ≡ codes "Struct") × (members : List Arg) × (d.args ≡ User name ∷ members) × AreTypes tys members
    HasArgs (enum name tys) d = (d.generic ≡ codes "Enum") × (variants : List Arg) × (d.args ≡ User name ∷ variants) × AreTypes tys variants
    HasArgs (dict num) d = (d.generic ≡ codes "Felt64Dict") × OneArgument (IsTypeBy (HasNumber num) (number num)) d.args
    HasArgs (dict_entry num) d = (d.generic ≡ codes "Felt64DictEntry") × OneArgument (IsTypeBy (HasNumber num) (number num)) d.args
    HasArgs (squashed_dict num) d = (d.generic ≡ codes "SquashedFelt64Dict") × OneArgument (IsTypeBy (HasNumber num) (number num)) d.args
    HasArgs (uninitialized ty) d = (d.generic ≡ codes "Uninitialized") × OneArgument (IsTypeBy (HasArgs ty) ty) d.args

    -- the arguments are these types, in order
    pub AreTypes : Tys → List Arg → Type 0
    AreTypes no_types args = args ≡ []
    AreTypes (types ty tys) args = (id : List ℕ) × (more : List Arg) × (args ≡ OfType id ∷ more) × IsTypeBy (HasArgs ty) ty id × AreTypes tys more

  -- the id is that of a declared type which is this one, and neither it nor a type that it reaches is refused
  abbrev pub IsType : Ty → List ℕ → Type 0
  IsType ty id = IsTypeBy (HasArgs ty) ty id
