-- A program's functions where its types pass: their signatures, or the first refusal among libfuncs and functions.
use Rattle.std.specs.Prelude.{ℕ, ◌≡◌, ◌<◌, List, map, length, Some, slice_get}
use Rattle.type_trees.specs.Ty.{Ty, storable}
use Rattle.sierra_types.specs.declared.program.Program.{Program}
use Rattle.sierra_types.specs.declared.program.LibfuncDecl.{LibfuncDecl}
use Rattle.sierra_types.specs.declared.program.Function.{Function}
use Rattle.type_table.specs.declared.fault.TypeFault.{TypeFault}
use Rattle.type_table.specs.declared.fault.TypeFault.TheVariants as faults
use Rattle.type_table.specs.declared.row.Row.{Row}
use Rattle.type_table.specs.declared.row.Signature.{Signature}
use Rattle.type_table.specs.declared.type_id.TypeId.{TypeId}
use Rattle.type_table.specs.Naming.{place_of, ids_of}
use Rattle.type_table.specs.Trees.{kind_of}
use Rattle.type_table.specs.IsType.{IsType}
use Rattle.type_table.specs.Lookups.{found, names_in}
use Rattle.type_table.specs.Kept.{AreNumbered}
use Rattle.type_table.specs.Refusals.{Spot, in_type, in_libfunc, in_function, Breaks, ComesBefore, parameter_types, BreaksFunction, FunctionRule, IsRepeatedId}

-- the row is that of the type with this id
pub record IsRowOf (p : Program) (row : Row) (id : List ℕ) : Type 0 where
  pub ty : Ty
  pub is : IsType p.types ty id
  pub kind : row.kind ≡ kind_of ty
  pub storable : row.info.storable ≡ storable ty

-- the positions are those of the declared types, and each has its row
pub record HasRows (p : Program) (positions : List (List ℕ × ℕ)) (rows : List Row) : Type 0 where
  pub first : (id : List ℕ) → found positions id ≡ place_of (ids_of p.types) id
  pub each : length rows ≡ length p.types
  pub right : (i : ℕ) (id : List ℕ) (row : Row) → slice_get (ids_of p.types) i ≡ Some id → slice_get rows i ≡ Some row → IsRowOf p row id

-- these are the positions of the declared types with these ids
abbrev pub ArePlaces : Program → List (List ℕ) → List TypeId → Type 0
ArePlaces p ids ts = map (λ id. Some id) ids ≡ map (λ t. slice_get (ids_of p.types) t.0) ts

-- the signature's types are those of the declaration
pub record IsSignature (p : Program) (declared : Function) (s : Signature) : Type 0 where
  pub params : ArePlaces p (parameter_types declared) s.params
  pub results : ArePlaces p declared.results s.results

-- no libfunc's id is declared before it among libfuncs
abbrev pub LibfuncsDiffer : List LibfuncDecl → Type 0
LibfuncsDiffer libfuncs = (i : ℕ) (d : LibfuncDecl) → slice_get libfuncs i ≡ Some d → IsRepeatedId (map (λ e. e.id) libfuncs) i d.id → ⊥

-- ids and signatures are those of the program's functions, and neither a libfunc nor a function is refused
pub record HasFunctions (p : Program) (ids : List (List ℕ × ℕ)) (signatures : List Signature) : Type 0 where
  pub names : names_in ids ≡ map (λ f. f.id) p.functions
  pub numbered : AreNumbered ids
  pub each : length signatures ≡ length p.functions
  pub right : (i : ℕ) (declared : Function) (s : Signature) → slice_get p.functions i ≡ Some declared → slice_get signatures i ≡ Some s → IsSignature p declared s
  pub libfuncs_once : LibfuncsDiffer p.libfuncs
  pub functions_pass : (i : ℕ) (f : Function) (rule : FunctionRule) (fault : TypeFault) → slice_get p.functions i ≡ Some f → BreaksFunction p i f rule fault → ⊥

-- the first libfunc whose id is declared before it has this fault
pub record HasRepeatedLibfunc (libfuncs : List LibfuncDecl) (fault : TypeFault) : Type 0 where
  pub at : ℕ
  pub libfunc : LibfuncDecl
  pub here : slice_get libfuncs at ≡ Some libfunc
  pub repeated : IsRepeatedId (map (λ e. e.id) libfuncs) at libfunc.id
  pub none_before : (j : ℕ) (d : LibfuncDecl) → j < at → slice_get libfuncs j ≡ Some d → IsRepeatedId (map (λ e. e.id) libfuncs) j d.id → ⊥
  pub fault_is : fault ≡ faults.Duplicate libfunc.id

-- the rule is one for libfuncs or functions
abbrev pub IsBehindTypes : Spot → Type 0
IsBehindTypes (in_type i rule) = ⊥
IsBehindTypes (in_libfunc i) = Unit {0}
IsBehindTypes (in_function i rule) = Unit {0}

-- the first rule for libfuncs or functions that the program breaks has this fault
pub record FirstBehindTypes (p : Program) (fault : TypeFault) : Type 0 where
  pub spot : Spot
  pub behind : IsBehindTypes spot
  pub breaks : Breaks p spot fault
  pub none_before : (other : Spot) (earlier : TypeFault) → IsBehindTypes other → Breaks p other earlier → ComesBefore other spot → ⊥
