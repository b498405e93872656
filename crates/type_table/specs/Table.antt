-- The types and functions of a program, as a table.
use Rattle.std.specs.Prelude.{ℕ, ◌≡◌, List, map, Some, slice_get}
use Rattle.sierra_types.specs.declared.program.Program.{Program}
use Rattle.sierra_types.specs.declared.program.Function.{Function}
use Rattle.sierra_types.specs.declared.program.LibfuncDecl.{LibfuncDecl}
use Rattle.type_table.specs.declared.type_id.TypeId.{TypeId}
use Rattle.type_table.specs.declared.fault.TypeFault.{TypeFault}
use Rattle.type_table.specs.Naming.{ids_of}
use Rattle.type_table.specs.IsType.{IsType}
use Rattle.type_table.specs.Refusals.{parameter_types, BreaksFunction, FunctionRule, IsRepeatedId}
use Rattle.type_table.specs.View.{TypesView, FunctionView, IsTable, tree_of}

-- these are the positions of the types with these ids
abbrev pub ArePositions : TypesView → List (List ℕ) → List TypeId → Type 0
ArePositions view ids ts = map (λ id. Some id) ids ≡ map (λ t. slice_get view.ids t.0) ts

-- a function's parameters and results are those of its declaration
pub record HasSignature (view : TypesView) (declared : Function) (f : FunctionView) : Type 0 where
  pub params : ArePositions view (parameter_types declared) f.params
  pub results : ArePositions view declared.results f.results

-- the table is that of the program, in which no declaration breaks a rule
pub record HasTypes (p : Program) (view : TypesView) : Type 0 where
  pub kept : IsTable view
  pub ids : view.ids ≡ ids_of p.types
  pub types : (i : ℕ) (id : List ℕ) → slice_get view.ids i ≡ Some id → IsType p.types (tree_of view i) id
  pub function_ids : view.function_ids ≡ map (λ f. f.id) p.functions
  pub functions : (i : ℕ) (declared : Function) (f : FunctionView) → slice_get p.functions i ≡ Some declared → slice_get view.functions i ≡ Some f → HasSignature view declared f
  pub libfuncs_once : (i : ℕ) (d : LibfuncDecl) → slice_get p.libfuncs i ≡ Some d → IsRepeatedId (map (λ e. e.id) p.libfuncs) i d.id → ⊥
  pub functions_pass : (i : ℕ) (f : Function) (rule : FunctionRule) (fault : TypeFault) → slice_get p.functions i ≡ Some f → BreaksFunction p i f rule fault → ⊥
