-- What is prepared before the walk of places, and what its steps answer.
use Rattle.std.specs.Prelude.{◌≡◌, ◌≤◌, ◌<◌, ◌+◌, ◌^◌, ℕ, List, [], ◌∷◌, map, length, Option, Some, None, IfSome, Result, Ok}
use Rattle.std.specs.List.{slice_get, All}
use Rattle.sierra_types.specs.declared.program.Program.{Program}
use Rattle.type_table.specs.Lookups.{found}
use Rattle.type_table.specs.Naming.{place_of}
use Rattle.type_table.specs.View.{TypesView, IsTable}
use Rattle.sierra_types.specs.declared.program.Branch.{Branch}
use Rattle.type_table.specs.Table.{HasTypes}
use Rattle.libfunc_registry.specs.declared.sig.Sig.{Sig}
use Rattle.libfunc_registry.specs.Signature.{HasSignatures}
use Rattle.statement_walk.specs.Rules.{Lawful}
use Rattle.statement_walk.specs.Keeps.{Keeps}
use Rattle.linear_check.specs.Typed.{Typed, TypedList}
use Rattle.ap_refs.specs.declared.fault.RefFault.{RefFault}
use Rattle.ap_refs.specs.declared.place.Place.{Place}
use Rattle.ap_refs.specs.declared.place.Locals.{Locals}
use Rattle.ap_refs.specs.declared.place.Locals.TheVariants.{Before, Allocating, Done}
use Rattle.ap_refs.specs.Flow.{rules}
use Rattle.ap_refs.specs.Bounds.{most_statements, most_moved, AreWithin, IsBounded}
use Rattle.ap_refs.specs.Arguments.{Cells}
use Rattle.ap_refs.specs.Moves.{change}
use Rattle.cost_table.specs.Fits.{IsSignature, IsCloseExpr}
use Rattle.held_list.specs.Held.{Held}

-- no offset that comes is further than this
abbrev pub widest : ℕ
widest = 2 ^ 62 + 2 ^ 61

-- what a caller knows of the program
pub record IsTypedProgram (p : Program) (t : TypesView) (sigs : List Sig) (envs : TypedList) : Type 0 where
  pub types : HasTypes p t
  pub signatures : HasSignatures t p.libfuncs sigs
  pub typed : Typed p t sigs envs
  pub few : length p.statements ≤ most_statements

-- what is known where n statements are done, as long as n isn't more than all
abbrev pub IsValid : ℕ → ℕ → Place → Type 0
IsValid n s place = n ≤ most_statements → IsBounded n place

-- all that the walk asks for
pub record IsReady (p : Program) (t : TypesView) (sigs : List Sig) (libfuncs : List (List ℕ × ℕ)) : Type 0 where
  pub envs : TypedList
  pub program : IsTypedProgram p t sigs envs
  pub named : (id : List ℕ) → found libfuncs id ≡ place_of (map (λ d. d.id) p.libfuncs) id
  pub lawful : Lawful (rules p t sigs)
  pub keeps : Keeps (rules p t sigs) IsValid

-- the numbers of the local state are far from their type's end
abbrev pub AreSmallLocals : Locals → Type 0
AreSmallLocals Before = Unit {0}
AreSmallLocals (Allocating start cells) = start + cells < 2 ^ 62
AreSmallLocals Done = Unit {0}

-- The numbers of a statement that passes are small enough to give its branches what is known behind it. `rest` is held without
-- its arguments, which have these cells.
pub record CanStep (t : TypesView) (sig : Sig) (ap : Option ℕ) (args : Cells) (rest : Held Cells) (amount : ℕ) : Type 0 where
  pub signature : IsSignature t sig
  pub close : All IsCloseExpr args
  pub few : amount < most_moved
  pub moves : (k : ℕ) → k < length sig.branches → IfSome (change t sig.libfunc amount k) (λ n. n ≤ most_moved)
  pub within : AreWithin widest rest
  pub begin : IfSome ap (λ a. a < 2 ^ 62)

-- what is known of a libfunc's statement when its arguments are taken
pub record CanBegin (t : TypesView) (sig : Sig) (branches : List Branch) (place : Place) (rest : Held Cells) : Type 0 where
  pub table : IsTable t
  pub signature : IsSignature t sig
  pub counted : length branches ≡ length sig.branches
  pub few_branches : length sig.branches ≤ most_statements
  pub done : ℕ
  pub not_all : done < most_statements
  pub bounded : IsBounded done place
  pub within : AreWithin widest rest
