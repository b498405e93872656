-- The cells of what is held, by the types that the linear check gives.
use Rattle.std.specs.Prelude.{◌≡◌, ℕ, ◌<◌, ◌+◌, ◌^◌, List, [], ◌∷◌, length, Some}
use Rattle.std.specs.List.{slice_get, All}
use Rattle.sierra_types.specs.declared.program.Program.{Program}
use Rattle.sierra_types.specs.declared.program.Statement.TheVariants.{Invoke}
use Rattle.sierra_types.specs.declared.program.Branch.{Branch}
use Rattle.type_table.specs.declared.type_id.TypeId.{TypeId}
use Rattle.type_table.specs.View.{TypesView}
use Rattle.libfunc_registry.specs.declared.sig.Sig.{Sig}
use Rattle.casm_word.specs.Expressions.{IsExprInField}
use Rattle.held_list.specs.Held.{Held, Each}
use Rattle.linear_check.specs.Typed.{TypedList}
use Rattle.linear_check.specs.Statements.{declared}
use Rattle.ap_refs.specs.declared.place.Place.{Place}
use Rattle.ap_refs.specs.Arguments.{Cells, Argument, taken}
use Rattle.ap_refs.specs.Locals.{size_of}
use Rattle.ap_refs.specs.Placed.{PlacedList}

-- a variable of this type has as many cells as the type's size says, and numbers among them are below the field's order
pub record IsSized (t : TypesView) (ty : TypeId) (cells : Cells) : Type 0 where
  pub many : length cells ≡ size_of t ty
  pub in_field : All IsExprInField cells

-- both lists hold the same variables at a statement, each with the cells of its type
abbrev pub AreSized : TypesView → TypedList → PlacedList → ℕ → Type 0
AreSized t envs a s = (f : ℕ) (held : Held TypeId) (g : ℕ) (place : Place) → slice_get envs s ≡ Some (f, held) → slice_get a s ≡ Some (g, place) → Each (IsSized t) held place.cells

-- a libfunc's statement, with the signature as which its libfunc is declared and what is known there
pub record IsStep (p : Program) (sigs : List Sig) (a : PlacedList) (s : ℕ) (args : List ℕ) (sig : Sig) (place : Place) : Type 0 where
  pub id : List ℕ
  pub branches : List Branch
  pub function : ℕ
  pub here : slice_get p.statements s ≡ Some (Invoke id args branches)
  pub signature : declared p sigs id ≡ Some sig
  pub place_at : slice_get a s ≡ Some (function, place)
