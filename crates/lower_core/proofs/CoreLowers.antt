-- The fragments of this crate meet the lowering contract.
use Rattle.std.proofs.Common.{◌≡◌, ℕ, Some, List, sym, subst}
use Rattle.casm_word.specs.declared.cell_expr.CellExpr.{CellExpr}
use Rattle.frag_code.specs.declared.piece.Piece.{Piece}
use Rattle.frag_plan.specs.Plan.{fragment}
use Rattle.libfunc_registry.specs.Fam.{Fam, control, gas, felts, integers, data_, arrays, dictionaries}
use Rattle.cost_table.specs.Groups.{if_control, if_felts, if_data}
use Rattle.lower_kit.specs.Fitting.{Takes}
use Rattle.lower_kit.specs.Logged.{logged}
use Rattle.lower_kit.specs.Lowers.{Lowers}
use Rattle.lower_core.specs.Control.{control_plan}
use Rattle.lower_core.specs.Core.{IsCore, core_fragment}
use Rattle.lower_core.specs.Data.{data_plan}
use Rattle.lower_core.specs.Felts.{felts_plan}
use Rattle.lower_core.proofs.ControlLowers.{control_lowers}
use Rattle.lower_core.proofs.DataLowers.{data_lowers}
use Rattle.lower_core.proofs.FeltsLowers.{felts_lowers}

pub core_lowers : (fam : Fam) (args : List CellExpr) (amount : ℕ) → IsCore fam → Takes fam args amount → Lowers logged fam args amount (core_fragment args amount fam)
core_lowers (control fam) args amount core taken = control_lowers logged args amount fam taken
core_lowers (gas fam) args amount core taken = absurd core
core_lowers (felts fam) args amount core taken = felts_lowers logged amount args fam taken
core_lowers (integers fam) args amount core taken = absurd core
core_lowers (data_ fam) args amount core taken = data_lowers logged args amount fam taken
core_lowers (arrays fam) args amount core taken = absurd core
core_lowers (dictionaries fam) args amount core taken = absurd core

module _ (args : List CellExpr) (amount : ℕ) where
  -- what is made of a group is the fragment
  pub of_control : (fam : Fam) (f : List Piece) → if_control (λ x. fragment args (control_plan amount x)) fam ≡ Some f → f ≡ core_fragment args amount fam
  of_control (control fam) f is = cc
  of_control (gas fam) f is = cc
  of_control (felts fam) f is = cc
  of_control (integers fam) f is = cc
  of_control (data_ fam) f is = cc
  of_control (arrays fam) f is = cc
  of_control (dictionaries fam) f is = cc

  pub of_felts : (fam : Fam) (f : List Piece) → if_felts (λ x. fragment args (felts_plan x)) fam ≡ Some f → f ≡ core_fragment args amount fam
  of_felts (control fam) f is = cc
  of_felts (gas fam) f is = cc
  of_felts (felts fam) f is = cc
  of_felts (integers fam) f is = cc
  of_felts (data_ fam) f is = cc
  of_felts (arrays fam) f is = cc
  of_felts (dictionaries fam) f is = cc

  pub of_data : (fam : Fam) (f : List Piece) → if_data (λ x. fragment args (data_plan x)) fam ≡ Some f → f ≡ core_fragment args amount fam
  of_data (control fam) f is = cc
  of_data (gas fam) f is = cc
  of_data (felts fam) f is = cc
  of_data (integers fam) f is = cc
  of_data (data_ fam) f is = cc
  of_data (arrays fam) f is = cc
  of_data (dictionaries fam) f is = cc

  -- the fragment meets the contract
  pub met : (fam : Fam) (f : List Piece) → IsCore fam → f ≡ core_fragment args amount fam → Takes fam args amount → Lowers logged fam args amount f
  met fam f core is taken = subst (λ g. Lowers logged fam args amount g) (sym is) (core_lowers fam args amount core taken)
