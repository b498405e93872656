-- Control and places: branches, jumps, and where values are kept.
use Rattle.std.specs.Prelude.{ℕ, List, [], ◌∷◌, codes}
use Rattle.type_trees.specs.Ty.{Ty, uninitialized}
use Rattle.libfunc_registry.specs.declared.libfunc.Libfunc.TheVariants as libfuncs
use Rattle.libfunc_registry.specs.Arguments.{Form, nothing, a_type}

-- the generic libfuncs, with what they take as arguments
unfoldable pub control_rows : List (List ℕ × Form)
control_rows =
    (codes "branch_align", nothing libfuncs.BranchAlign)
    ∷ (codes "jump", nothing libfuncs.Jump)
    ∷ (codes "rename", a_type libfuncs.Rename)
    ∷ (codes "dup", a_type libfuncs.Dup)
    ∷ (codes "drop", a_type libfuncs.Drop)
    ∷ (codes "store_temp", a_type libfuncs.StoreTemp)
    ∷ (codes "store_local", a_type libfuncs.StoreLocal)
    ∷ (codes "alloc_local", a_type libfuncs.AllocLocal)
    ∷ (codes "finalize_locals", nothing libfuncs.FinalizeLocals)
    ∷ (codes "disable_ap_tracking", nothing libfuncs.DisableApTracking)
    ∷ (codes "enable_ap_tracking", nothing libfuncs.EnableApTracking)
    ∷ []

-- the families
pub data ControlFam : Type 0 where
  branch_align : ControlFam
  jump : ControlFam
  rename : Ty → ControlFam
  dup : Ty → ControlFam
  drop : Ty → ControlFam
  store_temp : Ty → ControlFam
  store_local : Ty → ControlFam
  alloc_local : Ty → ControlFam
  finalize_locals : ControlFam
  disable_ap_tracking : ControlFam
  enable_ap_tracking : ControlFam

-- the types of the arguments
abbrev pub control_takes : ControlFam → List Ty
control_takes branch_align = []
control_takes jump = []
control_takes (rename ty) = ty ∷ []
control_takes (dup ty) = ty ∷ []
control_takes (drop ty) = ty ∷ []
control_takes (store_temp ty) = ty ∷ []
control_takes (store_local ty) = uninitialized ty ∷ ty ∷ []
control_takes (alloc_local ty) = []
control_takes finalize_locals = []
control_takes disable_ap_tracking = []
control_takes enable_ap_tracking = []

-- the types of the results of each branch
abbrev pub control_gives : ControlFam → List (List Ty)
control_gives branch_align = [] ∷ []
control_gives jump = [] ∷ []
control_gives (rename ty) = (ty ∷ []) ∷ []
control_gives (dup ty) = (ty ∷ ty ∷ []) ∷ []
control_gives (drop ty) = [] ∷ []
control_gives (store_temp ty) = (ty ∷ []) ∷ []
control_gives (store_local ty) = (ty ∷ []) ∷ []
control_gives (alloc_local ty) = (uninitialized ty ∷ []) ∷ []
control_gives finalize_locals = [] ∷ []
control_gives disable_ap_tracking = [] ∷ []
control_gives enable_ap_tracking = [] ∷ []
