-- Control and places: values pass through.
use Rattle.std.specs.Prelude.{List, [], ◌∷◌}
use Rattle.libfunc_registry.specs.Control.{ControlFam, branch_align, jump, rename, dup, drop, store_temp, store_local, alloc_local, finalize_locals, disable_ap_tracking, enable_ap_tracking}
use Rattle.value_trees.specs.Val.{Val}
use Rattle.value_trees.specs.Val as val
use Rattle.libfunc_meaning.specs.Answers.{Answer, gives, of_none, of_one, of_two}

abbrev pub control_does : {D E : Type 0} → ControlFam → List (Val D E) → Answer D E
control_does branch_align vs = of_none vs (gives [])
control_does jump vs = of_none vs (gives [])
control_does (rename ty) vs = of_one vs (λ v. gives (v ∷ []))
control_does (dup ty) vs = of_one vs (λ v. gives (v ∷ v ∷ []))
control_does (drop ty) vs = of_one vs (λ v. gives [])
control_does (store_temp ty) vs = of_one vs (λ v. gives (v ∷ []))
control_does (store_local ty) vs = of_two vs (λ local v. gives (v ∷ []))
control_does (alloc_local ty) vs = of_none vs (gives (val.empty ∷ []))
control_does finalize_locals vs = of_none vs (gives [])
control_does disable_ap_tracking vs = of_none vs (gives [])
control_does enable_ap_tracking vs = of_none vs (gives [])
