-- Control and places: there is an answer, of the types of its branch.
use Rattle.std.proofs.Common.{List, refl}
use Rattle.type_trees.specs.Ty.{uninitialized}
use Rattle.type_trees.specs.declared.num.Num.{Num}
use Rattle.libfunc_registry.specs.Control.{ControlFam, branch_align, jump, rename, dup, drop, store_temp, store_local, alloc_local, finalize_locals, disable_ap_tracking, enable_ap_tracking, control_takes, control_gives}
use Rattle.value_trees.specs.Of.{AllOf}
use Rattle.value_trees.specs.Val.{Val}
use Rattle.value_trees.specs.Val as val
use Rattle.libfunc_meaning.specs.Control.{control_does}
use Rattle.libfunc_meaning.proofs.Typed.{IsAnswered, at_none, at_one, at_two, gives_none, gives_one, gives_two}

module _ {D E : Type 0} (OfDict : Num → D → Type 0) (OfEntry : Num → E → Type 0) where
  abbrev Does : ControlFam → List (Val D E) → Type 0
  Does fam vs = IsAnswered OfDict OfEntry (control_gives fam) (control_does fam vs)

  pub control_answers : (fam : ControlFam) (vs : List (Val D E)) → AllOf OfDict OfEntry (control_takes fam) vs → IsAnswered OfDict OfEntry (control_gives fam) (control_does fam vs)
  control_answers branch_align vs h = at_none OfDict OfEntry (Does branch_align) vs h (gives_none OfDict OfEntry _ 0 refl)
  control_answers jump vs h = at_none OfDict OfEntry (Does jump) vs h (gives_none OfDict OfEntry _ 0 refl)
  control_answers (rename ty) vs h = at_one OfDict OfEntry (Does (rename ty)) ty vs h (λ v v_is. gives_one OfDict OfEntry _ 0 ty v refl v_is)
  control_answers (dup ty) vs h = at_one OfDict OfEntry (Does (dup ty)) ty vs h (λ v v_is. gives_two OfDict OfEntry _ 0 ty ty v v refl v_is v_is)
  control_answers (drop ty) vs h = at_one OfDict OfEntry (Does (drop ty)) ty vs h (λ v v_is. gives_none OfDict OfEntry _ 0 refl)
  control_answers (store_temp ty) vs h = at_one OfDict OfEntry (Does (store_temp ty)) ty vs h (λ v v_is. gives_one OfDict OfEntry _ 0 ty v refl v_is)
  control_answers (store_local ty) vs h =
      at_two OfDict OfEntry (Does (store_local ty)) (uninitialized ty) ty vs h (λ local v local_is v_is. gives_one OfDict OfEntry _ 0 ty v refl v_is)
  control_answers (alloc_local ty) vs h =
      at_none OfDict OfEntry (Does (alloc_local ty)) vs h (gives_one OfDict OfEntry _ 0 (uninitialized ty) val.empty refl refl)
  control_answers finalize_locals vs h = at_none OfDict OfEntry (Does finalize_locals) vs h (gives_none OfDict OfEntry _ 0 refl)
  control_answers disable_ap_tracking vs h = at_none OfDict OfEntry (Does disable_ap_tracking) vs h (gives_none OfDict OfEntry _ 0 refl)
  control_answers enable_ap_tracking vs h = at_none OfDict OfEntry (Does enable_ap_tracking) vs h (gives_none OfDict OfEntry _ 0 refl)
