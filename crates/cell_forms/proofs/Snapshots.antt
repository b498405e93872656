-- What stands as a snapshot stands as its type.
use Rattle.std.proofs.Common.{◌≡◌, ℕ, Option, Bool, true, false, if◌then◌else◌, refl}
use Rattle.ro_machine.specs.Readings.{Readings}
use Rattle.type_trees.specs.Ty.{Ty, size, duplicable, snap, snapshot}
use Rattle.type_trees.specs.declared.num.Num.{Num}
use Rattle.value_trees.specs.Val.{Val}
use Rattle.cell_forms.specs.Stands.{Stands}

pub snap_size : (ty : Ty) → size (snap ty) ≡ size ty
snap_size ty = by_cases (duplicable ty) where
  by_cases : (b : Bool) → size (if b then ty else snapshot ty) ≡ size ty
  by_cases true = refl
  by_cases false = refl

module _ {D E : Type 0} (Pad : Option ℕ → Type 0) (OfDict : Num → Readings → D → Type 0) (OfEntry : Num → Readings → E → Type 0) (m : ℕ → Option ℕ) where
  pub to_type : (ty : Ty) (cells : Readings) (v : Val D E) → Stands Pad OfDict OfEntry m (snap ty) cells v → Stands Pad OfDict OfEntry m ty cells v
  to_type ty cells v = by_cases (duplicable ty) where
    by_cases : (b : Bool) → Stands Pad OfDict OfEntry m (if b then ty else snapshot ty) cells v → Stands Pad OfDict OfEntry m ty cells v
    by_cases true h = h
    by_cases false h = h

  pub to_snap : (ty : Ty) (cells : Readings) (v : Val D E) → Stands Pad OfDict OfEntry m ty cells v → Stands Pad OfDict OfEntry m (snap ty) cells v
  to_snap ty cells v = by_cases (duplicable ty) where
    by_cases : (b : Bool) → Stands Pad OfDict OfEntry m ty cells v → Stands Pad OfDict OfEntry m (if b then ty else snapshot ty) cells v
    by_cases true h = h
    by_cases false h = h
