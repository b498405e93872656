-- What stands takes as many cells as its type has.
use Rattle.std.proofs.Common.{◌≡◌, ℕ, Option, List, take, drop, length, ap, arith, take-append-drop, length-append}
use Rattle.ro_machine.specs.Readings.{Readings}
use Rattle.type_trees.specs.Ty.{Ty, Tys, number, nonzero, range_check, gas_builtin, box, array, snapshot, struct, enum, dict, dict_entry, squashed_dict, uninitialized, no_types, types, size, size_together}
use Rattle.type_trees.specs.declared.num.Num.{Num}
use Rattle.value_trees.specs.Val.{Val}
use Rattle.cell_forms.specs.Stands.{Stands, StandTogether, OneWord}

one_long : (cells : Readings) (Q : ℕ → Type 0) → OneWord cells Q → length cells ≡ 1
one_long cells Q h = ap length h.1

module _ {D E : Type 0} (Pad : Option ℕ → Type 0) (OfDict : Num → Readings → D → Type 0) (OfEntry : Num → Readings → E → Type 0) (m : ℕ → Option ℕ)
    (dict_long : (k : Num) (cells : Readings) (d : D) → OfDict k cells d → length cells ≡ 2)
    (entry_long : (k : Num) (cells : Readings) (e : E) → OfEntry k cells e → length cells ≡ 2) where
  mutual
    pub stands_long : (ty : Ty) (cells : Readings) (v : Val D E) → Stands Pad OfDict OfEntry m ty cells v → length cells ≡ size ty
    stands_long (number k) cells v h = ap length h.1
    stands_long (nonzero k) cells v h = ap length h.1
    stands_long range_check cells v h = ap length h.1
    stands_long gas_builtin cells v h = ap length h.1
    stands_long (box ty) cells v h = ap length h.2.1
    stands_long (array ty) cells v h = ap length h.2.2
    stands_long (snapshot ty) cells v h = stands_long ty cells v h
    stands_long (struct name tys) cells v h = together_long tys cells h.0 h.2
    stands_long (enum name tys) cells v h = h.3
    stands_long (dict k) cells v h = dict_long k cells h.0 h.2
    stands_long (dict_entry k) cells v h = entry_long k cells h.0 h.2
    stands_long (squashed_dict k) cells v h = ap length h.2.2
    stands_long (uninitialized ty) cells v h = h.1

    together_long : (tys : Tys) (cells : Readings) (vs : List (Val D E)) → StandTogether Pad OfDict OfEntry m tys cells vs → length cells ≡ size_together tys
    together_long no_types cells vs h = ap length h.0
    together_long (types ty tys) cells vs h =
        let first = stands_long ty (take (size ty) cells) h.0 h.3 in
        let rest = together_long tys (drop (size ty) cells) h.1 h.4 in
        let whole = ap length (take-append-drop (size ty) cells) in
        let both = length-append (take (size ty) cells) (drop (size ty) cells) in
        omega (arith, first, rest, whole, both)
