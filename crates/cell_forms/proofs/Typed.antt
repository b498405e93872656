-- What stands in cells of a type is of that type.
use Rattle.std.proofs.Common.{◌≡◌, ℕ, zero, suc, ◌+◌, ◌-◌, ◌<◌, Option, Some, List, [], ◌∷◌, take, drop, length, ap, arith}
use Rattle.std.specs.List.{AllByRecursion}
use Rattle.felt64.specs.Field.{sum, modulus}
use Rattle.ro_machine.specs.Memory.{IsMemory}
use Rattle.ro_machine.specs.Readings.{Readings, cells_at}
use Rattle.type_trees.specs.Ty.{Ty, Tys, number, nonzero, range_check, gas_builtin, box, array, snapshot, struct, enum, dict, dict_entry, squashed_dict, uninitialized, no_types, types, size}
use Rattle.type_trees.specs.declared.num.Num.{Num}
use Rattle.value_trees.specs.Of.{IsOf, AreOf, IsOfVariant, AllOf, bound}
use Rattle.value_trees.specs.Val.{Val}
use Rattle.cell_forms.specs.Stands.{Stands, StandTogether, StandsVariant, StandAll, Each, IsLast}

module _ (m : ℕ → Option ℕ) {X : Type 0} (Q : Readings → X → Type 0) (P : X → Type 0) (of : (start k z : ℕ) (x : X) → Q (cells_at m start k z) x → P x) where
  pub each_of : (z start k : ℕ) (xs : List X) → Each m Q z start k xs → AllByRecursion P xs
  each_of z start k [] h = tt
  each_of z start k (x ∷ xs) h = (of start k z x h.0, each_of z start (k + z) xs h.1)

first_is : (o p : Option ℕ) (cells more : Readings) → o ∷ cells ≡ p ∷ more → o ≡ p
first_is o p cells more h = ap (λ l. head_or p l) h where
  head_or : Option ℕ → Readings → Option ℕ
  head_or d [] = d
  head_or d (x ∷ xs) = x

-- the key and the last word of a squashed dictionary's entry
last_of : (m : ℕ → Option ℕ) → IsMemory m → (num : Num) (start k z : ℕ) (e : ℕ × ℕ) → IsLast num (cells_at m start k z) e → (e.0 < modulus) × (e.1 < bound num)
last_of m in_field num start k zero e h = absurd (omega (arith, ap length h.0))
last_of m in_field num start k (suc z) e h =
    ((in_field (sum start k) e.0 (first_is (m (sum start k)) (Some e.0) (cells_at m start (k + 1) z) (Some 0 ∷ Some e.1 ∷ []) h.0)).1, h.1)

module _ {D E : Type 0} (Pad : Option ℕ → Type 0) (m : ℕ → Option ℕ) (in_field : IsMemory m)
    (OfDict : Num → Readings → D → Type 0) (OfEntry : Num → Readings → E → Type 0) (FitsDict : Num → D → Type 0) (FitsEntry : Num → E → Type 0)
    (dict_of : (k : Num) (cells : Readings) (d : D) → OfDict k cells d → FitsDict k d)
    (entry_of : (k : Num) (cells : Readings) (e : E) → OfEntry k cells e → FitsEntry k e) where
  mutual
    pub stands_of : (ty : Ty) (cells : Readings) (v : Val D E) → Stands Pad OfDict OfEntry m ty cells v → IsOf FitsDict FitsEntry ty v
    stands_of (number k) cells v h = (h.0, h.2.0, h.2.1)
    stands_of (nonzero k) cells v h = (h.0, h.2.0, h.2.1, h.2.2)
    stands_of range_check cells v h = h.2
    stands_of gas_builtin cells v h = (h.0, h.2.0, h.2.1)
    stands_of (box ty) cells v h = (h.0, h.1, stands_of ty (cells_at m h.2.0 0 (size ty)) h.0 h.2.2)
    stands_of (array ty) cells v h = (
      h.0,
      h.1,
      each_of m (Stands Pad OfDict OfEntry m ty) (IsOf FitsDict FitsEntry ty)
          (λ start k z x s. stands_of ty (cells_at m start k z) x s) (size ty) h.2.0 0 h.0 h.2.5,
    )
    stands_of (snapshot ty) cells v h = stands_of ty cells v h
    stands_of (struct name tys) cells v h = (h.0, h.1, together_of tys cells h.0 h.2)
    stands_of (enum name tys) cells v h = (h.0, h.1, h.2, variant_of tys h.0 (drop 1 cells) h.1 h.5)
    stands_of (dict k) cells v h = (h.0, h.1, dict_of k cells h.0 h.2)
    stands_of (dict_entry k) cells v h = (h.0, h.1, entry_of k cells h.0 h.2)
    stands_of (squashed_dict k) cells v h =
        (h.0, h.1, each_of m (IsLast k) (λ e. (e.0 < modulus) × (e.1 < bound k)) (last_of m in_field k) 3 h.2.0 0 _ h.2.5)
    stands_of (uninitialized ty) cells v h = h.0

    together_of : (tys : Tys) (cells : Readings) (vs : List (Val D E)) → StandTogether Pad OfDict OfEntry m tys cells vs → AreOf FitsDict FitsEntry tys vs
    together_of no_types cells vs h = h.1
    together_of (types ty tys) cells vs h =
        (h.0, h.1, h.2, stands_of ty (take (size ty) cells) h.0 h.3, together_of tys (drop (size ty) cells) h.1 h.4)

    variant_of : (tys : Tys) (i : ℕ) (cells : Readings) (v : Val D E) → StandsVariant Pad OfDict OfEntry m tys i cells v → IsOfVariant FitsDict FitsEntry tys i v
    variant_of no_types i cells v h = h
    variant_of (types ty tys) zero cells v h = stands_of ty (drop (length cells - size ty) cells) v h.1
    variant_of (types ty tys) (suc i) cells v h = variant_of tys i cells v h

  pub all_of : (tys : List Ty) (cells : Readings) (vs : List (Val D E)) → StandAll Pad OfDict OfEntry m tys cells vs → AllOf FitsDict FitsEntry tys vs
  all_of [] cells vs h = h.1
  all_of (ty ∷ tys) cells vs h = (h.0, h.1, h.2, stands_of ty (take (size ty) cells) h.0 h.3, all_of tys (drop (size ty) cells) h.1 h.4)
