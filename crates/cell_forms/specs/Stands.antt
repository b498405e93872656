-- Which value stands in some cells: by recursion on the type, one line for each generic type, the cells as what is read of
-- them. What a padding cell has to read, and how dictionaries and their entries stand, are parameters.
use Rattle.std.specs.Prelude.{◌≡◌, ◌≢◌, ℕ, zero, suc, ◌+◌, ◌*◌, ◌-◌, ◌<◌, ◌^◌, Option, Some, List, [], ◌∷◌, take, drop, length}
use Rattle.std.specs.List.{AllByRecursion}
use Rattle.std.specs.FinMap.{entries}
use Rattle.felt64.specs.Field.{sum}
use Rattle.ro_machine.specs.Readings.{Readings, cells_at}
use Rattle.type_trees.specs.Ty.{Ty, Tys, number, nonzero, range_check, gas_builtin, box, array, snapshot, struct, enum, dict, dict_entry, squashed_dict, uninitialized, no_types, types, size, greatest_size}
use Rattle.type_trees.specs.declared.num.Num.{Num}
use Rattle.value_trees.specs.Of.{bound}
use Rattle.value_trees.specs.Val.{Val, WordMap, vals_of}
use Rattle.value_trees.specs.Val as val

-- the cells are one, which reads a word of which this holds
abbrev pub OneWord : Readings → (ℕ → Type 0) → Type 0
OneWord cells Q = (n : ℕ) × (cells ≡ Some n ∷ []) × Q n

-- an array and a log have fewer elements than this
abbrev pub most_elements : ℕ
most_elements = 2 ^ 32

module _ (m : ℕ → Option ℕ) {X : Type 0} (Q : Readings → X → Type 0) where
  -- each of these holds of its cells, so many for each, of which the first lies k cells from the start
  abbrev pub Each : (z start k : ℕ) → List X → Type 0
  Each z start k [] = Unit {0}
  Each z start k (x ∷ xs) = Q (cells_at m start k z) x × Each z start (k + z) xs

  -- the cells are a start and an end, and each of these holds of its cells between them, so many for each
  abbrev pub Between : (z : ℕ) → Readings → List X → Type 0
  Between z cells xs =
      (start end : ℕ) × (cells ≡ Some start ∷ Some end ∷ []) × (end ≡ sum start (z * length xs)) × (length xs < most_elements) × Each z start 0 xs

-- the cells are a key, 0 and the key's last word, a number of this type
abbrev pub IsLast : Num → Readings → (ℕ × ℕ) → Type 0
IsLast k cells e = (cells ≡ Some e.0 ∷ Some 0 ∷ Some e.1 ∷ []) × (e.1 < bound k)

module _ {D E : Type 0} (Pad : Option ℕ → Type 0) (OfDict : Num → Readings → D → Type 0) (OfEntry : Num → Readings → E → Type 0) (m : ℕ → Option ℕ) where
  abbrev mutual
    pub Stands : Ty → Readings → Val D E → Type 0
    Stands (number k) cells v = OneWord cells (λ n. (v ≡ val.number k n) × (n < bound k))
    Stands (nonzero k) cells v = OneWord cells (λ n. (v ≡ val.number k n) × (n < bound k) × (n ≢ 0))
    Stands range_check cells v = OneWord cells (λ n. v ≡ val.check)
    Stands gas_builtin cells v = OneWord cells (λ n. (v ≡ val.gas n) × (n < 2 ^ 32))
    Stands (box ty) cells v = (inner : Val D E) × (v ≡ val.boxed inner) × OneWord cells (λ a. Stands ty (cells_at m a 0 (size ty)) inner)
    Stands (array ty) cells v = (vs : List (Val D E)) × (v ≡ val.array (vals_of vs)) × Between m (Stands ty) (size ty) cells vs
    Stands (snapshot ty) cells v = Stands ty cells v
    Stands (struct name tys) cells v = (vs : List (Val D E)) × (v ≡ val.struct (vals_of vs)) × StandTogether tys cells vs
    Stands (enum name tys) cells v =
        (index : ℕ) × (payload : Val D E) × (v ≡ val.enum index payload) × (length cells ≡ 1 + greatest_size tys)
        × (take 1 cells ≡ Some index ∷ []) × StandsVariant tys index (drop 1 cells) payload
    Stands (dict k) cells v = (d : D) × (v ≡ val.dict d) × OfDict k cells d
    Stands (dict_entry k) cells v = (e : E) × (v ≡ val.dict_entry e) × OfEntry k cells e
    Stands (squashed_dict k) cells v = (map : WordMap) × (v ≡ val.squashed_dict map) × Between m (IsLast k) 3 cells (entries map)
    Stands (uninitialized ty) cells v = (v ≡ val.empty) × (length cells ≡ size ty)

    -- the values stand in the cells, in order
    pub StandTogether : Tys → Readings → List (Val D E) → Type 0
    StandTogether no_types cells vs = (cells ≡ []) × (vs ≡ [])
    StandTogether (types ty tys) cells vs =
        (v : Val D E) × (rest : List (Val D E)) × (vs ≡ v ∷ rest) × Stands ty (take (size ty) cells) v × StandTogether tys (drop (size ty) cells) rest

    -- there is a variant with this index, and its payload stands in the last cells; those before it are padding
    pub StandsVariant : Tys → ℕ → Readings → Val D E → Type 0
    StandsVariant no_types index cells v = ⊥
    StandsVariant (types ty tys) zero cells v =
        AllByRecursion Pad (take (length cells - size ty) cells) × Stands ty (drop (length cells - size ty) cells) v
    StandsVariant (types ty tys) (suc index) cells v = StandsVariant tys index cells v

  -- the values stand in the cells, in order
  abbrev pub StandAll : List Ty → Readings → List (Val D E) → Type 0
  StandAll [] cells vs = (cells ≡ []) × (vs ≡ [])
  StandAll (ty ∷ tys) cells vs =
      (v : Val D E) × (rest : List (Val D E)) × (vs ≡ v ∷ rest) × Stands ty (take (size ty) cells) v × StandAll tys (drop (size ty) cells) rest
