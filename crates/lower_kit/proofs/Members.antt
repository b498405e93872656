-- Members of structs and variants of enums, as lists and as trees.
use Rattle.std.proofs.Common.{◌≡◌, ℕ, zero, suc, ◌-◌, ◌<◌, Option, Some, List, [], ◌∷◌, ◌++◌, map, take, drop, length, replicate, refl, sym, subst, arith, take_at, drop_at, length-append}
use Rattle.std.specs.List.{AllByRecursion, slice_index_or}
use Rattle.ro_machine.specs.Readings.{Readings}
use Rattle.type_trees.specs.Ty.{Ty, Tys, no_types, types, size, snap, range_check}
use Rattle.type_table.specs.Trees.{listed}
use Rattle.value_trees.specs.Logs.{Logged}
use Rattle.cell_forms.specs.LogStands.{LogStands, OpenLogStands}
use Rattle.cell_forms.specs.Stands.{StandTogether, StandsVariant}
use Rattle.cell_forms.specs.Standing.{Padding, any, listed as padding_listed, zeros, Asked, LoggedStands, AllLoggedStand}
use Rattle.cell_forms.proofs.Snapshots.{snap_size, to_snap}
use Rattle.lower_kit.proofs.Shown.{long}

pub asked_zero : (padding : Padding) → Asked padding (Some 0)
asked_zero any = tt
asked_zero padding_listed = (0, refl)
asked_zero zeros = refl

pub asked_zeros : (padding : Padding) (n : ℕ) → AllByRecursion (Asked padding) (replicate n (Some 0))
asked_zeros padding zero = tt
asked_zeros padding (suc n) = (asked_zero padding, asked_zeros padding n)

module _ (padding : Padding) (m : ℕ → Option ℕ) where
  abbrev pub Together : Tys → Readings → List Logged → Type 0
  Together tys cells vs = StandTogether (Asked padding) (LogStands m) (OpenLogStands m) m tys cells vs

  abbrev pub Variant : Tys → ℕ → Readings → Logged → Type 0
  Variant tys index cells v = StandsVariant (Asked padding) (LogStands m) (OpenLogStands m) m tys index cells v

  pub to_together : (tys : Tys) (cells : Readings) (vs : List Logged) → AllLoggedStand padding m (listed tys) cells vs → Together tys cells vs
  to_together no_types cells vs h = h
  to_together (types ty tys) cells vs h = (h.0, h.1, h.2, h.3, to_together tys (drop (size ty) cells) h.1 h.4)

  pub of_together : (tys : Tys) (cells : Readings) (vs : List Logged) → Together tys cells vs → AllLoggedStand padding m (listed tys) cells vs
  of_together no_types cells vs h = h
  of_together (types ty tys) cells vs h = (h.0, h.1, h.2, h.3, of_together tys (drop (size ty) cells) h.1 h.4)

  -- values stand as snapshots
  pub snapped : (ty : Ty) (cells : Readings) (v : Logged) → LoggedStands padding m ty cells v → LoggedStands padding m (snap ty) cells v
  snapped ty cells v h = to_snap (Asked padding) (LogStands m) (OpenLogStands m) m ty cells v h

  pub all_snapped : (tys : List Ty) (cells : Readings) (vs : List Logged) → AllLoggedStand padding m tys cells vs → AllLoggedStand padding m (map snap tys) cells vs
  all_snapped [] cells vs h = h
  all_snapped (ty ∷ tys) cells vs h = (
    h.0,
    h.1,
    h.2,
    subst (λ n. LoggedStands padding m (snap ty) (take n cells) h.0) (sym (snap_size ty)) (snapped ty (take (size ty) cells) h.0 h.3),
    subst (λ n. AllLoggedStand padding m (map snap tys) (drop n cells) h.1) (sym (snap_size ty)) (all_snapped tys (drop (size ty) cells) h.1 h.4),
  )

  -- a variant, behind its padding
  pub variant_made : (tys : Tys) (index : ℕ) (pads payload : Readings) (v : Logged) → index < length (listed tys) → AllByRecursion (Asked padding) pads
      → LoggedStands padding m (slice_index_or (listed tys) index range_check) payload v → Variant tys index (pads ++ payload) v
  variant_made no_types index pads payload v within asked h = absurd (omega (arith, within))
  variant_made (types ty tys) zero pads payload v within asked h =
      let many = long padding m ty payload v h in
      let front : length pads ≡ length (pads ++ payload) - size ty = omega (arith, many, length-append pads payload) in (
        subst (AllByRecursion (Asked padding)) (sym (take_at pads payload (length (pads ++ payload) - size ty) front)) asked,
        subst (λ c. LoggedStands padding m ty c v) (sym (drop_at pads payload (length (pads ++ payload) - size ty) front)) h,
      )
  variant_made (types ty tys) (suc index) pads payload v within asked h = variant_made tys index pads payload v (omega (arith, within)) asked h

  pub variant_within : (tys : Tys) (index : ℕ) (cells : Readings) (v : Logged) → Variant tys index cells v → index < length (listed tys)
  variant_within no_types index cells v h = absurd h
  variant_within (types ty tys) zero cells v h = omega arith
  variant_within (types ty tys) (suc index) cells v h = let rest = variant_within tys index cells v h in omega (arith, rest)

  -- its payload stands in the last cells
  pub variant_taken : (tys : Tys) (index : ℕ) (cells : Readings) (v : Logged) → Variant tys index cells v
      → LoggedStands padding m (slice_index_or (listed tys) index range_check) (drop (length cells - size (slice_index_or (listed tys) index range_check)) cells) v
  variant_taken no_types index cells v h = absurd h
  variant_taken (types ty tys) zero cells v h = h.1
  variant_taken (types ty tys) (suc index) cells v h = variant_taken tys index cells v h
