-- Values stand still where the memory and the readings of their cells grow.
use Rattle.std.proofs.Common.{◌≡◌, ℕ, zero, suc, ◌+◌, ◌-◌, Option, Some, List, [], ◌∷◌, take, drop, length, refl, sym, ap, ◌∙◌, subst}
use Rattle.std.specs.List.{AllByRecursion}
use Rattle.felt64.specs.Field.{sum}
use Rattle.ro_machine.specs.Readings.{Readings, cells_at}
use Rattle.ro_machine.specs.Extends.{Extends}
use Rattle.type_trees.specs.Ty.{Ty, Tys, number, nonzero, range_check, gas_builtin, box, array, snapshot, struct, enum, dict, dict_entry, squashed_dict, uninitialized, no_types, types, size}
use Rattle.type_trees.specs.declared.num.Num.{Num}
use Rattle.value_trees.specs.Val.{Val}
use Rattle.cell_forms.specs.Stands.{Stands, StandTogether, StandsVariant, StandAll, Each, Between, IsLast}
use Rattle.cell_forms.specs.Growing.{Keeps, KeepEach}

pub keep_length : (cells more : Readings) → KeepEach cells more → length more ≡ length cells
keep_length [] more h = ap length h
keep_length (o ∷ cells) more h = ap length h.2 ∙ ap suc (keep_length cells h.1 h.4)

-- where all cells read words, nothing changes
kept_first : (n : ℕ) (cells more : Readings) → KeepEach (Some n ∷ cells) more → (rest : Readings) × (more ≡ Some n ∷ rest) × KeepEach cells rest
kept_first n cells more h = (h.1, h.2 ∙ ap (λ o. o ∷ h.1) (h.3 n refl), h.4)

pub kept_one : (n : ℕ) (cells more : Readings) → cells ≡ Some n ∷ [] → KeepEach cells more → more ≡ Some n ∷ []
kept_one n cells more is h =
    let one = kept_first n [] more (subst (λ c. KeepEach c more) is h) in
    one.1 ∙ ap (λ r. Some n ∷ r) one.2

pub kept_two : (a b : ℕ) (cells more : Readings) → cells ≡ Some a ∷ Some b ∷ [] → KeepEach cells more → more ≡ Some a ∷ Some b ∷ []
kept_two a b cells more is h =
    let one = kept_first a (Some b ∷ []) more (subst (λ c. KeepEach c more) is h) in
    one.1 ∙ ap (λ r. Some a ∷ r) (kept_one b (Some b ∷ []) one.0 refl one.2)

pub kept_three : (a b c : ℕ) (cells more : Readings) → cells ≡ Some a ∷ Some b ∷ Some c ∷ [] → KeepEach cells more → more ≡ Some a ∷ Some b ∷ Some c ∷ []
kept_three a b c cells more is h =
    let one = kept_first a (Some b ∷ Some c ∷ []) more (subst (λ l. KeepEach l more) is h) in
    one.1 ∙ ap (λ r. Some a ∷ r) (kept_two b c (Some b ∷ Some c ∷ []) one.0 refl one.2)

pub keep_same : (cells : Readings) → KeepEach cells cells
keep_same [] = refl
keep_same (o ∷ cells) = (o, cells, refl, (λ n h. h), keep_same cells)

pub keep_take : (i : ℕ) (cells more : Readings) → KeepEach cells more → KeepEach (take i cells) (take i more)
keep_take zero cells more h = refl
keep_take (suc i) [] more h = ap (take (suc i)) h
keep_take (suc i) (o ∷ cells) more h = (h.0, take i h.1, ap (take (suc i)) h.2, h.3, keep_take i cells h.1 h.4)

pub keep_drop : (i : ℕ) (cells more : Readings) → KeepEach cells more → KeepEach (drop i cells) (drop i more)
keep_drop zero cells more h = h
keep_drop (suc i) [] more h = ap (drop (suc i)) h
keep_drop (suc i) (o ∷ cells) more h = subst (λ r. KeepEach (drop i cells) r) (sym (ap (drop (suc i)) h.2)) (keep_drop i cells h.1 h.4)

pub keep_cells : (m more : ℕ → Option ℕ) → Extends m more → (base k n : ℕ) → KeepEach (cells_at m base k n) (cells_at more base k n)
keep_cells m more grows base k zero = refl
keep_cells m more grows base k (suc n) =
    (more (sum base k), cells_at more base (k + 1) n, refl, λ w h. grows (sum base k) w h, keep_cells m more grows base (k + 1) n)

pub keep_all : (Pad MorePad : Option ℕ → Type 0) → ((o p : Option ℕ) → Keeps o p → Pad o → MorePad p) → (cells more : Readings) → KeepEach cells more
    → AllByRecursion Pad cells → AllByRecursion MorePad more
keep_all Pad MorePad keeps [] more h all = subst (AllByRecursion MorePad) (sym h) tt
keep_all Pad MorePad keeps (o ∷ cells) more h all =
    subst (AllByRecursion MorePad) (sym h.2) (keeps o h.0 h.3 all.0, keep_all Pad MorePad keeps cells h.1 h.4 all.1)

module _ (m more : ℕ → Option ℕ) {X : Type 0} (Q R : Readings → X → Type 0)
    (step : (base k z : ℕ) (x : X) → Q (cells_at m base k z) x → R (cells_at more base k z) x) where
  each_kept : (z start k : ℕ) (xs : List X) → Each m Q z start k xs → Each more R z start k xs
  each_kept z start k [] h = tt
  each_kept z start k (x ∷ xs) h = (step start k z x h.0, each_kept z start (k + z) xs h.1)

  pub between_kept : (z : ℕ) (cells grown : Readings) (xs : List X) → KeepEach cells grown → Between m Q z cells xs → Between more R z grown xs
  between_kept z cells grown xs keeps h =
      (h.0, h.1, kept_two h.0 h.1 cells grown h.2 keeps, h.3, h.4, each_kept z h.0 0 xs h.5)

pub last_kept : (k : Num) (e : ℕ × ℕ) (cells more : Readings) → KeepEach cells more → IsLast k cells e → IsLast k more e
last_kept k e cells more keeps h = (kept_three e.0 0 e.1 cells more h.0 keeps, h.1)

module _ {D E : Type 0} (Pad MorePad : Option ℕ → Type 0) (pad_kept : (o p : Option ℕ) → Keeps o p → Pad o → MorePad p)
    (m more : ℕ → Option ℕ) (grows : Extends m more)
    (OfDict MoreDict : Num → Readings → D → Type 0) (OfEntry MoreEntry : Num → Readings → E → Type 0)
    (dict_kept : (k : Num) (cells grown : Readings) (d : D) → KeepEach cells grown → OfDict k cells d → MoreDict k grown d)
    (entry_kept : (k : Num) (cells grown : Readings) (e : E) → KeepEach cells grown → OfEntry k cells e → MoreEntry k grown e) where
  mutual
    pub stands_kept : (ty : Ty) (cells grown : Readings) (v : Val D E) → KeepEach cells grown → Stands Pad OfDict OfEntry m ty cells v → Stands MorePad MoreDict MoreEntry more ty grown v
    stands_kept (number k) cells grown v keeps h = (h.0, kept_one h.0 cells grown h.1 keeps, h.2)
    stands_kept (nonzero k) cells grown v keeps h = (h.0, kept_one h.0 cells grown h.1 keeps, h.2)
    stands_kept range_check cells grown v keeps h = (h.0, kept_one h.0 cells grown h.1 keeps, h.2)
    stands_kept gas_builtin cells grown v keeps h = (h.0, kept_one h.0 cells grown h.1 keeps, h.2)
    stands_kept (box ty) cells grown v keeps h = (
      h.0,
      h.1,
      (
        h.2.0,
        kept_one h.2.0 cells grown h.2.1 keeps,
        stands_kept ty (cells_at m h.2.0 0 (size ty)) (cells_at more h.2.0 0 (size ty)) h.0 (keep_cells m more grows h.2.0 0 (size ty)) h.2.2,
      ),
    )
    stands_kept (array ty) cells grown v keeps h = (
      h.0,
      h.1,
      between_kept m more (Stands Pad OfDict OfEntry m ty) (Stands MorePad MoreDict MoreEntry more ty)
          (λ base k z x s. stands_kept ty (cells_at m base k z) (cells_at more base k z) x (keep_cells m more grows base k z) s)
          (size ty) cells grown h.0 keeps h.2,
    )
    stands_kept (snapshot ty) cells grown v keeps h = stands_kept ty cells grown v keeps h
    stands_kept (struct name tys) cells grown v keeps h = (h.0, h.1, together_kept tys cells grown h.0 keeps h.2)
    stands_kept (enum name tys) cells grown v keeps h = (
      h.0,
      h.1,
      h.2,
      keep_length cells grown keeps ∙ h.3,
      kept_one h.0 (take 1 cells) (take 1 grown) h.4 (keep_take 1 cells grown keeps),
      variant_kept tys h.0 (drop 1 cells) (drop 1 grown) h.1 (keep_drop 1 cells grown keeps) h.5,
    )
    stands_kept (dict k) cells grown v keeps h = (h.0, h.1, dict_kept k cells grown h.0 keeps h.2)
    stands_kept (dict_entry k) cells grown v keeps h = (h.0, h.1, entry_kept k cells grown h.0 keeps h.2)
    stands_kept (squashed_dict k) cells grown v keeps h = (
      h.0,
      h.1,
      between_kept m more (IsLast k) (IsLast k)
          (λ base j z e s. last_kept k e (cells_at m base j z) (cells_at more base j z) (keep_cells m more grows base j z) s)
          3 cells grown _ keeps h.2,
    )
    stands_kept (uninitialized ty) cells grown v keeps h = (h.0, keep_length cells grown keeps ∙ h.1)

    together_kept : (tys : Tys) (cells grown : Readings) (vs : List (Val D E)) → KeepEach cells grown → StandTogether Pad OfDict OfEntry m tys cells vs → StandTogether MorePad MoreDict MoreEntry more tys grown vs
    together_kept no_types cells grown vs keeps h = (subst (λ c. KeepEach c grown) h.0 keeps, h.1)
    together_kept (types ty tys) cells grown vs keeps h = (
      h.0,
      h.1,
      h.2,
      stands_kept ty (take (size ty) cells) (take (size ty) grown) h.0 (keep_take (size ty) cells grown keeps) h.3,
      together_kept tys (drop (size ty) cells) (drop (size ty) grown) h.1 (keep_drop (size ty) cells grown keeps) h.4,
    )

    variant_kept : (tys : Tys) (i : ℕ) (cells grown : Readings) (v : Val D E) → KeepEach cells grown → StandsVariant Pad OfDict OfEntry m tys i cells v → StandsVariant MorePad MoreDict MoreEntry more tys i grown v
    variant_kept no_types i cells grown v keeps h = absurd h
    variant_kept (types ty tys) zero cells grown v keeps h =
        let j = length cells - size ty in
        subst (λ n. AllByRecursion MorePad (take (n - size ty) grown) × Stands MorePad MoreDict MoreEntry more ty (drop (n - size ty) grown) v) (sym (keep_length cells grown keeps)) (
          keep_all Pad MorePad pad_kept (take j cells) (take j grown) (keep_take j cells grown keeps) h.0,
          stands_kept ty (drop j cells) (drop j grown) v (keep_drop j cells grown keeps) h.1,
        )
    variant_kept (types ty tys) (suc i) cells grown v keeps h = variant_kept tys i cells grown v keeps h

  pub all_kept : (tys : List Ty) (cells grown : Readings) (vs : List (Val D E)) → KeepEach cells grown → StandAll Pad OfDict OfEntry m tys cells vs → StandAll MorePad MoreDict MoreEntry more tys grown vs
  all_kept [] cells grown vs keeps h = (subst (λ c. KeepEach c grown) h.0 keeps, h.1)
  all_kept (ty ∷ tys) cells grown vs keeps h = (
    h.0,
    h.1,
    h.2,
    stands_kept ty (take (size ty) cells) (take (size ty) grown) h.0 (keep_take (size ty) cells grown keeps) h.3,
    all_kept tys (drop (size ty) cells) (drop (size ty) grown) h.1 (keep_drop (size ty) cells grown keeps) h.4,
  )
