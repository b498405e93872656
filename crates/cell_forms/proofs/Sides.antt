-- Values side by side: those of types one behind another.
use Rattle.std.proofs.Common.{◌≡◌, ℕ, ◌+◌, ◌≤◌, Option, List, [], ◌∷◌, ◌++◌, take, drop, length, refl, sym, ap, ◌∙◌, subst, arith, length-take, length-drop, drop-drop}
use Rattle.std.specs.List.{sum_by}
use Rattle.std.proofs.lemmas.List.{take-append-le, drop-append-le, take-take, drop-take}
use Rattle.std.proofs.lemmas.List.Sums.{sum_by-cons}
use Rattle.ro_machine.specs.Readings.{Readings}
use Rattle.type_trees.specs.Ty.{Ty, size}
use Rattle.type_trees.specs.declared.num.Num.{Num}
use Rattle.value_trees.specs.Val.{Val}
use Rattle.cell_forms.specs.Stands.{Stands, StandAll}
use Rattle.cell_forms.proofs.Sizes.{stands_long}

-- a prefix of this length is in the list
prefix_within : (n : ℕ) (cells : Readings) → length (take n cells) ≡ n → n ≤ length cells
prefix_within n cells h = omega (arith, h, length-take n cells)

module _ {D E : Type 0} (Pad : Option ℕ → Type 0) (OfDict : Num → Readings → D → Type 0) (OfEntry : Num → Readings → E → Type 0) (m : ℕ → Option ℕ)
    (dict_long : (k : Num) (cells : Readings) (d : D) → OfDict k cells d → length cells ≡ 2)
    (entry_long : (k : Num) (cells : Readings) (e : E) → OfEntry k cells e → length cells ≡ 2) where
  abbrev pub Standing : Ty → Readings → Val D E → Type 0
  Standing ty cells v = Stands Pad OfDict OfEntry m ty cells v

  abbrev pub AllStanding : List Ty → Readings → List (Val D E) → Type 0
  AllStanding tys cells vs = StandAll Pad OfDict OfEntry m tys cells vs

  first_within : (ty : Ty) (cells : Readings) (v : Val D E) → Standing ty (take (size ty) cells) v → size ty ≤ length cells
  first_within ty cells v h = prefix_within (size ty) cells (stands_long Pad OfDict OfEntry m dict_long entry_long ty (take (size ty) cells) v h)

  pub all_long : (tys : List Ty) (cells : Readings) (vs : List (Val D E)) → AllStanding tys cells vs → length cells ≡ sum_by size tys
  all_long [] cells vs h = ap length h.0
  all_long (ty ∷ tys) cells vs h =
      let within = first_within ty cells h.0 h.3 in
      let rest = all_long tys (drop (size ty) cells) h.1 h.4 in
      omega (arith, within, rest, length-drop (size ty) cells, sum_by-cons size ty tys)

  -- put together
  pub all_of_both : (ts us : List Ty) (cells more : Readings) (vs ws : List (Val D E))
      → AllStanding ts cells vs → AllStanding us more ws → AllStanding (ts ++ us) (cells ++ more) (vs ++ ws)
  all_of_both [] us cells more vs ws h k =
      subst (λ c. AllStanding us (c ++ more) (vs ++ ws)) (sym h.0) (subst (λ xs. AllStanding us more (xs ++ ws)) (sym h.1) k)
  all_of_both (ty ∷ ts) us cells more vs ws h k =
      let within = first_within ty cells h.0 h.3 in
      let rest = all_of_both ts us (drop (size ty) cells) more h.1 ws h.4 k in (
        h.0,
        h.1 ++ ws,
        ap (λ xs. xs ++ ws) h.2,
        subst (λ c. Standing ty c h.0) (sym (take-append-le (size ty) cells more within)) h.3,
        subst (λ c. AllStanding (ts ++ us) c (h.1 ++ ws)) (sym (drop-append-le (size ty) cells more within)) rest,
      )

  -- taken apart
  pub both_of_all : (ts us : List Ty) (cells : Readings) (xs : List (Val D E)) → AllStanding (ts ++ us) cells xs
      → (vs ws : List (Val D E)) × (xs ≡ vs ++ ws) × AllStanding ts (take (sum_by size ts) cells) vs × AllStanding us (drop (sum_by size ts) cells) ws
  both_of_all [] us cells xs h = ([], xs, refl, (refl, refl), h)
  both_of_all (ty ∷ ts) us cells xs h =
      let rest = both_of_all ts us (drop (size ty) cells) h.1 h.4 in
      let many : sum_by size (ty ∷ ts) ≡ size ty + sum_by size ts = sum_by-cons size ty ts in
      let low : size ty ≤ size ty + sum_by size ts = omega arith in (
        h.0 ∷ rest.0,
        rest.1,
        h.2 ∙ ap (λ ys. h.0 ∷ ys) rest.2,
        (
          h.0,
          rest.0,
          refl,
          subst (λ c. Standing ty c h.0) (sym (ap (λ n. take (size ty) (take n cells)) many ∙ take-take (size ty) (size ty + sum_by size ts) cells low)) h.3,
          subst (λ c. AllStanding ts c rest.0) (sym (drop-take (size ty) (sum_by size ts) cells) ∙ ap (λ n. drop (size ty) (take n cells)) (sym many)) rest.3,
        ),
        subst (λ c. AllStanding us c rest.1) (drop-drop (sum_by size ts) (size ty) cells ∙ ap (λ n. drop n cells) (sym many)) rest.4,
      )
