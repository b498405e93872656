-- Rows as one list: how many they are, one of them, and one more at the end.
use Rattle.std.proofs.Common.{◌≡◌, ℕ, zero, suc, ◌+◌, ◌-◌, ◌<◌, ◌≤◌, List, [], ◌∷◌, ◌++◌, length, take, drop, get_or, refl, ap, ◌∙◌, arith, length-drop}
use Rattle.std.specs.Prelude.{slice_range}
use Rattle.std.proofs.lemmas.List.{drop_at, drop-append-le, take-append-le, take_all}
use Rattle.least_needs.specs.Rows.{rows, EndAt}

pub length-rows : {A : Type 0} → (start : ℕ) (ends : List ℕ) (items : List A) → length (rows start ends items) ≡ length ends
length-rows start [] items = refl
length-rows start (end ∷ ends) items = ap suc (length-rows end ends items)

pub row_at : {A : Type 0} → (start : ℕ) (ends : List ℕ) (items : List A) (n : ℕ) → n < length ends → slice_range items (get_or (start ∷ ends) n 0) (get_or ends n 0) ≡ get_or (rows start ends items) n []
row_at start [] items n lt = absurd (omega arith)
row_at start (end ∷ ends) items zero lt = refl
row_at start (end ∷ ends) items (suc n) lt = row_at end ends items n (omega arith)

pub start_within : (start : ℕ) (ends : List ℕ) (total : ℕ) → EndAt start ends total → start ≤ total
start_within start [] total at = omega (arith, at)
start_within start (end ∷ ends) total at = omega (arith, at.0, start_within end ends total at.1)

pub row_rises : (start : ℕ) (ends : List ℕ) (total n : ℕ) → EndAt start ends total → n < length ends → get_or (start ∷ ends) n 0 ≤ get_or ends n 0
row_rises start [] total n at lt = absurd (omega arith)
row_rises start (end ∷ ends) total zero at lt = at.0
row_rises start (end ∷ ends) total (suc n) at lt = row_rises end ends total n at.1 (omega arith)

pub row_within : (start : ℕ) (ends : List ℕ) (total n : ℕ) → EndAt start ends total → n < length ends → get_or ends n 0 ≤ total
row_within start [] total n at lt = absurd (omega arith)
row_within start (end ∷ ends) total zero at lt = start_within end ends total at.1
row_within start (end ∷ ends) total (suc n) at lt = row_within end ends total n at.1 (omega arith)

-- one list more

pub EndAt-push : (start : ℕ) (ends : List ℕ) (total end more : ℕ) → EndAt start ends total → total ≤ end → end ≡ more → EndAt start (ends ++ end ∷ []) more
EndAt-push start [] total end more at le is = (omega (arith, at), is)
EndAt-push start (first ∷ ends) total end more at le is = (at.0, EndAt-push first ends total end more at.1 le is)

slice_range-append : {A : Type 0} → (items added : List A) (start end : ℕ) → start ≤ end → end ≤ length items → slice_range (items ++ added) start end ≡ slice_range items start end
slice_range-append items added start end le within =
    ap (take (end - start)) (drop-append-le start items added (omega arith))
    ∙ take-append-le (end - start) (drop start items) added (omega (arith, length-drop start items))

slice_range-added : {A : Type 0} → (items added : List A) (end : ℕ) → end ≡ length items + length added → slice_range (items ++ added) (length items) end ≡ added
slice_range-added items added end is =
    ap (take (end - length items)) (drop_at items added (length items) refl)
    ∙ take_all (end - length items) added (omega arith)

pub rows-push : {A : Type 0} → (start : ℕ) (ends : List ℕ) (items added : List A) (end : ℕ) → EndAt start ends (length items) → end ≡ length items + length added → rows start (ends ++ end ∷ []) (items ++ added) ≡ rows start ends items ++ added ∷ []
rows-push start [] items added end at is = rw at (ap (λ row. row ∷ []) (slice_range-added items added end is))
rows-push start (first ∷ ends) items added end at is =
    rw (slice_range-append items added start first at.0 (start_within first ends (length items) at.1))
    (ap (λ more. slice_range items start first ∷ more) (rows-push first ends items added end at.1 is))
