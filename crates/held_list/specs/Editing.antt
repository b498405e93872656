-- Taking variables out, adding variables, and the least variable that differs.
use Rattle.std.specs.Prelude.{ℕ, ◌==◌, nat_lt, min, Bool, ◌&&◌, List, [], ◌∷◌, Option, Some, None, Result, Ok, Err, option_map, if◌then◌else◌}
use Rattle.std.specs.Result.{result_map_both}
use Rattle.held_list.specs.Held.{Held}

-- the payload of a variable, and what stays held without it
abbrev pub take : {A : Type 0} → ℕ → Held A → Option (A × Held A)
take v [] = None
take v (x ∷ xs) = if v == x.0 then Some (x.1, xs) else option_map (λ taken. (taken.0, x ∷ taken.1)) (take v xs)

-- one variable more, at its place; None where it is held already
abbrev pub add : {A : Type 0} → ℕ → A → Held A → Option (Held A)
add v a [] = Some ((v, a) ∷ [])
add v a (x ∷ xs) =
    if nat_lt v x.0 then Some ((v, a) ∷ x ∷ xs) else (if v == x.0 then None else option_map (λ more. x ∷ more) (add v a xs))

-- the least variable that only one of the two holds, or that has payloads which aren't equal
abbrev pub differ : {A : Type 0} → (A → A → Bool) → Held A → Held A → Option ℕ
differ eq [] [] = None
differ eq [] (y ∷ ys) = Some y.0
differ eq (x ∷ xs) [] = Some x.0
differ eq (x ∷ xs) (y ∷ ys) = if (x.0 == y.0) && eq x.1 y.1 then differ eq xs ys else Some (min x.0 y.0)

-- goes on with what is there, or stops
abbrev pub or_stop : {A B F : Type 0} → Option A → F → (A → Result B F) → Result B F
or_stop None fault next = Err fault
or_stop (Some a) fault next = next a

-- the payloads of these variables, taken one after another, and what stays held; or the first that isn't held then
abbrev pub take_all : {A : Type 0} → List ℕ → Held A → Result (List A × Held A) ℕ
take_all [] held = Ok ([], held)
take_all (v ∷ vs) held =
    or_stop (take v held) v (λ taken. result_map_both (λ others. (taken.0 ∷ others.0, others.1)) (λ missing. missing) (take_all vs taken.1))

-- these variables added one after another; or the first that is held already then
abbrev pub add_all : {A : Type 0} → List (ℕ × A) → Held A → Result (Held A) ℕ
add_all [] held = Ok held
add_all (x ∷ xs) held = or_stop (add x.0 x.1 held) x.0 (add_all xs)
