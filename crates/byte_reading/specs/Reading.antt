-- Readings of bytes: values that stand one behind the other, or the first fault.
use Rattle.std.specs.Prelude.{◌≡◌, ◌≢◌, ℕ, zero, suc, ◌+◌, List, [], ◌∷◌, length, take, drop, Result, Ok, Err, nat_lt, if◌then◌else◌}
use Rattle.std.specs.Int.{w64, from_le_bytes}

-- an offset, and the bytes from there on
pub record Place : Type 0 where
  pub at : ℕ
  pub rest : List ℕ

-- a reading, and what goes on from its value; a fault ends it
infixl 10 ◌>>=◌
abbrev pub ◌>>=◌ : {A B E : Type 0} → Result A E → (A → Result B E) → Result B E
(Ok x) >>= f = f x
(Err e) >>= f = Err e

-- What a function returned, seen by view, is what the reading gives, unless memory ran out.
abbrev pub Gives : {X Y E : Type 0} → E → (X → Y) → Result X E → Result Y E → Type 0
Gives memory view (Ok x) reading = reading ≡ Ok (view x)
Gives memory view (Err e) reading = e ≢ memory → reading ≡ Err e

-- a number of eight bytes, the least significant first; if fewer are left it is cut, at the end of the bytes
abbrev pub number_at : {E : Type 0} → (ℕ → E) → Place → Result (ℕ × Place) E
number_at cut p =
    if nat_lt (length p.rest) 8 then Err (cut (p.at + length p.rest))
    else Ok (from_le_bytes w64 (take 8 p.rest), record { at = p.at + 8; rest = drop 8 p.rest })

-- so many items; what may come after an item may depend on it
unfoldable pub counted : {S A E : Type 0} → (S → Place → Result (A × Place) E) → (A → S) → S → ℕ → Place → Result (List A × Place) E
counted item after state zero p = Ok ([], p)
counted item after state (suc n) p = do
  first ← item state p
  others ← counted item after (after first.0) n first.1
  Ok (first.0 ∷ others.0, others.1)

-- each item may stand where it does
abbrev pub InTurn : {S A : Type 0} → (S → A → Type 0) → (A → S) → S → List A → Type 0
InTurn Fits after state [] = Unit {0}
InTurn Fits after state (x ∷ xs) = Fits state x × InTurn Fits after (after x) xs
