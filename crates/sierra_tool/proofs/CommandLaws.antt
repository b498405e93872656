-- One to four arguments.
use Rattle.std.proofs.Common.{◌≡◌, ◌↔◌, ◌<◌, ◌≤◌, ◌-◌, ◌^◌, ℕ, List, [], ◌∷◌, length, get_or, Bool, Result, Ok, Err, refl, ap, arith}
use Rattle.std.specs.Prelude.{IsTrue}
use Rattle.std.specs.Result.{is_ok}
use Rattle.byte_reading.specs.Decimal.{decimal_text}
use Rattle.byte_reading.specs.declared.decimal.DecimalFault.{DecimalFault}

-- a list of so many is its items
pub one : {A : Type 0} (xs : List A) (a : A) → 1 ≤ length xs → length xs < 2 → a ≡ get_or xs 0 a → xs ≡ a ∷ []
one [] a least most p = absurd (omega arith)
one (w ∷ []) a least most p = cc
one (v ∷ w ∷ xs) a least most p = absurd (omega arith)

pub two : {A : Type 0} (xs : List A) (a b : A) → 2 ≤ length xs → length xs < 3 → a ≡ get_or xs 0 a → b ≡ get_or xs 1 b → xs ≡ a ∷ b ∷ []
two [] a b least most p q = absurd (omega arith)
two (w ∷ []) a b least most p q = absurd (omega arith)
two (w ∷ x ∷ []) a b least most p q = cc
two (v ∷ w ∷ x ∷ xs) a b least most p q = absurd (omega arith)

pub three : {A : Type 0} (xs : List A) (a b c : A) → 3 ≤ length xs → length xs < 4 → a ≡ get_or xs 0 a → b ≡ get_or xs 1 b → c ≡ get_or xs 2 c → xs ≡ a ∷ b ∷ c ∷ []
three [] a b c least most p q r = absurd (omega arith)
three (w ∷ []) a b c least most p q r = absurd (omega arith)
three (w ∷ x ∷ []) a b c least most p q r = absurd (omega arith)
three (w ∷ x ∷ y ∷ []) a b c least most p q r = cc
three (v ∷ w ∷ x ∷ y ∷ xs) a b c least most p q r = absurd (omega arith)

pub four : {A : Type 0} (xs : List A) (a b c d : A) → 4 ≤ length xs → length xs < 5 → a ≡ get_or xs 0 a → b ≡ get_or xs 1 b → c ≡ get_or xs 2 c → d ≡ get_or xs 3 d → xs ≡ a ∷ b ∷ c ∷ d ∷ []
four [] a b c d least most p q r s = absurd (omega arith)
four (w ∷ []) a b c d least most p q r s = absurd (omega arith)
four (w ∷ x ∷ []) a b c d least most p q r s = absurd (omega arith)
four (w ∷ x ∷ y ∷ []) a b c d least most p q r s = absurd (omega arith)
four (w ∷ x ∷ y ∷ z ∷ []) a b c d least most p q r s = cc
four (v ∷ w ∷ x ∷ y ∷ z ∷ xs) a b c d least most p q r s = absurd (omega arith)

-- a text that was read as a number below 2 ^ 64 is its digits, and no other was
pub is_a_number : (text : List ℕ) (read : Result ℕ DecimalFault) (ok : Bool) → ok ≡ is_ok read → ((n : ℕ) → (read ≡ Ok n) ↔ ((n ≤ 2 ^ 64 - 1) × (text ≡ decimal_text n)))
    → IsTrue ok ↔ ((number : ℕ) × (number < 2 ^ 64) × (text ∷ [] ≡ decimal_text number ∷ []))
is_a_number text (Ok n) ok is number = (λ yes. let h = (number n).0 refl in (n, omega (arith, h.0), ap (λ x. x ∷ []) h.1), λ h. is)
is_a_number text (Err fault) ok is number = (λ yes. absurd (cc (yes, is)), λ h. let read = (number h.0).1 (omega (arith, h.1), ap (λ xs. get_or xs 0 []) h.2) in absurd (cc (read)))
