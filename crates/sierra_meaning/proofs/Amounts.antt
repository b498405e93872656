-- Numbers that fall from statement to statement.
use Rattle.std.proofs.Common.{◌≡◌, ◌⊎◌, inl, inr, ℕ, ◌+◌, ◌*◌, ◌-◌, ◌<◌, ◌≤◌, arith}
use Rattle.std.proofs.Math.Nat.{mul-le-mul_left, mul-add}

-- what was paid for counts less
pub pays : (k l a b : ℕ) → k ≡ l + 1 → a + 1 ≤ b → k * a + l + 1 ≤ k * b
pays k l a b is le = let times = mul-le-mul_left k le in omega arith

-- from a statement to the next one
pub falls : (l a b c s t : ℕ) → s < l → t < l → c + a ≤ b → ((c ≡ 0) × (t ≡ s + 1)) ⊎ (10 ≤ c) → (l + 1) * a + (l - t) < (l + 1) * b + (l - s)
falls l a b c s t one two le (inl free) = let times : (l + 1) * a ≤ (l + 1) * b = mul-le-mul_left (l + 1) (omega arith) in omega arith
falls l a b c s t one two le (inr some) = let times = pays (l + 1) l a b (omega arith) (omega arith) in omega arith

-- Behind a call, which was charged 100: x is what the callee began with, g the gas that it gave, y what waited and what the
-- next statement is worth. z is no more than g and y together.
pub falls_behind : (l n g x y z w s e t : ℕ) → t < l → 100 + x + y ≤ w → z ≤ g + y → n + (l + 1) * g ≤ (l + 1) * x + (l - e)
    → n + ((l + 1) * z + (l - t)) < (l + 1) * w + (l - s)
falls_behind l n g x y z w s e t one le within light =
    let sum : (l + 1) * z ≤ (l + 1) * (g + y) = mul-le-mul_left (l + 1) within in
    let split = mul-add (l + 1) g y in
    let joined = mul-add (l + 1) x y in
    let first = pays (l + 1) l (x + y) (x + y + 1) (omega arith) (omega arith) in
    let second = pays (l + 1) l (x + y + 1) w (omega arith) (omega arith) in
    omega arith

-- into a call, which was charged 100: x is what the callee begins with, y what waits and what the next statement is worth
pub call_falls : (l x y w s e t : ℕ) → 100 + x + y ≤ w → ((l + 1) * x + (l - e)) + ((l + 1) * y + (l - t)) < (l + 1) * w + (l - s)
call_falls l x y w s e t le =
    let split = mul-add (l + 1) x y in
    let first = pays (l + 1) l (x + y) (x + y + 1) (omega arith) (omega arith) in
    let second = pays (l + 1) l (x + y + 1) w (omega arith) (omega arith) in
    omega arith

-- back to a caller: v is the gas of the results, y what waited and what the next statement is worth
pub return_falls : (l z v y w s t : ℕ) → z ≤ v + y → v + 100 ≤ w → (l + 1) * z + (l - t) < ((l + 1) * w + (l - s)) + ((l + 1) * y + (l - t))
return_falls l z v y w s t one two =
    let sum : (l + 1) * z ≤ (l + 1) * (v + y) = mul-le-mul_left (l + 1) one in
    let split = mul-add (l + 1) v y in
    let more = pays (l + 1) l v w (omega arith) (omega arith) in
    omega arith
