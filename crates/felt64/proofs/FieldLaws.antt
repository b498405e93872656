-- The field's numbers are a commutative ring under `sum`, `product` and `negative`.
use Rattle.std.proofs.Common.{ℕ, ◌≡◌, ◌<◌, ◌≤◌, ◌+◌, ◌*◌, ◌-◌, ◌%◌, sym, ◌∙◌, ap, arith}
use Rattle.std.proofs.Math.Nat.{mod-eq_of_lt, mod-mod, mod-add-mod, add-mod-mod, mod_self, add_comm, add_assoc, mul_comm, mul_assoc, mul-add}
use Rattle.std.proofs.lemmas.Nat.{mul-mod_first, mul-mod_second}
use Rattle.felt64.specs.Field.{modulus, sum, difference, product, negative}

-- every remainder is a number of the field
pub remainder_below : (n : ℕ) → n % modulus < modulus
remainder_below n = omega arith

-- a number of the field is its own remainder
pub remainder_same : (n : ℕ) → n < modulus → n % modulus ≡ n
remainder_same n below = mod-eq_of_lt below

-- a remainder's remainder is itself
pub remainder_again : (n : ℕ) → n % modulus % modulus ≡ n % modulus
remainder_again n = mod-mod n modulus

-- every sum is a number of the field
pub sum_below : (a b : ℕ) → sum a b < modulus
sum_below a b = remainder_below (a + b)

-- every difference is a number of the field
pub difference_below : (a b : ℕ) → difference a b < modulus
difference_below a b = remainder_below (a + (modulus - b))

-- every product is a number of the field
pub product_below : (a b : ℕ) → product a b < modulus
product_below a b = remainder_below (a * b)

-- every negative is a number of the field
pub negative_below : (a : ℕ) → negative a < modulus
negative_below a = remainder_below (modulus - a)

-- a remainder on the left of a sum can be dropped
pub sum-remainder_left : (a b : ℕ) → sum (a % modulus) b ≡ sum a b
sum-remainder_left a b = mod-add-mod a modulus b

-- a remainder on the right of a sum can be dropped
pub sum-remainder_right : (a b : ℕ) → sum a (b % modulus) ≡ sum a b
sum-remainder_right a b = add-mod-mod a b modulus

-- a remainder on the left of a product can be dropped
pub product-remainder_left : (a b : ℕ) → product (a % modulus) b ≡ product a b
product-remainder_left a b = mul-mod_first a b modulus

-- a remainder on the right of a product can be dropped
pub product-remainder_right : (a b : ℕ) → product a (b % modulus) ≡ product a b
product-remainder_right a b = mul-mod_second a b modulus

-- a sum's terms change places
pub sum_comm : (a b : ℕ) → sum a b ≡ sum b a
sum_comm a b = ap (λ n. n % modulus) (add_comm a b)

-- a sum's brackets move
pub sum_assoc : (a b c : ℕ) → sum (sum a b) c ≡ sum a (sum b c)
sum_assoc a b c =
    sum-remainder_left (a + b) c ∙ (ap (λ n. n % modulus) (add_assoc a b c) ∙ sym (sum-remainder_right a (b + c)))

-- 0 on the right adds nothing
pub sum-zero : (a : ℕ) → a < modulus → sum a 0 ≡ a
sum-zero a below = omega arith

-- 0 on the left adds nothing
pub zero-sum : (a : ℕ) → a < modulus → sum 0 a ≡ a
zero-sum a below = omega arith

-- a number and its negative cancel
pub sum-negative_right : (a : ℕ) → a < modulus → sum a (negative a) ≡ 0
sum-negative_right a below = omega arith

-- a negative and its number cancel
pub sum-negative_left : (a : ℕ) → a < modulus → sum (negative a) a ≡ 0
sum-negative_left a below = omega arith

-- 0 is its own negative
pub negative-zero : negative 0 ≡ 0
negative-zero = mod_self modulus

-- the negative of a negative is the number
pub negative-negative : (a : ℕ) → a < modulus → negative (negative a) ≡ a
negative-negative a below = omega arith

-- a product's factors change places
pub product_comm : (a b : ℕ) → product a b ≡ product b a
product_comm a b = ap (λ n. n % modulus) (mul_comm a b)

-- a product's brackets move
pub product_assoc : (a b c : ℕ) → product (product a b) c ≡ product a (product b c)
product_assoc a b c =
    product-remainder_left (a * b) c
    ∙ (ap (λ n. n % modulus) (mul_assoc a b c) ∙ sym (product-remainder_right a (b * c)))

-- 1 on the right multiplies nothing
pub product-one : (a : ℕ) → a < modulus → product a 1 ≡ a
product-one a below = omega arith

-- 1 on the left multiplies nothing
pub one-product : (a : ℕ) → a < modulus → product 1 a ≡ a
one-product a below = omega arith

-- 0 on the right leaves 0
pub product-zero : (a : ℕ) → product a 0 ≡ 0
product-zero a = omega arith

-- 0 on the left leaves 0
pub zero-product : (a : ℕ) → product 0 a ≡ 0
zero-product a = omega arith

-- a product with a sum is a sum of products
pub product-sum : (a b c : ℕ) → product a (sum b c) ≡ sum (product a b) (product a c)
product-sum a b c =
    product-remainder_right a (b + c)
    ∙ (ap (λ n. n % modulus) (mul-add a b c)
    ∙ (sym (sum-remainder_left (a * b) (a * c)) ∙ sym (sum-remainder_right (product a b) (a * c))))

-- a sum times a number is a sum of products
pub product-sum_left : (a b c : ℕ) → product (sum a b) c ≡ sum (product a c) (product b c)
product-sum_left a b c =
    product_comm (sum a b) c
    ∙ (product-sum c a b ∙ (ap (λ n. sum n (product c b)) (product_comm c a) ∙ ap (sum (product a c)) (product_comm c b)))

-- equal terms on the left of two sums cancel
pub sum_cancel_left : (a b c : ℕ) → b < modulus → c < modulus → sum a b ≡ sum a c → b ≡ c
sum_cancel_left a b c b_below c_below same = omega arith

-- equal terms on the right of two sums cancel
pub sum_cancel_right : (a b c : ℕ) → a < modulus → b < modulus → sum a c ≡ sum b c → a ≡ b
sum_cancel_right a b c a_below b_below same = omega arith

-- a difference is a sum with the negative
pub difference_is_sum : (a b : ℕ) → difference a b ≡ sum a (negative b)
difference_is_sum a b = sym (sum-remainder_right a (modulus - b))

-- a number less itself is 0
pub difference_same : (a : ℕ) → a < modulus → difference a a ≡ 0
difference_same a below = omega arith

-- a difference is 0 at equal numbers only
pub difference_zero_only : (a b : ℕ) → a < modulus → b < modulus → difference a b ≡ 0 → a ≡ b
difference_zero_only a b a_below b_below none = omega arith

-- what is added and then taken away leaves the number
pub difference-sum : (a b : ℕ) → a < modulus → b < modulus → difference (sum a b) b ≡ a
difference-sum a b a_below b_below = omega arith

-- what is taken away and then added leaves the number
pub sum-difference : (a b : ℕ) → a < modulus → b < modulus → sum (difference a b) b ≡ a
sum-difference a b a_below b_below = omega arith

-- the negative of a sum is the sum of the negatives
pub negative-sum : (a b : ℕ) → a < modulus → b < modulus → negative (sum a b) ≡ sum (negative a) (negative b)
negative-sum a b a_below b_below = omega arith

-- a sum that stays below P
pub sum_exact : (a b : ℕ) → a + b < modulus → sum a b ≡ a + b
sum_exact a b below = omega arith

-- a difference that stays at 0 or above
pub difference_exact : (a b : ℕ) → a < modulus → b ≤ a → difference a b ≡ a - b
difference_exact a b below within = omega arith

-- a product that stays below P
pub product_exact : (a b : ℕ) → a * b < modulus → product a b ≡ a * b
product_exact a b below = remainder_same (a * b) below

-- the negative of a number above 0
pub negative_exact : (a : ℕ) → 0 < a → negative a ≡ modulus - a
negative_exact a above = omega arith

-- one term of a sum is what the sum and the other term differ by
pub difference_from_sum : (a b c : ℕ) → a < modulus → b < modulus → sum a b ≡ c → a ≡ difference c b
difference_from_sum a b c a_below b_below same = omega arith

-- what a sum with a number is 0 at is the number's negative
pub negative_from_sum : (a b : ℕ) → a < modulus → b < modulus → sum a b ≡ 0 → b ≡ negative a
negative_from_sum a b a_below b_below none = omega arith

-- a negative factor gives the product's negative
pub product-negative : (a b : ℕ) → b < modulus → product a (negative b) ≡ negative (product a b)
product-negative a b below =
    negative_from_sum (product a b) (product a (negative b)) (product_below a b) (product_below a (negative b))
    (sym (product-sum a b (negative b)) ∙ (ap (product a) (sum-negative_right b below) ∙ product-zero a))

-- a product with a difference is a difference of products
pub product-difference : (a b c : ℕ) → c < modulus → product a (difference b c) ≡ difference (product a b) (product a c)
product-difference a b c below =
    ap (product a) (difference_is_sum b c)
    ∙ (product-sum a b (negative c)
    ∙ (ap (sum (product a b)) (product-negative a c below) ∙ sym (difference_is_sum (product a b) (product a c))))

-- for `simp`: drops each remainder inside a sum or a product
pub ruleset inner_remainders = (sum-remainder_left, sum-remainder_right, product-remainder_left, product-remainder_right, remainder_again)

-- for `grind`, and for `using` at a function: what the results are below, and the laws that need no premise
pub ruleset field = (remainder_below, sum_comm, sum_assoc, product_comm, product_assoc, product-sum, product-sum_left, sum-remainder_left, sum-remainder_right, product-remainder_left, product-remainder_right)
