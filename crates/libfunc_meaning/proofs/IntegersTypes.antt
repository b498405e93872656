-- Integers: there is an answer, of the types of its branch.
use Rattle.std.proofs.Common.{◌≡◌, ◌≢◌, ℕ, ◌+◌, ◌-◌, ◌*◌, ◌/◌, ◌%◌, ◌<◌, ◌≤◌, ◌^◌, ◌==◌, List, [], ◌∷◌, refl, sym, subst, arith, nat_lt, nat_le, slice_get, Some}
use Rattle.std.proofs.lemmas.Bool.Decides.{nat_tests}
use Rattle.std.proofs.lemmas.Nat.{mul-lt}
use Rattle.std.proofs.Math.Nat.{div-le_self}
use Rattle.type_trees.specs.Ty.{number, nonzero, range_check}
use Rattle.type_trees.specs.declared.num.Num.{Num}
use Rattle.type_trees.specs.declared.num.Num.TheVariants as nums
use Rattle.libfunc_registry.specs.declared.width.Width.{Width}
use Rattle.libfunc_registry.specs.declared.width.Width.TheVariants as widths
use Rattle.libfunc_registry.specs.Arguments.{bits, num_of}
use Rattle.libfunc_registry.specs.Integers.{IntegersFam, to_felt64, try_from_felt64, overflowing_add, overflowing_sub, wide_mul, split_mul, safe_divmod, eq, upcast, downcast, num_of_double, integers_takes, integers_gives, felt}
use Rattle.libfunc_registry.specs.Integers as registry
use Rattle.felt64.specs.Field.{modulus}
use Rattle.value_trees.specs.Of.{AllOf, IsOf, bound}
use Rattle.value_trees.specs.Val.{Val}
use Rattle.value_trees.specs.Val as val
use Rattle.libfunc_meaning.specs.Answers.{branch}
use Rattle.libfunc_meaning.specs.Integers.{integers_does, limit, int, added, subtracted, narrowed}
use Rattle.libfunc_meaning.specs.Proper.{IsProperIntegers}
use Rattle.libfunc_meaning.proofs.Typed.{IsAnswered, at_one, at_two, at_three, at_number, at_nonzero, at_test, gives_none, gives_one, gives_two, gives_three}

-- a width's integers are the numbers of its type
pub width_bound : (w : Width) → bound (num_of w) ≡ limit w
width_bound widths.W8 = refl
width_bound widths.W16 = refl
width_bound widths.W32 = refl

pub within : (w : Width) (n : ℕ) → n < limit w → n < bound (num_of w)
within w n h = subst (λ m. n < m) (sym (width_bound w)) h

pub within_limit : (w : Width) (n : ℕ) → n < bound (num_of w) → n < limit w
within_limit w n h = subst (λ m. n < m) (width_bound w) h

pub in_field : (w : Width) (n : ℕ) → n < bound (num_of w) → n < modulus
in_field widths.W8 n h = omega arith
in_field widths.W16 n h = omega arith
in_field widths.W32 n h = omega arith

pub as_wide : (a b : Width) (n : ℕ) → bits a ≤ bits b → n < bound (num_of a) → n < bound (num_of b)
as_wide widths.W8 widths.W8 n wide h = h
as_wide widths.W8 widths.W16 n wide h = omega arith
as_wide widths.W8 widths.W32 n wide h = omega arith
as_wide widths.W16 widths.W8 n wide h = absurd (omega arith)
as_wide widths.W16 widths.W16 n wide h = h
as_wide widths.W16 widths.W32 n wide h = omega arith
as_wide widths.W32 widths.W8 n wide h = absurd (omega arith)
as_wide widths.W32 widths.W16 n wide h = absurd (omega arith)
as_wide widths.W32 widths.W32 n wide h = h

pub wide_product : (w : Width) (a b : ℕ) → w ≢ widths.W32 → a < bound (num_of w) → b < bound (num_of w) → a * b < bound (num_of_double w)
wide_product widths.W8 a b narrow a_below b_below = mul-lt a b (2 ^ 8) (2 ^ 8) a_below b_below
wide_product widths.W16 a b narrow a_below b_below = mul-lt a b (2 ^ 16) (2 ^ 16) a_below b_below
wide_product widths.W32 a b narrow a_below b_below = absurd (narrow refl)

pub high_half : (a b : ℕ) → a < 2 ^ 32 → b < 2 ^ 32 → (a * b) / (2 ^ 32) < 2 ^ 32
high_half a b a_below b_below = let below : a * b < (2 ^ 32) * (2 ^ 32) = mul-lt a b (2 ^ 32) (2 ^ 32) a_below b_below in omega arith

pub sum_less : (w : Width) (a b : ℕ) → a < limit w → b < limit w → (a + b) - limit w < limit w
sum_less w a b a_below b_below = omega arith

pub quotient : (w : Width) (a b : ℕ) → a < bound (num_of w) → a / b < bound (num_of w)
quotient w a b below = let less : a / b ≤ a = div-le_self a b in omega arith

pub remainder : (w : Width) (a b : ℕ) → b < bound (num_of w) → b ≢ 0 → a % b < bound (num_of w)
remainder w a b below other = omega arith

module _ {D E : Type 0} (OfDict : Num → D → Type 0) (OfEntry : Num → E → Type 0) where
  abbrev Does : IntegersFam → List (Val D E) → Type 0
  Does fam vs = IsAnswered OfDict OfEntry (integers_gives fam) (integers_does fam vs)

  abbrev Holds : Num → Val D E → Type 0
  Holds k v = IsOf OfDict OfEntry (number k) v

  -- two numbers of one type behind the token of range checks
  checked_two : (fam : IntegersFam) (k : Num) (vs : List (Val D E)) → AllOf OfDict OfEntry (range_check ∷ number k ∷ number k ∷ []) vs
      → ((rc : Val D E) (a b : ℕ) → rc ≡ val.check → a < bound k → b < bound k → Does fam (rc ∷ val.number k a ∷ val.number k b ∷ [])) → Does fam vs
  checked_two fam k vs h p =
      at_three OfDict OfEntry (Does fam) range_check (number k) (number k) vs h (λ rc v u rc_is v_is u_is.
      at_number OfDict OfEntry (λ x. Does fam (rc ∷ x ∷ u ∷ [])) k v v_is (λ a a_below.
      at_number OfDict OfEntry (λ x. Does fam (rc ∷ val.number k a ∷ x ∷ [])) k u u_is (λ b b_below. p rc a b rc_is a_below b_below)))

  two : (fam : IntegersFam) (k : Num) (vs : List (Val D E)) → AllOf OfDict OfEntry (number k ∷ number k ∷ []) vs
      → ((a b : ℕ) → a < bound k → b < bound k → Does fam (val.number k a ∷ val.number k b ∷ [])) → Does fam vs
  two fam k vs h p =
      at_two OfDict OfEntry (Does fam) (number k) (number k) vs h (λ v u v_is u_is.
      at_number OfDict OfEntry (λ x. Does fam (x ∷ u ∷ [])) k v v_is (λ a a_below.
      at_number OfDict OfEntry (λ x. Does fam (val.number k a ∷ x ∷ [])) k u u_is (λ b b_below. p a b a_below b_below)))

  -- a result of a width behind the token of range checks, in a branch
  checked_int : (tyss : _) (k : ℕ) (w : Width) (rc : Val D E) (n : ℕ) → slice_get tyss k ≡ Some (range_check ∷ registry.int w ∷ []) → rc ≡ val.check → n < limit w
      → IsAnswered OfDict OfEntry tyss (branch k (rc ∷ int w n ∷ []))
  checked_int tyss k w rc n there is below = gives_two OfDict OfEntry tyss k range_check (registry.int w) rc (int w n) there is (n, refl, within w n below)

  add : (w : Width) (rc : Val D E) (a b : ℕ) → rc ≡ val.check → a < limit w → b < limit w
      → IsAnswered OfDict OfEntry (integers_gives (overflowing_add w)) (added w rc a b)
  add w rc a b is a_below b_below =
      at_test OfDict OfEntry (IsAnswered OfDict OfEntry (integers_gives (overflowing_add w))) (nat_lt (a + b) (limit w))
      (branch 0 (rc ∷ int w (a + b) ∷ [])) (branch 1 (rc ∷ int w ((a + b) - limit w) ∷ []))
      (λ fits. checked_int _ 0 w rc (a + b) refl is (grind (arith, nat_tests)))
      (λ over. checked_int _ 1 w rc ((a + b) - limit w) refl is (sum_less w a b a_below b_below))

  subtract : (w : Width) (rc : Val D E) (a b : ℕ) → rc ≡ val.check → a < limit w → b < limit w
      → IsAnswered OfDict OfEntry (integers_gives (overflowing_sub w)) (subtracted w rc a b)
  subtract w rc a b is a_below b_below =
      at_test OfDict OfEntry (IsAnswered OfDict OfEntry (integers_gives (overflowing_sub w))) (nat_le b a)
      (branch 0 (rc ∷ int w (a - b) ∷ [])) (branch 1 (rc ∷ int w ((a + limit w) - b) ∷ []))
      (λ fits. checked_int _ 0 w rc (a - b) refl is (omega arith))
      (λ below. let less : a < b = grind (arith, nat_tests) in checked_int _ 1 w rc ((a + limit w) - b) refl is (omega arith))

  narrow : (w : Width) (rc : Val D E) (n : ℕ) → rc ≡ val.check → IsAnswered OfDict OfEntry (integers_gives (try_from_felt64 w)) (narrowed w rc n)
  narrow w rc n is =
      at_test OfDict OfEntry (IsAnswered OfDict OfEntry (integers_gives (try_from_felt64 w))) (nat_lt n (limit w))
      (branch 0 (rc ∷ int w n ∷ [])) (branch 1 (rc ∷ []))
      (λ fits. checked_int _ 0 w rc n refl is (grind (arith, nat_tests)))
      (λ over. gives_one OfDict OfEntry _ 1 range_check rc refl is)

  compared : (w : Width) (a b : ℕ) → Does (eq w) (int w a ∷ int w b ∷ [])
  compared w a b =
      at_test OfDict OfEntry (IsAnswered OfDict OfEntry (integers_gives (eq w))) (a == b) (branch 1 []) (branch 0 [])
      (λ same. gives_none OfDict OfEntry _ 1 refl) (λ other. gives_none OfDict OfEntry _ 0 refl)

  divided : (w : Width) (rc : Val D E) (a b : ℕ) → rc ≡ val.check → a < bound (num_of w) → b < bound (num_of w) → b ≢ 0
      → Does (safe_divmod w) (rc ∷ int w a ∷ int w b ∷ [])
  divided w rc a b is a_below b_below other =
      gives_three OfDict OfEntry _ 0 range_check (registry.int w) (registry.int w) rc (int w (a / b)) (int w (a % b)) refl is
      (a / b, refl, quotient w a b a_below) (a % b, refl, remainder w a b b_below other)

  halves : (rc : Val D E) (a b : ℕ) → rc ≡ val.check → a < 2 ^ 32 → b < 2 ^ 32 → Does split_mul (rc ∷ val.number nums.U32 a ∷ val.number nums.U32 b ∷ [])
  halves rc a b is a_below b_below =
      gives_three OfDict OfEntry _ 0 range_check (registry.int widths.W32) (registry.int widths.W32) rc
      (val.number nums.U32 ((a * b) / (2 ^ 32))) (val.number nums.U32 ((a * b) % (2 ^ 32))) refl is
      ((a * b) / (2 ^ 32), refl, high_half a b a_below b_below) ((a * b) % (2 ^ 32), refl, omega arith)

  pub integers_answers : (fam : IntegersFam) (vs : List (Val D E)) → IsProperIntegers fam → AllOf OfDict OfEntry (integers_takes fam) vs
      → IsAnswered OfDict OfEntry (integers_gives fam) (integers_does fam vs)
  integers_answers (to_felt64 w) vs proper h =
      at_one OfDict OfEntry (Does (to_felt64 w)) (registry.int w) vs h (λ v v_is.
      at_number OfDict OfEntry (λ x. Does (to_felt64 w) (x ∷ [])) (num_of w) v v_is (λ n below.
      gives_one OfDict OfEntry _ 0 felt (val.number nums.Felt64 n) refl (n, refl, in_field w n below)))
  integers_answers (try_from_felt64 w) vs proper h =
      at_two OfDict OfEntry (Does (try_from_felt64 w)) range_check felt vs h (λ rc v rc_is v_is.
      at_number OfDict OfEntry (λ x. Does (try_from_felt64 w) (rc ∷ x ∷ [])) nums.Felt64 v v_is (λ n below. narrow w rc n rc_is))
  integers_answers (overflowing_add w) vs proper h =
      checked_two (overflowing_add w) (num_of w) vs h (λ rc a b is a_below b_below. add w rc a b is (within_limit w a a_below) (within_limit w b b_below))
  integers_answers (overflowing_sub w) vs proper h =
      checked_two (overflowing_sub w) (num_of w) vs h (λ rc a b is a_below b_below. subtract w rc a b is (within_limit w a a_below) (within_limit w b b_below))
  integers_answers (wide_mul w) vs proper h =
      two (wide_mul w) (num_of w) vs h (λ a b a_below b_below.
      gives_one OfDict OfEntry _ 0 (number (num_of_double w)) (val.number (num_of_double w) (a * b)) refl (a * b, refl, wide_product w a b proper a_below b_below))
  integers_answers split_mul vs proper h = checked_two split_mul nums.U32 vs h (λ rc a b is a_below b_below. halves rc a b is a_below b_below)
  integers_answers (safe_divmod w) vs proper h =
      at_three OfDict OfEntry (Does (safe_divmod w)) range_check (registry.int w) (nonzero (num_of w)) vs h (λ rc v u rc_is v_is u_is.
      at_number OfDict OfEntry (λ x. Does (safe_divmod w) (rc ∷ x ∷ u ∷ [])) (num_of w) v v_is (λ a a_below.
      at_nonzero OfDict OfEntry (λ x. Does (safe_divmod w) (rc ∷ int w a ∷ x ∷ [])) (num_of w) u u_is (λ b b_below other.
      divided w rc a b rc_is a_below b_below other)))
  integers_answers (eq w) vs proper h = two (eq w) (num_of w) vs h (λ a b a_below b_below. compared w a b)
  integers_answers (upcast a b) vs proper h =
      at_one OfDict OfEntry (Does (upcast a b)) (registry.int a) vs h (λ v v_is.
      at_number OfDict OfEntry (λ x. Does (upcast a b) (x ∷ [])) (num_of a) v v_is (λ n below.
      gives_one OfDict OfEntry _ 0 (registry.int b) (int b n) refl (n, refl, as_wide a b n proper below)))
  integers_answers (downcast a b) vs proper h =
      at_two OfDict OfEntry (Does (downcast a b)) range_check (registry.int a) vs h (λ rc v rc_is v_is.
      at_number OfDict OfEntry (λ x. Does (downcast a b) (rc ∷ x ∷ [])) (num_of a) v v_is (λ n below. narrow b rc n rc_is))
