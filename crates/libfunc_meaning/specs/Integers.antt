-- Integers of 8, 16 and 32 bits.
use Rattle.std.specs.Prelude.{ℕ, ◌+◌, ◌-◌, ◌*◌, ◌/◌, ◌%◌, ◌^◌, ◌==◌, List, [], ◌∷◌, if◌then◌else◌, nat_lt, nat_le}
use Rattle.type_trees.specs.declared.num.Num.TheVariants as nums
use Rattle.libfunc_registry.specs.declared.width.Width.{Width}
use Rattle.libfunc_registry.specs.Arguments.{bits, num_of}
use Rattle.libfunc_registry.specs.Integers.{IntegersFam, to_felt64, try_from_felt64, overflowing_add, overflowing_sub, wide_mul, split_mul, safe_divmod, eq, upcast, downcast, num_of_double}
use Rattle.value_trees.specs.Val.{Val}
use Rattle.value_trees.specs.Val as val
use Rattle.libfunc_meaning.specs.Answers.{Answer, branch, gives, of_one, of_two, of_three, with_number}

-- the integers of a width are those below this one
abbrev pub limit : Width → ℕ
limit w = 2 ^ bits w

module _ {D E : Type 0} where
  abbrev pub int : Width → ℕ → Val D E
  int w n = val.number (num_of w) n

  -- two integers
  abbrev pub with_both : Val D E → Val D E → (ℕ → ℕ → Answer D E) → Answer D E
  with_both v w answer = with_number v (λ a. with_number w (λ b. answer a b))

  -- the sum, or the sum less the width's limit
  abbrev pub added : Width → Val D E → (a b : ℕ) → Answer D E
  added w rc a b = if nat_lt (a + b) (limit w) then branch 0 (rc ∷ int w (a + b) ∷ []) else branch 1 (rc ∷ int w ((a + b) - limit w) ∷ [])

  -- the difference, or the difference and the width's limit
  abbrev pub subtracted : Width → Val D E → (a b : ℕ) → Answer D E
  subtracted w rc a b = if nat_le b a then branch 0 (rc ∷ int w (a - b) ∷ []) else branch 1 (rc ∷ int w ((a + limit w) - b) ∷ [])

  -- the number, if it fits the width
  abbrev pub narrowed : Width → Val D E → ℕ → Answer D E
  narrowed w rc n = if nat_lt n (limit w) then branch 0 (rc ∷ int w n ∷ []) else branch 1 (rc ∷ [])

  abbrev pub integers_does : IntegersFam → List (Val D E) → Answer D E
  integers_does (to_felt64 w) vs = of_one vs (λ v. with_number v (λ n. gives (val.number nums.Felt64 n ∷ [])))
  integers_does (try_from_felt64 w) vs = of_two vs (λ rc v. with_number v (λ n. narrowed w rc n))
  integers_does (overflowing_add w) vs = of_three vs (λ rc v u. with_both v u (λ a b. added w rc a b))
  integers_does (overflowing_sub w) vs = of_three vs (λ rc v u. with_both v u (λ a b. subtracted w rc a b))
  integers_does (wide_mul w) vs = of_two vs (λ v u. with_both v u (λ a b. gives (val.number (num_of_double w) (a * b) ∷ [])))
  integers_does split_mul vs =
      of_three vs (λ rc v u. with_both v u (λ a b. gives (rc ∷ val.number nums.U32 ((a * b) / (2 ^ 32)) ∷ val.number nums.U32 ((a * b) % (2 ^ 32)) ∷ [])))
  integers_does (safe_divmod w) vs = of_three vs (λ rc v u. with_both v u (λ a b. gives (rc ∷ int w (a / b) ∷ int w (a % b) ∷ [])))
  integers_does (eq w) vs = of_two vs (λ v u. with_both v u (λ a b. if a == b then branch 1 [] else branch 0 []))
  integers_does (upcast a b) vs = of_one vs (λ v. with_number v (λ n. gives (int b n ∷ [])))
  integers_does (downcast a b) vs = of_two vs (λ rc v. with_number v (λ n. narrowed b rc n))
