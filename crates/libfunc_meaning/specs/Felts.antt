-- Felts and constants.
use Rattle.std.specs.Prelude.{◌==◌, List, [], ◌∷◌, if◌then◌else◌}
use Rattle.felt64.specs.Field.{sum, difference, product}
use Rattle.type_trees.specs.declared.num.Num.TheVariants as nums
use Rattle.libfunc_registry.specs.Felts.{FeltsFam, const, felt64_add, felt64_sub, felt64_mul, is_zero, unwrap_non_zero}
use Rattle.value_trees.specs.Val.{Val}
use Rattle.value_trees.specs.Val as val
use Rattle.libfunc_meaning.specs.Answers.{Answer, branch, gives, of_none, of_one, of_two, with_number}

abbrev pub felts_does : {D E : Type 0} → FeltsFam → List (Val D E) → Answer D E
felts_does (const k n) vs = of_none vs (gives (val.number k n ∷ []))
felts_does felt64_add vs = of_two vs (λ v w. with_number v (λ a. with_number w (λ b. gives (val.number nums.Felt64 (sum a b) ∷ []))))
felts_does felt64_sub vs = of_two vs (λ v w. with_number v (λ a. with_number w (λ b. gives (val.number nums.Felt64 (difference a b) ∷ []))))
felts_does felt64_mul vs = of_two vs (λ v w. with_number v (λ a. with_number w (λ b. gives (val.number nums.Felt64 (product a b) ∷ []))))
felts_does (is_zero k) vs = of_one vs (λ v. with_number v (λ n. if n == 0 then branch 0 [] else branch 1 (v ∷ [])))
felts_does (unwrap_non_zero k) vs = of_one vs (λ v. gives (v ∷ []))
