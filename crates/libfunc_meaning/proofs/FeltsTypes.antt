-- Felts and constants: there is an answer, of the types of its branch.
use Rattle.std.proofs.Common.{◌≢◌, ℕ, ◌==◌, ◌<◌, ◌%◌, List, [], ◌∷◌, refl, arith}
use Rattle.std.proofs.lemmas.Bool.Decides.{nat_tests}
use Rattle.felt64.specs.Field.{modulus, sum, difference, product}
use Rattle.type_trees.specs.Ty.{number, nonzero}
use Rattle.type_trees.specs.declared.num.Num.{Num}
use Rattle.type_trees.specs.declared.num.Num.TheVariants as nums
use Rattle.libfunc_registry.specs.Felts.{FeltsFam, const, felt64_add, felt64_sub, felt64_mul, is_zero, unwrap_non_zero, felts_takes, felts_gives, felt}
use Rattle.value_trees.specs.Of.{AllOf, bound}
use Rattle.value_trees.specs.Val.{Val}
use Rattle.value_trees.specs.Val as val
use Rattle.libfunc_meaning.specs.Answers.{branch}
use Rattle.libfunc_meaning.specs.Felts.{felts_does}
use Rattle.libfunc_meaning.specs.Proper.{IsProperFelts}
use Rattle.libfunc_meaning.proofs.Typed.{IsAnswered, at_none, at_one, at_two, at_number, at_nonzero, at_test, gives_none, gives_one}

module _ {D E : Type 0} (OfDict : Num → D → Type 0) (OfEntry : Num → E → Type 0) where
  abbrev Does : FeltsFam → List (Val D E) → Type 0
  Does fam vs = IsAnswered OfDict OfEntry (felts_gives fam) (felts_does fam vs)

  -- what two felts give, where that is one felt
  of_felts : (fam : FeltsFam) (vs : List (Val D E)) → AllOf OfDict OfEntry (felt ∷ felt ∷ []) vs
      → ((a b : ℕ) → Does fam (val.number nums.Felt64 a ∷ val.number nums.Felt64 b ∷ [])) → Does fam vs
  of_felts fam vs h p =
      at_two OfDict OfEntry (Does fam) felt felt vs h (λ v u v_is u_is.
      at_number OfDict OfEntry (λ w. Does fam (w ∷ u ∷ [])) nums.Felt64 v v_is (λ a a_below.
      at_number OfDict OfEntry (λ w. Does fam (val.number nums.Felt64 a ∷ w ∷ [])) nums.Felt64 u u_is (λ b b_below. p a b)))

  in_field : (n : ℕ) → n % modulus < modulus
  in_field n = omega arith

  tested : (k : Num) (n : ℕ) → n < bound k → Does (is_zero k) (val.number k n ∷ [])
  tested k n below =
      at_test OfDict OfEntry (IsAnswered OfDict OfEntry (felts_gives (is_zero k))) (n == 0) (branch 0 []) (branch 1 (val.number k n ∷ []))
      (λ zero. gives_none OfDict OfEntry _ 0 refl)
      (λ other. let differs : n ≢ 0 = grind (arith, nat_tests) in gives_one OfDict OfEntry _ 1 (nonzero k) (val.number k n) refl (n, refl, below, differs))

  pub felts_answers : (fam : FeltsFam) (vs : List (Val D E)) → IsProperFelts fam → AllOf OfDict OfEntry (felts_takes fam) vs
      → IsAnswered OfDict OfEntry (felts_gives fam) (felts_does fam vs)
  felts_answers (const k n) vs proper h =
      at_none OfDict OfEntry (Does (const k n)) vs h (gives_one OfDict OfEntry _ 0 (number k) (val.number k n) refl (n, refl, proper))
  felts_answers felt64_add vs proper h =
      of_felts felt64_add vs h (λ a b. gives_one OfDict OfEntry _ 0 felt (val.number nums.Felt64 (sum a b)) refl (sum a b, refl, in_field _))
  felts_answers felt64_sub vs proper h =
      of_felts felt64_sub vs h (λ a b. gives_one OfDict OfEntry _ 0 felt (val.number nums.Felt64 (difference a b)) refl (difference a b, refl, in_field _))
  felts_answers felt64_mul vs proper h =
      of_felts felt64_mul vs h (λ a b. gives_one OfDict OfEntry _ 0 felt (val.number nums.Felt64 (product a b)) refl (product a b, refl, in_field _))
  felts_answers (is_zero k) vs proper h =
      at_one OfDict OfEntry (Does (is_zero k)) (number k) vs h (λ v v_is.
      at_number OfDict OfEntry (λ w. Does (is_zero k) (w ∷ [])) k v v_is (λ n below. tested k n below))
  felts_answers (unwrap_non_zero k) vs proper h =
      at_one OfDict OfEntry (Does (unwrap_non_zero k)) (nonzero k) vs h (λ v v_is.
      at_nonzero OfDict OfEntry (λ w. Does (unwrap_non_zero k) (w ∷ [])) k v v_is (λ n below other.
      gives_one OfDict OfEntry _ 0 (number k) (val.number k n) refl (n, refl, below)))
