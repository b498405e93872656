-- Gas: there is an answer, of the types of its branch.
use Rattle.std.proofs.Common.{◌≡◌, ℕ, ◌-◌, ◌<◌, ◌^◌, List, [], ◌∷◌, refl, arith, nat_le}
use Rattle.type_trees.specs.Ty.{range_check, gas_builtin}
use Rattle.type_trees.specs.declared.num.Num.{Num}
use Rattle.libfunc_registry.specs.Fam.{gas}
use Rattle.libfunc_registry.specs.Gas.{GasFam, function_call, withdraw_gas, gas_takes, gas_gives}
use Rattle.value_trees.specs.Of.{AllOf}
use Rattle.value_trees.specs.Val.{Val}
use Rattle.value_trees.specs.Val as val
use Rattle.libfunc_meaning.specs.Gas.{gas_does}
use Rattle.libfunc_meaning.specs.Proper.{IsNoCall}
use Rattle.libfunc_meaning.specs.Answers.{branch}
use Rattle.libfunc_meaning.proofs.Typed.{IsAnswered, at_two, at_gas, at_test, gives_two}

module _ {D E : Type 0} (OfDict : Num → D → Type 0) (OfEntry : Num → E → Type 0) where
  abbrev Does : ℕ → List (Val D E) → Type 0
  Does amount vs = IsAnswered OfDict OfEntry (gas_gives withdraw_gas) (gas_does withdraw_gas vs amount)

  withdrawn : (amount n : ℕ) (rc : Val D E) → rc ≡ val.check → n < 2 ^ 32 → Does amount (rc ∷ val.gas n ∷ [])
  withdrawn amount n rc is below =
      at_test OfDict OfEntry (IsAnswered OfDict OfEntry (gas_gives withdraw_gas)) (nat_le amount n)
      (branch 0 (rc ∷ val.gas (n - amount) ∷ [])) (branch 1 (rc ∷ val.gas n ∷ []))
      (λ enough. gives_two OfDict OfEntry _ 0 range_check gas_builtin rc (val.gas (n - amount)) refl is (n - amount, refl, omega arith))
      (λ little. gives_two OfDict OfEntry _ 1 range_check gas_builtin rc (val.gas n) refl is (n, refl, below))

  pub gas_answers : (fam : GasFam) (vs : List (Val D E)) (amount : ℕ) → IsNoCall (gas fam) → AllOf OfDict OfEntry (gas_takes fam) vs
      → IsAnswered OfDict OfEntry (gas_gives fam) (gas_does fam vs amount)
  gas_answers (function_call f params results) vs amount no_call h = absurd no_call
  gas_answers withdraw_gas vs amount no_call h =
      at_two OfDict OfEntry (Does amount) range_check gas_builtin vs h (λ rc v rc_is v_is.
      at_gas OfDict OfEntry (λ u. Does amount (rc ∷ u ∷ [])) v v_is (λ n below. withdrawn amount n rc rc_is below))
