-- Gas. What a call does is its callee's meaning, so it has no line here.
use Rattle.std.specs.Prelude.{ℕ, ◌-◌, List, [], ◌∷◌, None, if◌then◌else◌, nat_le}
use Rattle.libfunc_registry.specs.Gas.{GasFam, function_call, withdraw_gas}
use Rattle.value_trees.specs.Val.{Val}
use Rattle.value_trees.specs.Val as val
use Rattle.libfunc_meaning.specs.Answers.{Answer, branch, of_two, with_gas}

abbrev pub gas_does : {D E : Type 0} → GasFam → List (Val D E) → (amount : ℕ) → Answer D E
gas_does (function_call f params results) vs amount = None
gas_does withdraw_gas vs amount =
    of_two vs (λ rc v. with_gas v (λ g. if nat_le amount g then branch 0 (rc ∷ val.gas (g - amount) ∷ []) else branch 1 (rc ∷ val.gas g ∷ [])))
