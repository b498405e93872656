-- Calls and gas.
use Rattle.std.specs.Prelude.{ℕ, List, [], ◌∷◌, codes}
use Rattle.type_trees.specs.Ty.{Ty, range_check, gas_builtin}
use Rattle.libfunc_registry.specs.declared.libfunc.Libfunc.TheVariants as libfuncs
use Rattle.libfunc_registry.specs.Arguments.{Form, nothing, a_function}

-- the generic libfuncs, with what they take as arguments
unfoldable pub gas_rows : List (List ℕ × Form)
gas_rows =
    (codes "function_call", a_function libfuncs.FunctionCall)
    ∷ (codes "withdraw_gas", nothing libfuncs.WithdrawGas)
    ∷ []

-- the families; of a call the callee's position, its parameters and its results
pub data GasFam : Type 0 where
  function_call : ℕ → List Ty → List Ty → GasFam
  withdraw_gas : GasFam

-- the types of the arguments
abbrev pub gas_takes : GasFam → List Ty
gas_takes (function_call f params results) = params
gas_takes withdraw_gas = range_check ∷ gas_builtin ∷ []

-- the types of the results of each branch
abbrev pub gas_gives : GasFam → List (List Ty)
gas_gives (function_call f params results) = results ∷ []
gas_gives withdraw_gas = (range_check ∷ gas_builtin ∷ []) ∷ (range_check ∷ gas_builtin ∷ []) ∷ []
