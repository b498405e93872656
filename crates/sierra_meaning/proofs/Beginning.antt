-- What main begins with, on an input that fits.
use Rattle.std.proofs.Common.{ℕ, ◌<◌, ◌≤◌, ◌^◌, List, [], ◌∷◌, refl, sym, subst, arith}
use Rattle.type_trees.specs.Ty.{Ty, range_check, gas_builtin}
use Rattle.gas_solver.specs.Balance.{builtins}
use Rattle.value_trees.specs.Val.{Plain}
use Rattle.value_trees.specs.Val as val
use Rattle.typed_values.specs.Inputs.{most_elements, IsGiven, AllGiven}
use Rattle.typed_values.specs.Outcome.{beginning, others_of}
use Rattle.libfunc_meaning.specs.Placed.{ArePlain}
use Rattle.sierra_meaning.specs.Facts.{greatest_of}
use Rattle.sierra_meaning.specs.Measured.{length_of}
use Rattle.sierra_meaning.proofs.GasParts.{gas_in}
use Rattle.sierra_meaning.proofs.Given.{harmless}

-- what it begins with is typed, has the counter for each gas builtin, and is short
pub record BeginsWell (counter : ℕ) (tys : List Ty) (vs : List Plain) : Type 0 where
  pub typed : ArePlain tys vs
  pub few : gas_in vs ≤ builtins 0 counter tys
  pub short : greatest_of length_of vs ≤ 2 ^ 20

check_more : (counter : ℕ) (tys : List Ty) (vs : List Plain) → BeginsWell counter tys vs → BeginsWell counter (range_check ∷ tys) (val.check ∷ vs)
check_more counter tys vs well =
    let few = well.few in
    let short = well.short in
    record { typed = (val.check, vs, refl, refl, well.typed); few = omega arith; short = omega arith }

gas_more : (counter : ℕ) (tys : List Ty) (vs : List Plain) → counter < 2 ^ 32 → BeginsWell counter tys vs → BeginsWell counter (gas_builtin ∷ tys) (val.gas counter ∷ vs)
gas_more counter tys vs small well =
    let few = well.few in
    let short = well.short in
    record { typed = (val.gas counter, vs, refl, (counter, refl, small), well.typed); few = omega arith; short = omega arith }

given_more : (counter : ℕ) (ty : Ty) (tys : List Ty) (v : Plain) (vs : List Plain) → IsGiven most_elements ty v → BeginsWell counter tys vs → BeginsWell counter (ty ∷ tys) (v ∷ vs)
given_more counter ty tys v vs given well =
    let own = harmless ty v given in
    let none = own.no_gas in
    let short_own = own.short in
    let few = well.few in
    let short = well.short in
    record { typed = (v, vs, refl, own.typed, well.typed); few = omega arith; short = omega arith }

pub begins_well : (counter : ℕ) (tys : List Ty) (given : List Plain) → counter < 2 ^ 32 → AllGiven most_elements (others_of tys) given → BeginsWell counter tys (beginning counter tys given)
begins_well counter [] given small all = record { typed = refl; few = omega arith; short = omega arith }
begins_well counter (range_check ∷ tys) given small all = check_more counter tys (beginning counter tys given) (begins_well counter tys given small all)
begins_well counter (gas_builtin ∷ tys) given small all = gas_more counter tys (beginning counter tys given) small (begins_well counter tys given small all)
begins_well counter (ty ∷ tys) given small (v, rest, is, fits, more) =
    subst (λ us. BeginsWell counter (ty ∷ tys) (beginning counter (ty ∷ tys) us)) (sym is) (given_more counter ty tys v (beginning counter tys rest) fits (begins_well counter tys rest small more))
