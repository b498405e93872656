-- What a libfunc does to the gas in values, and to their lengths.
use Rattle.std.specs.Prelude.{◌≡◌, ℕ, ◌+◌, ◌*◌, ◌≤◌, List, slice_index, None}
use Rattle.std.specs.List.{sum_by}
use Rattle.type_table.specs.View.{TypesView}
use Rattle.libfunc_registry.specs.declared.sig.Sig.{Sig}
use Rattle.libfunc_registry.specs.declared.libfunc.Libfunc.{Libfunc}
use Rattle.libfunc_registry.specs.declared.libfunc.Libfunc.TheVariants.{WithdrawGas}
use Rattle.libfunc_registry.specs.Fam.{fam_of, takes}
use Rattle.cost_table.specs.Costs.{charge}
use Rattle.cost_table.specs.Rows.{by_branch}
use Rattle.gas_solver.specs.Accepting.{AcceptedView}
use Rattle.gas_solver.specs.Paying.{Pays}
use Rattle.gas_solver.specs.Plans.{amount_in}
use Rattle.value_trees.specs.Val.{Plain}
use Rattle.libfunc_meaning.specs.Applying.{IsSignature}
use Rattle.libfunc_meaning.specs.Dictionaries.{mapped}
use Rattle.libfunc_meaning.specs.Do.{Do}
use Rattle.libfunc_meaning.specs.Placed.{ArePlain}
use Rattle.sierra_meaning.specs.Acts.{callee_of}
use Rattle.sierra_meaning.specs.Facts.{greatest_of}
use Rattle.sierra_meaning.specs.Measured.{gas_inside, length_of}

-- what is taken from the gas: the amount, where `withdraw_gas` succeeds
abbrev pub withdrawn : Libfunc → (k amount : ℕ) → ℕ
withdrawn WithdrawGas k amount = by_branch k amount 0
withdrawn _ k amount = 0

-- what each statement needs pays for its branches
abbrev pub PlanPays : AcceptedView → Type 0
PlanPays a = Pays a.program a.types a.sigs (amount_in a.plan) (slice_index a.plan.need)

-- No gas is made, and what is withdrawn is gone. What grows was charged 100 for each element.
pub record Weighs (types : TypesView) (sig : Sig) (vs : List Plain) (amount k : ℕ) (outs : List Plain) : Type 0 where
  pub no_more_gas : sum_by gas_inside outs + withdrawn sig.libfunc k amount ≤ sum_by gas_inside vs
  pub grown : 100 * greatest_of length_of outs ≤ 100 * greatest_of length_of vs + charge (fam_of types sig.libfunc) k

-- every libfunc but a call, with arguments of its types
abbrev pub AllWeigh : TypesView → Type 0
AllWeigh types =
    (sig : Sig) (vs : List Plain) (amount k : ℕ) (outs : List Plain) → IsSignature types sig → callee_of sig.libfunc ≡ None → ArePlain (takes (fam_of types sig.libfunc)) vs
    → Do mapped (fam_of types sig.libfunc) vs amount k outs → Weighs types sig vs amount k outs
