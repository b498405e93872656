-- What main gives: its function, from what it begins with.
use Rattle.std.specs.Prelude.{◌≡◌, ℕ, ◌+◌, ◌*◌, ◌-◌, ◌<◌, ◌≤◌, ◌^◌, List, [], Ok, Some, length, slice_get, zip}
use Rattle.std.specs.List.{sum_by}
use Rattle.sierra_types.specs.declared.program.Function.{Function}
use Rattle.libfunc_registry.specs.Fam.{params_of, results_of}
use Rattle.held_list.specs.Held.{Held}
use Rattle.held_list.specs.Editing.{add_all}
use Rattle.linear_check.specs.Statements.{variables}
use Rattle.gas_solver.specs.Accepting.{AcceptedView}
use Rattle.value_trees.specs.Val.{Plain}
use Rattle.libfunc_meaning.specs.Dictionaries.{mapped}
use Rattle.libfunc_meaning.specs.Placed.{ArePlain}
use Rattle.sierra_meaning.specs.Acts.{Acts, begins_at}
use Rattle.sierra_meaning.specs.Facts.{greatest_of}
use Rattle.sierra_meaning.specs.Mean.{Mean}
use Rattle.sierra_meaning.specs.Measured.{gas_inside, length_of}

-- main begins with these values, which are of its parameters' types, and ends with these results, after n statements
pub record MainEnds (a : AcceptedView) (n : ℕ) (vs results : List Plain) : Type 0 where
  pub typed : ArePlain (params_of a.types a.main) vs
  pub main : Function
  pub is_main : slice_get a.program.functions a.main ≡ Some main
  pub held : Held Plain
  pub begins : add_all (zip (variables main) vs) [] ≡ Ok held
  pub ends : Mean (Acts mapped a) (begins_at a) n (begins_at a a.main) held results

-- Values that main can begin with, in a run of so much gas: they are of its parameters' types, their gas is no more than what
-- the entry leaves, and no array has more than 2 ^ 20 elements.
pub record IsBeginning (a : AcceptedView) (gas : ℕ) (vs : List Plain) : Type 0 where
  pub enough : a.plan.entry ≤ gas
  pub small : gas < 2 ^ 32
  pub typed : ArePlain (params_of a.types a.main) vs
  pub counter : sum_by gas_inside vs ≤ gas - a.plan.entry
  pub short : greatest_of length_of vs ≤ 2 ^ 20

-- a run of so much gas takes no more statements
abbrev pub statement_bound : AcceptedView → ℕ → ℕ
statement_bound a gas = (length a.program.statements + 1) * (gas + 1)

-- What is known of the results of a run of so much gas: they are of the types of main's results; the gas in them, with the 100 that the
-- call of main is charged, is no more than that of the run; and an array or a map has fewer than 2 ^ 27 elements.
pub record AreMainResults (a : AcceptedView) (gas : ℕ) (results : List Plain) : Type 0 where
  pub typed : ArePlain (results_of a.types a.main) results
  pub left : sum_by gas_inside results + 100 ≤ gas
  pub short : greatest_of length_of results < 2 ^ 27
