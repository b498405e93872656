-- What a program means on an input: it means something, within the bound, and one thing.
use Rattle.std.proofs.Common.{◌≡◌, ℕ, ◌+◌, ◌-◌, ◌≤◌, max, List, [], ◌∷◌, Option, Some, None, refl, sym, ap, ◌∙◌, arith}
use Rattle.std.specs.List.{slice_get, AllByRecursion}
use Rattle.std.specs.Option.{unwrap_or, option_map_or}
use Rattle.type_trees.specs.Ty.{Ty, number, nonzero, range_check, gas_builtin, box, array, snapshot, struct, enum, dict, dict_entry, squashed_dict, uninitialized}
use Rattle.type_table.specs.View.{TypesView, FunctionView, IsInTable, IsTable, trees_of}
use Rattle.libfunc_registry.specs.Fam.{params_of, results_of}
use Rattle.gas_solver.specs.Accepting.{AcceptedView, IsAccepted}
use Rattle.gas_solver.specs.Balance.{builtins}
use Rattle.value_trees.specs.Of.{IsPlain}
use Rattle.value_trees.specs.Parts as parts
use Rattle.value_trees.specs.Val.{Plain}
use Rattle.value_trees.specs.Val as val
use Rattle.typed_values.specs.Inputs.{InputView}
use Rattle.typed_values.specs.Outcome.{OutcomeView, beginning, left_of, outcome_of}
use Rattle.libfunc_meaning.specs.Placed.{ArePlain}
use Rattle.sierra_meaning.specs.Main.{IsBeginning, statement_bound}
use Rattle.sierra_meaning.specs.Outcome.{counter, Fits, Means, MeansWithin}
use Rattle.sierra_meaning.specs.Weighing.{PlanPays}
use Rattle.sierra_meaning.proofs.Beginning.{begins_well}
use Rattle.sierra_meaning.proofs.GasFree.{IsGasFree, declared_free, trees_in_table}
use Rattle.sierra_meaning.proofs.GasParts.{gas_in, gas_in_sum}
use Rattle.sierra_meaning.proofs.MainBuiltins.{one_gas, weigh_one}
use Rattle.sierra_meaning.proofs.MainLaws.{main_function, main_ends, main_once, statements_within, results_known}

-- what is left is the gas of a result, or the counter
left_within : (counter : ℕ) (vs : List Plain) → left_of counter vs ≤ max counter (gas_in vs)
left_within counter [] = omega arith
left_within counter (v ∷ vs) = by v (left_within counter vs)
  where
    by : (v : Plain) → left_of counter vs ≤ max counter (gas_in vs) → left_of counter (v ∷ vs) ≤ max counter (gas_in (v ∷ vs))
    by (val.gas n) rest = omega arith
    by _ rest = omega arith

module _ (a : AcceptedView) (ok : IsAccepted a) (pays_for : PlanPays a) (i : InputView) (fits : Fits a i) where
  pub can_begin : a.plan.entry ≤ i.gas → IsBeginning a i.gas (beginning (counter a i) (params_of a.types a.main) i.args)
  can_begin enough =
      let small = fits.gas in
      let main = main_function a ok in
      let vs = beginning (counter a i) (params_of a.types a.main) i.args in
      let well = begins_well (counter a i) (params_of a.types a.main) i.args (omega arith) fits.args in
      let few = well.few in
      let one = weigh_one (counter a i) (params_of a.types a.main) (one_gas a.program a.types ok.types a.main main.0 main.1) in
      let sum = gas_in_sum vs in
      record { enough = enough; small = small; typed = well.typed; counter = omega arith; short = well.short }

  pub meaning_ends : a.plan.entry ≤ i.gas → (outcome : OutcomeView) × MeansWithin a i (statement_bound a i.gas) outcome
  meaning_ends enough =
      let can = can_begin enough in
      let ends = main_ends a ok pays_for i.gas (beginning (counter a i) (params_of a.types a.main) i.args) can in
      let within = statements_within a ok pays_for i.gas ends.0 (beginning (counter a i) (params_of a.types a.main) i.args) ends.1 can ends.2 in
      (outcome_of i.gas (counter a i) (results_of a.types a.main) ends.1, (ends.0, within, record { enough = enough; results = ends.1; ends = ends.2; shows = refl }))

  pub within_bound : (n : ℕ) (outcome : OutcomeView) → Means a i n outcome → n ≤ statement_bound a i.gas
  within_bound n outcome means = statements_within a ok pays_for i.gas n (beginning (counter a i) (params_of a.types a.main) i.args) means.results (can_begin means.enough) means.ends

  pub gas_told : (n : ℕ) (outcome : OutcomeView) → Means a i n outcome → (outcome.gas_left + outcome.gas_used ≡ i.gas) × (100 ≤ outcome.gas_used)
  gas_told n outcome means =
      let can = can_begin means.enough in
      let known = results_known a ok pays_for i.gas n (beginning (counter a i) (params_of a.types a.main) i.args) means.results can means.ends in
      let left = known.left in
      let sum = gas_in_sum means.results in
      let most = left_within (counter a i) means.results in
      let enough = means.enough in
      let entry = ok.plan.entry in
      let told : outcome.gas_left ≡ left_of (counter a i) means.results = ap (λ (o : OutcomeView). o.gas_left) means.shows in
      let used : outcome.gas_used ≡ i.gas - left_of (counter a i) means.results = ap (λ (o : OutcomeView). o.gas_used) means.shows in
      (omega arith, omega arith)

pub one_meaning : (a : AcceptedView) (i : InputView) (n m : ℕ) (one other : OutcomeView) → Means a i n one → Means a i m other → (n ≡ m) × (one ≡ other)
one_meaning a i n m one other means again =
    let same = main_once a n m (beginning (counter a i) (params_of a.types a.main) i.args) means.results again.results means.ends again.ends in
    (same.0, means.shows ∙ ap (outcome_of i.gas (counter a i) (results_of a.types a.main)) same.1 ∙ sym again.shows)

-- where main gives no gas builtin, the counter is left

not_gas : (ty : Ty) (v : Plain) → IsGasFree ty → IsPlain ty v → parts.gas_of v ≡ None
not_gas (number k) v free (n, is, below) = ap parts.gas_of is
not_gas (nonzero k) v free (n, is, below, other) = ap parts.gas_of is
not_gas range_check v free is = ap parts.gas_of is
not_gas gas_builtin v free is = absurd free
not_gas (box ty) v free (inner, is, fits) = ap parts.gas_of is
not_gas (array ty) v free (vs, is, fit) = ap parts.gas_of is
not_gas (snapshot ty) v free fits = not_gas ty v free fits
not_gas (struct name tys) v free (vs, is, fit) = ap parts.gas_of is
not_gas (enum name tys) v free (index, payload, is, fits) = ap parts.gas_of is
not_gas (dict k) v free (m, is, words) = ap parts.gas_of is
not_gas (dict_entry k) v free (e, is, words) = ap parts.gas_of is
not_gas (squashed_dict k) v free (m, is, words) = ap parts.gas_of is
not_gas (uninitialized ty) v free is = ap parts.gas_of is

left_counter : (counter : ℕ) (tys : List Ty) (vs : List Plain) → AllByRecursion IsGasFree tys → ArePlain tys vs → left_of counter vs ≡ counter
left_counter counter [] vs free is = ap (left_of counter) is
left_counter counter (ty ∷ tys) vs free (v, rest, is, fits, fit) =
    ap (left_of counter) is ∙ ap (λ o. unwrap_or o (left_of counter rest)) (not_gas ty v free.0 fits) ∙ left_counter counter tys rest free.1 fit

gas_free_types : (types : TypesView) → IsTable types → (tys : List Ty) → AllByRecursion (IsInTable types) tys → builtins 0 1 tys ≡ 0 → AllByRecursion IsGasFree tys
gas_free_types types table [] there none = tt
gas_free_types types table (gas_builtin ∷ tys) there none = absurd (omega arith)
gas_free_types types table (ty ∷ tys) there none = (declared_free types table ty there.0 (λ is. cc), gas_free_types types table tys there.1 (omega arith))

results_declared : (types : TypesView) → IsTable types → (f : ℕ) → AllByRecursion (IsInTable types) (results_of types f)
results_declared types table f = by (slice_get types.functions f) refl
  where
    by : (o : Option FunctionView) → slice_get types.functions f ≡ o → AllByRecursion (IsInTable types) (option_map_or (λ (g : FunctionView). trees_of types g.results) o [])
    by None at = tt
    by (Some g) at = trees_in_table types g.results (table.functions_right f g at).results

pub counter_left : (a : AcceptedView) (ok : IsAccepted a) (pays_for : PlanPays a) (i : InputView) (fits : Fits a i) (n : ℕ) (outcome : OutcomeView) → Means a i n outcome → builtins 0 1 (results_of a.types a.main) ≡ 0 → outcome.gas_used ≡ a.plan.entry
counter_left a ok pays_for i fits n outcome means none =
    let can = can_begin a ok pays_for i fits means.enough in
    let known = results_known a ok pays_for i.gas n (beginning (counter a i) (params_of a.types a.main) i.args) means.results can means.ends in
    let free = gas_free_types a.types ok.types.kept (results_of a.types a.main) (results_declared a.types ok.types.kept a.main) none in
    let left = left_counter (counter a i) (results_of a.types a.main) means.results free known.typed in
    let enough = means.enough in
    let used : outcome.gas_used ≡ i.gas - left_of (counter a i) means.results = ap (λ (o : OutcomeView). o.gas_used) means.shows in
    omega arith
