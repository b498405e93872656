-- Where the evaluator begins, and that what it answers there is what main means.
use Rattle.std.proofs.Common.{◌≡◌, ℕ, ◌<◌, ◌≤◌, List, [], length, get_or, map, Option, Some, Ok, sym, ap, subst, ◌∙◌, arith}
use Rattle.std.specs.List.{All, slice_get, zip}
use Rattle.std.specs.Option.{option_map_or}
use Rattle.std.proofs.lemmas.Option.{get_or_from_slice_get}
use Rattle.sierra_types.specs.declared.program.Function.{Function}
use Rattle.type_trees.specs.Ty.{Ty}
use Rattle.type_table.specs.declared.type_id.TypeId.{TypeId}
use Rattle.type_table.specs.View.{TypesView, FunctionView, trees_of}
use Rattle.libfunc_registry.specs.Fam.{params_of, results_of}
use Rattle.held_list.specs.Held.{Held}
use Rattle.held_list.specs.Editing.{add_all}
use Rattle.statement_walk.proofs.Arrivals.{inside}
use Rattle.linear_check.specs.Statements.{variables}
use Rattle.gas_solver.specs.Accepting.{AcceptedView, IsAccepted}
use Rattle.value_trees.specs.Meant.{meant}
use Rattle.value_trees.specs.Val.{Plain}
use Rattle.value_trees.specs.declared.value.Value.{Value}
use Rattle.typed_values.specs.Inputs.{InputView}
use Rattle.typed_values.specs.Outcome.{OutcomeView, beginning, outcome_of}
use Rattle.sierra_meaning.specs.Acts.{begins_at}
use Rattle.sierra_meaning.specs.Evaluating.{mapped_held, After, IsStacked}
use Rattle.sierra_meaning.specs.Main.{IsBeginning, MainEnds, statement_bound}
use Rattle.sierra_meaning.specs.Measured.{running_of}
use Rattle.sierra_meaning.specs.Outcome.{counter, Fits, Means, MeansWithin}
use Rattle.sierra_meaning.specs.Weighing.{PlanPays}
use Rattle.sierra_meaning.proofs.Calling.{begins}
use Rattle.sierra_meaning.proofs.Evaluated.{begun, stacked_first}
use Rattle.sierra_meaning.proofs.Known.{function_count}
use Rattle.sierra_meaning.proofs.MainLaws.{main_function, good_main}
use Rattle.sierra_meaning.proofs.MappedBack.{add_all_back}
use Rattle.sierra_meaning.proofs.MappedValues.{add_all_mapped}
use Rattle.sierra_meaning.proofs.MeaningLaws.{can_begin, within_bound}

pub main_given : (main : Function) (values : List Value) (held : Held Value) → add_all (zip (variables main) values) [] ≡ Ok held → add_all (zip (variables main) (map meant values)) [] ≡ Ok (mapped_held meant held)
main_given main values held adds = add_all_mapped meant (variables main) values [] held adds

module _ (a : AcceptedView) (ok : IsAccepted a) where
  -- main's types
  pub record MainTypes : Type 0 where
    pub below : a.main < length a.types.functions
    pub function : FunctionView
    pub is : slice_get a.types.functions a.main ≡ Some function
    pub params : params_of a.types a.main ≡ trees_of a.types function.params
    pub results : results_of a.types a.main ≡ trees_of a.types function.results
    pub params_below : All (λ t. t.0 < length a.types.rows) function.params
    pub results_below : All (λ t. t.0 < length a.types.rows) function.results

  pub main_types : MainTypes
  main_types =
      let main = main_function a ok in
      let below : a.main < length a.types.functions = omega (arith, main.2, function_count a.program a.types ok.types) in
      let types = inside a.types.functions a.main below in
      let right = ok.types.kept.functions_right a.main types.0 types.1 in
      record {
        below = below;
        function = types.0;
        is = types.1;
        params = ap (λ (o : Option FunctionView). option_map_or (λ (g : FunctionView). trees_of a.types g.params) o []) types.1;
        results = ap (λ (o : Option FunctionView). option_map_or (λ (g : FunctionView). trees_of a.types g.results) o []) types.1;
        params_below = right.params;
        results_below = right.results;
      }

  -- main can begin with values of its types
  pub main_can_begin : (gas : ℕ) (values : List Value) (main : Function) → IsBeginning a gas (map meant values) → slice_get a.program.functions a.main ≡ Some main → (more : Held Value) × (add_all (zip (variables main) values) [] ≡ Ok more)
  main_can_begin gas values main can is =
      let begun = begins a ok a.main main (map meant values) is can.typed in
      let back = add_all_back meant (variables main) values [] begun.args begun.given in
      (back.more, back.adds)

  pub main_entry : (main : Function) → slice_get a.program.functions a.main ≡ Some main → begins_at a a.main ≡ main.entry
  main_entry main is = ap (λ (o : Option Function). option_map_or (λ (g : Function). g.entry) o 0) is

  pub main_stands : PlanPays a → (gas : ℕ) (vs : List Plain) (main : Function) (held : Held Plain) → IsBeginning a gas vs → slice_get a.program.functions a.main ≡ Some main → add_all (zip (variables main) vs) [] ≡ Ok held
      → IsStacked (running_of a) a.main a.main main.entry held []
  main_stands pays gas vs main held can is given =
      let good = good_main a ok pays gas vs main held can is given in
      subst (λ s. IsStacked (running_of a) a.main a.main s held []) (main_entry main is) (stacked_first (running_of a) a.main (begins_at a a.main) held good)

  pub main_ended : (gas : ℕ) (vs results : List Plain) (main : Function) (held : Held Plain) → IsBeginning a gas vs → slice_get a.program.functions a.main ≡ Some main → add_all (zip (variables main) vs) [] ≡ Ok held
      → After (running_of a) main.entry held [] results → (n : ℕ) × MainEnds a n vs results
  main_ended gas vs results main held can is given after =
      let ends = begun (running_of a) (begins_at a a.main) held results (subst (λ s. After (running_of a) s held [] results) (sym (main_entry main is)) after) in
      (ends.0, record { typed = can.typed; main = main; is_main = is; held = held; begins = given; ends = ends.1 })

  -- main as it is read
  pub main_below : (main : ℕ) (functions : List Function) → functions ≡ a.program.functions → main ≡ a.main → main < length functions
  main_below main functions same at =
      let found = main_function a ok in
      let below = found.2 in
      let many : length functions ≡ length a.program.functions = ap length same in
      omega arith

  pub main_is : (main : ℕ) (functions : List Function) (function : Function) → functions ≡ a.program.functions → main ≡ a.main → function ≡ get_or functions main function → slice_get a.program.functions a.main ≡ Some function
  main_is main functions function same at read =
      let found = main_function a ok in
      let is : function ≡ found.0 =
      read ∙ ap (λ (fs : List Function). get_or fs main function) same ∙ ap (λ n. get_or a.program.functions n function) at ∙ get_or_from_slice_get a.program.functions a.main found.0 function found.1 in
      found.1 ∙ ap (λ (f : Function). Some f) (sym is)

  main_there : (types : TypesView) (main : ℕ) → types ≡ a.types → main ≡ a.main → slice_get types.functions main ≡ Some main_types.function
  main_there types main same at = ap (λ (t : TypesView). slice_get t.functions main) same ∙ ap (slice_get a.types.functions) at ∙ main_types.is

  pub main_params : (types : TypesView) (main : ℕ) (params : List TypeId) → types ≡ a.types → main ≡ a.main → ((g : FunctionView) → slice_get types.functions main ≡ Some g → params ≡ g.params) → trees_of types params ≡ params_of a.types a.main
  main_params types main params same at read =
      ap (λ (t : TypesView). trees_of t params) same ∙ ap (trees_of a.types) (read main_types.function (main_there types main same at)) ∙ sym main_types.params

  pub main_result_types : (types : TypesView) (main : ℕ) (results : List TypeId) → types ≡ a.types → main ≡ a.main → ((g : FunctionView) → slice_get types.functions main ≡ Some g → results ≡ g.results) → trees_of types results ≡ results_of a.types a.main
  main_result_types types main results same at read =
      ap (λ (t : TypesView). trees_of t results) same ∙ ap (trees_of a.types) (read main_types.function (main_there types main same at)) ∙ sym main_types.results

  pub main_results_below : (types : TypesView) (main : ℕ) (results : List TypeId) → types ≡ a.types → main ≡ a.main → ((g : FunctionView) → slice_get types.functions main ≡ Some g → results ≡ g.results) → All (λ p. p.0 < length types.rows) results
  main_results_below types main results same at read =
      subst (λ (t : TypesView). All (λ p. p.0 < length t.rows) results) (sym same)
      (subst (λ (rs : List TypeId). All (λ p. p.0 < length a.types.rows) rs) (sym (read main_types.function (main_there types main same at))) main_types.results_below)

  -- what the values are that main begins with
  pub begins_with : (i : InputView) (tys : List Ty) (own : ℕ) (given vs : List Plain) → tys ≡ params_of a.types a.main → own ≡ counter a i → given ≡ i.args → vs ≡ beginning own tys given → vs ≡ beginning (counter a i) (params_of a.types a.main) i.args
  begins_with i tys own given vs types same args is =
      is ∙ ap (λ n. beginning n tys given) same ∙ ap (λ (ts : List Ty). beginning (counter a i) ts given) types ∙ ap (beginning (counter a i) (params_of a.types a.main)) args

  pub main_can : PlanPays a → (i : InputView) → Fits a i → a.plan.entry ≤ i.gas → (vs : List Plain) → vs ≡ beginning (counter a i) (params_of a.types a.main) i.args → IsBeginning a i.gas vs
  main_can pays i fits enough vs is = subst (IsBeginning a i.gas) (sym is) (can_begin a ok pays i fits enough)

  -- what is shown of main's results is what the program means
  pub shown_means : PlanPays a → (i : InputView) → Fits a i → a.plan.entry ≤ i.gas → (vs results : List Plain) (outcome : OutcomeView) → vs ≡ beginning (counter a i) (params_of a.types a.main) i.args
      → (n : ℕ) × MainEnds a n vs results → outcome ≡ outcome_of i.gas (counter a i) (results_of a.types a.main) results → MeansWithin a i (statement_bound a i.gas) outcome
  shown_means pays i fits enough vs results outcome is (n, ends) shows =
      let means : Means a i n outcome = record { enough = enough; results = results; ends = subst (λ us. MainEnds a n us results) is ends; shows = shows } in
      (n, within_bound a ok pays i fits n outcome means, means)
