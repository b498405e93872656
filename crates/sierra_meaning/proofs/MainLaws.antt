-- Main ends, once, within the bound.
use Rattle.std.proofs.Common.{◌≡◌, ℕ, ◌+◌, ◌*◌, ◌-◌, ◌<◌, ◌≤◌, List, [], length, Option, Some, None, Ok, refl, sym, ap, subst, ◌∙◌, arith}
use Rattle.std.specs.List.{slice_get, zip, position, sum_by}
use Rattle.std.specs.Option.{option_and_then, option_map_or}
use Rattle.std.proofs.lemmas.List.Quantifiers.{position-Some}
use Rattle.std.proofs.lemmas.Option.{same_Some}
use Rattle.sierra_types.specs.declared.program.Function.{Function}
use Rattle.type_table.specs.View.{TypesView, FunctionView, trees_of}
use Rattle.libfunc_registry.specs.Fam.{params_of, results_of}
use Rattle.held_list.specs.Held.{Held}
use Rattle.held_list.specs.Editing.{add_all}
use Rattle.statement_walk.proofs.Arrivals.{inside}
use Rattle.entry_check.specs.Entry.{is_main_name, other_type, unless_other, entry_at}
use Rattle.linear_check.specs.Statements.{variables}
use Rattle.gas_solver.specs.Accepting.{AcceptedView, IsAccepted}
use Rattle.gas_solver.specs.Balance.{builtins, HasBalancedFunctions}
use Rattle.value_trees.specs.Val.{Plain}
use Rattle.libfunc_meaning.specs.Dictionaries.{mapped}
use Rattle.sierra_meaning.specs.Acts.{Acts}
use Rattle.sierra_meaning.specs.Acts as acts
use Rattle.sierra_meaning.specs.Facts.{funds, measure, IsGood}
use Rattle.sierra_meaning.specs.Main.{MainEnds, IsBeginning, AreMainResults, statement_bound}
use Rattle.sierra_meaning.specs.Mean.{Mean, charged}
use Rattle.sierra_meaning.specs.Measured.{gas_inside, length_of, running_of}
use Rattle.sierra_meaning.specs.Weighing.{PlanPays}
use Rattle.sierra_meaning.proofs.Acting.{acts_once}
use Rattle.sierra_meaning.proofs.Amounts.{pays}
use Rattle.sierra_meaning.proofs.Calling.{begins}
use Rattle.sierra_meaning.proofs.Ending.{all_end, mean_once, within_measure}
use Rattle.sierra_meaning.proofs.Known.{function_count}
use Rattle.sierra_meaning.proofs.HeldValues.{ok_same, add_all_total, add_all_greatest}
use Rattle.sierra_meaning.proofs.Moving.{moves}
use Rattle.sierra_meaning.proofs.ProgramFacts.{facts}
use Rattle.sierra_meaning.proofs.Spending.{spent}
use Rattle.sierra_meaning.proofs.Weighed.{all_weigh}

-- main is a function of the program

unless_ok : (o : Option ℕ) (k main : ℕ) → unless_other o k ≡ Ok main → k ≡ main
unless_ok None k main is = cc
unless_ok (Some j) k main is = absurd (cc)

main_there : (t : TypesView) (functions : List Function) (main : ℕ) → entry_at t (position (λ (f : Function). is_main_name f.id) functions) ≡ Ok main → main < length functions
main_there t functions main is = by (position (λ (f : Function). is_main_name f.id) functions) refl is
  where
    by : (o : Option ℕ) → position (λ (f : Function). is_main_name f.id) functions ≡ o → entry_at t o ≡ Ok main → main < length functions
    by None at is = absurd (cc)
    by (Some k) at is =
        let same = unless_ok (option_and_then (other_type t) (slice_get t.functions k)) k main is in
        let none : Function = record { id = []; entry = 0; params = []; results = [] } in
        let found = (position-Some (λ (f : Function). is_main_name f.id) functions k none at).0 in
        omega arith

pub main_function : (a : AcceptedView) → IsAccepted a → (main : Function) × (slice_get a.program.functions a.main ≡ Some main) × (a.main < length a.program.functions)
main_function a ok =
    let below = main_there a.types a.program.functions a.main ok.main in
    let main = inside a.program.functions a.main below in
    (main.0, main.1, below)

module _ (a : AcceptedView) (ok : IsAccepted a) (pays_for : PlanPays a) where
  -- where main begins
  pub good_main : (gas : ℕ) (vs : List Plain) (main : Function) (held : Held Plain) → IsBeginning a gas vs → slice_get a.program.functions a.main ≡ Some main → add_all (zip (variables main) vs) [] ≡ Ok held
      → IsGood (running_of a) a.main (acts.begins_at a a.main) held
  good_main gas vs main held can is_main given =
      let begun = begins a ok a.main main vs is_main can.typed in
      let same : begun.args ≡ held = ok_same begun.args held (sym begun.given ∙ given) in
      let amount = add_all_total gas_inside (variables main) vs [] held given in
      let long = add_all_greatest length_of (variables main) vs [] held given in
      let entry = ok.plan.entry in
      let enough = can.enough in
      let counter = can.counter in
      let most = can.short in
      record {
        inside = begun.inside;
        typed = subst ((running_of a).IsTyped a.main (acts.begins_at a a.main)) same begun.typed;
        small = let below = can.small in omega arith;
        short = let below = can.small in omega arith;
      }

  -- main ends

  gas_bound : (funds gas size s : ℕ) → funds + 100 ≤ gas → (size + 1) * funds + (size - s) ≤ (size + 1) * (gas + 1)
  gas_bound funds gas size s le = let times = pays (size + 1) size funds (gas + 1) (omega arith) (omega arith) in omega arith

  funds_within : (gas : ℕ) (vs : List Plain) (main : Function) (held : Held Plain) → IsBeginning a gas vs → add_all (zip (variables main) vs) [] ≡ Ok held → funds (running_of a) (acts.begins_at a a.main) held + 100 ≤ gas
  funds_within gas vs main held can given =
      let amount = add_all_total gas_inside (variables main) vs [] held given in
      let entry = ok.plan.entry in
      let enough = can.enough in
      let counter = can.counter in
      omega arith

  pub statements_within : (gas n : ℕ) (vs results : List Plain) → IsBeginning a gas vs → MainEnds a n vs results → n ≤ statement_bound a gas
  statements_within gas n vs results can run =
      let good = good_main gas vs run.main run.held can run.is_main run.begins in
      let within = within_measure (running_of a) (facts a ok pays_for (all_weigh a.types ok.types.kept)) a.main n (acts.begins_at a a.main) run.held results run.ends good in
      let bound = gas_bound (funds (running_of a) (acts.begins_at a a.main) run.held) gas (length a.program.statements) (acts.begins_at a a.main) (funds_within gas vs run.main run.held can run.begins) in
      omega arith

  pub results_known : (gas n : ℕ) (vs results : List Plain) → IsBeginning a gas vs → MainEnds a n vs results → AreMainResults a gas results
  results_known gas n vs results can run =
      let good = good_main gas vs run.main run.held can run.is_main run.begins in
      let all = spent (running_of a) (facts a ok pays_for (all_weigh a.types ok.types.kept)) a.main n (acts.begins_at a a.main) run.held results run.ends good in
      let within = funds_within gas vs run.main run.held can run.begins in
      let paid = all.paid in
      let few = all.small in
      let short = good.short in
      record { typed = all.typed; left = omega arith; short = omega arith }

  pub charges_paid : (gas n : ℕ) (vs results : List Plain) → IsBeginning a gas vs → (run : MainEnds a n vs results)
      → charged n (acts.begins_at a a.main) run.held results run.ends + sum_by gas_inside results + 100 ≤ gas
  charges_paid gas n vs results can run =
      let good = good_main gas vs run.main run.held can run.is_main run.begins in
      let all = spent (running_of a) (facts a ok pays_for (all_weigh a.types ok.types.kept)) a.main n (acts.begins_at a a.main) run.held results run.ends good in
      let within = funds_within gas vs run.main run.held can run.begins in
      let paid = all.paid in
      omega arith

  pub main_ends : (gas : ℕ) (vs : List Plain) → IsBeginning a gas vs → (n : ℕ) × (results : List Plain) × MainEnds a n vs results
  main_ends gas vs can =
      let main = main_function a ok in
      let begun = begins a ok a.main main.0 vs main.1 can.typed in
      let good = good_main gas vs main.0 begun.args can main.1 begun.given in
      let run = all_end (running_of a) (facts a ok pays_for (all_weigh a.types ok.types.kept)) (moves a ok) (measure (running_of a) (acts.begins_at a a.main) begun.args + 1) a.main (acts.begins_at a a.main) begun.args good (omega arith) in
      (run.0, run.1, record { typed = can.typed; main = main.0; is_main = main.1; held = begun.args; begins = begun.given; ends = run.2 })

pub main_once : (a : AcceptedView) (n m : ℕ) (vs one other : List Plain) → MainEnds a n vs one → MainEnds a m vs other → (n ≡ m) × (one ≡ other)
main_once a n m vs one other run again =
    let main : again.main ≡ run.main = same_Some again.main run.main (sym again.is_main ∙ run.is_main) in
    let held : again.held ≡ run.held = ok_same again.held run.held (sym again.begins ∙ ap (λ (f : Function). add_all (zip (variables f) vs) []) main ∙ run.begins) in
    mean_once (running_of a) (acts_once a) n m (acts.begins_at a a.main) run.held one other run.ends (subst (λ env. Mean (Acts mapped a) (acts.begins_at a) m (acts.begins_at a a.main) env other) held again.ends)

-- main's builtins

pub main_balanced : (a : AcceptedView) → IsAccepted a → HasBalancedFunctions a.types → (check gas : ℕ) → builtins check gas (params_of a.types a.main) ≡ builtins check gas (results_of a.types a.main)
main_balanced a ok balanced check gas =
    let main = main_function a ok in
    let types = inside a.types.functions a.main (omega (arith, main.2, function_count a.program a.types ok.types)) in
    let params : params_of a.types a.main ≡ trees_of a.types types.0.params = ap (λ (o : Option FunctionView). option_map_or (λ (g : FunctionView). trees_of a.types g.params) o []) types.1 in
    let results : results_of a.types a.main ≡ trees_of a.types types.0.results = ap (λ (o : Option FunctionView). option_map_or (λ (g : FunctionView). trees_of a.types g.results) o []) types.1 in
    ap (builtins check gas) params ∙ balanced check gas a.main types.0 types.1 ∙ ap (builtins check gas) (sym results)
