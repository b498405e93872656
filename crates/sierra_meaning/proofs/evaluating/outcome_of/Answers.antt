use Rattle.std.proofs.Common.{List, map, ap, ◌∙◌}
use Rattle.std.proofs.lemmas.Result.{IfOk-weaker}
use Rattle.sierra_types.specs.declared.program.Program.{Program}
use Rattle.type_trees.specs.Ty.{Ty}
use Rattle.type_table.specs.View.{trees_of}
use Rattle.value_trees.specs.Meant.{meant}
use Rattle.typed_values.specs.Outcome as outcomes
use Rattle.typed_values.specs.Shown.{input_meant, outcome_meant}
use Rattle.sierra_meaning.specs.Outcome.{counter}
use Rattle.sierra_meaning.proofs.Starting.{main_is, main_params, main_result_types, main_results_below, begins_with, main_can, shown_means}
use Rattle.sierra_meaning.proofs.evaluating.outcome_of.Goals as goal

pub main_results-requires-clause-pays : goal.main_results-requires-clause-pays
main_results-requires-clause-pays c =
    let a = c.args.accepted.now in
    let ok = c.program-program.ensures.accepted in
    c.plan_pays.ensures a.program a.types a.sigs a.envs a.main a.plan ok.types ok.signatures ok.typed ok.plan

pub main_results-requires-clause-main : goal.main_results-requires-clause-main
main_results-requires-clause-main c =
    main_is c.args.accepted.now c.program-program.ensures.accepted c.main-main.result c.items.result.now c.index-items-main.result (c.items.ensures ∙ ap (λ (p : Program). p.functions) c.program-program.ensures.program)
    c.main-main.ensures c.index-items-main.is

pub main_results-requires-clause-begins : goal.main_results-requires-clause-begins
main_results-requires-clause-begins c =
    let a = c.args.accepted.now in
    let ok = c.program-program.ensures.accepted in
    let i = input_meant c.args.input.now in
    let pays = c.plan_pays.ensures a.program a.types a.sigs a.envs a.main a.plan ok.types ok.signatures ok.typed ok.plan in
    let tys = main_params a ok c.types-types.result.now c.main-main.result c.params.result.now c.types-types.ensures c.main-main.ensures c.params.ensures in
    let is = begins_with a ok i (trees_of c.types-types.result.now c.params.result.now) c.args.counter (map meant c.in_ok-given.given.items) (map meant c.in_ok-values.values.items) tys c.requires.counter c.in_ok-given.ensures c.in_ok-values.ensures in
    (c.args.input.now.gas, main_can a ok pays i c.requires.fits c.requires.enough (map meant c.in_ok-values.values.items) is)

pub of-requires : goal.of-requires
of-requires c =
    main_results_below c.args.accepted.now c.program-program.ensures.accepted c.types-types.result.now c.main-main.result c.results.result.now c.types-types.ensures c.main-main.ensures c.results.ensures

pub returns : goal.returns
returns c =
    let a = c.args.accepted.now in
    let ok = c.program-program.ensures.accepted in
    let i = input_meant c.args.input.now in
    let pays = c.plan_pays.ensures a.program a.types a.sigs a.envs a.main a.plan ok.types ok.signatures ok.typed ok.plan in
    let tys = main_params a ok c.types-types.result.now c.main-main.result c.params.result.now c.types-types.ensures c.main-main.ensures c.params.ensures in
    let is = begins_with a ok i (trees_of c.types-types.result.now c.params.result.now) c.args.counter (map meant c.in_ok-given.given.items) (map meant c.in_ok-values.values.items) tys c.requires.counter c.in_ok-given.ensures c.in_ok-values.ensures in
    let shown = main_result_types a ok c.types-types.result.now c.main-main.result c.results.result.now c.types-types.ensures c.main-main.ensures c.results.ensures in
    let rs = map meant c.in_ok-results.results.items in
    IfOk-weaker c.of.result _ _
    (λ outcome shows. shown_means a ok pays i c.requires.fits c.requires.enough (map meant c.in_ok-values.values.items) rs (outcome_meant outcome) is c.in_ok-results.ensures
    (shows ∙ ap (λ n. outcomes.outcome_of c.args.input.now.gas n (trees_of c.types-types.result.now c.results.result.now) rs) c.requires.counter ∙ ap (λ (ts : List Ty). outcomes.outcome_of c.args.input.now.gas (counter a i) ts rs) shown))
    c.of.ensures
