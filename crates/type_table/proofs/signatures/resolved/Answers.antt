use Rattle.std.proofs.Common.{◌≢◌, ◌++◌, ◌∙◌, map, ap, subst}
use Rattle.std.proofs.lemmas.List.{map-id}
use Rattle.type_table.specs.declared.fault.TypeFault.TheVariants as faults
use Rattle.type_table.specs.Refusals.{parameter_types}
use Rattle.type_table.specs.Signatures.{AreFound, HasUnfound}
use Rattle.type_table.proofs.SignatureLaws.{fault_passed, unfound_left, unfound_right}
use Rattle.type_table.proofs.signatures.resolved.Goals as goal

pub returns-in_err-params-clause-refused : goal.returns-in_err-params-clause-refused
returns-in_err-params-clause-refused c =
    let positions = c.args.positions.now in
    let params = parameter_types c.args.function.now in
    let results = c.args.function.now.results in
    let fault = c.in_err-params.field-0.0 in
    fault_passed (λ e. e ≢ faults.Memory → HasUnfound positions (params ++ results) e) fault c.from_residual.result c.from_residual.ensures.1
    (λ real. unfound_left positions params results fault
    (subst (λ l. HasUnfound positions (map (λ param. param.1) l) fault) c.items.ensures (c.in_err-params.ensures.refused real)))

pub returns-in_err-results-clause-refused : goal.returns-in_err-results-clause-refused
returns-in_err-results-clause-refused c =
    let positions = c.args.positions.now in
    let params = parameter_types c.args.function.now in
    let results = c.args.function.now.results in
    let fault = c.in_err-results.field-0.0 in
    fault_passed (λ e. e ≢ faults.Memory → HasUnfound positions (params ++ results) e) fault c.from_residual-in_err-results.result c.from_residual-in_err-results.ensures.1
    (λ real. unfound_right positions params results c.in_ok-params.params.items fault
    (subst (λ l. AreFound positions (map (λ param. param.1) l) c.in_ok-params.params.items) c.items.ensures c.in_ok-params.ensures.found)
    (subst (λ l. HasUnfound positions l fault) (ap (map (λ name. name)) c.items-2.ensures ∙ map-id results) (c.in_err-results.ensures.refused real)))
