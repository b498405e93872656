use Rattle.std.specs.FinMap.{get}
use Rattle.first_form.specs.Meaning.{code_of, parameter_types, arguments_of}
use Rattle.first_form.proofs.RejectedLaws.{exact_result}
use Rattle.first_form.proofs.accepted.test.Goals as goal

pub returns-clause-ok : goal.returns-clause-ok
returns-clause-ok c =
    let run = c.args.run.now in
    (exact_result (code_of c.args.program.now) (parameter_types c.args.program.now) (arguments_of c.args.program.now c.args.input.now) run.rc (get run.memory) run.states c.tested.result c.tested.ensures.ok c.tested.ensures.err).0

pub returns-clause-err : goal.returns-clause-err
returns-clause-err c =
    let run = c.args.run.now in
    (exact_result (code_of c.args.program.now) (parameter_types c.args.program.now) (arguments_of c.args.program.now c.args.input.now) run.rc (get run.memory) run.states c.tested.result c.tested.ensures.ok c.tested.ensures.err).1
