use Rattle.std.specs.FinMap.{get}
use Rattle.first_form.specs.Meaning.{code_of, parameter_types, arguments_of}
use Rattle.first_form.proofs.DecidedRuns.{accepted_or_rejected}
use Rattle.first_form.proofs.RejectedLaws.{not_both, rejected_once}
use Rattle.first_form.proofs.laws.runs_have_one_cause.Goals as goal

pub returns-clause-either : goal.returns-clause-either
returns-clause-either c = λ program input run fits few. accepted_or_rejected (code_of program) input.argument run.rc (get run.memory) run.states few fits

pub returns-clause-not_both : goal.returns-clause-not_both
returns-clause-not_both c = λ program input run fault. not_both (code_of program) (parameter_types program) (arguments_of program input) run.rc (get run.memory) run.states fault

pub returns-clause-once : goal.returns-clause-once
returns-clause-once c = λ program input run a b. rejected_once (code_of program) (parameter_types program) (arguments_of program input) run.rc (get run.memory) run.states a b
