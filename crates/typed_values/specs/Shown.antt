-- What inputs, outcomes and verdicts of the code stand for.
use Rattle.std.specs.Prelude.{map}
use Rattle.value_trees.specs.Meant.{meant}
use Rattle.typed_values.specs.Outcome.{OutcomeView, VerdictView}
use Rattle.typed_values.specs.Inputs.{InputView}
use Rattle.typed_values.specs.declared.input.Input.{Input}
use Rattle.typed_values.specs.declared.outcome.Outcome.{Outcome}
use Rattle.typed_values.specs.declared.outcome.Verdict.{Verdict}

abbrev pub outcome_meant : Outcome → OutcomeView
outcome_meant o = record { panic = o.panic; values = map meant o.values.items; gas_left = o.gas_left; gas_used = o.gas_used }

abbrev pub verdict_meant : Verdict → VerdictView
verdict_meant v = record { outcome = outcome_meant v.outcome; steps = v.steps; checks = v.checks }

abbrev pub input_meant : Input → InputView
input_meant i = record { gas = i.gas; args = map meant i.args.items }
