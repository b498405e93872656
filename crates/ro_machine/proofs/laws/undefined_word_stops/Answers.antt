use Rattle.std.proofs.Common.{refl}
use Rattle.ro_machine.proofs.StepLaws.{undefined_no_step}
use Rattle.ro_machine.proofs.laws.undefined_word_stops.Goals as goal

pub returns-clause-no_step : goal.returns-clause-no_step
returns-clause-no_step c = λ cells s t word is none. undefined_no_step cells s word t is none

pub returns-clause-stops : goal.returns-clause-stops
returns-clause-stops c = λ cells s word is none. (refl, (word, is, none))
