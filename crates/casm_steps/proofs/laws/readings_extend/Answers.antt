use Rattle.casm_steps.specs.Reading.{address}
use Rattle.casm_steps.proofs.Readings.{reading_extends}
use Rattle.casm_steps.proofs.laws.readings_extend.Goals as goal

pub returns : goal.returns
returns c = λ m more a fp w e extends is. reading_extends m more extends (address a fp) e w is
