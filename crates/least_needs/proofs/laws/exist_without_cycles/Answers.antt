use Rattle.least_needs.proofs.Finding.{least_of, there_are}
use Rattle.least_needs.proofs.laws.exist_without_cycles.Goals as goal

pub returns : goal.returns
returns c = λ terms closed acyclic. (least_of terms, there_are terms closed acyclic)
