use Rattle.linear_check.proofs.Lawfulness.{rules_lawful}
use Rattle.linear_check.proofs.Joining.{typed_by_rules}
use Rattle.linear_check.proofs.Deciding.{through}
use Rattle.linear_check.proofs.laws.typed_by_the_rules.Goals as goal

pub returns : goal.returns
returns c = record { lawful = rules_lawful; fits = typed_by_rules; through = through }
