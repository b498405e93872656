use Rattle.typed_values.proofs.OneText as texts
use Rattle.typed_values.proofs.laws.one_text.Goals as goal

pub returns-clause-of_value : goal.returns-clause-of_value
returns-clause-of_value c = texts.one_text

pub returns-clause-of_input : goal.returns-clause-of_input
returns-clause-of_input c = texts.one_input
