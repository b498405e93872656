use Rattle.std.proofs.Common.{◌≡◌, Result, Ok, refl, sym, ap, ◌∙◌}
use Rattle.typed_values.specs.Reading.{input_at}
use Rattle.typed_values.proofs.InputTexts.{input_sound, input_complete}
use Rattle.typed_values.proofs.laws.texts_of_inputs.Goals as goal

pub returns : goal.returns
returns c = λ tys text i. (input_sound tys text i, λ h. ap (input_at tys) h.1 ∙ input_complete tys i h.0)
