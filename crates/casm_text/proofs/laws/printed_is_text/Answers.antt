use Rattle.std.proofs.lemmas.List.Elements.{recursion_from_All}
use Rattle.casm_text.proofs.PrintedTexts.{code_printed}
use Rattle.casm_text.proofs.laws.printed_is_text.Goals as goal

pub returns : goal.returns
returns c = λ code field near. code_printed code (recursion_from_All _ code field) (recursion_from_All _ code near)
