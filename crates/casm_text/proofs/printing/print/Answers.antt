use Rattle.std.proofs.Common.{◌≡◌, List, take, sym, ◌∙◌, ap, subst}
use Rattle.std.specs.List.{All}
use Rattle.std.specs.String.{string_bytes}
use Rattle.std.proofs.lemmas.List.{take_all}
use Rattle.std.proofs.lemmas.List.Elements.{recursion_from_All}
use Rattle.casm_word.specs.declared.instr.Instr.{Instr}
use Rattle.casm_word.specs.Bounds.{IsInstrNear}
use Rattle.casm_text.specs.Printing.{printed}
use Rattle.casm_text.specs.Text.{Text, standard}
use Rattle.casm_text.proofs.PrintedSoFar.{all_more, text_more}
use Rattle.casm_text.proofs.PrintedTexts.{code_printed}
use Rattle.casm_text.proofs.printing.print.Goals as goal

-- one more instruction was printed
pub loop-i-preserved : goal.loop-i-preserved
loop-i-preserved c = record {
  text = text_more c.instrs-i-items.result.now c.loop-i.i-index _ _ _ c.loop-i-test.true c.loop-i.invariant.text c.in_ok-push_instr.ensures.text;
  near = all_more IsInstrNear c.instrs-i-items.result.now c.loop-i.i-index _ c.loop-i-test.true c.loop-i.invariant.near c.in_ok-push_instr.ensures.near;
}

-- all were printed, so what was printed is their text
pub returns-clause-is_text : goal.returns-clause-is_text
returns-clause-is_text c =
    let all : take c.loop-i.i-index c.instrs-i-items.result.now ≡ c.args.code.now = take_all c.loop-i.i-index c.instrs-i-items.result.now c.loop-i-test.false ∙ c.instrs-i-items.ensures.instrs in
    let near = subst (λ (l : List Instr). All IsInstrNear l) all c.loop-i.invariant.near in
    let text : string_bytes c.loop-i.text ≡ printed c.args.code.now = c.loop-i.invariant.text ∙ ap printed all in
    subst (Text standard c.args.code.now) (sym text) (code_printed c.args.code.now (recursion_from_All _ c.args.code.now c.instrs-i-items.ensures.in_field) (recursion_from_All _ c.args.code.now near))
