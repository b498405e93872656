-- What reading CASM text gives: exactly the code of the text, or the exact place.
use Rattle.std.proofs.Common.{◌≡◌, ◌↔◌, ℕ, ◌<◌, List, [], ◌++◌, Option, Ok, Err, inl, inr, arith, lit≤}
use Rattle.std.proofs.lemmas.Bool.{ltb-true}
use Rattle.felt64.specs.Field.{modulus}
use Rattle.casm_word.specs.declared.instr.Instr.{Instr}
use Rattle.casm_word.specs.declared.instr.Instr.TheVariants as instrs
use Rattle.casm_word.specs.declared.instr.Operand.{Operand}
use Rattle.casm_word.specs.declared.instr.Operand.TheVariants as operands
use Rattle.casm_word.specs.declared.instr.Res.{Res}
use Rattle.casm_word.specs.declared.instr.Res.TheVariants as results
use Rattle.casm_word.specs.Bounds.{IsInstrInField, IsResInField, IsOperandInField}
use Rattle.text_reading.specs.Places.{IsPlace, GoesOnWithDigit}
use Rattle.text_reading.specs.Reading.{Answer.answers}
use Rattle.text_reading.proofs.BlankFacts.{Fresh}
use Rattle.text_reading.proofs.Readers.{IsReader}
use Rattle.text_reading.proofs.Limits.{Passes}
use Rattle.text_reading.proofs.WholeTexts.{Moves, text_sound, text_complete, text_place, text_limit}
use Rattle.casm_text.specs.declared.fault.NumberKind.{NumberKind}
use Rattle.casm_text.specs.declared.fault.NumberKind.TheVariants as kinds
use Rattle.casm_text.specs.Text.{standard, without, Imm, OperandText, ResText, InstrText, Text}
use Rattle.casm_text.specs.Reading.{instr_at, code_at}
use Rattle.casm_text.proofs.Forms.{instr}
use Rattle.casm_text.proofs.ExactForms.{AreWide, instr_exact}

pub standard_wide : AreWide standard
standard_wide = record { offset = lit≤ tt; imm = lit≤ tt }

pub bare_wide : (kind : NumberKind) → AreWide (without kind standard)
bare_wide kinds.Offset = record { offset = tt; imm = lit≤ tt }
bare_wide kinds.Imm = record { offset = lit≤ tt; imm = tt }

-- ---- immediates of a text are numbers of the field

imm_in_field : (n : ℕ) (text rest : List ℕ) → Imm standard n text rest → n < modulus
imm_in_field n text rest (inl h) = ltb-true n modulus h.1.within
imm_in_field n text rest (inr h) = omega (arith, h.1, h.2)

operand_in_field : (o : Operand) (text rest : List ℕ) → OperandText standard o text rest → IsOperandInField o
operand_in_field (operands.Cell c) text rest h = tt
operand_in_field (operands.Imm n) text rest h = imm_in_field n text rest h

res_in_field : (res : Res) (text rest : List ℕ) → ResText standard res text rest → IsResInField res
res_in_field (results.Cell c) text rest h = tt
res_in_field (results.Double c z) text rest h = tt
res_in_field (results.Imm n) text rest h = imm_in_field n text rest h
res_in_field (results.Add c o) text rest h = operand_in_field o h.2.0 rest h.2.2
res_in_field (results.Mul c o) text rest h = operand_in_field o h.2.0 rest h.2.2

text_in_field : (i : Instr) (text rest : List ℕ) → InstrText standard i text rest → IsInstrInField i
text_in_field (instrs.AssertEq dst res inc) text rest h = res_in_field res h.2.0 h.2.2.0 h.2.2.1
text_in_field (instrs.Jump rel to inc) text rest h = res_in_field to h.2.0 h.2.2.0 h.2.2.1
text_in_field (instrs.Jnz cond to inc) text rest h = operand_in_field to h.2.0 h.2.2.0 h.2.2.1
text_in_field (instrs.Call rel to) text rest h = operand_in_field to h.2.0 h.2.2.0 h.2.2.1
text_in_field (instrs.AddAp by) text rest h = res_in_field by h.2.0 h.2.2.0 h.2.2.1
text_in_field instrs.Ret text rest h = tt

pub instr_in_field : (text rest : List ℕ) (i : Instr) → instr_at standard text ≡ answers (Ok i) rest → IsInstrInField i
instr_in_field text rest i e = text_in_field i text rest ((instr_exact standard standard_wide).sound text rest i e)

-- ---- reading

pub standard_moves : Moves (instr_at standard)
standard_moves = (instr kinds.Imm standard).moves

standard_is : IsReader Fresh (instr_at standard)
standard_is = (instr kinds.Imm standard).limited.reads.is

-- what is read is the code that has the text
pub code_sound : (text rest : List ℕ) (code : List Instr) → code_at standard text ≡ answers (Ok code) rest → Text standard code text × (rest ≡ [])
unfolding code_at
code_sound text rest code e =
    let exact = instr_exact standard standard_wide in
    text_sound (instr_at standard) (InstrText standard) standard_is exact.sound exact.complete standard_moves text rest code e

-- the text of code is read
pub code_complete : (text : List ℕ) (code : List Instr) → Text standard code text → code_at standard text ≡ answers (Ok code) []
unfolding code_at
code_complete text code h =
    let exact = instr_exact standard standard_wide in
    text_complete (instr_at standard) (InstrText standard) standard_is exact.sound exact.complete standard_moves text code h

-- where reading stops is the place
pub code_place : (text rest : List ℕ) (why : Option NumberKind) → code_at standard text ≡ answers (Err why) rest
    → (front : List ℕ) × IsPlace (Text standard) text front rest × ((code : List Instr) → Text standard code text → ⊥)
unfolding code_at
code_place text rest why e =
    let exact = instr_exact standard standard_wide in
    text_place (instr_at standard) (InstrText standard) standard_is exact.sound exact.complete standard_moves text rest why e

-- it stops at a number of a kind if and only if the text goes on where that kind has no limit
pub code_limit : (kind : NumberKind) (front rest : List ℕ) (why : Option NumberKind) → code_at standard (front ++ rest) ≡ answers (Err why) rest
    → Passes {A = List Instr} kind (Err why) ↔ GoesOnWithDigit (Text (without kind standard)) front rest
unfolding code_at
code_limit kind front rest why e =
    let limited = instr kind standard in
    let bare = instr kinds.Imm (without kind standard) in
    let exact = instr_exact (without kind standard) (bare_wide kind) in
    text_limit kind (instr_at standard) (instr_at (without kind standard)) (InstrText (without kind standard)) standard_is standard_moves
    bare.limited.reads.is exact.sound exact.complete bare.moves limited.limited.lifts front rest why e
