-- The words of an instruction are numbers of the field.
use Rattle.std.proofs.Common.{ℕ, ◌<◌, Option, Some, None, [], IfSome}
use Rattle.std.specs.List.{All}
use Rattle.std.specs.Option.{option_to_list}
use Rattle.std.proofs.lemmas.List.Elements.{All-cons, All-nil}
use Rattle.felt64.specs.Field.{modulus}
use Rattle.casm_word.specs.declared.instr.Operand.{Operand}
use Rattle.casm_word.specs.declared.instr.Operand.TheVariants as operand
use Rattle.casm_word.specs.declared.instr.Res.{Res}
use Rattle.casm_word.specs.declared.instr.Res.TheVariants as res
use Rattle.casm_word.specs.declared.instr.Instr.{Instr}
use Rattle.casm_word.specs.declared.instr.Instr.TheVariants as instr
use Rattle.casm_word.specs.Bounds.{IsOperandInField, IsResInField, IsInstrInField}
use Rattle.casm_word.specs.Word.{word_of}
use Rattle.casm_word.specs.Encoding.{flags_of, operand_immediate, res_immediate, immediate, words_of}

abbrev IsBelow : ℕ → Type 0
IsBelow n = n < modulus

operand_in_field : (x : Operand) → IsOperandInField x → IfSome (operand_immediate x) IsBelow
operand_in_field (operand.Cell cell) fits = tt
operand_in_field (operand.Imm n) fits = fits

res_in_field : (r : Res) → IsResInField r → IfSome (res_immediate r) IsBelow
res_in_field (res.Cell cell) fits = tt
res_in_field (res.Double cell inner) fits = tt
res_in_field (res.Imm n) fits = fits
res_in_field (res.Add cell x) fits = operand_in_field x fits
res_in_field (res.Mul cell x) fits = operand_in_field x fits

immediate_in_field : (i : Instr) → IsInstrInField i → IfSome (immediate i) IsBelow
immediate_in_field (instr.AssertEq dst r ap_inc) fits = res_in_field r fits
immediate_in_field (instr.Jump rel to ap_inc) fits = res_in_field to fits
immediate_in_field (instr.Jnz cond to ap_inc) fits = operand_in_field to fits
immediate_in_field (instr.Call rel to) fits = operand_in_field to fits
immediate_in_field (instr.AddAp by) fits = res_in_field by fits
immediate_in_field instr.Ret fits = tt

listed_in_field : (o : Option ℕ) → IfSome o IsBelow → All IsBelow (option_to_list o)
listed_in_field None fits = All-nil IsBelow
listed_in_field (Some n) fits = All-cons IsBelow n [] fits (All-nil IsBelow)

pub words_of_in_field : (i : Instr) → IsInstrInField i → word_of (flags_of i) < modulus → All (λ word. word < modulus) (words_of i)
words_of_in_field i fits below = All-cons IsBelow (word_of (flags_of i)) (option_to_list (immediate i)) below (listed_in_field (immediate i) (immediate_in_field i fits))
