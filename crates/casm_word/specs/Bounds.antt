-- What an instruction holds: immediates below the field's order, and offsets of 16 bits.
use Rattle.std.specs.Prelude.{◌<◌}
use Rattle.felt64.specs.Field.{modulus}
use Rattle.casm_word.specs.Offset.{IsNear}
use Rattle.casm_word.specs.declared.instr.Operand.{Operand}
use Rattle.casm_word.specs.declared.instr.Operand.TheVariants as operand
use Rattle.casm_word.specs.declared.instr.Res.{Res}
use Rattle.casm_word.specs.declared.instr.Res.TheVariants as res
use Rattle.casm_word.specs.declared.instr.Instr.{Instr}
use Rattle.casm_word.specs.declared.instr.Instr.TheVariants as instr

abbrev pub IsOperandInField : Operand → Type 0
IsOperandInField (operand.Cell cell) = Unit {0}
IsOperandInField (operand.Imm n) = n < modulus

abbrev pub IsResInField : Res → Type 0
IsResInField (res.Cell cell) = Unit {0}
IsResInField (res.Double cell inner) = Unit {0}
IsResInField (res.Imm n) = n < modulus
IsResInField (res.Add cell operand) = IsOperandInField operand
IsResInField (res.Mul cell operand) = IsOperandInField operand

-- each immediate of the instruction is below the field's order
abbrev pub IsInstrInField : Instr → Type 0
IsInstrInField (instr.AssertEq dst res ap_inc) = IsResInField res
IsInstrInField (instr.Jump rel to ap_inc) = IsResInField to
IsInstrInField (instr.Jnz cond to ap_inc) = IsOperandInField to
IsInstrInField (instr.Call rel to) = IsOperandInField to
IsInstrInField (instr.AddAp by) = IsResInField by
IsInstrInField instr.Ret = Unit {0}

abbrev pub IsOperandNear : Operand → Type 0
IsOperandNear (operand.Cell cell) = IsNear cell.off
IsOperandNear (operand.Imm n) = Unit {0}

abbrev pub IsResNear : Res → Type 0
IsResNear (res.Cell cell) = IsNear cell.off
IsResNear (res.Double cell inner) = IsNear cell.off × IsNear inner
IsResNear (res.Imm n) = Unit {0}
IsResNear (res.Add cell operand) = IsNear cell.off × IsOperandNear operand
IsResNear (res.Mul cell operand) = IsNear cell.off × IsOperandNear operand

-- each offset of the instruction has 16 bits
abbrev pub IsInstrNear : Instr → Type 0
IsInstrNear (instr.AssertEq dst res ap_inc) = IsNear dst.off × IsResNear res
IsInstrNear (instr.Jump rel to ap_inc) = IsResNear to
IsInstrNear (instr.Jnz cond to ap_inc) = IsNear cond.off × IsOperandNear to
IsInstrNear (instr.Call rel to) = IsOperandNear to
IsInstrNear (instr.AddAp by) = IsResNear by
IsInstrNear instr.Ret = Unit {0}
