-- The printed text of code: an instruction on each line, with single spaces.
use Rattle.std.specs.Prelude.{ℕ, ◌-◌, ◌/◌, ℤ, List, ◌++◌, Bool, true, false, codes, decimal, nat_lt, if◌then◌else◌}
use Rattle.std.specs.Fmt.{signed_decimal}
use Rattle.std.specs.List.{flat_map}
use Rattle.felt64.specs.Field.{modulus}
use Rattle.casm_word.specs.declared.instr.Reg.{Reg}
use Rattle.casm_word.specs.declared.instr.Reg.TheVariants as regs
use Rattle.casm_word.specs.declared.instr.CellRef.{CellRef}
use Rattle.casm_word.specs.declared.instr.Operand.{Operand}
use Rattle.casm_word.specs.declared.instr.Operand.TheVariants as operands
use Rattle.casm_word.specs.declared.instr.Res.{Res}
use Rattle.casm_word.specs.declared.instr.Res.TheVariants as results
use Rattle.casm_word.specs.declared.instr.Instr.{Instr}
use Rattle.casm_word.specs.declared.instr.Instr.TheVariants as instrs

abbrev pub register_text : Reg → List ℕ
register_text regs.Ap = codes "[ap + "
register_text regs.Fp = codes "[fp + "

-- an immediate above (P - 1) / 2 as `-` and P less it
abbrev pub imm_text : ℕ → List ℕ
imm_text n = if nat_lt ((modulus - 1) / 2) n then codes "-" ++ decimal (modulus - n) else decimal n

unfoldable pub cell_text : CellRef → List ℕ
cell_text cell = register_text cell.reg ++ (signed_decimal cell.off ++ codes "]")

abbrev pub operand_text : Operand → List ℕ
operand_text (operands.Cell cell) = cell_text cell
operand_text (operands.Imm n) = imm_text n

abbrev pub double_text : CellRef → ℤ → List ℕ
double_text cell inner = codes "[" ++ (cell_text cell ++ (codes " + " ++ (signed_decimal inner ++ codes "]")))

unfoldable pub res_text : Res → List ℕ
res_text (results.Cell cell) = cell_text cell
res_text (results.Double cell inner) = double_text cell inner
res_text (results.Imm n) = imm_text n
res_text (results.Add cell operand) = cell_text cell ++ (codes " + " ++ operand_text operand)
res_text (results.Mul cell operand) = cell_text cell ++ (codes " * " ++ operand_text operand)

abbrev pub ending_text : Bool → List ℕ
ending_text true = codes ", ap++;\n"
ending_text false = codes ";\n"

abbrev pub base_text : Bool → List ℕ
base_text true = codes "rel "
base_text false = codes "abs "

abbrev pub jnz_text : CellRef → Operand → Bool → List ℕ
jnz_text cond to ap_inc = codes "jmp rel " ++ (operand_text to ++ (codes " if " ++ (cell_text cond ++ (codes " != 0" ++ ending_text ap_inc))))

unfoldable pub instr_text : Instr → List ℕ
instr_text (instrs.AssertEq dst res ap_inc) = cell_text dst ++ (codes " = " ++ (res_text res ++ ending_text ap_inc))
instr_text (instrs.Jump rel to ap_inc) = codes "jmp " ++ (base_text rel ++ (res_text to ++ ending_text ap_inc))
instr_text (instrs.Jnz cond to ap_inc) = jnz_text cond to ap_inc
instr_text (instrs.Call rel to) = codes "call " ++ (base_text rel ++ (operand_text to ++ codes ";\n"))
instr_text (instrs.AddAp by) = codes "ap += " ++ (res_text by ++ codes ";\n")
instr_text instrs.Ret = codes "ret;\n"

abbrev pub printed : List Instr → List ℕ
printed code = flat_map instr_text code
