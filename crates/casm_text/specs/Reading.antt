-- Reading CASM text, form by form, each by its next byte.
use Rattle.std.specs.Prelude.{ℕ, suc, ◌-◌, ℤ, pos, List, Bool, true, false, option_map, codes}
use Rattle.felt64.specs.Field.{modulus}
use Rattle.casm_word.specs.declared.instr.Reg.{Reg}
use Rattle.casm_word.specs.declared.instr.Reg.TheVariants as regs
use Rattle.casm_word.specs.declared.instr.CellRef.{CellRef}
use Rattle.casm_word.specs.declared.instr.Operand.{Operand}
use Rattle.casm_word.specs.declared.instr.Operand.TheVariants as operands
use Rattle.casm_word.specs.declared.instr.Res.{Res}
use Rattle.casm_word.specs.declared.instr.Res.TheVariants as results
use Rattle.casm_word.specs.declared.instr.Instr.{Instr}
use Rattle.casm_word.specs.declared.instr.Instr.TheVariants as instrs
use Rattle.casm_word.specs.Offset.{minus}
use Rattle.text_reading.specs.Reading.{Reader, done, ◌>>=◌, branch}
use Rattle.text_reading.specs.TokenReading.{mark_at, word_at, number_at, text_at}
use Rattle.casm_text.specs.declared.fault.NumberKind.{NumberKind}
use Rattle.casm_text.specs.declared.fault.NumberKind.TheVariants as kinds
use Rattle.casm_text.specs.Text.{Limits}

abbrev pub Casm : Type 0 → Type 0
Casm = Reader NumberKind

unfoldable pub register_at : Casm Reg
register_at =
    branch 97 (word_at (codes "ap") >>= λ _. done regs.Ap) (word_at (codes "fp") >>= λ _. done regs.Fp)

unfoldable pub ending_at : Casm Bool
ending_at = branch 44
    (mark_at (codes ",") >>= λ _. word_at (codes "ap") >>= λ _. mark_at (codes "++") >>= λ _. mark_at (codes ";") >>= λ _. done true)
    (mark_at (codes ";") >>= λ _. done false)

-- `rel` or `abs`
unfoldable pub base_at : Casm Bool
base_at = branch 114 (word_at (codes "rel") >>= λ _. done true) (word_at (codes "abs") >>= λ _. done false)

unfoldable pub jump_end_at : Bool → Res → Casm Instr
jump_end_at rel to = ending_at >>= λ ap_inc. done (instrs.Jump rel to ap_inc)

unfoldable pub ret_at : Casm Instr
ret_at = word_at (codes "ret") >>= λ _. mark_at (codes ";") >>= λ _. done instrs.Ret

module _ (limits : Limits) where
  unfoldable pub offset_at : Casm ℤ
  offset_at = branch 45
      (mark_at (codes "-") >>= λ _. number_at (option_map suc limits.offset) false kinds.Offset >>= λ n. done (minus n))
      (number_at limits.offset true kinds.Offset >>= λ n. done (pos n))

  unfoldable pub imm_at : Casm ℕ
  imm_at = branch 45
      (mark_at (codes "-") >>= λ _. number_at limits.imm false kinds.Imm >>= λ n. done (modulus - n))
      (number_at limits.imm true kinds.Imm)

  -- `+ int ]`
  unfoldable pub inner_at : Casm ℤ
  inner_at = mark_at (codes "+") >>= λ _. offset_at >>= λ offset. mark_at (codes "]") >>= λ _. done offset

  -- a cell, from behind its `[`
  unfoldable pub cell_rest_at : Casm CellRef
  cell_rest_at = register_at >>= λ reg. inner_at >>= λ offset. done (record { reg = reg; off = offset })

  unfoldable pub cell_at : Casm CellRef
  cell_at = mark_at (codes "[") >>= λ _. cell_rest_at

  unfoldable pub operand_at : Casm Operand
  operand_at = branch 91 (cell_at >>= λ cell. done (operands.Cell cell)) (imm_at >>= λ n. done (operands.Imm n))

  -- what follows a cell: `+` or `*` and an operand, or nothing
  unfoldable pub behind_cell_at : CellRef → Casm Res
  behind_cell_at cell = branch 43
      (mark_at (codes "+") >>= λ _. operand_at >>= λ operand. done (results.Add cell operand))
      (branch 42
      (mark_at (codes "*") >>= λ _. operand_at >>= λ operand. done (results.Mul cell operand))
      (done (results.Cell cell)))

  unfoldable pub double_at : Casm Res
  double_at = cell_at >>= λ cell. inner_at >>= λ offset. done (results.Double cell offset)

  -- what begins with `[`, from behind it
  unfoldable pub bracket_at : Casm Res
  bracket_at = branch 91 double_at (cell_rest_at >>= λ cell. behind_cell_at cell)

  unfoldable pub res_at : Casm Res
  res_at = branch 91 (mark_at (codes "[") >>= λ _. bracket_at) (imm_at >>= λ n. done (results.Imm n))

  unfoldable pub assert_at : Casm Instr
  assert_at = cell_at >>= λ dst. mark_at (codes "=") >>= λ _. res_at >>= λ res. ending_at >>= λ ap_inc. done (instrs.AssertEq dst res ap_inc)

  -- `if cell != 0`, behind the distance
  unfoldable pub jnz_at : Operand → Casm Instr
  jnz_at to =
      word_at (codes "if") >>= λ _. cell_at >>= λ cond. mark_at (codes "!=") >>= λ _. mark_at (codes "0") >>= λ _. ending_at >>= λ ap_inc. done (instrs.Jnz cond to ap_inc)

  -- behind `jmp rel` and what follows it
  unfoldable pub relative_end_at : Res → Casm Instr
  relative_end_at (results.Cell cell) = branch 105 (jnz_at (operands.Cell cell)) (jump_end_at true (results.Cell cell))
  relative_end_at (results.Imm n) = branch 105 (jnz_at (operands.Imm n)) (jump_end_at true (results.Imm n))
  relative_end_at (results.Double cell inner) = jump_end_at true (results.Double cell inner)
  relative_end_at (results.Add cell operand) = jump_end_at true (results.Add cell operand)
  relative_end_at (results.Mul cell operand) = jump_end_at true (results.Mul cell operand)

  unfoldable pub jump_at : Casm Instr
  jump_at = word_at (codes "jmp") >>= λ _. branch 114
      (word_at (codes "rel") >>= λ _. res_at >>= λ to. relative_end_at to)
      (word_at (codes "abs") >>= λ _. res_at >>= λ to. jump_end_at false to)

  unfoldable pub call_at : Casm Instr
  call_at = word_at (codes "call") >>= λ _. base_at >>= λ rel. operand_at >>= λ to. mark_at (codes ";") >>= λ _. done (instrs.Call rel to)

  unfoldable pub add_ap_at : Casm Instr
  add_ap_at = word_at (codes "ap") >>= λ _. mark_at (codes "+=") >>= λ _. res_at >>= λ by. mark_at (codes ";") >>= λ _. done (instrs.AddAp by)

  unfoldable pub instr_at : Casm Instr
  instr_at = branch 91 assert_at (branch 106 jump_at (branch 99 call_at (branch 97 add_ap_at ret_at)))

  unfoldable pub code_at : Casm (List Instr)
  code_at = text_at instr_at
