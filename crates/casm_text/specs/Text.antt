-- The text of code: a relation between instructions and bytes, by cases on the forms of instructions. Blanks may
-- stand between any two tokens, and before the first.
use Rattle.std.specs.Prelude.{◌≡◌, ◌≢◌, ◌⊎◌, ℕ, suc, ◌-◌, ◌^◌, ℤ, pos, negsuc, List, Bool, true, false, Option, None, Some, option_map, codes, if◌then◌else◌}
use Rattle.felt64.specs.Field.{modulus}
use Rattle.casm_word.specs.declared.instr.Reg.{Reg}
use Rattle.casm_word.specs.declared.instr.Reg.TheVariants as regs
use Rattle.casm_word.specs.declared.instr.CellRef.{CellRef}
use Rattle.casm_word.specs.declared.instr.Operand.{Operand}
use Rattle.casm_word.specs.declared.instr.Operand.TheVariants as operands
use Rattle.casm_word.specs.declared.instr.Res.{Res}
use Rattle.casm_word.specs.declared.instr.Res.TheVariants as results
use Rattle.casm_word.specs.declared.instr.Instr.{Instr}
use Rattle.casm_word.specs.declared.instr.Instr.TheVariants as instrs
use Rattle.text_reading.specs.Tokens.{Form, ◌then◌, Mark, Word, Number}
use Rattle.text_reading.specs.Places.{TextOf}
use Rattle.casm_text.specs.declared.fault.NumberKind.{NumberKind}
use Rattle.casm_text.specs.declared.fault.NumberKind.TheVariants as kinds

-- The numbers that may stand in a text: an offset below the first limit, and from its negative on; an immediate
-- whose absolute value is below the second. `None` is no limit.
pub record Limits : Type 0 where
  pub offset : Option ℕ
  pub imm : Option ℕ

-- the limits of CASM: offsets from -32768 to 32767, immediates of the field
abbrev pub standard : Limits
standard = record { offset = Some (2 ^ 15); imm = Some modulus }

-- the same without the limit of one kind
abbrev pub without : NumberKind → Limits → Limits
without kinds.Offset limits = record { offset = None; imm = limits.imm }
without kinds.Imm limits = record { offset = limits.offset; imm = None }

abbrev pub Register : Reg → Form
Register regs.Ap = Word (codes "ap")
Register regs.Fp = Word (codes "fp")

-- `;`, or `, ap++;`
abbrev pub Ending : Bool → Form
Ending false = Mark (codes ";")
Ending true = Mark (codes ",") then Word (codes "ap") then Mark (codes "++") then Mark (codes ";")

-- `rel` or `abs`
abbrev pub Base : Bool → Form
Base true = Word (codes "rel")
Base false = Word (codes "abs")

module _ (limits : Limits) where
  -- a number, or `-` and a number other than 0
  abbrev pub Offset : ℤ → Form
  Offset (pos n) = Number limits.offset n
  Offset (negsuc n) = Mark (codes "-") then Number (option_map suc limits.offset) (suc n)

  -- The same of an immediate: `-n` stands for the field's number `P - n`.
  abbrev pub NegativeImm : ℕ → Form
  NegativeImm n text rest = (m : ℕ) × (m ≢ 0) × (n ≡ modulus - m) × (Mark (codes "-") then Number limits.imm m) text rest

  abbrev pub Imm : ℕ → Form
  Imm n text rest = Number limits.imm n text rest ⊎ NegativeImm n text rest

  -- `[ap + int]`, `[fp + int]`
  abbrev pub Cell : CellRef → Form
  Cell cell = Mark (codes "[") then Register cell.reg then Mark (codes "+") then Offset cell.off then Mark (codes "]")

  abbrev pub OperandText : Operand → Form
  OperandText (operands.Cell cell) = Cell cell
  OperandText (operands.Imm n) = Imm n

  abbrev pub ResText : Res → Form
  ResText (results.Cell cell) = Cell cell
  ResText (results.Double cell inner) = Mark (codes "[") then Cell cell then Mark (codes "+") then Offset inner then Mark (codes "]")
  ResText (results.Imm n) = Imm n
  ResText (results.Add cell operand) = Cell cell then Mark (codes "+") then OperandText operand
  ResText (results.Mul cell operand) = Cell cell then Mark (codes "*") then OperandText operand

  abbrev pub InstrText : Instr → Form
  InstrText (instrs.AssertEq dst res ap_inc) = Cell dst then Mark (codes "=") then ResText res then Ending ap_inc
  InstrText (instrs.Jump rel to ap_inc) = Word (codes "jmp") then Base rel then ResText to then Ending ap_inc
  InstrText (instrs.Jnz cond to ap_inc) =
      Word (codes "jmp") then Word (codes "rel") then OperandText to then Word (codes "if") then Cell cond then Mark (codes "!=") then Mark (codes "0") then Ending ap_inc
  InstrText (instrs.Call rel to) = Word (codes "call") then Base rel then OperandText to then Mark (codes ";")
  InstrText (instrs.AddAp by) = Word (codes "ap") then Mark (codes "+=") then ResText by then Mark (codes ";")
  InstrText instrs.Ret = Word (codes "ret") then Mark (codes ";")

  -- the text of a list of instructions
  abbrev pub Text : List Instr → List ℕ → Type 0
  Text = TextOf InstrText
