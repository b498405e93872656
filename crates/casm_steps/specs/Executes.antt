-- What an instruction does, by its form and without flags. It reads and moves as the Cairo whitepaper says in section 5;
-- sums of addresses and words are in the field, and the place of the next instruction is a plain sum.
use Rattle.std.specs.Prelude.{◌≡◌, ℕ, ◌+◌, ◌==◌, List, [], ◌∷◌, Option, Some, None, Bool, true, false, if◌then◌else◌}
use Rattle.felt64.specs.Field.{sum, difference, product}
use Rattle.casm_word.specs.declared.instr.CellRef.{CellRef}
use Rattle.casm_word.specs.declared.instr.Operand.{Operand}
use Rattle.casm_word.specs.declared.instr.Operand.TheVariants as operand
use Rattle.casm_word.specs.declared.instr.Res.{Res}
use Rattle.casm_word.specs.declared.instr.Res.TheVariants as res
use Rattle.casm_word.specs.declared.instr.Instr.{Instr}
use Rattle.casm_word.specs.declared.instr.Instr.TheVariants as instr
use Rattle.casm_word.specs.Encoding.{flags_of, immediate}
use Rattle.casm_word.specs.Word.{word_of}
use Rattle.ro_machine.specs.declared.machine.State.{State}
use Rattle.ro_machine.specs.Step.{moved}
use Rattle.casm_steps.specs.Reading.{register, both, behind}

abbrev pub state : ℕ → ℕ → ℕ → State
state pc ap fp = record { pc = pc; ap = ap; fp = fp }

-- the address of a cell
abbrev pub cell_address : State → CellRef → ℕ
cell_address s c = moved (register c.reg s.ap s.fp) c.off

abbrev pub operand_word : (ℕ → Option ℕ) → State → Operand → Option ℕ
operand_word m s (operand.Cell c) = m (cell_address s c)
operand_word m s (operand.Imm n) = Some n

-- what the operands of an instruction give, None where one of their cells isn't listed
abbrev pub res_word : (ℕ → Option ℕ) → State → Res → Option ℕ
res_word m s (res.Cell c) = m (cell_address s c)
res_word m s (res.Double c inner) = behind m (m (cell_address s c)) inner
res_word m s (res.Imm n) = Some n
res_word m s (res.Add c x) = both sum (m (cell_address s c)) (operand_word m s x)
res_word m s (res.Mul c x) = both product (m (cell_address s c)) (operand_word m s x)

-- how many cells an instruction takes: two with an immediate, and else one
abbrev pub cells_with : Option ℕ → ℕ
cells_with None = 1
cells_with (Some n) = 2

abbrev pub instr_cells : Instr → ℕ
instr_cells i = cells_with (immediate i)

-- the place of the instruction behind this one
abbrev pub next_pc : Instr → State → ℕ
next_pc i s = s.pc + instr_cells i

-- where a jump leads, by a distance or to an address
abbrev pub jumped : Bool → State → ℕ → ℕ
jumped true s n = sum s.pc n
jumped false s n = n

-- ap after an instruction that may end with ap++
abbrev pub inc_ap : Bool → State → ℕ
inc_ap true s = sum s.ap 1
inc_ap false s = s.ap

-- The instruction leads from s to t:
-- dst = res: both are the same word;
-- jmp: to the distance or address that its operand is;
-- jmp if: by the distance where the word of its cell isn't 0, and else to the next instruction;
-- call: the cell at ap has fp and the next one the place behind the call, and ap and fp lie behind both;
-- ap += n: ap moves by n;
-- ret: fp and pc are what the frame says.
abbrev pub Executes : (ℕ → Option ℕ) → Instr → State → State → Type 0
Executes m (instr.AssertEq dst r inc) s t =
    (w : ℕ) × (m (cell_address s dst) ≡ Some w) × (res_word m s r ≡ Some w)
    × (t ≡ state (next_pc (instr.AssertEq dst r inc) s) (inc_ap inc s) s.fp)
Executes m (instr.Jump rel to inc) s t =
    (n : ℕ) × (res_word m s to ≡ Some n) × (t ≡ state (jumped rel s n) (inc_ap inc s) s.fp)
Executes m (instr.Jnz cond to inc) s t =
    (w : ℕ) × (n : ℕ) × (m (cell_address s cond) ≡ Some w) × (operand_word m s to ≡ Some n)
    × (t ≡ state (if w == 0 then next_pc (instr.Jnz cond to inc) s else sum s.pc n) (inc_ap inc s) s.fp)
Executes m (instr.Call rel to) s t =
    (n : ℕ) × (m (sum s.ap 0) ≡ Some s.fp) × (m (sum s.ap 1) ≡ Some (next_pc (instr.Call rel to) s)) × (operand_word m s to ≡ Some n)
    × (t ≡ state (jumped rel s n) (sum s.ap 2) (sum s.ap 2))
Executes m (instr.AddAp by) s t =
    (n : ℕ) × (res_word m s by ≡ Some n) × (t ≡ state (next_pc (instr.AddAp by) s) (sum s.ap n) s.fp)
Executes m instr.Ret s t =
    (pc : ℕ) × (fp : ℕ) × (m (difference s.fp 2) ≡ Some fp) × (m (difference s.fp 1) ≡ Some pc) × (t ≡ state pc s.ap fp)

abbrev pub HasImmediate : (ℕ → Option ℕ) → ℕ → Option ℕ → Type 0
HasImmediate m at None = Unit {0}
HasImmediate m at (Some n) = m at ≡ Some n

-- the words of an instruction stand from this cell on
pub record HasInstr (m : ℕ → Option ℕ) (at : ℕ) (i : Instr) : Type 0 where
  pub word : m at ≡ Some (word_of (flags_of i))
  pub beside : HasImmediate m (at + 1) (immediate i)

-- the words of the instructions stand from this cell on, one instruction behind another
abbrev pub HasCode : (ℕ → Option ℕ) → ℕ → List Instr → Type 0
HasCode m at [] = Unit {0}
HasCode m at (i ∷ is) = HasInstr m at i × HasCode m (at + instr_cells i) is
