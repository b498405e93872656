-- The instruction word. It is the sum of three offsets, each biased by 2 ^ 15, times 1, 2 ^ 16 and 2 ^ 32, and of
-- 2 ^ (48 + k) for each set flag k: dst_reg, op0_reg, op1_imm, op1_fp, op1_ap, res_add, res_mul, pc_jump_abs,
-- pc_jump_rel, pc_jnz, ap_add, ap_add1, opcode_call, opcode_ret, opcode_assert_eq, counted from 0.
use Rattle.std.specs.Prelude.{◌≡◌, ℕ, suc, ◌+◌, ◌-◌, ◌*◌, ◌^◌, Bool, true, false, ℤ, pos, negsuc}
use Rattle.casm_word.specs.declared.flags.Op1.{Op1}
use Rattle.casm_word.specs.declared.flags.Op1.TheVariants as op1
use Rattle.casm_word.specs.declared.flags.ResKind.{ResKind}
use Rattle.casm_word.specs.declared.flags.ResKind.TheVariants as res
use Rattle.casm_word.specs.declared.flags.PcKind.{PcKind}
use Rattle.casm_word.specs.declared.flags.PcKind.TheVariants as pc
use Rattle.casm_word.specs.declared.flags.ApKind.{ApKind}
use Rattle.casm_word.specs.declared.flags.ApKind.TheVariants as ap
use Rattle.casm_word.specs.declared.flags.Opcode.{Opcode}
use Rattle.casm_word.specs.declared.flags.Opcode.TheVariants as opcode
use Rattle.casm_word.specs.declared.flags.Flags.{Flags}
use Rattle.casm_word.specs.Offset.{IsNear}
use Rattle.casm_word.specs.Parts.{IsDefined}

-- what flag k adds to a word where it is set
abbrev pub flag : ℕ → ℕ
flag k = 2 ^ (48 + k)

abbrev pub flag_if : Bool → ℕ → ℕ
flag_if true k = flag k
flag_if false k = 0

abbrev pub op1_flag : Op1 → ℕ
op1_flag op1.Op0 = 0
op1_flag op1.Imm = flag 2
op1_flag op1.Fp = flag 3
op1_flag op1.Ap = flag 4

abbrev pub res_flag : ResKind → ℕ
res_flag res.Op1 = 0
res_flag res.Add = flag 5
res_flag res.Mul = flag 6

abbrev pub pc_flag : PcKind → ℕ
pc_flag pc.Next = 0
pc_flag pc.Abs = flag 7
pc_flag pc.Rel = flag 8
pc_flag pc.Jnz = flag 9

abbrev pub ap_flag : ApKind → ℕ
ap_flag ap.Keep = 0
ap_flag ap.Add = flag 10
ap_flag ap.Inc = flag 11

abbrev pub opcode_flag : Opcode → ℕ
opcode_flag opcode.Nop = 0
opcode_flag opcode.Call = flag 12
opcode_flag opcode.Ret = flag 13
opcode_flag opcode.AssertEq = flag 14

-- an offset with 2 ^ 15 added, as a word has it
abbrev pub biased : ℤ → ℕ
biased (pos n) = 2 ^ 15 + n
biased (negsuc n) = 2 ^ 15 - suc n

-- the sum that a word is
abbrev pub word_of : Flags → ℕ
word_of f =
    biased f.off_dst + biased f.off_op0 * 2 ^ 16 + biased f.off_op1 * 2 ^ 32
    + flag_if f.dst_fp 0 + flag_if f.op0_fp 1
    + op1_flag f.op1 + res_flag f.res + pc_flag f.pc + ap_flag f.ap + opcode_flag f.opcode

-- each offset has 16 bits; without this two flags would sum to one word
pub record AreNear (f : Flags) : Type 0 where
  pub dst : IsNear f.off_dst
  pub op0 : IsNear f.off_op0
  pub op1 : IsNear f.off_op1

-- These flags have this word. A number that no flags have is no word of the machine.
pub record Word (f : Flags) (word : ℕ) : Type 0 where
  pub is : word_of f ≡ word
  pub near : AreNear f
  pub defined : IsDefined f
