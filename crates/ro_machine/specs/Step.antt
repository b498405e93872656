-- A step of the machine, from one state to the next over cells that are fixed. All sums are in the field.
use Rattle.std.specs.Prelude.{◌≡◌, ℕ, suc, ℤ, pos, negsuc, Option, Some, if◌then◌else◌, ◌==◌}
use Rattle.felt64.specs.Field.{sum, difference, product}
use Rattle.casm_word.specs.declared.flags.Op1.{Op1}
use Rattle.casm_word.specs.declared.flags.Op1.TheVariants as op1
use Rattle.casm_word.specs.declared.flags.ResKind.{ResKind}
use Rattle.casm_word.specs.declared.flags.ResKind.TheVariants as res
use Rattle.casm_word.specs.declared.flags.PcKind.{PcKind}
use Rattle.casm_word.specs.declared.flags.PcKind.TheVariants as pc
use Rattle.casm_word.specs.declared.flags.ApKind.{ApKind}
use Rattle.casm_word.specs.declared.flags.ApKind.TheVariants as ap
use Rattle.casm_word.specs.declared.flags.Opcode.{Opcode}
use Rattle.casm_word.specs.declared.flags.Opcode.TheVariants as opcode
use Rattle.casm_word.specs.declared.flags.Flags.{Flags}
use Rattle.ro_machine.specs.declared.machine.State.{State}
use Rattle.casm_word.specs.Word.{Word}

-- the address that lies an offset from a base
abbrev pub moved : ℕ → ℤ → ℕ
moved base (pos n) = sum base n
moved base (negsuc n) = difference base (suc n)

-- dst and op0 lie an offset from fp, or from ap
abbrev pub dst_address : Flags → State → ℕ
dst_address f s = moved (if f.dst_fp then s.fp else s.ap) f.off_dst

abbrev pub op0_address : Flags → State → ℕ
op0_address f s = moved (if f.op0_fp then s.fp else s.ap) f.off_op0

-- op1 lies an offset from the word of op0, from pc, from fp or from ap
abbrev pub op1_base : Op1 → State → ℕ → ℕ
op1_base op1.Op0 s op0 = op0
op1_base op1.Imm s op0 = s.pc
op1_base op1.Fp s op0 = s.fp
op1_base op1.Ap s op0 = s.ap

abbrev pub op1_address : Flags → State → ℕ → ℕ
op1_address f s op0 = moved (op1_base f.op1 s op0) f.off_op1

-- an instruction with an immediate takes two cells
abbrev pub size_of : Op1 → ℕ
size_of op1.Op0 = 1
size_of op1.Imm = 2
size_of op1.Fp = 1
size_of op1.Ap = 1

abbrev pub res_of : ResKind → ℕ → ℕ → ℕ
res_of res.Op1 op0 op1 = op1
res_of res.Add op0 op1 = sum op0 op1
res_of res.Mul op0 op1 = product op0 op1

-- the address of the next instruction in the code
abbrev pub next_instruction : Flags → State → ℕ
next_instruction f s = sum s.pc (size_of f.op1)

abbrev pub pc_after : PcKind → ℕ → ℕ → ℕ → ℕ → ℕ → ℕ
pc_after pc.Next next s_pc op1 dst res = next
pc_after pc.Abs next s_pc op1 dst res = res
pc_after pc.Rel next s_pc op1 dst res = sum s_pc res
pc_after pc.Jnz next s_pc op1 dst res = if dst == 0 then next else sum s_pc op1

abbrev pub ap_after : Opcode → ApKind → ℕ → ℕ → ℕ
ap_after opcode.Call kind s_ap res = sum s_ap 2
ap_after op ap.Keep s_ap res = s_ap
ap_after op ap.Add s_ap res = sum s_ap res
ap_after op ap.Inc s_ap res = sum s_ap 1

abbrev pub fp_after : Opcode → State → ℕ → ℕ
fp_after opcode.Nop s dst = s.fp
fp_after opcode.Call s dst = sum s.ap 2
fp_after opcode.Ret s dst = dst
fp_after opcode.AssertEq s dst = s.fp

-- the words that a step reads, in the order in which it reads them, all four of them used or not
pub record Operands (cells : ℕ → Option ℕ) (f : Flags) (s : State) (op0 op1 dst : ℕ) : Type 0 where
  pub op0_is : cells (op0_address f s) ≡ Some op0
  pub op1_is : cells (op1_address f s op0) ≡ Some op1
  pub dst_is : cells (dst_address f s) ≡ Some dst

-- what the opcode asserts
abbrev pub Asserts : Opcode → Flags → State → ℕ → ℕ → ℕ → Type 0
Asserts opcode.Nop f s op0 op1 dst = Unit {0}
Asserts opcode.Call f s op0 op1 dst = (dst ≡ s.fp) × (op0 ≡ next_instruction f s)
Asserts opcode.Ret f s op0 op1 dst = Unit {0}
Asserts opcode.AssertEq f s op0 op1 dst = dst ≡ res_of f.res op0 op1

abbrev pub next_state : Flags → State → ℕ → ℕ → ℕ → State
next_state f s op0 op1 dst =
    let res = res_of f.res op0 op1 in
    record {
      pc = pc_after f.pc (next_instruction f s) s.pc op1 dst res;
      ap = ap_after f.opcode f.ap s.ap res;
      fp = fp_after f.opcode s dst;
    }

-- The machine steps from s to t: the word at pc is listed and stands for flags, the four words are read, what the
-- opcode asserts holds, and t is the state after it. A state of which one part fails has no step.
pub record Step (cells : ℕ → Option ℕ) (s t : State) : Type 0 where
  pub word : ℕ
  pub word_is : cells s.pc ≡ Some word
  pub flags : Flags
  pub decodes : Word flags word
  pub op0 : ℕ
  pub op1 : ℕ
  pub dst : ℕ
  pub reads : Operands cells flags s op0 op1 dst
  pub asserts : Asserts flags.opcode flags s op0 op1 dst
  pub next : t ≡ next_state flags s op0 op1 dst
