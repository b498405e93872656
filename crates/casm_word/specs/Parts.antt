-- The parts of an instruction word, and which of them no instruction has together.
use Rattle.std.specs.Prelude.{◌≡◌, ◌≢◌, ℤ, pos, Bool}
use Rattle.casm_word.specs.declared.flags.Op1.{Op1}
use Rattle.casm_word.specs.declared.flags.Op1.TheVariants as op1
use Rattle.casm_word.specs.declared.flags.ResKind.{ResKind}
use Rattle.casm_word.specs.declared.flags.ResKind.TheVariants as res
use Rattle.casm_word.specs.declared.flags.PcKind.{PcKind}
use Rattle.casm_word.specs.declared.flags.PcKind.TheVariants as pc
use Rattle.casm_word.specs.declared.flags.ApKind.{ApKind}
use Rattle.casm_word.specs.declared.flags.ApKind.TheVariants as ap
use Rattle.casm_word.specs.declared.flags.Opcode.{Opcode}
use Rattle.casm_word.specs.declared.flags.Opcode.TheVariants as opcode

-- Flags are seen as their parts. Nothing is said here of which parts go together.
pub record Parts : Type 0 where
  pub off_dst : ℤ
  pub off_op0 : ℤ
  pub off_op1 : ℤ
  pub dst_fp : Bool
  pub op0_fp : Bool
  pub op1 : Op1
  pub res : ResKind
  pub pc : PcKind
  pub ap : ApKind
  pub opcode : Opcode

-- The rules on parts that no instruction has together (rules 6 to 8) are kept. Two flags of one kind (rules 1 to 5)
-- have no parts at all.
pub record IsDefined (f : Parts) : Type 0 where
  pub jnz_alone : f.pc ≡ pc.Jnz → (f.res ≡ res.Op1) × (f.opcode ≡ opcode.Nop) × (f.ap ≢ ap.Add)
  pub call_keeps_ap : f.opcode ≡ opcode.Call → f.ap ≡ ap.Keep
  pub immediate_is_next : f.op1 ≡ op1.Imm → f.off_op1 ≡ pos 1
