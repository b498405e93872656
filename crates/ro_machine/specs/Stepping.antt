-- A step as a function of what is listed: the next state, or the first part that fails.
use Rattle.std.specs.Prelude.{ℕ, Option, Some, None, Result, Ok, Err, if◌then◌else◌, ◌==◌}
use Rattle.casm_word.specs.declared.flags.Opcode.{Opcode}
use Rattle.casm_word.specs.declared.flags.Opcode.TheVariants as opcode
use Rattle.casm_word.specs.declared.flags.Flags.{Flags}
use Rattle.ro_machine.specs.declared.machine.State.{State}
use Rattle.ro_machine.specs.declared.machine.StepFault.{StepFault}
use Rattle.ro_machine.specs.declared.machine.StepFault.TheVariants.{CellMissing, BadWord, AssertFails, CallFails}
use Rattle.casm_word.specs.declared.rules.WordFault.{WordFault}
use Rattle.casm_word.specs.Decoding as decoding
use Rattle.ro_machine.specs.Step.{dst_address, op0_address, op1_address, res_of, next_instruction, pc_after, ap_after, fp_after, next_state}

infixl 10 ◌>>=◌
abbrev pub ◌>>=◌ : {A B : Type 0} → Result A StepFault → (A → Result B StepFault) → Result B StepFault
(Ok x) >>= f = f x
(Err e) >>= f = Err e

abbrev pub word_or : {A : Type 0} → Option A → StepFault → Result A StepFault
word_or None fault = Err fault
word_or (Some x) fault = Ok x

abbrev pub listed : (ℕ → Option ℕ) → ℕ → Result ℕ StepFault
listed cells at = word_or (cells at) (CellMissing at)

-- the flags of a word, or that the word at pc has none
abbrev pub flags_or : Result Flags WordFault → ℕ → Result Flags StepFault
flags_or (Ok flags) pc = Ok flags
flags_or (Err fault) pc = Err (BadWord pc)

abbrev pub decoded : ℕ → ℕ → Result Flags StepFault
decoded pc word = flags_or (decoding.decoded word) pc

-- passes where the two words are equal
abbrev pub equal_or : ℕ → ℕ → StepFault → Result (Unit {0}) StepFault
equal_or left right fault = if left == right then Ok tt else Err fault

-- what the opcode asserts of op0, dst and res
abbrev pub asserted : Opcode → Flags → State → ℕ → ℕ → ℕ → Result (Unit {0}) StepFault
asserted opcode.Nop f s op0 dst res = Ok tt
asserted opcode.Call f s op0 dst res = equal_or dst s.fp (CallFails dst s.fp) >>= λ _. equal_or op0 (next_instruction f s) (CallFails op0 (next_instruction f s))
asserted opcode.Ret f s op0 dst res = Ok tt
asserted opcode.AssertEq f s op0 dst res = equal_or dst res (AssertFails dst res)

-- the state after a step of which the operands give res
abbrev pub state_after : Flags → State → ℕ → ℕ → ℕ → State
state_after f s op1 dst res =
    record {
      pc = pc_after f.pc (next_instruction f s) s.pc op1 dst res;
      ap = ap_after f.opcode f.ap s.ap res;
      fp = fp_after f.opcode s dst;
    }

unfoldable pub step_of : (ℕ → Option ℕ) → State → Result State StepFault
step_of cells s = do
  word ← listed cells s.pc
  flags ← decoded s.pc word
  op0 ← listed cells (op0_address flags s)
  op1 ← listed cells (op1_address flags s op0)
  dst ← listed cells (dst_address flags s)
  holds ← asserted flags.opcode flags s op0 dst (res_of flags.res op0 op1)
  Ok (next_state flags s op0 op1 dst)
