-- A step by the flags of the word at pc.
use Rattle.std.specs.Prelude.{◌≡◌, ℕ, Option, Some}
use Rattle.casm_word.specs.declared.flags.Flags.{Flags}
use Rattle.casm_word.specs.Word.{Word}
use Rattle.ro_machine.specs.declared.machine.State.{State}
use Rattle.ro_machine.specs.Step.{Operands, Asserts, next_state}

-- the word at pc stands for these flags
abbrev pub Fetches : (ℕ → Option ℕ) → State → Flags → Type 0
Fetches cells s f = (word : ℕ) × (cells s.pc ≡ Some word) × Word f word

-- The step of a word that stands for these flags. A step is the flags at pc and this.
pub record StepBy (cells : ℕ → Option ℕ) (f : Flags) (s t : State) : Type 0 where
  pub op0 : ℕ
  pub op1 : ℕ
  pub dst : ℕ
  pub reads : Operands cells f s op0 op1 dst
  pub asserts : Asserts f.opcode f s op0 op1 dst
  pub next : t ≡ next_state f s op0 op1 dst
