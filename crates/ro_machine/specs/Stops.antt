-- What keeps a state from having a step: the first part of a step that fails.
use Rattle.std.specs.Prelude.{◌≡◌, ◌≢◌, ◌⊎◌, ℕ, Option, Some, None}
use Rattle.casm_word.specs.declared.flags.Opcode.{Opcode}
use Rattle.casm_word.specs.declared.flags.Opcode.TheVariants as opcode
use Rattle.casm_word.specs.declared.flags.Flags.{Flags}
use Rattle.casm_word.specs.Word.{Word}
use Rattle.ro_machine.specs.declared.machine.State.{State}
use Rattle.ro_machine.specs.declared.machine.StepFault.{StepFault}
use Rattle.ro_machine.specs.declared.machine.StepFault.TheVariants.{CellMissing, BadWord, AssertFails, CallFails}
use Rattle.ro_machine.specs.Step.{op0_address, op1_address, dst_address, res_of, next_instruction, Operands}
use Rattle.ro_machine.specs.StepBy.{Fetches}

-- no word is listed at this address
abbrev pub IsUnlisted : (ℕ → Option ℕ) → ℕ → Type 0
IsUnlisted cells at = cells at ≡ None

-- the first cell in reading order that isn't listed, after the one at pc
abbrev pub MissesOperand : (ℕ → Option ℕ) → Flags → State → ℕ → Type 0
MissesOperand cells f s at =
    ((at ≡ op0_address f s) × IsUnlisted cells at)
    ⊎ ((op0 : ℕ) × (cells (op0_address f s) ≡ Some op0)
    × (((at ≡ op1_address f s op0) × IsUnlisted cells at)
    ⊎ ((op1 : ℕ) × (cells (op1_address f s op0) ≡ Some op1) × (at ≡ dst_address f s) × IsUnlisted cells at)))

-- the two words that differ where dst and res are wanted equal
abbrev pub AssertDiffers : Opcode → Flags → State → ℕ → ℕ → ℕ → ℕ → ℕ → Type 0
AssertDiffers op f s op0 op1 dst left right = (op ≡ opcode.AssertEq) × (left ≡ dst) × (right ≡ res_of f.res op0 op1) × (left ≢ right)

-- the two words that differ at a call: dst and fp, or else op0 and the return pc
abbrev pub CallDiffers : Opcode → Flags → State → ℕ → ℕ → ℕ → ℕ → Type 0
CallDiffers op f s op0 dst left right =
    (op ≡ opcode.Call)
    × (((left ≡ dst) × (right ≡ s.fp) × (left ≢ right))
    ⊎ ((dst ≡ s.fp) × (left ≡ op0) × (right ≡ next_instruction f s) × (left ≢ right)))

-- this is the first part that fails of a step from s
abbrev pub Stops : (ℕ → Option ℕ) → State → StepFault → Type 0
Stops cells s (CellMissing at) = ((at ≡ s.pc) × IsUnlisted cells at) ⊎ ((f : Flags) × Fetches cells s f × MissesOperand cells f s at)
Stops cells s (BadWord at) = (at ≡ s.pc) × ((word : ℕ) × (cells at ≡ Some word) × ((f : Flags) → ¬ Word f word))
Stops cells s (AssertFails left right) =
    (f : Flags) × (op0 : ℕ) × (op1 : ℕ) × (dst : ℕ)
    × Fetches cells s f × Operands cells f s op0 op1 dst × AssertDiffers f.opcode f s op0 op1 dst left right
Stops cells s (CallFails left right) =
    (f : Flags) × (op0 : ℕ) × (op1 : ℕ) × (dst : ℕ)
    × Fetches cells s f × Operands cells f s op0 op1 dst × CallDiffers f.opcode f s op0 dst left right
