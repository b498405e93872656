-- A program's code, its types and the gas that it needs, the arguments that an input gives, and what the program means.
use Rattle.std.specs.Prelude.{ℕ, ◌≡◌, ◌+◌, pos, true, false, List, [], ◌∷◌, map}
use Rattle.felt64.specs.Field.{sum, difference, product, negative}
use Rattle.casm_word.specs.declared.instr.Operand.TheVariants as operand
use Rattle.casm_word.specs.declared.instr.Res.{Res}
use Rattle.casm_word.specs.declared.instr.Res.TheVariants as res
use Rattle.casm_word.specs.declared.instr.Instr.{Instr}
use Rattle.casm_word.specs.declared.instr.Instr.TheVariants as instr
use Rattle.casm_word.specs.Encoding.{ap_cell, fp_cell}
use Rattle.casm_word.specs.Offset.{minus}
use Rattle.first_form.specs.declared.operation.Operation.{Operation}
use Rattle.first_form.specs.declared.operation.Operation.TheVariants as operations
use Rattle.first_form.specs.declared.program.Program.{Program}
use Rattle.first_form.specs.declared.input.Input.{Input}
use Rattle.first_form.specs.declared.verdict.Outcome.{Outcome}
use Rattle.first_form.specs.declared.code.TheConstants.{CALL_REL, JMP_REL, ADD_IMMEDIATE, MUL_IMMEDIATE, RET}
use Rattle.first_form.specs.Values.{Ty, number, felt64, Val, Number, meant}

-- what the operation gives for an argument and a constant, in the field
abbrev pub applied : Operation → ℕ → ℕ → ℕ
applied operations.Add argument constant = sum argument constant
applied operations.Sub argument constant = difference argument constant
applied operations.Mul argument constant = product argument constant

-- the word of the instruction that computes it, and the number beside that word: a difference is the sum with the negative
abbrev pub computing_word : Operation → ℕ
computing_word operations.Add = ADD_IMMEDIATE
computing_word operations.Sub = ADD_IMMEDIATE
computing_word operations.Mul = MUL_IMMEDIATE

abbrev pub computing_number : Operation → ℕ → ℕ
computing_number operations.Add constant = constant
computing_number operations.Sub constant = negative constant
computing_number operations.Mul constant = constant

-- the program's code, from address 0 on
abbrev pub code_of : Program → List ℕ
code_of program =
    CALL_REL ∷ 4 ∷ JMP_REL ∷ 0 ∷ computing_word program.operation ∷ computing_number program.operation program.constant ∷ RET ∷ []

-- the code as instructions: `call rel 4`, `jmp rel 0`, `[ap + 0] = ..., ap++`, `ret`; the argument lies at `fp + -3`
abbrev pub computed : Operation → ℕ → Res
computed operations.Add constant = res.Add (fp_cell (minus 3)) (operand.Imm constant)
computed operations.Sub constant = res.Add (fp_cell (minus 3)) (operand.Imm (negative constant))
computed operations.Mul constant = res.Mul (fp_cell (minus 3)) (operand.Imm constant)

abbrev pub instructions_of : Program → List Instr
instructions_of program =
    instr.Call true (operand.Imm 4) ∷ instr.Jump true (res.Imm 0) false
    ∷ instr.AssertEq (ap_cell (pos 0)) (computed program.operation program.constant) true ∷ instr.Ret ∷ []

-- the gas that a run of the program needs: 100 for each of its three steps
abbrev pub entry_gas : Program → ℕ
entry_gas program = 300

-- the types of main's parameters and of its results
abbrev pub parameter_types : Program → List Ty
parameter_types program = number felt64 ∷ []

abbrev pub result_types : Program → List Ty
result_types program = number felt64 ∷ []

-- the arguments of main, in order
abbrev pub arguments_of : Program → Input → List Val
arguments_of program input = Number felt64 input.argument ∷ []

-- The meaning: main gives the operation's result for the argument and the constant, and doesn't panic.
pub record Means (program : Program) (input : Input) (outcome : Outcome) : Type 0 where
  pub panic : outcome.panic ≡ false
  pub values : map meant outcome.values ≡ Number felt64 (applied program.operation input.argument program.constant) ∷ []
  pub gas_used : outcome.gas_used ≡ entry_gas program
  pub gas_left : outcome.gas_left + outcome.gas_used ≡ input.gas
