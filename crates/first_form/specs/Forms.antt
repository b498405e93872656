-- The texts of the form of program that is built, and of its input.
use Rattle.std.specs.Prelude.{ℕ, ◌≡◌, ◌<◌, ◌^◌, List, [], ◌∷◌, codes, decimal}
use Rattle.std.specs.List.{concat}
use Rattle.felt64.specs.Field.{modulus}
use Rattle.first_form.specs.declared.operation.Operation.{Operation}
use Rattle.first_form.specs.declared.operation.Operation.TheVariants as operations
use Rattle.first_form.specs.declared.program.Program.{Program}
use Rattle.first_form.specs.declared.input.Input.{Input}

-- the name of the operation's libfunc
abbrev pub libfunc_name : Operation → List ℕ
libfunc_name operations.Add = codes "felt64_add"
libfunc_name operations.Sub = codes "felt64_sub"
libfunc_name operations.Mul = codes "felt64_mul"

-- the program that does an operation with its one argument and a constant: this is the libfunc's name, and these are the
-- constant's digits
abbrev pub program_text : List ℕ → List ℕ → List ℕ
program_text name digits =
    concat (codes "type felt64 = felt64;\n\nlibfunc felt64_const<" ∷ digits
    ∷ codes "> = felt64_const<" ∷ digits
    ∷ codes ">;\nlibfunc " ∷ name ∷ codes " = " ∷ name
    ∷ codes ";\nlibfunc store_temp<felt64> = store_temp<felt64>;\n\nfelt64_const<" ∷ digits
    ∷ codes ">() -> ([1]);\n" ∷ name
    ∷ codes "([0], [1]) -> ([2]);\nstore_temp<felt64>([2]) -> ([3]);\nreturn([3]);\n\nmain@0([0]: felt64) -> (felt64);\n"
    ∷ [])

-- the line `gas N`, and a line with the argument
abbrev pub input_text : List ℕ → List ℕ → List ℕ
input_text gas argument = concat (codes "gas " ∷ gas ∷ codes "\n" ∷ argument ∷ codes "\n" ∷ [])

-- the text is that of the program: its operation, and its constant below P in decimal digits without a leading zero
pub record IsProgram (text : List ℕ) (program : Program) : Type 0 where
  pub below : program.constant < modulus
  pub text_is : text ≡ program_text (libfunc_name program.operation) (decimal program.constant)

-- The text is that of an input of the program: its gas below 2 ^ 32, its argument below P, both without a leading zero.
-- Every program that is built takes one number of the field.
pub record IsInput (program : Program) (text : List ℕ) (input : Input) : Type 0 where
  pub gas_below : input.gas < 2 ^ 32
  pub argument_below : input.argument < modulus
  pub text_is : text ≡ input_text (decimal input.gas) (decimal input.argument)
