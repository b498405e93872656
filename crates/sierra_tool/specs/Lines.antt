-- The lines of refusals: a code and its fields, with single spaces, and the words of assembled code.
use Rattle.std.specs.Prelude.{ℕ, ◌-◌, List, [], ◌∷◌, ◌++◌, Option, Some, None, false, length, replicate, codes, decimal}
use Rattle.std.specs.List.{concat, flat_map}
use Rattle.std.specs.Fmt.{digits}
use Rattle.casm_text.specs.declared.fault.AsmFault.{AsmFault}
use Rattle.casm_text.specs.declared.fault.AsmFault.TheVariants as asm_faults
use Rattle.casm_word.specs.declared.instr.Instr.{Instr}
use Rattle.casm_word.specs.Encoding.{words_of}
use Rattle.first_form.specs.declared.accepted.CheckFault.{CheckFault}
use Rattle.first_form.specs.declared.accepted.CheckFault.TheVariants as check_faults
use Rattle.ro_machine.specs.declared.machine.StepFault.{StepFault}
use Rattle.ro_machine.specs.declared.machine.StepFault.TheVariants as step_faults
use Rattle.run_file.specs.declared.refusal.FileRefusal.{FileRefusal}
use Rattle.run_file.specs.declared.refusal.FileRefusal.TheVariants as file_refusals
use Rattle.sierra_text.specs.declared.fault.TextFault.{TextFault}
use Rattle.sierra_text.specs.declared.fault.TextFault.TheVariants as text_faults
use Rattle.typed_values.specs.declared.fault.InputFault.{InputFault}
use Rattle.typed_values.specs.declared.fault.InputFault.TheVariants as input_faults

-- a code and a number behind it
abbrev pub one_number : List ℕ → ℕ → List ℕ
one_number code n = concat (code ∷ codes " " ∷ decimal n ∷ codes "\n" ∷ [])

-- .. and two numbers
abbrev pub two_numbers : List ℕ → ℕ → ℕ → List ℕ
two_numbers code m n = concat (code ∷ codes " " ∷ decimal m ∷ codes " " ∷ decimal n ∷ codes "\n" ∷ [])

-- the line of a Sierra text that is refused; out of memory is no refusal
abbrev pub text_fault_line : TextFault → List ℕ
text_fault_line (text_faults.Syntax place) = two_numbers (codes "T1") place.line place.column
text_fault_line (text_faults.NumberTooWide place) = two_numbers (codes "T2") place.line place.column
text_fault_line text_faults.TooLong = codes "T3\n"
text_fault_line text_faults.Memory = []

-- the line of a CASM text that is refused; out of memory is no refusal
abbrev pub asm_fault_line : AsmFault → List ℕ
asm_fault_line (asm_faults.Syntax place) = two_numbers (codes "A1") place.line place.column
asm_fault_line (asm_faults.OffsetRange line) = one_number (codes "A2") line
asm_fault_line (asm_faults.ImmRange line) = one_number (codes "A3") line
asm_fault_line asm_faults.TooLong = codes "A4\n"
asm_fault_line asm_faults.Memory = []

-- the line of a text that is no input of main; out of memory is no refusal
abbrev pub input_fault_line : InputFault → List ℕ
input_fault_line (input_faults.Syntax place) = two_numbers (codes "I1") place.line place.column
input_fault_line (input_faults.OutOfRange place) = two_numbers (codes "I2") place.line place.column
input_fault_line (input_faults.LineCount expected found) = two_numbers (codes "I3") expected found
input_fault_line (input_faults.LongArray place) = two_numbers (codes "I4") place.line place.column
input_fault_line input_faults.GasRange = codes "I5\n"
input_fault_line input_faults.Memory = []

-- the line of a file that is no run file; out of memory is no refusal
abbrev pub file_refusal_line : FileRefusal → List ℕ
file_refusal_line file_refusals.Magic = codes "F1\n"
file_refusal_line (file_refusals.WordRange at) = one_number (codes "F2") at
file_refusal_line (file_refusals.Order at) = one_number (codes "F3") at
file_refusal_line (file_refusals.Cut at) = one_number (codes "F4") at
file_refusal_line (file_refusals.Extra at) = one_number (codes "F5") at
file_refusal_line file_refusals.StepsAbove = codes "F6\n"
file_refusal_line file_refusals.Memory = []

-- why no step starts: the address of a cell that isn't listed, the pc of a word that is undefined, or two words that differ
abbrev pub step_fault_text : StepFault → List ℕ
step_fault_text (step_faults.CellMissing at) = codes "missing " ++ decimal at
step_fault_text (step_faults.BadWord pc) = codes "badword " ++ decimal pc
step_fault_text (step_faults.AssertFails left right) = codes "assert " ++ (decimal left ++ (codes " " ++ decimal right))
step_fault_text (step_faults.CallFails left right) = codes "call " ++ (decimal left ++ (codes " " ++ decimal right))

-- a word, or `none`
abbrev pub word_text : Option ℕ → List ℕ
word_text None = codes "none"
word_text (Some word) = decimal word

-- the line of a run that isn't accepted
abbrev pub check_fault_line : CheckFault → List ℕ
check_fault_line (check_faults.CodeCell at) = one_number (codes "C1") at
check_fault_line check_faults.Start = codes "C2\n"
check_fault_line (check_faults.Step i fault) = concat (codes "C3 " ∷ decimal i ∷ codes " " ∷ step_fault_text fault ∷ codes "\n" ∷ [])
check_fault_line (check_faults.NextState i) = one_number (codes "C4") i
check_fault_line (check_faults.FinalEarly i) = one_number (codes "C5") i
check_fault_line check_faults.FinalMissing = codes "C6\n"
check_fault_line (check_faults.RangeCell at word) = two_numbers (codes "C7") at word
check_fault_line (check_faults.ArgCells at expected found) =
    concat (codes "C8 " ∷ decimal at ∷ codes " " ∷ word_text expected ∷ codes " " ∷ word_text found ∷ codes "\n" ∷ [])

-- a word as `0x` and sixteen hexadecimal digits, on a line
abbrev pub word_line : ℕ → List ℕ
word_line word =
    let numeral = digits 16 false word in
    concat (codes "0x" ∷ replicate (16 - length numeral) 48 ∷ numeral ∷ codes "\n" ∷ [])

-- the words of an instruction, each on a line
abbrev pub instr_lines : Instr → List ℕ
instr_lines i = flat_map word_line (words_of i)

-- .. and those of code
abbrev pub words_text : List Instr → List ℕ
words_text code = flat_map instr_lines code
