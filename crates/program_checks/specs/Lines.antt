-- The lines of refused programs: a code, and the name of a type, a libfunc or a function, or the numbers of a statement and
-- of a variable, or those of the statements of a cycle.
use Rattle.std.specs.Prelude.{ℕ, ◌++◌, List, [], ◌∷◌, Option, Some, None, codes, decimal}
use Rattle.std.specs.List.{concat, flat_map}
use Rattle.type_table.specs.declared.fault.TypeFault.{TypeFault}
use Rattle.type_table.specs.declared.fault.TypeFault.TheVariants as type_faults
use Rattle.libfunc_registry.specs.declared.sig.SigFault.{SigFault}
use Rattle.libfunc_registry.specs.declared.sig.SigFault.TheVariants as libfunc_faults
use Rattle.linear_check.specs.declared.fault.LinearFault.{LinearFault}
use Rattle.linear_check.specs.declared.fault.LinearFault.TheVariants as linear_faults
use Rattle.entry_check.specs.declared.fault.EntryFault.{EntryFault}
use Rattle.entry_check.specs.declared.fault.EntryFault.TheVariants as entry_faults
use Rattle.ap_refs.specs.declared.fault.RefFault.{RefFault}
use Rattle.ap_refs.specs.declared.fault.RefFault.TheVariants as place_faults
use Rattle.gas_solver.specs.declared.fault.GasFault.{GasFault}
use Rattle.gas_solver.specs.declared.fault.GasFault.TheVariants as gas_faults
use Rattle.program_checks.specs.declared.refusal.Refusal.{Refusal}
use Rattle.program_checks.specs.declared.refusal.Refusal.TheVariants as refusals

-- a code with the space behind it, a name and a newline
abbrev pub name_line : List ℕ → List ℕ → List ℕ
name_line code name = (code ++ name) ++ codes "\n"

abbrev pub type_fault_line : TypeFault → List ℕ
type_fault_line (type_faults.UnknownType name) = name_line (codes "P10 ") name
type_fault_line (type_faults.BadArgs id) = name_line (codes "P12 ") id
type_fault_line (type_faults.TypeInfoDiffers id) = name_line (codes "P13 ") id
type_fault_line (type_faults.TypeCycle id) = name_line (codes "P15 ") id
type_fault_line (type_faults.SizeAbove id) = name_line (codes "P16 ") id
type_fault_line (type_faults.Duplicate id) = name_line (codes "P17 ") id
type_fault_line (type_faults.FunctionType id) = name_line (codes "P18 ") id
type_fault_line type_faults.Memory = []

abbrev pub libfunc_fault_line : SigFault → List ℕ
libfunc_fault_line (libfunc_faults.UnknownLibfunc name) = name_line (codes "P11 ") name
libfunc_fault_line (libfunc_faults.BadArgs id) = name_line (codes "P12 ") id
libfunc_fault_line (libfunc_faults.AbilityMissing id) = name_line (codes "P14 ") id
libfunc_fault_line libfunc_faults.Memory = []

-- a code with the number of a statement, and with that of a variable too
abbrev pub statement_line : List ℕ → ℕ → List ℕ
statement_line code s = concat (code ∷ codes " " ∷ decimal s ∷ codes "\n" ∷ [])

abbrev pub variable_line : List ℕ → ℕ → ℕ → List ℕ
variable_line code s v = concat (code ∷ codes " " ∷ decimal s ∷ codes " " ∷ decimal v ∷ codes "\n" ∷ [])

abbrev pub linear_fault_line : LinearFault → List ℕ
linear_fault_line (linear_faults.VarMissing s v) = variable_line (codes "P20") s v
linear_fault_line (linear_faults.VarType s v) = variable_line (codes "P21") s v
linear_fault_line (linear_faults.VarLeft s v) = variable_line (codes "P22") s v
linear_fault_line (linear_faults.VarTaken s v) = variable_line (codes "P23") s v
linear_fault_line (linear_faults.MergeDiffers s v) = variable_line (codes "P24") s v
linear_fault_line (linear_faults.AlignMissing s) = statement_line (codes "P25") s
linear_fault_line (linear_faults.SharedStatement s) = statement_line (codes "P26") s
linear_fault_line (linear_faults.Unreachable s) = statement_line (codes "P27") s
linear_fault_line (linear_faults.Shape s) = statement_line (codes "P28") s
linear_fault_line linear_faults.Memory = []

abbrev pub entry_fault_line : EntryFault → List ℕ
entry_fault_line (entry_faults.EntryType position) = statement_line (codes "P50") position
entry_fault_line entry_faults.NoMain = codes "P51\n"

-- a merge at which no variable differs, but the change of ap or the local state does, has `-` in its place
abbrev pub merge_line : ℕ → Option ℕ → List ℕ
merge_line s (Some v) = variable_line (codes "P24") s v
merge_line s None = concat (codes "P24 " ∷ decimal s ∷ codes " -\n" ∷ [])

abbrev pub place_fault_line : RefFault → List ℕ
place_fault_line (place_faults.MergeDiffers s v) = merge_line s v
place_fault_line (place_faults.NotOnStack s v) = variable_line (codes "P30") s v
place_fault_line (place_faults.NotPlain s v) = variable_line (codes "P31") s v
place_fault_line (place_faults.Dangling s v) = variable_line (codes "P32") s v
place_fault_line (place_faults.OffsetTooFar s v) = variable_line (codes "P33") s v
place_fault_line (place_faults.LocalRule s) = statement_line (codes "P34") s
place_fault_line place_faults.Memory = []

-- a number after one space
abbrev pub spaced : ℕ → List ℕ
spaced n = codes " " ++ decimal n

abbrev pub gas_fault_line : GasFault → List ℕ
gas_fault_line (gas_faults.Cycle statements) = (codes "P40" ++ flat_map spaced statements) ++ codes "\n"
gas_fault_line (gas_faults.TooLarge s) = statement_line (codes "P41") s
gas_fault_line gas_faults.Memory = []

-- the line of a refusal; out of memory has none
abbrev pub refusal_line : Refusal → List ℕ
refusal_line (refusals.Types fault) = type_fault_line fault
refusal_line (refusals.Libfuncs fault) = libfunc_fault_line fault
refusal_line (refusals.Statements fault) = linear_fault_line fault
refusal_line (refusals.Entry fault) = entry_fault_line fault
refusal_line (refusals.Places fault) = place_fault_line fault
refusal_line (refusals.Gas fault) = gas_fault_line fault
refusal_line refusals.Memory = []
