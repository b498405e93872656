-- What a program passes before anything of it is run or compiled, and its first refusal.
use Rattle.std.specs.Prelude.{◌≡◌, ◌≢◌, ℕ, List, Ok, Err}
use Rattle.sierra_types.specs.declared.program.Program.{Program}
use Rattle.type_table.specs.View.{TypesView}
use Rattle.type_table.specs.Table.{HasTypes}
use Rattle.type_table.specs.Refusals as types
use Rattle.libfunc_registry.specs.Signature.{HasSignatures}
use Rattle.libfunc_registry.specs.Refusals as libfuncs
use Rattle.libfunc_registry.specs.declared.sig.Sig.{Sig}
use Rattle.linear_check.specs.Typed.{TypedList}
use Rattle.linear_check.specs.FirstFault as statements
use Rattle.entry_check.specs.Entry.{entry_of}
use Rattle.ap_refs.specs.Prepared.{IsTypedProgram}
use Rattle.ap_refs.specs.Placed.{Placed, PlacedList}
use Rattle.ap_refs.specs.FirstFault as places
use Rattle.gas_solver.specs.Accepting.{AcceptedView}
use Rattle.gas_solver.specs.Faults.{IsGasFault}
use Rattle.gas_solver.specs.Plans.{PlanView, IsPlan}
use Rattle.gas_solver.specs.declared.fault.GasFault.TheVariants as gas_faults
use Rattle.program_checks.specs.declared.checking.Checked.{Checked}
use Rattle.program_checks.specs.declared.refusal.Refusal.{Refusal}
use Rattle.program_checks.specs.declared.refusal.Refusal.TheVariants as refusals

-- The program has these types and functions, its libfuncs these signatures, and its statements these functions and
-- variables; this function is main, the variables have these places, and this is the gas plan.
abbrev pub Finds : Program → Checked → Type 0
Finds program checked =
    IsTypedProgram program checked.types checked.signatures checked.envs
    × (entry_of program checked.types ≡ Ok checked.main)
    × Placed program checked.types checked.signatures checked.places
    × IsPlan program checked.types checked.signatures checked.main checked.plan

-- the program passes the checks
abbrev pub Passes : Program → Type 0
Passes program = (checked : Checked) × Finds program checked

-- the program passes the checks, and this is its gas plan
abbrev pub HasPlan : Program → PlanView → Type 0
HasPlan program plan = (checked : Checked) × Finds program checked × (plan ≡ checked.plan)

-- the program with what was found of it
abbrev pub accepted_by : Program → Checked → AcceptedView
accepted_by program checked =
    record { program = program; types = checked.types; sigs = checked.signatures; envs = checked.envs; plan = checked.plan; main = checked.main }

-- The first refusal, in the order of compiling: types and functions; where these are not refused, libfuncs; where these have
-- signatures, statements; where these are typed, main; where main is known, places; and where these are known, gas. Out of
-- memory is no refusal.
abbrev pub Refused : Program → Refusal → Type 0
Refused program (refusals.Types fault) = types.FirstFault program fault
Refused program (refusals.Libfuncs fault) = (types : TypesView) × HasTypes program types × libfuncs.FirstFault types program.libfuncs fault
Refused program (refusals.Statements fault) =
    (types : TypesView) × (signatures : List Sig) × HasTypes program types × HasSignatures types program.libfuncs signatures
    × statements.FirstFault program types signatures fault
Refused program (refusals.Entry fault) =
    (types : TypesView) × (signatures : List Sig) × (envs : TypedList) × IsTypedProgram program types signatures envs × (entry_of program types ≡ Err fault)
Refused program (refusals.Places fault) =
    (types : TypesView) × (signatures : List Sig) × (envs : TypedList) × (main : ℕ) × IsTypedProgram program types signatures envs
    × (entry_of program types ≡ Ok main) × places.FirstFault program types signatures fault
Refused program (refusals.Gas fault) =
    (types : TypesView) × (signatures : List Sig) × (envs : TypedList) × (main : ℕ) × (placed : PlacedList) × IsTypedProgram program types signatures envs
    × (entry_of program types ≡ Ok main) × Placed program types signatures placed × (fault ≢ gas_faults.Memory) × IsGasFault program types signatures main fault
Refused program refusals.Memory = ⊥
