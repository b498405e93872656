-- What the parts of the checks find, one behind the other. Only contracts inside this crate cite it.
use Rattle.std.specs.Prelude.{◌≡◌, List, Ok}
use Rattle.sierra_types.specs.declared.program.Program.{Program}
use Rattle.type_table.specs.View.{TypesView}
use Rattle.libfunc_registry.specs.declared.sig.Sig.{Sig}
use Rattle.entry_check.specs.Entry.{entry_of}
use Rattle.ap_refs.specs.Prepared.{IsTypedProgram}
use Rattle.ap_refs.specs.Placed.{Placed}
use Rattle.gas_solver.specs.Plans.{IsPlan}
use Rattle.program_checks.specs.declared.checking.Planned.{Planned}
use Rattle.program_checks.specs.declared.checking.Stated.{Stated}

-- main, the places and the gas plan
abbrev pub IsPlanned : Program → TypesView → List Sig → Planned → Type 0
IsPlanned program types sigs planned =
    (entry_of program types ≡ Ok planned.main) × Placed program types sigs planned.places × IsPlan program types sigs planned.main planned.plan

-- the functions and the typed variables too
abbrev pub IsStated : Program → TypesView → List Sig → Stated → Type 0
IsStated program types sigs stated = IsTypedProgram program types sigs stated.envs × IsPlanned program types sigs stated.planned
