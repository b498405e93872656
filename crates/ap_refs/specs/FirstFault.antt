-- The first fault of a typed program that has no places.
use Rattle.std.specs.Prelude.{List, Err}
use Rattle.sierra_types.specs.declared.program.Program.{Program}
use Rattle.type_table.specs.View.{TypesView}
use Rattle.libfunc_registry.specs.declared.sig.Sig.{Sig}
use Rattle.statement_walk.specs.Walk.{Stops}
use Rattle.ap_refs.specs.declared.fault.RefFault.{RefFault}
use Rattle.ap_refs.specs.Flow.{rules}

-- The walk takes the functions in declared order, and in each one always the least statement that is reached and not done.
-- It stops with this fault, which is the first rule that keeps it from its next statement.
abbrev pub FirstFault : Program → TypesView → List Sig → RefFault → Type 0
FirstFault p t sigs fault = Stops (rules p t sigs) (Err fault)
