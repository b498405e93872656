-- What a program has: a table or a first fault, never both, and one only.
use Rattle.std.proofs.Common.{◌≡◌}
use Rattle.sierra_types.specs.declared.program.Program.{Program}
use Rattle.type_table.specs.declared.fault.TypeFault.{TypeFault}
use Rattle.type_table.specs.declared.fault.TypeFault.TheVariants.{Memory}
use Rattle.type_table.specs.View.{TypesView}
use Rattle.type_table.specs.Table.{HasTypes}
use Rattle.type_table.specs.Refusals.{FirstFault}
use Rattle.type_table.proofs.DecidedFaults as faults
use Rattle.type_table.proofs.DecidedNever as never
use Rattle.type_table.proofs.DecidedTables as tables
use Rattle.type_table.proofs.DecidedClean.{whole}
use Rattle.type_table.proofs.DecidedTypes.{rows_made}
use Rattle.type_table.proofs.DecidedViews.{view_with, table_made}
use Rattle.type_table.specs.Refusals.{in_type}

-- a program's first fault is one
pub one_fault : (p : Program) (a b : TypeFault) → FirstFault p a → FirstFault p b → a ≡ b
one_fault = faults.one_fault

-- a program that has a table has no first fault
pub never_both : (p : Program) (types : TypesView) (fault : TypeFault) → HasTypes p types → FirstFault p fault → ⊥
never_both = never.never_both

-- a program's table is one
pub one_table : (p : Program) (a b : TypesView) → HasTypes p a → HasTypes p b → a ≡ b
one_table = tables.one_table

-- it can't be that a program has neither a table nor a first fault
pub types_or_fault : (p : Program) → ((types : TypesView) → HasTypes p types → ⊥) → ((fault : TypeFault) → FirstFault p fault → ⊥) → ⊥
types_or_fault p no_table none =
    rows_made p.types (λ i d here rule fault breaks. whole p none (in_type i rule) fault (d, here, breaks)) (λ made.
    no_table (view_with p (whole p none) made.0) (table_made p (whole p none) made.0 made.1))

-- out of memory is no refusal
pub never_memory : (p : Program) → FirstFault p Memory → ⊥
never_memory = faults.never_memory
