-- Why a program has no gas plan.
use Rattle.std.specs.Prelude.{◌≡◌, ◌⊎◌, ℕ, ◌≤◌, List, slice_index}
use Rattle.sierra_types.specs.declared.program.Program.{Program}
use Rattle.type_table.specs.View.{TypesView}
use Rattle.libfunc_registry.specs.declared.sig.Sig.{Sig}
use Rattle.least_needs.specs.declared.terms.Term.{Term}
use Rattle.least_needs.specs.Answers.{AreSmallNeeds, IsTooLarge}
use Rattle.least_needs.specs.Cycles.{IsCycle}
use Rattle.least_needs.specs.Needs.{limit}
use Rattle.least_needs.specs.Terms.{graph_of}
use Rattle.gas_solver.specs.declared.fault.GasFault.{GasFault}
use Rattle.gas_solver.specs.declared.fault.GasFault.TheVariants.{Cycle, TooLarge, Memory}
use Rattle.gas_solver.specs.Terms.{entry_of, program_terms}
use Rattle.gas_solver.specs.Plans.{entry_need}

-- The need of each statement is small enough, but what a run needs to begin isn't; s is main's entry.
pub record IsEntryTooLarge (p : Program) (t : TypesView) (sigs : List Sig) (main s : ℕ) : Type 0 where
  pub needs : List ℕ
  pub small : AreSmallNeeds (program_terms p t sigs) needs
  pub large : limit ≤ entry_need p (slice_index needs) main
  pub named : s ≡ entry_of p main

-- The fault is right for these terms, whatever main is.
abbrev pub IsLeastFault : List (List Term) → GasFault → Type 0
IsLeastFault terms (Cycle statements) = IsCycle (graph_of terms) statements
IsLeastFault terms (TooLarge s) = IsTooLarge terms s
IsLeastFault terms Memory = ⊥

-- The fault is right. The graph in which a cycle lies has no success branch of `withdraw_gas`; a call leads to its callee's
-- entry and to the next statement. Out of memory is none of the program's faults.
abbrev pub IsGasFault : Program → TypesView → List Sig → ℕ → GasFault → Type 0
IsGasFault p t sigs main (Cycle statements) = IsCycle (graph_of (program_terms p t sigs)) statements
IsGasFault p t sigs main (TooLarge s) = IsTooLarge (program_terms p t sigs) s ⊎ IsEntryTooLarge p t sigs main s
IsGasFault p t sigs main Memory = ⊥
