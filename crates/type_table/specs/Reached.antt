-- What a declaration reaches through its arguments: itself, or a declaration that is refused.
use Rattle.std.specs.Prelude.{ℕ, suc, ◌≡◌, ◌⊎◌, List, Some, slice_get}
use Rattle.graph_cycles.specs.Graph.{Way, OnCycle}
use Rattle.sierra_types.specs.declared.program.TypeDecl.{TypeDecl}
use Rattle.type_table.specs.declared.fault.TypeFault.{TypeFault}
use Rattle.type_table.specs.declared.rules.TypeRule.{TypeRule}
use Rattle.type_table.specs.Refusals.{arguments, BreaksType}

-- the declaration at position i breaks a rule
abbrev pub IsRefused : List TypeDecl → ℕ → Type 0
IsRefused ds i = (d : TypeDecl) × (rule : TypeRule) × (fault : TypeFault) × (slice_get ds i ≡ Some d) × BreaksType ds i d rule fault

-- it reaches itself, or a declaration that is refused
abbrev pub ReachesRefused : List TypeDecl → ℕ → Type 0
ReachesRefused ds i = OnCycle (arguments ds) i ⊎ ((j k : ℕ) × Way (arguments ds) (suc k) i j × IsRefused ds j)
