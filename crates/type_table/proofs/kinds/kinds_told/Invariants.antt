use Rattle.std.proofs.Common.{◌≡◌, ℕ, length, Result, Some, slice_get, slice_index_or, []}
use Rattle.sierra_types.specs.declared.program.TypeDecl.{TypeDecl}
use Rattle.type_table.specs.declared.kind.TypeKind.{TypeKind}
use Rattle.type_table.specs.declared.rules.TypeRule.{TypeRule}
use Rattle.type_table.specs.Forms.{generic_at}
use Rattle.type_table.specs.Kinds.{IsKindTold}
use Rattle.type_table.proofs.kinds.kinds_told.Given as goal

abbrev pub invariant-loop-i : goal.invariant-loop-i
invariant-loop-i l =
    (length l.kinds.items ≡ l.i)
    × ((k : ℕ) (d : TypeDecl) (kind : Result TypeKind TypeRule) → slice_get l.declarations k ≡ Some d → slice_get l.kinds.items k ≡ Some kind
    → IsKindTold (generic_at l.generics k) d.args l.generics (slice_index_or l.graph k []) kind)
