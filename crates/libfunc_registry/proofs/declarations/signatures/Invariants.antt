use Rattle.std.proofs.Common.{take}
use Rattle.libfunc_registry.specs.Signature.{HasSignatures}
use Rattle.libfunc_registry.proofs.declarations.signatures.Given as goal

abbrev pub invariant-loop-decl : goal.invariant-loop-decl
invariant-loop-decl l = HasSignatures l.types (take l.decl-index l.libfuncs) l.sigs.items
