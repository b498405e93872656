-- What the code that applies a libfunc asks.
use Rattle.std.specs.Prelude.{◌<◌, ◌^◌, ◌-◌, List}
use Rattle.std.specs.FinMap.{len}
use Rattle.std.specs.List.{AllByRecursion}
use Rattle.sierra_types.specs.declared.program.LibfuncDecl.{LibfuncDecl}
use Rattle.type_table.specs.View.{TypesView}
use Rattle.libfunc_registry.specs.declared.sig.Sig.{Sig}
use Rattle.libfunc_registry.specs.Signature.{HasSignature}
use Rattle.value_trees.specs.Measures.{longest}
use Rattle.value_trees.specs.Val.{Plain}

-- it is the signature of some declaration
abbrev pub IsSignature : TypesView → Sig → Type 0
IsSignature types sig = (decl : LibfuncDecl) × HasSignature types decl sig

-- each array and map in the value has fewer than 2 ^ 32 - 1 elements
abbrev pub IsShort : Plain → Type 0
IsShort v = longest (λ m. len m) (λ e. len e.map) v < 2 ^ 32 - 1

abbrev pub AreShort : List Plain → Type 0
AreShort vs = AllByRecursion IsShort vs
