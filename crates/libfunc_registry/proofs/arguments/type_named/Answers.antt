use Rattle.std.proofs.Common.{◌<◌, length, sym, ◌∙◌, arith}
use Rattle.std.proofs.lemmas.Option.{slice_get_within}
use Rattle.libfunc_registry.proofs.Places.{told_type}
use Rattle.libfunc_registry.proofs.arguments.type_named.Goals as goal

pub prove-unreachable-requires : goal.prove-unreachable-requires
prove-unreachable-requires c =
    let types = c.args.types.now in
    let within : c.in-Some.found.0 < length types.ids =
    slice_get_within types.ids _ _ ((c.number-found.ensures c.in-Some.found).0 c.in-Some.is) in
    omega (arith, c.len.ensures.kept.each_named)

pub returns-in-Some-clause-found : goal.returns-in-Some-clause-found
returns-in-Some-clause-found c = sym c.in-Some.is ∙ told_type c.args.types.now c.args.id.now _ c.number-found.ensures

pub returns-in_default-clause-found : goal.returns-in_default-clause-found
returns-in_default-clause-found c = told_type c.args.types.now c.args.id.now _ c.number-found.ensures
