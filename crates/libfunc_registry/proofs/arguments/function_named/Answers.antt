use Rattle.libfunc_registry.proofs.Places.{told_function}
use Rattle.libfunc_registry.proofs.arguments.function_named.Goals as goal

pub returns : goal.returns
returns c = told_function c.args.types.now c.args.id.now _ c.function.ensures
