use Rattle.libfunc_registry.proofs.Placing.{written-placed}
use Rattle.lower_kit.proofs.Declared.{declared_families}
use Rattle.lower_core.proofs.sizes.placed.Goals as goal

pub returns-clause-placed : goal.returns-clause-placed
returns-clause-placed c =
    let decl = c.requires.0 in
    written-placed c.args.types.now c.len-count.ensures.kept decl.generic decl.args c.args.sig.now.libfunc c.requires.1.written

pub returns-clause-declared : goal.returns-clause-declared
returns-clause-declared c = declared_families c.args.types.now c.args.sig.now c.len-count.ensures.kept c.requires
