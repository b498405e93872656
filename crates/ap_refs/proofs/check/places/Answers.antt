use Rattle.std.proofs.Common.{◌≡◌, ap, map, sym, subst, ◌∙◌}
use Rattle.type_table.specs.Naming.{place_of}
use Rattle.ap_refs.specs.Placed.{Placed}
use Rattle.ap_refs.proofs.Prepared.{ready}
use Rattle.ap_refs.proofs.Through.{through}
use Rattle.ap_refs.proofs.check.places.Goals as goal

pub run-requires : goal.run-requires
run-requires c =
    ready c.args.program.now c.args.types.now c.args.sigs.now c.args.envs.now c.items.result.now c.in_ok-libfuncs.libfuncs c.requires c.items.ensures c.in_ok-libfuncs.ensures c.in_ok-check_functions.ensures

pub returns-in-Ok-clause-placed : goal.returns-in-Ok-clause-placed
returns-in-Ok-clause-placed c =
    subst (Placed c.args.program.now c.args.types.now c.args.sigs.now) (sym c.new.ensures)
    ((through c.args.program.now c.args.types.now c.args.sigs.now c.args.envs.now c.requires c.in-Ok.list.items).1 c.in-Ok.ensures.ok)
