use Rattle.std.proofs.Common.{◌<◌, ◌+◌, length, sym, subst, arith}
use Rattle.std.specs.List.{All}
use Rattle.libfunc_registry.specs.Wanted.{IsBelow}
use Rattle.std.proofs.lemmas.Option.{slice_get_within}
use Rattle.ap_refs.proofs.Entries.{params_at, results_at}
use Rattle.ap_refs.proofs.check.check_functions.Goals as goal

pub check_cells-requires : goal.check_cells-requires
check_cells-requires c =
    params_at c.args.types.now c.len-count.ensures.kept c.loop-f.f c.params.result.now (omega (arith, c.loop-f-test.true, c.function_count-f-end.ensures)) c.params.ensures

pub check_cells-requires-in-loop-f : goal.check_cells-requires-in-loop-f
check_cells-requires-in-loop-f c =
    results_at c.args.types.now c.len-count.ensures.kept c.loop-f.f c.results.result.now (omega (arith, c.loop-f-test.true, c.function_count-f-end.ensures)) c.results.ensures

pub returns : goal.returns
returns c = λ i g is. c.loop-f.invariant i g (omega (arith, slice_get_within c.args.types.now.functions i g is, c.loop-f-test.false, c.function_count-f-end.ensures)) is
