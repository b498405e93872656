use Rattle.std.proofs.Common.{refl, sym, arith}
use Rattle.std.proofs.lemmas.Option.{slice_get_within}
use Rattle.ap_refs.specs.Arguments.{taken}
use Rattle.ap_refs.proofs.Ready.{can_begin}
use Rattle.ap_refs.proofs.placing.Placing.invoke.Goals as goal

pub pass_args-requires-clause-begin : goal.pass_args-requires-clause-begin
pass_args-requires-clause-begin c =
    can_begin c.args.self.now.program.now c.args.self.now.types.now c.args.self.now.sigs.now c.args.self.now.libfuncs c.requires.ready c.args.statement c.args.libfunc.now c.args.args.now c.args.branches.now
    c.args.place.now c.in-Some.sig.now (taken c.args.args.now c.args.place.now.cells).1 c.requires.here (sym c.in-Some.ensures) c.requires.valid refl

pub pass_args-requires-clause-here : goal.pass_args-requires-clause-here
pass_args-requires-clause-here c =
    omega (arith, slice_get_within c.args.self.now.program.now.statements c.args.statement _ c.requires.here, c.requires.ready.program.few)
