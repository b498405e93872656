use Rattle.ap_refs.proofs.Giving.{SoFar}
use Rattle.ap_refs.proofs.passing.Passing.give_all.Given as goal

abbrev pub invariant-loop-k : goal.invariant-loop-k
invariant-loop-k l =
    SoFar l.self.types.now l.statement l.self.sig.now.libfunc l.self.place.now l.self.args.now l.fn.rest l.self.locals l.self.amount l.branches l.kinds l.k l.given.items
