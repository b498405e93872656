use Rattle.std.proofs.Common.{sym}
use Rattle.gas_solver.proofs.Knowing.{signature_at}
use Rattle.gas_solver.proofs.costs.Costs.push_terms.Goals as goal

pub push_branches-requires-clause-signature : goal.push_branches-requires-clause-signature
push_branches-requires-clause-signature c =
    rw c.items.ensures (signature_at c.args.self.now.program.now c.args.self.now.types.now c.args.self.now.sigs.now c.args.self.now.libfuncs c.args.s c.args.statement.now
    c.in-Invoke.libfunc c.in-Invoke.args c.in-Invoke.branches c.in-Some.sig.now c.requires.prepared c.requires.here c.in-Invoke.is (sym c.in-Some.ensures))
