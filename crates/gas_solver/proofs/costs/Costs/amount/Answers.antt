use Rattle.std.proofs.Common.{sym, subst, ◌<◌}
use Rattle.linear_check.specs.Statements.{target_of}
use Rattle.gas_solver.proofs.Knowing.{signature_at}
use Rattle.gas_solver.proofs.costs.Costs.amount.Goals as goal

pub amount_by-requires-clause-inside : goal.amount_by-requires-clause-inside
amount_by-requires-clause-inside c k b at =
    let known = signature_at c.args.self.now.program.now c.args.self.now.types.now c.args.self.now.sigs.now c.args.self.now.libfuncs c.args.s c.args.statement.now
    c.in-Invoke.libfunc c.in-Invoke.args c.in-Invoke.branches c.in_ok-sig_of-in-Invoke.field-0.now c.requires.prepared c.requires.here c.in-Invoke.is (sym c.in_ok-sig_of-in-Invoke.ensures) in
    subst (λ n. target_of c.args.s b.target < n) (sym c.requires.all) (known.inside k b (rw c.items.ensures at at))
