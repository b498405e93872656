use Rattle.std.proofs.Common.{◌<◌, ◌+◌, length, sym, subst, arith}
use Rattle.linear_check.specs.Flow.{branch_part, several}
use Rattle.linear_check.proofs.Giving.{SoFar, none_given, counts_length, inside_at, one_more_given, fault_given, all_given, own_fault}
use Rattle.linear_check.proofs.linear.Linear.give_all.Goals as goal

pub loop-k-init : goal.loop-k-init
loop-k-init c = none_given c.args.self.now.program.now c.args.self.now.sigs.now c.args.statement (several c.args.branches.now) c.args.rest.now c.args.branches.now c.args.types.now c.in_ok-given.given.items c.in_ok-given.ensures.items

pub give-requires-clause-inside : goal.give-requires-clause-inside
give-requires-clause-inside c = inside_at c.args.statement (length c.args.self.now.program.now.statements) c.args.branches.now c.loop-k.k c.index-branches-k.result c.requires.inside c.loop-k-test.true c.index-branches-k.is

pub bounds-types-k : goal.bounds-types-k
bounds-types-k c = omega (arith, counts_length c.args.branches.now c.args.types.now c.requires.counted, c.loop-k-test.true)

pub loop-k-preserved : goal.loop-k-preserved
loop-k-preserved c =
    let lt : c.loop-k.k < length c.args.types.now = omega (arith, counts_length c.args.branches.now c.args.types.now c.requires.counted, c.loop-k-test.true) in
    let gives = rw c.items.ensures at c.in-Ok.ensures in
    subst (SoFar c.args.self.now.program.now c.args.self.now.sigs.now c.args.statement (several c.args.branches.now) c.args.rest.now c.args.branches.now c.args.types.now (c.loop-k.k + 1)) (sym c.in_ok-keep-in-Ok.ensures)
    (one_more_given c.args.self.now.program.now c.args.self.now.sigs.now c.args.statement (several c.args.branches.now) c.args.rest.now c.args.branches.now c.args.types.now c.loop-k.k c.index-branches-k.result c.index-types-k.result c.loop-k.given.items c.in-Ok.part
    c.loop-k-test.true lt c.index-branches-k.is c.index-types-k.is gives c.loop-k.invariant)

pub returns-in-Err : goal.returns-in-Err
returns-in-Err c =
    let lt : c.loop-k.k < length c.args.types.now = omega (arith, counts_length c.args.branches.now c.args.types.now c.requires.counted, c.loop-k-test.true) in
    let gives = own_fault (branch_part c.args.self.now.program.now c.args.self.now.sigs.now c.args.statement (several c.args.branches.now) c.args.rest.now c.index-branches-k.result c.items.result.now) c.in-Err.fault c.is_memory.result c.is_memory.ensures c.if-is_memory.false c.in-Err.ensures in
    fault_given c.args.self.now.program.now c.args.self.now.sigs.now c.args.statement (several c.args.branches.now) c.args.rest.now c.args.branches.now c.args.types.now c.loop-k.k c.index-branches-k.result c.index-types-k.result c.loop-k.given.items c.in-Err.fault
    c.loop-k-test.true lt c.index-branches-k.is c.index-types-k.is (rw c.items.ensures at gives) c.loop-k.invariant

pub returns : goal.returns
returns c =
    all_given c.args.self.now.program.now c.args.self.now.sigs.now c.args.statement (several c.args.branches.now) c.args.rest.now c.args.branches.now c.args.types.now c.loop-k.k c.loop-k.given.items
    (omega (arith, c.loop-k-test.false, c.loop-k.auto.k-end)) c.loop-k.invariant
