use Rattle.std.proofs.Common.{◌∙◌, sym, arith}
use Rattle.entry_check.proofs.Entries.{one_more, found_here, none_here}
use Rattle.entry_check.proofs.entry.first_other.Goals as goal

pub returns-then-not-is_entry_type : goal.returns-then-not-is_entry_type
returns-then-not-is_entry_type c =
    sym (found_here c.args.types.now c.args.list.now c.loop-i.i c.loop-i.invariant c.loop-i-test.true (sym c.is_entry_type.ensures ∙ c.if-not-is_entry_type.true))

pub loop-i-preserved : goal.loop-i-preserved
loop-i-preserved c =
    one_more c.args.types.now c.args.list.now c.loop-i.i c.loop-i.invariant c.loop-i-test.true (sym c.is_entry_type.ensures ∙ c.if-not-is_entry_type.false)

pub returns : goal.returns
returns c = sym (none_here c.args.types.now c.args.list.now c.loop-i.i c.loop-i.invariant (omega (arith, c.loop-i-test.false)))
