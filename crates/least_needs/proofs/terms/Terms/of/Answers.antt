use Rattle.std.proofs.Common.{length, ap, arith}
use Rattle.least_needs.proofs.RowLaws.{length-rows}
use Rattle.least_needs.proofs.terms.Terms.of.Goals as goal

pub row-requires-clause-statement : goal.row-requires-clause-statement
row-requires-clause-statement c =
    omega (arith, ap length c.deref-2.ensures.value, length-rows 0 c.self.inside.ends.items c.self.inside.terms.items, ap length c.self.view_is, c.requires)
