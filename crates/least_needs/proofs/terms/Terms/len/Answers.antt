use Rattle.std.proofs.Common.{length, ap, arith}
use Rattle.least_needs.proofs.RowLaws.{length-rows}
use Rattle.least_needs.proofs.terms.Terms.len.Goals as goal

pub returns : goal.returns
returns c = omega (arith, length-rows 0 c.self.inside.ends.items c.self.inside.terms.items, ap length c.self.view_is)
