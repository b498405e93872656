use Rattle.type_table.proofs.TableLaws.{row_right}
use Rattle.type_table.proofs.types.Types.kind.Goals as goal

pub returns : goal.returns
returns c = (row_right c.self.invariant c.args.self.now c.self.view_is c.args.t.0 c.index.result.now c.requires c.index.ensures).kind
