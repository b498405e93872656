use Rattle.std.proofs.Common.{length, sym, ap, ◌∙◌}
use Rattle.ap_refs.proofs.Entries.{entries_length}
use Rattle.ap_refs.proofs.placing.PlacingWalkRules.functions.Goals as goal

pub returns : goal.returns
returns c = ap length c.items.ensures ∙ sym (entries_length c.args.self.now.types.now c.args.self.now.program.now.functions 0)
