use Rattle.entry_check.proofs.Entries.{params_below, results_below}
use Rattle.entry_check.proofs.entry.check_types.Goals as goal

pub first_other-requires : goal.first_other-requires
first_other-requires c = params_below c.args.types.now c.len-count.ensures.kept c.args.main c.requires c.params-params.result.now c.params-params.ensures

pub first_other-requires-2 : goal.first_other-requires-2
first_other-requires-2 c = results_below c.args.types.now c.len-count.ensures.kept c.args.main c.requires c.results.result.now c.results.ensures
