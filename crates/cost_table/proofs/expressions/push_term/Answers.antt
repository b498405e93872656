use Rattle.cost_table.proofs.Fitting.{term_fits}
use Rattle.cost_table.proofs.expressions.push_term.Goals as goal

pub resolve-requires-clause-fits : goal.resolve-requires-clause-fits
resolve-requires-clause-fits c = term_fits c.args.by c.args.args.now c.args.term c.requires.by c.requires.close c.requires.small
