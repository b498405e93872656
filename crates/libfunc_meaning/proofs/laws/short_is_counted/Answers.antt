use Rattle.libfunc_meaning.proofs.Short.{short_is_counted}
use Rattle.libfunc_meaning.proofs.laws.short_is_counted.Goals as goal

pub returns : goal.returns
returns c = short_is_counted
