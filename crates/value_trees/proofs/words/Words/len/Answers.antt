use Rattle.std.proofs.Common.{sym, ap, ◌∙◌}
use Rattle.std.specs.FinMap as map
use Rattle.value_trees.proofs.Maps.{len_back}
use Rattle.value_trees.proofs.words.Words.len.Goals as goal

pub returns : goal.returns
returns c = c.len.ensures.len ∙ sym (len_back c.self.inside.words.entries c.len.ensures.ordered) ∙ ap map.len c.self.view_is
