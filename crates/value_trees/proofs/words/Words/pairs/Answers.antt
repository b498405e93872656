use Rattle.std.proofs.Common.{sym, ap, ◌∙◌}
use Rattle.std.proofs.lemmas.Result.{IfOk-weaker}
use Rattle.std.specs.FinMap as map
use Rattle.value_trees.proofs.Maps.{entries_back}
use Rattle.value_trees.proofs.words.Words.pairs.Goals as goal

pub returns : goal.returns
returns c = IfOk-weaker c.pairs_of.result _ _ (λ ps e. e ∙ sym (entries_back c.self.inside.words.entries c.pairs_of.ensures.rising) ∙ ap map.entries c.self.view_is) c.pairs_of.ensures.pairs
