use Rattle.std.proofs.Common.{sym, ap, ◌∙◌}
use Rattle.std.specs.FinMap as map
use Rattle.value_trees.proofs.Maps.{get_word}
use Rattle.value_trees.proofs.words.Words.get.Goals as goal

pub returns : goal.returns
returns c = c.copied.ensures ∙ c.get.ensures.value ∙ sym (get_word c.self.inside.words.entries c.args.key) ∙ ap (λ m. map.get m c.args.key) c.self.view_is
