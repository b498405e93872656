use Rattle.std.proofs.Common.{ap, ◌∙◌}
use Rattle.std.specs.FinMap as map
use Rattle.value_trees.proofs.Maps.{one_put}
use Rattle.value_trees.proofs.words.Words.insert.Goals as goal

pub returns-clause-ok : goal.returns-clause-ok
returns-clause-ok c =
    one_put c.self.inside.words.entries c.insert.new.self.entries c.args.key c.args.word c.in_ok-insert.ensures.updates.0
    ∙ ap (λ m. map.insert m c.args.key c.args.word) c.self.view_is
