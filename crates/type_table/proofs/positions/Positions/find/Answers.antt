use Rattle.std.proofs.Common.{ap, ◌∙◌}
use Rattle.type_table.specs.Lookups.{found}
use Rattle.type_table.proofs.LookupLaws.{found-lookup}
use Rattle.type_table.proofs.positions.Positions.find.Goals as goal

pub returns : goal.returns
returns c =
    c.copied.ensures ∙ c.get.ensures.value ∙ found-lookup (λ k. k.items) c.args.name.now c.self.inside.map.entries
    ∙ ap (λ v. found v c.args.name.now) c.self.view_is
