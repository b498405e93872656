use Rattle.std.proofs.Common.{ap, ◌∙◌}
use Rattle.type_table.specs.Lookups.{found_shape}
use Rattle.type_table.proofs.LookupLaws.{found_shape-lookup}
use Rattle.type_table.proofs.shape_index.ShapeIndex.find.Goals as goal

pub returns : goal.returns
returns c =
    c.copied.ensures ∙ c.get.ensures.value ∙ found_shape-lookup c.args.shape c.self.inside.map.entries
    ∙ ap (λ es. found_shape es c.args.shape) c.self.view_is
