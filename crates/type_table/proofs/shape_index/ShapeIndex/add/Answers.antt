use Rattle.std.proofs.Common.{◌++◌, ◌∷◌, [], ap, ◌∙◌}
use Rattle.indexmap.proofs.CallerLemmas.{insert_entry-new}
use Rattle.type_table.specs.contracts.kind.ShapePartialEq.TheImpl as shape_impl
use Rattle.type_table.specs.Lookups.{found_shape}
use Rattle.type_table.proofs.Plain.{on_ok}
use Rattle.type_table.proofs.LookupLaws.{found_shape-lookup}
use Rattle.type_table.proofs.shape_index.ShapeIndex.add.Goals as goal
use Rattle.type_table.proofs.shape_index.ShapeIndex.add.Goals.{in-Ok, in-Err}

pub returns-clause-ok : goal.returns-clause-ok
returns-clause-ok c =
    let none = found_shape-lookup c.args.shape c.self.inside.map.entries ∙ ap (λ v. found_shape v c.args.shape) c.self.view_is ∙ c.requires in
    elim c.match-insert.branch [
      | in-Ok w ↦ on_ok _ _ (w.in-Ok.ensures.entries ∙ insert_entry-new shape_impl.eq-value.it c.self.inside.map c.args.shape c.args.t none ∙ ap (λ v. v ++ (c.args.shape, c.args.t) ∷ []) c.self.view_is)
      | in-Err w ↦ rw w.result-is tt
    ]
