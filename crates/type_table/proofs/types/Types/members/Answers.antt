use Rattle.std.proofs.Common.{◌∙◌, ap, subst, sym, length, ◌<◌, ◌≤◌}
use Rattle.std.specs.List.{All}
use Rattle.type_table.specs.View.{trees_of}
use Rattle.type_table.specs.IsType.{most_arguments}
use Rattle.type_table.proofs.TableLaws.{row_right}
use Rattle.type_table.proofs.types.Types.members.Goals as goal

pub returns-clause-trees : goal.returns-clause-trees
returns-clause-trees c =
    ap (trees_of c.args.self.now) c.items.ensures
    ∙ (row_right c.self.invariant c.args.self.now c.self.view_is c.args.t.0 c.index.result.now c.requires c.index.ensures).members

pub returns-clause-below : goal.returns-clause-below
returns-clause-below c =
    subst (All (λ m. m.0 < length c.args.self.now.rows)) (sym c.items.ensures)
    (row_right c.self.invariant c.args.self.now c.self.view_is c.args.t.0 c.index.result.now c.requires c.index.ensures).below

pub returns-clause-few : goal.returns-clause-few
returns-clause-few c =
    subst (λ ts. length ts ≤ most_arguments) (sym c.items.ensures)
    (row_right c.self.invariant c.args.self.now c.self.view_is c.args.t.0 c.index.result.now c.requires c.index.ensures).few_members
