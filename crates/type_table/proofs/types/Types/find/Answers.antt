use Rattle.std.proofs.Common.{◌≡◌, ◌↔◌, Some, subst, sym}
use Rattle.type_table.specs.View.{HasTree}
use Rattle.type_table.specs.Shapes.{shaped}
use Rattle.type_table.proofs.TableLaws.{shape_found}
use Rattle.type_table.proofs.types.Types.find.Goals as goal

pub returns : goal.returns
returns c t =
    subst (λ o. (o ≡ Some t) ↔ HasTree c.args.self.now t.0 (shaped c.args.self.now c.args.shape)) (sym c.find.ensures)
    (shape_found c.self.invariant c.args.self.now c.self.view_is c.args.shape t)
