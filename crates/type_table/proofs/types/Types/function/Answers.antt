use Rattle.std.proofs.Common.{◌≡◌, ◌↔◌, Some, slice_get, subst, sym, ap, ◌∙◌}
use Rattle.type_table.specs.Lookups.{found}
use Rattle.type_table.proofs.TableLaws.{function_found}
use Rattle.type_table.proofs.types.Types.function.Goals as goal

pub returns : goal.returns
returns c f =
    subst (λ o. (o ≡ Some f) ↔ (slice_get c.args.self.now.function_ids f ≡ Some c.args.id.now))
    (sym (c.find.ensures ∙ ap (found c.self.inside.function_ids) c.bytes.ensures))
    (function_found c.self.invariant c.args.self.now c.self.view_is c.args.id.now f)
