use Rattle.std.proofs.Common.{◌∙◌, ap, sym, Some}
use Rattle.type_table.specs.Lookups.{found}
use Rattle.type_table.proofs.Plain.{none-some, some_is}
use Rattle.type_table.proofs.TableLaws.{id_found}
use Rattle.type_table.proofs.types.Types.number.Goals as goal

pub returns-in_err-position : goal.returns-in_err-position
returns-in_err-position c t =
    let right = id_found c.self.invariant c.args.self.now c.self.view_is c.args.id.now t.0 in
    let none = ap (found c.self.inside.ids) (sym c.bytes.ensures) ∙ sym c.find.ensures ∙ c.in_err-position.was in
    (λ some. absurd (none-some t (sym c.from_residual.ensures ∙ some)), λ here. absurd (none-some t.0 (sym none ∙ right.1 here)))

pub returns : goal.returns
returns c t =
    let right = id_found c.self.invariant c.args.self.now c.self.view_is c.args.id.now t.0 in
    let some = ap (found c.self.inside.ids) (sym c.bytes.ensures) ∙ sym c.find.ensures ∙ c.in_ok-position.was in
    (λ is. right.0 (some ∙ ap (λ u. Some u.0) (some_is _ _ is)), λ here. ap (λ n. Some (record { 0 = n })) (some_is _ _ (sym some ∙ right.1 here)))
