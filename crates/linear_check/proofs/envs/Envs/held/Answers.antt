use Rattle.std.proofs.Common.{◌<◌, length, refl, sym, ap, ◌∙◌, Some, arith}
use Rattle.std.specs.List.{slice_get}
use Rattle.std.proofs.lemmas.Option.{slice_get_read}
use Rattle.linear_check.proofs.envs.Envs.held.Goals as goal

pub index-requires : goal.index-requires
index-requires c = omega (arith, c.requires, ap length c.self.view_is, c.self.inside.list.ok.0)

pub returns-clause-held : goal.returns-clause-held
returns-clause-held c =
    let within : c.args.s < length c.self.inside.list.items = omega (arith, c.requires, ap length c.self.view_is) in
    (c.index.result.now.0, ap (λ l. slice_get l c.args.s) (sym c.self.view_is) ∙ slice_get_read c.self.inside.list.items (length c.self.inside.list.items) c.args.s c.index.result.now refl within c.index.ensures ∙ ap (λ h. Some (c.index.result.now.0, h)) (sym c.items.ensures.items))
