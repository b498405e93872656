use Rattle.std.proofs.Common.{◌∙◌, ap, sym}
use Rattle.std.specs.Option.{option_copied}
use Rattle.type_table.proofs.Plain.{none-some}
use Rattle.type_table.proofs.FormLaws.{all_types, types_behind, not_written}
use Rattle.type_table.proofs.forms.form_of.Goals as goal

pub returns-then-args-types : goal.returns-then-args-types
returns-then-args-types c = all_types c.args.args.now (c.if-args-types.true ∙ c.requires)

pub returns-then-saturating_sub-types : goal.returns-then-saturating_sub-types
returns-then-saturating_sub-types c =
    types_behind c.args.args.now c.in-Some.name.now (sym c.user_in.ensures ∙ ap option_copied c.in-Some.is)
    (sym c.saturating_sub.ensures ∙ c.if-saturating_sub-types.true ∙ c.requires)

pub returns-else-saturating_sub-types : goal.returns-else-saturating_sub-types
returns-else-saturating_sub-types c =
    not_written c.args.args.now c.args.types c.requires c.if-args-types.false
    (λ name user same. c.if-saturating_sub-types.false (c.saturating_sub.ensures ∙ same))

pub returns-in-None : goal.returns-in-None
returns-in-None c =
    not_written c.args.args.now c.args.types c.requires c.if-args-types.false
    (λ name user same. absurd (none-some name (sym (sym c.user_in.ensures ∙ ap option_copied c.in-None.is) ∙ user)))
