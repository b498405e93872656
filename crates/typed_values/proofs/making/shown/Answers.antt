use Rattle.std.proofs.Common.{◌≡◌, ◌≢◌, length, map, rules, arith, ◌∙◌}
use Rattle.typed_values.proofs.Made.{panics_of_many, shown_of_many}
use Rattle.typed_values.proofs.making.shown.Goals as goal

pub returns : goal.returns
returns c =
    let many : length c.args.others.items ≢ 1 = search rules in (
      panics_of_many c.args.types.now c.args.others.items many,
      c.in_ok-values_of.ensures ∙ shown_of_many c.args.types.now c.args.others.items many,
    )
