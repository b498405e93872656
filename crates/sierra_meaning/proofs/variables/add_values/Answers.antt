use Rattle.std.proofs.Common.{◌≡◌, drop, length, reverse, Ok, ap, ◌∙◌, arith}
use Rattle.sierra_meaning.proofs.Stepping.{adds_without, no_items}
use Rattle.sierra_meaning.proofs.variables.add_values.Goals as goal

pub returns-in_default-clause-added : goal.returns-in_default-clause-added
returns-in_default-clause-added c =
    let items = c.loop-name.values.items in
    let cases = c.in_default.ensures.cases in
    let none : length items ≡ 0 = omega arith in
    c.requires.1 ∙ ap Ok (adds_without (drop c.loop-name.name-index c.args.names.now) (reverse items) c.loop-name.env c.requires.0 (no_items items none) (c.loop-name.invariant c.requires.0 c.requires.1))
