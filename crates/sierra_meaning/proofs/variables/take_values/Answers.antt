use Rattle.std.proofs.Common.{◌+◌, ◌<◌, ◌≤◌, length, get_or, drop, Ok, sym, ap, subst, ◌∙◌, arith}
use Rattle.std.proofs.lemmas.List.{drop_more, drop_all}
use Rattle.sierra_meaning.proofs.Stepping.{TakesOn, takes_held, takes_more, takes_done}
use Rattle.sierra_meaning.proofs.variables.take_values.Goals as goal

pub take_held-requires : goal.take_held-requires
take_held-requires c =
    let names = c.args.names.now in
    let i = c.loop-name.name-index in
    let within : i < length names = omega arith in
    takes_held (drop i names) (drop (i + 1) names) (get_or names i 0) c.loop-name.env c.loop-name.values.items c.requires.held.0 c.requires.held.1
    (drop_more names i 0 within) (c.loop-name.invariant c.requires.held.0 c.requires.held.1 c.requires.held.2)

pub loop-name-preserved : goal.loop-name-preserved
loop-name-preserved c =
    let names = c.args.names.now in
    let i = c.loop-name.name-index in
    let within : i < length names = omega arith in
    λ vs rest is.
    subst (λ us. TakesOn (drop (i + 1) names) c.take_held.new.self us vs rest) (sym c.in_ok-push.ensures.items)
    (takes_more (drop i names) (drop (i + 1) names) (get_or names i 0) c.loop-name.env c.take_held.new.self c.take_held.result c.loop-name.values.items vs rest
    (drop_more names i 0 within) c.take_held.ensures (c.loop-name.invariant vs rest is))

pub returns : goal.returns
returns c =
    let names = c.args.names.now in
    let i = c.loop-name.name-index in
    let past : length names ≤ i = omega arith in
    c.requires.held.2 ∙ ap Ok (takes_done (drop i names) c.loop-name.env c.loop-name.values.items c.requires.held.0 c.requires.held.1 (drop_all i names past)
    (c.loop-name.invariant c.requires.held.0 c.requires.held.1 c.requires.held.2))
