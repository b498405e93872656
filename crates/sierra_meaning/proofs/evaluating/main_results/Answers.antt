use Rattle.std.proofs.Common.{map}
use Rattle.std.proofs.lemmas.Result.{IfOk-weaker}
use Rattle.value_trees.specs.Meant.{meant}
use Rattle.sierra_meaning.specs.Evaluating.{mapped_held}
use Rattle.sierra_meaning.proofs.Starting.{main_can_begin, main_stands, main_ended, main_given}
use Rattle.sierra_meaning.proofs.evaluating.main_results.Goals as goal

pub begin-requires : goal.begin-requires
begin-requires c =
    rw c.items.ensures (main_can_begin c.args.accepted.now c.requires.accepted c.requires.begins.0 c.args.values.items c.args.main.now c.requires.begins.1 c.requires.main)

pub results-requires-clause-stands : goal.results-requires-clause-stands
results-requires-clause-stands c =
    let given = main_given c.args.main.now c.args.values.items c.in_ok-env.env (rw c.items.ensures at c.in_ok-env.ensures.added) in
    (c.args.accepted.now.main, main_stands c.args.accepted.now c.requires.accepted c.requires.pays c.requires.begins.0 (map meant c.args.values.items) c.args.main.now (mapped_held meant c.in_ok-env.env) c.requires.begins.1 c.requires.main given)

pub returns : goal.returns
returns c =
    let given = main_given c.args.main.now c.args.values.items c.in_ok-env.env (rw c.items.ensures at c.in_ok-env.ensures.added) in
    IfOk-weaker c.results.result _ _
    (λ results after. main_ended c.args.accepted.now c.requires.accepted c.requires.begins.0 (map meant c.args.values.items) (map meant results.items) c.args.main.now (mapped_held meant c.in_ok-env.env) c.requires.begins.1 c.requires.main given after)
    c.results.ensures
