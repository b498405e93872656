use Rattle.std.proofs.Common.{◌<◌, sym, subst, arith}
use Rattle.statement_walk.specs.Turning.{AreInside}
use Rattle.statement_walk.proofs.Settled.{given_within}
use Rattle.statement_walk.proofs.Driving.{flow_inside, delivered}
use Rattle.statement_walk.proofs.driver.take_turn.Goals as goal

pub deliver-requires : goal.deliver-requires
deliver-requires g c =
    let rules = g.R.WalkRules.rules c.args.rules.now in
    let within : c.args.statement < rules.size = omega (arith, given_within c.args.walk.now c.args.statement (c.args.function, c.requires.has.0) c.requires.has.1, c.requires.sized) in
    let inside = flow_inside rules (g.met.R.WalkRules.lawful c.args.rules.now c.requires.fits) c.args.function c.args.statement c.env-env.result.now c.in_ok-branches.branches.given.items c.in_ok-branches.branches.fault within c.in_ok-branches.ensures in
    subst (λ n. AreInside n c.in_ok-branches.branches.given.items) (sym c.requires.sized) inside

pub returns : goal.returns
returns g c = λ e has.
    delivered (g.R.WalkRules.rules c.args.rules.now) c.args.function c.args.statement c.env-env.ensures.0 e c.env-env.result.now c.in_ok-branches.branches.given.items c.in_ok-branches.branches.fault c.args.walk.now c.deliver.new.walk c.deliver.result
    has c.env-env.ensures.1 c.in_ok-branches.ensures c.deliver.ensures
