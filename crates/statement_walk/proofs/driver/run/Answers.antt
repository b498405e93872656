use Rattle.std.proofs.Common.{◌+◌, ◌≤◌, length, Ok, Err, ap, sym, ◌∙◌, arith}
use Rattle.std.proofs.lemmas.Option.{slice_get_past}
use Rattle.statement_walk.specs.Walk.{waiting_from}
use Rattle.statement_walk.proofs.Driving.{start_state, state_sized, marked_sized, marked_has, state_valid, statement_turns, next_state, turn_falls, turn_stops, stops_with, entry_turns}
use Rattle.statement_walk.proofs.driver.run.Goals as goal

pub loop-statement-init : goal.loop-statement-init
loop-statement-init g c = start_state (g.R.WalkRules.rules c.args.rules.now) c.in_ok-walk.walk c.statements.result c.in_ok-walk.ensures c.statements.ensures

pub take_turn-requires-clause-sized : goal.take_turn-requires-clause-sized
take_turn-requires-clause-sized g c =
    let lawful = g.met.R.WalkRules.lawful c.args.rules.now c.requires in
    let next = c.in-Some.ensures.next in
    marked_sized (g.R.WalkRules.rules c.args.rules.now) lawful c.loop-statement.walk c.next.new.self c.loop-statement.entered c.in-Some.statement c.in-Some.function next.0 c.loop-statement.invariant next.2

pub take_turn-requires-clause-has : goal.take_turn-requires-clause-has
take_turn-requires-clause-has g c =
    let lawful = g.met.R.WalkRules.lawful c.args.rules.now c.requires in
    let keeps = g.met.R.WalkRules.keeps c.args.rules.now c.requires in
    let next = c.in-Some.ensures.next in
    let has = marked_has c.loop-statement.walk c.next.new.self c.in-Some.statement c.in-Some.function next.0 next.1 next.2 in
    let valid = state_valid (g.R.WalkRules.rules c.args.rules.now) lawful (g.R.WalkRules.valid c.args.rules.now) keeps c.loop-statement.walk c.loop-statement.entered c.in-Some.statement c.in-Some.function next.0 c.loop-statement.invariant next.1 in
    (next.0, has, valid.0, valid.1, valid.2)

pub loop-statement-smaller-in-Continue-branch-2 : goal.loop-statement-smaller-in-Continue-branch-2
loop-statement-smaller-in-Continue-branch-2 g c =
    let rules = g.R.WalkRules.rules c.args.rules.now in
    let next = c.in-Some.ensures.next in
    let has = marked_has c.loop-statement.walk c.next.new.self c.in-Some.statement c.in-Some.function next.0 next.1 next.2 in
    let turns = statement_turns rules c.loop-statement.walk c.next.new.self c.take_turn.new.walk c.loop-statement.entered c.in-Some.statement c.in-Some.function next.0 (Ok _) next.1 next.2 (c.in_ok-take_turn-in-Some.ensures next.0 has) in
    turn_falls rules (g.met.R.WalkRules.lawful c.args.rules.now c.requires) c.loop-statement.walk c.take_turn.new.walk c.loop-statement.entered c.loop-statement.entered turns

pub loop-statement-preserved-in-Continue-branch-2 : goal.loop-statement-preserved-in-Continue-branch-2
loop-statement-preserved-in-Continue-branch-2 g c =
    let rules = g.R.WalkRules.rules c.args.rules.now in
    let next = c.in-Some.ensures.next in
    let has = marked_has c.loop-statement.walk c.next.new.self c.in-Some.statement c.in-Some.function next.0 next.1 next.2 in
    let turns = statement_turns rules c.loop-statement.walk c.next.new.self c.take_turn.new.walk c.loop-statement.entered c.in-Some.statement c.in-Some.function next.0 (Ok _) next.1 next.2 (c.in_ok-take_turn-in-Some.ensures next.0 has) in
    next_state rules c.loop-statement.walk c.take_turn.new.walk c.loop-statement.entered c.loop-statement.entered c.loop-statement.invariant turns

pub returns-in_err-take_turn-in-Some-clause-err : goal.returns-in_err-take_turn-in-Some-clause-err
returns-in_err-take_turn-in-Some-clause-err g c =
    let rules = g.R.WalkRules.rules c.args.rules.now in
    let next = c.in-Some.ensures.next in
    let has = marked_has c.loop-statement.walk c.next.new.self c.in-Some.statement c.in-Some.function next.0 next.1 next.2 in
    let fault = c.in_err-take_turn-in-Some.field-0.0 in
    let turns = statement_turns rules c.loop-statement.walk c.next.new.self c.take_turn.new.walk c.loop-statement.entered c.in-Some.statement c.in-Some.function next.0 (Err fault) next.1 next.2 (c.in_err-take_turn-in-Some.ensures next.0 has) in
    let stops = turn_stops rules c.loop-statement.walk c.take_turn.new.walk c.loop-statement.entered c.loop-statement.entered fault c.loop-statement.invariant turns in
    stops_with rules fault c.from_residual-in_err-take_turn-in-Some.result stops c.from_residual-in_err-take_turn-in-Some.ensures.1

pub enter-requires-clause-sized : goal.enter-requires-clause-sized
enter-requires-clause-sized g c =
    ap length c.in-None.ensures.idle.1 ∙ state_sized (g.R.WalkRules.rules c.args.rules.now) (g.met.R.WalkRules.lawful c.args.rules.now c.requires) c.loop-statement.walk c.loop-statement.entered c.loop-statement.invariant

pub loop-statement-smaller : goal.loop-statement-smaller
loop-statement-smaller g c =
    let rules = g.R.WalkRules.rules c.args.rules.now in
    let turns = entry_turns rules c.loop-statement.walk c.next.new.self c.enter.new.walk c.loop-statement.entered (c.loop-statement.entered + 1) c.in-None.ensures.idle.1 c.in_ok-enter-in-None.ensures in
    turn_falls rules (g.met.R.WalkRules.lawful c.args.rules.now c.requires) c.loop-statement.walk c.enter.new.walk c.loop-statement.entered (c.loop-statement.entered + 1) turns

pub loop-statement-preserved : goal.loop-statement-preserved
loop-statement-preserved g c =
    let rules = g.R.WalkRules.rules c.args.rules.now in
    let turns = entry_turns rules c.loop-statement.walk c.next.new.self c.enter.new.walk c.loop-statement.entered (c.loop-statement.entered + 1) c.in-None.ensures.idle.1 c.in_ok-enter-in-None.ensures in
    next_state rules c.loop-statement.walk c.enter.new.walk c.loop-statement.entered (c.loop-statement.entered + 1) c.loop-statement.invariant turns

pub finish-requires : goal.finish-requires
finish-requires g c =
    let rules = g.R.WalkRules.rules c.args.rules.now in
    let past : length rules.entries ≤ c.loop-statement.entered = omega (arith, c.functions.ensures, c.if-entered-functions.false) in (
      c.loop-statement.entered,
      (c.loop-statement.invariant.0, c.loop-statement.invariant.1 ∙ ap (λ u. record { trace = u; turn = c.loop-statement.entered }) (sym c.in-None.ensures.idle.1)),
      ap (waiting_from 0) c.in-None.ensures.idle.1 ∙ c.in-None.ensures.idle.0,
      slice_get_past rules.entries c.loop-statement.entered past,
    )
