use Rattle.std.proofs.Common.{◌≤◌, ◌<◌, length, sym, ◌∙◌, arith}
use Rattle.statement_walk.proofs.Driving.{entry_strays, entry_shared, entry_begins, free_there, some_copied, none_copied}
use Rattle.statement_walk.proofs.driver.enter.Goals as goal

pub returns-then-statement-statements : goal.returns-then-statement-statements
returns-then-statement-statements g c =
    let past : length c.args.walk.now ≤ c.in_ok-statement.statement = omega (arith, c.requires.sized, c.statements.ensures, c.if-statement-statements.true) in
    entry_strays (g.R.WalkRules.rules c.args.rules.now) c.args.walk.now c.args.function c.in_ok-statement.statement c.in_ok-statement.env c.stray.result c.requires.idle c.in_ok-statement.ensures past c.stray.ensures

pub returns-then-is_some : goal.returns-then-is_some
returns-then-is_some g c =
    entry_shared (g.R.WalkRules.rules c.args.rules.now) c.args.walk.now c.args.function c.in_ok-statement.statement c.in_ok-statement.env c.shared_entry.result c.requires.idle c.in_ok-statement.ensures
    (some_copied _ _ c.given.ensures (sym c.is_some.ensures ∙ c.if-is_some.true)) c.shared_entry.ensures

pub add-requires : goal.add-requires
add-requires g c =
    let inside : c.in_ok-statement.statement < length c.args.walk.now = omega (arith, c.requires.sized, c.statements.ensures, c.if-statement-statements.false) in
    free_there c.args.walk.now c.in_ok-statement.statement inside (none_copied _ _ c.given.ensures (sym c.is_some.ensures ∙ c.if-is_some.false))

pub returns : goal.returns
returns g c =
    let inside : c.in_ok-statement.statement < length c.args.walk.now = omega (arith, c.requires.sized, c.statements.ensures, c.if-statement-statements.false) in
    entry_begins (g.R.WalkRules.rules c.args.rules.now) c.args.walk.now c.add.new.self c.args.function c.in_ok-statement.statement c.in_ok-statement.env c.requires.idle c.in_ok-statement.ensures
    (free_there c.args.walk.now c.in_ok-statement.statement inside (none_copied _ _ c.given.ensures (sym c.is_some.ensures ∙ c.if-is_some.false))) c.in_ok-add.ensures.ok
