use Rattle.std.proofs.Common.{Err, ap}
use Rattle.statement_walk.proofs.Driving.{ends_missing, ends_listed}
use Rattle.statement_walk.proofs.driver.finish.Goals as goal

pub returns-in-Ok-clause-ok : goal.returns-in-Ok-clause-ok
returns-in-Ok-clause-ok g c = ends_listed (g.R.WalkRules.rules c.args.rules.now) c.args.walk c.requires.0 c.in-Ok.list.items c.requires.1 c.requires.2 c.requires.3 c.in-Ok.ensures.ok

pub returns-in-Err-Unseen-clause-err : goal.returns-in-Err-Unseen-clause-err
returns-in-Err-Unseen-clause-err g c =
    ends_missing (g.R.WalkRules.rules c.args.rules.now) c.args.walk c.requires.0 c.in-Err-Unseen.statement c.unreached.result c.requires.1 c.requires.2 c.requires.3 (c.in-Err-Unseen.ensures.missing c.in-Err-Unseen.statement (ap Err c.in-Err-Unseen.field-0-is)) c.unreached.ensures
