use Rattle.run_file.proofs.FeedLaws.{answer_ok, answer_err}
use Rattle.run_file.proofs.reader.Reader.feed.Goals as goal

pub returns-in-Ok-clause-answer : goal.returns-in-Ok-clause-answer
returns-in-Ok-clause-answer c =
    rw (← c.self.view_is, c.in_default.is) (answer_ok c.self.inside.progress c.take.new.progress c.self.inside.unfinished c.take.new.unfinished c.args.piece.now c.in-Ok.ensures.rest c.in-Ok.ensures.waits)

pub returns-in-Err-clause-answer : goal.returns-in-Err-clause-answer
returns-in-Err-clause-answer c other =
    let refused = c.in-Err.ensures.refusal other in
    rw (← c.self.view_is, c.in_default.is) (answer_err c.self.inside.progress c.self.inside.unfinished c.args.piece.now c.in-Err.refusal refused.0 refused.1)
