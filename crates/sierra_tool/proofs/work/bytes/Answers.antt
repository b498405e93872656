use Rattle.std.proofs.Common.{inr, refl}
use Rattle.sierra_tool.specs.declared.answer.Answer.TheVariants as answers
use Rattle.sierra_tool.proofs.Stages.{gives_too_long, uncounted}
use Rattle.sierra_tool.proofs.work.bytes.Goals as goal

-- a file that is too long gave more bytes than the limit
pub returns-in-Err-TooLong : goal.returns-in-Err-TooLong
returns-in-Err-TooLong g c =
    let before = g.F.Files.view c.args.files.now in
    let now = g.F.Files.view c.read_all.new.files in
    let source = c.args.source in
    let long = gives_too_long before.contents c.args.name.now source c.limit.result c.in-Err-TooLong.field-0 c.limit.ensures c.in-Err-TooLong.field-0-is c.in-Err-TooLong.ensures.known in
    record {
      keeps = c.in-Err-TooLong.ensures.keeps;
      reading = long.0;
      given = long.1;
      outcome = (inr (inr (long.2, refl)), uncounted before now (answers.TooLong source) (λ source e. cc) (λ source e. cc));
    }
