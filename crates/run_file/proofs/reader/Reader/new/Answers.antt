use Rattle.run_file.proofs.EndLaws.{says_all}
use Rattle.run_file.proofs.reader.Reader.new.Goals as goal

pub returns-clause-says : goal.returns-clause-says
returns-clause-says c bytes = says_all c.new.result bytes c.new.ensures.start c.new-2.result c.new-2.ensures
