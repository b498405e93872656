use Rattle.std.proofs.Common.{map, string_bytes, refl}
use Rattle.sierra_tool.proofs.Exact.{exact}
use Rattle.sierra_tool.proofs.Headline.{runs_are_accepted, outcomes_are_meant}
use Rattle.sierra_tool.proofs.Verdicts.{verdicts_are_meant}
use Rattle.sierra_tool.proofs.tool.sierra_tool.Goals as goal

-- of known files the status is exact
pub returns-clause-exact : goal.returns-clause-exact
returns-clause-exact g c =
    let files = g.F.Files.view in
    let out = g.S.Sink.view in
    exact c.known.ensures (map string_bytes c.args.arguments.now) (files c.args.files.now) (files c.work.new.files) (out c.args.out.now) (out c.work.new.out) c.work.result c.work.ensures.tool (files c.args.files.now).contents refl

-- what `run` writes is accepted
pub returns-clause-runs : goal.returns-clause-runs
returns-clause-runs g c =
    let files = g.F.Files.view in
    let out = g.S.Sink.view in
    runs_are_accepted (map string_bytes c.args.arguments.now) (files c.args.files.now) (files c.work.new.files) (out c.args.out.now) (out c.work.new.out) c.work.result c.work.ensures.tool

-- what `eval` writes is the meaning
pub returns-clause-outcomes : goal.returns-clause-outcomes
returns-clause-outcomes g c =
    let files = g.F.Files.view in
    let out = g.S.Sink.view in
    outcomes_are_meant (map string_bytes c.args.arguments.now) (files c.args.files.now) (files c.work.new.files) (out c.args.out.now) (out c.work.new.out) c.work.result c.work.ensures.tool

-- what `check` writes is the meaning
pub returns-clause-verdicts : goal.returns-clause-verdicts
returns-clause-verdicts g c =
    let files = g.F.Files.view in
    let out = g.S.Sink.view in
    verdicts_are_meant (map string_bytes c.args.arguments.now) (files c.args.files.now) (files c.work.new.files) (out c.args.out.now) (out c.work.new.out) c.work.result c.work.ensures.tool
