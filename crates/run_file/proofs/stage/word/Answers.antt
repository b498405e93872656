use Rattle.std.proofs.Common.{arith, ◌≤◌}
use Rattle.felt64.specs.Field.{modulus}
use Rattle.run_file.proofs.StageLaws.{word_step, word_refused}
use Rattle.run_file.proofs.stage.word.Goals as goal

pub returns-in-Some : goal.returns-in-Some
returns-in-Some c more =
    rw (c.in-Some.ensures.1, c.from_le_bytes.ensures) (word_step c.args.at c.args.number more c.requires (rw c.from_le_bytes.ensures at c.in-Some.ensures.0))

pub returns-in-None : goal.returns-in-None
returns-in-None c =
    let above : modulus ≤ c.from_le_bytes.result = omega (arith, c.in-None.ensures) in
    (tt, λ more. word_refused c.args.at c.args.number more c.requires (rw c.from_le_bytes.ensures at above))
