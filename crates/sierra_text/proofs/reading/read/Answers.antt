use Rattle.std.proofs.Common.{◌∙◌, ap, subst}
use Rattle.sierra_text.specs.Refusals.{IsLong, refusal_of}
use Rattle.sierra_text.proofs.PrintedTexts.{names_ascii}
use Rattle.sierra_text.proofs.Refusing.{not_both, read_program, same_as_read, short_not_refused, long_refused, stop_only, stop_cause, stop_exact}
use Rattle.sierra_text.proofs.reading.read.Goals as goal

pub returns-then-is_short-clause-found : goal.returns-then-is_short-clause-found
returns-then-is_short-clause-found c = (read_program c.args.text.now c.program.new.rest.now c.in-Ok.program c.in-Ok.ensures, c.if-is_short.ensures)

pub returns-then-is_short-clause-named : goal.returns-then-is_short-clause-named
returns-then-is_short-clause-named c = names_ascii c.in-Ok.program c.args.text.now (read_program c.args.text.now c.program.new.rest.now c.in-Ok.program c.in-Ok.ensures)

pub returns-then-is_short-clause-only : goal.returns-then-is_short-clause-only
returns-then-is_short-clause-only c = λ other h short. same_as_read c.args.text.now c.program.new.rest.now c.in-Ok.program c.in-Ok.ensures other h

pub returns-then-is_short-clause-exact : goal.returns-then-is_short-clause-exact
returns-then-is_short-clause-exact c = short_not_refused c.in-Ok.program c.args.text.now (read_program c.args.text.now c.program.new.rest.now c.in-Ok.program c.in-Ok.ensures) c.if-is_short.ensures

pub returns-else-is_short-clause-only : goal.returns-else-is_short-clause-only
returns-else-is_short-clause-only c = λ other h short.
    let same = same_as_read c.args.text.now c.program.new.rest.now c.in-Ok.program c.in-Ok.ensures other h in
    absurd (not_both other short (subst IsLong same c.if-is_short.ensures))

pub returns-else-is_short-clause-refused : goal.returns-else-is_short-clause-refused
returns-else-is_short-clause-refused c = λ some. (c.in-Ok.program, read_program c.args.text.now c.program.new.rest.now c.in-Ok.program c.in-Ok.ensures, c.if-is_short.ensures)

pub returns-else-is_short-clause-exact : goal.returns-else-is_short-clause-exact
returns-else-is_short-clause-exact c = long_refused c.args.text.now c.program.new.rest.now c.in-Ok.program c.in-Ok.ensures

pub returns-in-Err-clause-only : goal.returns-in-Err-clause-only
returns-in-Err-clause-only c = λ program h short.
    c.behind.ensures ∙ ap (refusal_of c.in-Err.stop) c.front_of.ensures ∙ stop_only c.args.text.now c.program.new.rest.now c.in-Err.stop c.in-Err.ensures program h

pub returns-in-Err-clause-refused : goal.returns-in-Err-clause-refused
returns-in-Err-clause-refused c =
    rw (c.behind.ensures, c.front_of.ensures) (stop_cause c.args.text.now c.program.new.rest.now c.in-Err.stop c.in-Err.ensures)

pub returns-in-Err-clause-exact : goal.returns-in-Err-clause-exact
returns-in-Err-clause-exact c =
    rw (c.behind.ensures, c.front_of.ensures) (stop_exact c.args.text.now c.program.new.rest.now c.in-Err.stop c.in-Err.ensures)
