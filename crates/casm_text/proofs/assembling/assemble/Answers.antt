use Rattle.std.proofs.Common.{◌∙◌, sym, refl, ap, subst, arith}
use Rattle.casm_text.specs.Refusals.{IsShort, refusal_of}
use Rattle.casm_text.proofs.Refusing.{read_code, same_code, short_not_refused, long_refused, is_long, stop_only, stop_cause, stop_exact}
use Rattle.casm_text.proofs.assembling.assemble.Goals as goal

pub returns-then-is_short-clause-found : goal.returns-then-is_short-clause-found
returns-then-is_short-clause-found c =
    (read_code c.args.text.now c.code.new.rest.now c.in-Ok.code c.in-Ok.ensures, subst IsShort c.instrs.ensures.instrs (c.if-is_short.ensures.0 refl))

pub returns-then-is_short-clause-only : goal.returns-then-is_short-clause-only
returns-then-is_short-clause-only c = λ other h short. same_code c.args.text.now c.code.new.rest.now c.in-Ok.code c.in-Ok.ensures other h

pub returns-then-is_short-clause-exact : goal.returns-then-is_short-clause-exact
returns-then-is_short-clause-exact c =
    short_not_refused c.args.text.now c.code.new.rest.now c.in-Ok.code c.in-Ok.ensures (subst IsShort c.instrs.ensures.instrs (c.if-is_short.ensures.0 refl))

pub returns-else-is_short-clause-only : goal.returns-else-is_short-clause-only
returns-else-is_short-clause-only c = λ other h short.
    let same = same_code c.args.text.now c.code.new.rest.now c.in-Ok.code c.in-Ok.ensures other h in
    absurd (is_long c.instrs.result.now c.if-is_short.ensures (subst IsShort (sym c.instrs.ensures.instrs) (subst IsShort (sym same) short)))

pub returns-else-is_short-clause-refused : goal.returns-else-is_short-clause-refused
returns-else-is_short-clause-refused c = λ some. (
  c.in-Ok.code,
  read_code c.args.text.now c.code.new.rest.now c.in-Ok.code c.in-Ok.ensures,
  let short_code : IsShort c.in-Ok.code → ⊥ = λ short. is_long c.instrs.result.now c.if-is_short.ensures (subst IsShort (sym c.instrs.ensures.instrs) short) in
      omega (arith, short_code),
)

pub returns-else-is_short-clause-exact : goal.returns-else-is_short-clause-exact
returns-else-is_short-clause-exact c = long_refused c.args.text.now c.code.new.rest.now c.in-Ok.code c.in-Ok.ensures

pub returns-in-Err-clause-only : goal.returns-in-Err-clause-only
returns-in-Err-clause-only c = λ code h short.
    c.behind.ensures ∙ ap (refusal_of c.in-Err.stop) c.front_of.ensures ∙ stop_only c.args.text.now c.code.new.rest.now c.in-Err.stop c.in-Err.ensures code h short

pub returns-in-Err-clause-refused : goal.returns-in-Err-clause-refused
returns-in-Err-clause-refused c =
    rw (c.behind.ensures, c.front_of.ensures) (stop_cause c.args.text.now c.code.new.rest.now c.in-Err.stop c.in-Err.ensures)

pub returns-in-Err-clause-exact : goal.returns-in-Err-clause-exact
returns-in-Err-clause-exact c =
    rw (c.behind.ensures, c.front_of.ensures) (stop_exact c.args.text.now c.code.new.rest.now c.in-Err.stop c.in-Err.ensures)
