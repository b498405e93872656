-- Each exit refutes what an input's text has at that place; the last one has all of it.
use Rattle.std.proofs.Common.{Some, sym, ap, subst, ◌∙◌}
use Rattle.std.proofs.lemmas.Bool.{false≢true}
use Rattle.std.proofs.lemmas.Bool.Decides.{Decides-eqb}
use Rattle.std.proofs.lemmas.Slice.Eq.{slice_eq-Decides}
use Rattle.std.proofs.lemmas.Option.{same_Some}
use Rattle.first_form.specs.Forms.{IsInput}
use Rattle.first_form.specs.declared.input.Input.{Input}
use Rattle.first_form.specs.declared.input.TheConstants.{LINE_END}
use Rattle.first_form.proofs.FormLaws.{gas_behind, argument_read, end_is, is_input, one_input}
use Rattle.first_form.proofs.input.read_input.Goals as goal

-- no gas below 2 ^ 32
pub returns-in_err-gas : goal.returns-in_err-gas
returns-in_err-gas c program input = (λ same. absurd cc, λ is. absurd (c.in_err-gas.ensures _ _ (gas_behind program _ input is)))

-- no number of the field on the second line
pub returns-in_err-argument : goal.returns-in_err-argument
returns-in_err-argument c program input = (
  λ same. absurd cc,
  λ is. absurd (c.in_err-argument.ensures _ _ (argument_read program _ _ _ input c.in_ok-gas.ensures is)),
)

-- the text doesn't end with the second line
pub returns-else-eq : goal.returns-else-eq
returns-else-eq c program input = (
  λ same. absurd cc,
  λ is.
      let parts = end_is program _ _ _ _ _ input c.in_ok-gas.ensures c.in_ok-argument.ensures is in
      let ends = slice_eq-Decides Decides-eqb c.in_ok-argument.end.now LINE_END.now c.eq.result c.eq.ensures in
      absurd (false≢true (sym c.if-eq.false ∙ ends.1 parts.1)),
)

-- the text has both lines, and its numbers are those that were read
pub returns-then-eq : goal.returns-then-eq
returns-then-eq c program input =
    let ends = slice_eq-Decides Decides-eqb c.in_ok-argument.end.now LINE_END.now c.eq.result c.eq.ensures in
    let found = is_input program _ _ _ _ _ c.reduce.result c.in_ok-gas.ensures c.in_ok-argument.ensures (ends.0 c.if-eq.true) c.reduce.ensures in (
      λ same. subst (λ (i : Input). IsInput program c.args.text.now i) (same_Some _ _ same) found,
      λ is. ap Some (one_input program c.args.text.now _ input found is),
    )
