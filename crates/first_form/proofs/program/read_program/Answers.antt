-- Each exit refutes what a program's text has at that place; the last one has all of it.
use Rattle.std.proofs.Common.{Some, inl, inr, refl, sym, ap, subst, ◌∙◌}
use Rattle.std.proofs.lemmas.Bool.{false≢true}
use Rattle.std.proofs.lemmas.Bool.Decides.{Decides-eqb}
use Rattle.std.proofs.lemmas.Slice.Eq.{slice_eq-Decides}
use Rattle.std.proofs.lemmas.Option.{same_Some}
use Rattle.first_form.specs.Forms.{IsProgram}
use Rattle.first_form.specs.Scan.{HasName}
use Rattle.first_form.specs.declared.program.Program.{Program}
use Rattle.first_form.specs.declared.program.TheConstants.{EQUALS, CALL, END}
use Rattle.first_form.proofs.FormLaws.{behind_equals, first_read, after_first, second_read, after_second, libfunc_read, after_libfunc, equals_read, after_equals, third_read, after_third, call_read, are_parts, is_program, one_program}
use Rattle.first_form.proofs.program.read_program.Goals as goal

-- the text doesn't begin as a program's does
pub returns-in_err-constant : goal.returns-in_err-constant
returns-in_err-constant c program = (λ same. absurd cc, λ is. absurd (c.in_err-constant.ensures _ _ (first_read _ program is)))

-- the constant is not declared
pub returns-in_err-second : goal.returns-in_err-second
returns-in_err-second c program = (
  λ same. absurd cc,
  λ is.
      let one = after_first _ program is _ _ c.in_ok-constant.ensures in
      absurd (c.in_err-second.ensures _ _ (second_read _ program is _ one.1)),
)

-- no operation is declared
pub returns-in_err-operation : goal.returns-in_err-operation
returns-in_err-operation c program = (
  λ same. absurd cc,
  λ is.
      let one = after_first _ program is _ _ c.in_ok-constant.ensures in
      let two = after_second _ program is _ _ _ one.1 c.in_ok-second.ensures in
      absurd (c.in_err-operation.ensures _ _ (libfunc_read _ program is _ two.1)),
)

-- its libfunc is another
pub returns-in_err-body : goal.returns-in_err-body
returns-in_err-body c program = (
  λ same. absurd cc,
  λ is.
      let one = after_first _ program is _ _ c.in_ok-constant.ensures in
      let two = after_second _ program is _ _ _ one.1 c.in_ok-second.ensures in
      let three = after_libfunc _ program is _ _ _ two.1 c.in_ok-operation.ensures in
      absurd (c.in_err-body.ensures _ (subst (λ o. HasName c.in_ok-operation.equals.now EQUALS.now o (behind_equals program)) (sym three.0) (equals_read _ program is _ three.1))),
)

-- the body has no constant
pub returns-in_err-third : goal.returns-in_err-third
returns-in_err-third c program = (
  λ same. absurd cc,
  λ is.
      let one = after_first _ program is _ _ c.in_ok-constant.ensures in
      let two = after_second _ program is _ _ _ one.1 c.in_ok-second.ensures in
      let three = after_libfunc _ program is _ _ _ two.1 c.in_ok-operation.ensures in
      let four = after_equals _ program is _ _ _ three.1 c.in_ok-body.ensures in
      absurd (c.in_err-third.ensures _ _ (third_read _ program is _ four.1)),
)

-- the body calls another operation
pub returns-in_err-end : goal.returns-in_err-end
returns-in_err-end c program = (
  λ same. absurd cc,
  λ is.
      let one = after_first _ program is _ _ c.in_ok-constant.ensures in
      let two = after_second _ program is _ _ _ one.1 c.in_ok-second.ensures in
      let three = after_libfunc _ program is _ _ _ two.1 c.in_ok-operation.ensures in
      let four = after_equals _ program is _ _ _ three.1 c.in_ok-body.ensures in
      let five = after_third _ program is _ _ _ four.1 c.in_ok-third.ensures in
      absurd (c.in_err-end.ensures _ (subst (λ o. HasName c.in_ok-third.call.now CALL.now o END.now) (sym three.0) (call_read _ program is _ five.1))),
)

-- the constant is another at a later place
pub returns-then-second-constant : goal.returns-then-second-constant
returns-then-second-constant c program = (
  λ same. absurd cc,
  λ is.
      let parts = are_parts _ program is _ _ _ _ _ (record { declared = _; libfunc = _; equals = _; body = _; call = _; at_head = c.in_ok-constant.ensures; at_declared = c.in_ok-second.ensures; at_libfunc = c.in_ok-operation.ensures; at_equals = c.in_ok-body.ensures; at_body = c.in_ok-third.ensures; at_call = c.in_ok-end.ensures }) in
      elim c.then-second-constant.either [
        | inl other ↦ absurd (other (parts.second_is ∙ sym parts.first_is))
        | inr other ↦ absurd (other.1 (parts.third_is ∙ sym parts.first_is))
      ],
)

-- the text doesn't end as a program's does
pub returns-else-eq : goal.returns-else-eq
returns-else-eq c program = (
  λ same. absurd cc,
  λ is.
      let parts = are_parts _ program is _ _ _ _ _ (record { declared = _; libfunc = _; equals = _; body = _; call = _; at_head = c.in_ok-constant.ensures; at_declared = c.in_ok-second.ensures; at_libfunc = c.in_ok-operation.ensures; at_equals = c.in_ok-body.ensures; at_body = c.in_ok-third.ensures; at_call = c.in_ok-end.ensures }) in
      let ends = slice_eq-Decides Decides-eqb c.in_ok-end.end.now END.now c.eq.result c.eq.ensures in
      absurd (false≢true (sym c.if-eq.false ∙ ends.1 parts.end_is)),
)

-- the text has each part, and its constant is the one that was read
pub returns-then-eq : goal.returns-then-eq
returns-then-eq c program =
    let ends = slice_eq-Decides Decides-eqb c.in_ok-end.end.now END.now c.eq.result c.eq.ensures in
    let found = is_program _ c.reduce.result _ _ _ _ _ (record { declared = _; libfunc = _; equals = _; body = _; call = _; at_head = c.in_ok-constant.ensures; at_declared = c.in_ok-second.ensures; at_libfunc = c.in_ok-operation.ensures; at_equals = c.in_ok-body.ensures; at_body = c.in_ok-third.ensures; at_call = c.in_ok-end.ensures }) (record { first_is = refl; second_is = c.if-second-constant.false; third_is = c.if-third-constant.false; end_is = ends.0 c.if-eq.true }) c.reduce.ensures in (
      λ same. subst (λ (p : Program). IsProgram c.args.text.now p) (same_Some _ _ same) found,
      λ is. ap Some (one_program c.args.text.now _ program found is),
    )
