use Rattle.std.proofs.Common.{inl, inr, refl, subst, length, IfErr, OnOk}
use Rattle.std.proofs.lemmas.Result.{err_from_is_err_and, IfErr-weaker, on_ok_weaker}
use Rattle.std.specs.FinMap.{get}
use Rattle.first_form.specs.Accepted.{HoldsCode, StartsAt, AllGoOn, Ends, AllInRange}
use Rattle.first_form.specs.Meaning.{code_of}
use Rattle.first_form.specs.Rejected.{StatesFail, RangeFails}
use Rattle.first_form.proofs.accepted.tested.Goals as goal

-- each exit knows the parts before it
pub returns-in_err-test_states-clause-err : goal.returns-in_err-test_states-clause-err
returns-in_err-test_states-clause-err c =
    let run = c.args.run.now in
    let m = get run.memory in
    let code : HoldsCode m (code_of c.args.program.now) = subst (HoldsCode m) c.code_words.ensures c.in_ok-test_code.ensures.ok in
    let start : StartsAt run.states c.in_ok-base.base = subst (λ states. StartsAt states c.in_ok-base.base) c.as_slice-states.ensures c.in_ok-base.ensures.ok in
    let argument = c.in_ok-test_argument.ensures.ok in
    let p = err_from_is_err_and c.from_residual-in_err-test_states.result c.from_residual-in_err-test_states.ensures.1 in
    let fails = subst (λ states. StatesFail m states c.in_err-test_states.field-0.0) c.as_slice-states.ensures c.in_err-test_states.ensures.err in
    rw (p.1, p.2) (inr (code, inr (c.in_ok-base.base, start, inr (argument, inl fails))))

pub returns-then-not-ends-clause-err : goal.returns-then-not-ends-clause-err
returns-then-not-ends-clause-err c =
    let run = c.args.run.now in
    let m = get run.memory in
    let code : HoldsCode m (code_of c.args.program.now) = subst (HoldsCode m) c.code_words.ensures c.in_ok-test_code.ensures.ok in
    let start : StartsAt run.states c.in_ok-base.base = subst (λ states. StartsAt states c.in_ok-base.base) c.as_slice-states.ensures c.in_ok-base.ensures.ok in
    let argument = c.in_ok-test_argument.ensures.ok in
    let goes : AllGoOn m run.states = subst (AllGoOn m) c.as_slice-states.ensures c.in_ok-test_states.ensures.ok in
    let not_seen : Ends c.as_slice-states.result.now → ⊥ = λ seen. let no_end = c.if-not-ends.ensures.1 seen in cc in
    let ends_not : Ends run.states → ⊥ = subst (λ states. Ends states → ⊥) c.as_slice-states.ensures not_seen in
    inr (code, inr (c.in_ok-base.base, start, inr (argument, inr (goes, inl (refl, ends_not)))))

pub returns-clause-ok : goal.returns-clause-ok
returns-clause-ok c =
    let run = c.args.run.now in
    let m = get run.memory in
    let code : HoldsCode m (code_of c.args.program.now) = subst (HoldsCode m) c.code_words.ensures c.in_ok-test_code.ensures.ok in
    let start : StartsAt run.states c.in_ok-base.base = subst (λ states. StartsAt states c.in_ok-base.base) c.as_slice-states.ensures c.in_ok-base.ensures.ok in
    let argument = c.in_ok-test_argument.ensures.ok in
    let goes : AllGoOn m run.states = subst (AllGoOn m) c.as_slice-states.ensures c.in_ok-test_states.ensures.ok in
    let final : Ends run.states = subst Ends c.as_slice-states.ensures (c.if-not-ends.ensures.0 refl) in
    on_ok_weaker c.test_range_cells.result (λ range. record { few = c.requires; code_cells = code; base = c.in_ok-base.base; start = start; argument_cells = argument; goes_on = goes; final = final; range_cells = range })
    (subst (λ states. OnOk c.test_range_cells.result (AllInRange m run.rc (length states))) c.as_slice-states.ensures c.test_range_cells.ensures.ok)

pub returns-clause-err : goal.returns-clause-err
returns-clause-err c =
    let run = c.args.run.now in
    let m = get run.memory in
    let code : HoldsCode m (code_of c.args.program.now) = subst (HoldsCode m) c.code_words.ensures c.in_ok-test_code.ensures.ok in
    let start : StartsAt run.states c.in_ok-base.base = subst (λ states. StartsAt states c.in_ok-base.base) c.as_slice-states.ensures c.in_ok-base.ensures.ok in
    let argument = c.in_ok-test_argument.ensures.ok in
    let goes : AllGoOn m run.states = subst (AllGoOn m) c.as_slice-states.ensures c.in_ok-test_states.ensures.ok in
    let final : Ends run.states = subst Ends c.as_slice-states.ensures (c.if-not-ends.ensures.0 refl) in
    IfErr-weaker c.test_range_cells.result _ _ (λ fault fails. inr (code, inr (c.in_ok-base.base, start, inr (argument, inr (goes, inr (final, fails))))))
    (subst (λ states. IfErr c.test_range_cells.result (RangeFails m run.rc (length states))) c.as_slice-states.ensures c.test_range_cells.ensures.err)
