use Rattle.std.proofs.Common.{◌≡◌, ◌+◌, ◌-◌, false, length, [], ◌∷◌, refl, ap, arith, ◌∙◌}
use Rattle.std.specs.FinMap.{get}
use Rattle.felt64.specs.Field.{difference}
use Rattle.first_form.specs.Meaning.{applied}
use Rattle.first_form.specs.declared.verdict.Value.TheVariants as values
use Rattle.first_form.specs.declared.verdict.Verdict.{Verdict}
use Rattle.first_form.proofs.AcceptedLaws.{one_in, last_read}
use Rattle.first_form.proofs.Soundness.{last_cell, shows_it, soundness}
use Rattle.first_form.proofs.judgement.verdict.Goals as goal

-- the value's cell is listed with the sum
pub unwrap-result-requires : goal.unwrap-result-requires
unwrap-result-requires c =
    let run = c.args.run.now in
    let m = get run.memory in
    let last = last_read c.as_slice-states.result.now run.states c.index-states-steps.result c.requires.accepted.base c.as_slice-states.ensures c.requires.accepted.start c.index-states-steps.is in
    let cell : c.sub-end.result ≡ difference c.index-states-steps.result.ap 1 = cc in
    let listed = c.get.ensures.word ∙ ap m cell ∙ last_cell c.args.program.now c.args.input.now run.rc m run.states c.requires.accepted c.index-states-steps.result last in
    rw listed refl

-- so the verdict is shown, and what is shown is meant
pub returns : goal.returns
returns c =
    let run = c.args.run.now in
    let m = get run.memory in
    let program = c.args.program.now in
    let input = c.args.input.now in
    let accepted = c.requires.accepted in
    let last = last_read c.as_slice-states.result.now run.states c.index-states-steps.result c.requires.accepted.base c.as_slice-states.ensures c.requires.accepted.start c.index-states-steps.is in
    let cell : c.sub-end.result ≡ difference c.index-states-steps.result.ap 1 = cc in
    let listed = c.get.ensures.word ∙ ap m cell ∙ last_cell program input run.rc m run.states accepted c.index-states-steps.result last in
    let value : c.unwrap-result.result ≡ applied program.operation input.argument program.constant = one_in c.get.result _ _ c.unwrap-result.ensures listed in
    let verdict : Verdict = record { outcome = record { panic = false; values = c.in_ok-values.values; gas_left = c.from-2.result; gas_used = c.from-3.result }; steps = length c.as_slice-states.result.now - 1; checks = 0 } in
    let values_are : c.in_ok-values.values ≡ values.Felt (applied program.operation input.argument program.constant) ∷ [] = c.in_ok-values.ensures ∙ ap (λ n. values.Felt n ∷ []) value in
    let gas_left : c.from-2.result + 300 ≡ input.gas = omega arith in
    let gas_used : c.from-3.result ≡ 300 = omega arith in
    let steps : length c.as_slice-states.result.now - 1 ≡ length run.states - 1 = ap (λ l. length l - 1) c.as_slice-states.ensures in
    let shown = shows_it program input run.rc m run.states accepted verdict values_are refl gas_left gas_used steps refl in
    let meant = soundness program input run.rc m run.states accepted verdict shown in
    record { shown = shown; meant = meant.0; cost = meant.1 }
