-- An accepted run has a verdict, and one alone.
use Rattle.std.proofs.Common.{◌≡◌, ℕ, ◌+◌, ◌-◌, ◌≤◌, Bool, false, List, [], ◌∷◌, length, map, refl, sym, ◌∙◌, arith}
use Rattle.std.specs.FinMap.{get}
use Rattle.run_file.specs.declared.run.Run.{Run}
use Rattle.first_form.specs.Meaning.{applied, entry_gas}
use Rattle.first_form.specs.Runs.{IsAccepted, IsVerdict}
use Rattle.first_form.specs.Values.{Number, felt64, meant}
use Rattle.first_form.specs.declared.program.Program.{Program}
use Rattle.first_form.specs.declared.input.Input.{Input}
use Rattle.first_form.specs.declared.verdict.Value.{Value}
use Rattle.first_form.specs.declared.verdict.Value.TheVariants as values
use Rattle.first_form.specs.declared.verdict.Verdict.{Verdict}
use Rattle.first_form.proofs.Soundness.{shows_it, soundness}

-- values that mean the same are the same
one_values : (vs ws : List Value) → map meant vs ≡ map meant ws → vs ≡ ws
one_values [] [] same = refl
one_values [] (w ∷ ws) same = absurd cc
one_values (v ∷ vs) [] same = absurd cc
one_values (values.Felt m ∷ vs) (values.Felt n ∷ ws) same =
    let first : Number felt64 m ≡ Number felt64 n = cc in
    let rest : map meant vs ≡ map meant ws = cc in
    let others = one_values vs ws rest in
    let number : m ≡ n = cc in
    cc

-- equal fields make equal verdicts
same_verdict : (p q : Bool) (v w : List Value) (l m u x s t c d : ℕ) → p ≡ q → v ≡ w → l ≡ m → u ≡ x → s ≡ t → c ≡ d →
    ◌≡◌ {A = Verdict}
    (record { outcome = record { panic = p; values = v; gas_left = l; gas_used = u }; steps = s; checks = c })
    (record { outcome = record { panic = q; values = w; gas_left = m; gas_used = x }; steps = t; checks = d })
same_verdict p q v w l m u x s t c d panic value left used steps checks = cc

-- a run has one verdict
pub one_verdict : (program : Program) (input : Input) (run : Run) (a b : Verdict) → IsVerdict program input run a → IsVerdict program input run b → a ≡ b
one_verdict program input run a b a_is b_is =
    let a_left = a_is.shown.gas_left in
    let b_left = b_is.shown.gas_left in
    let a_used = a_is.shown.gas_used in
    let b_used = b_is.shown.gas_used in
    let a_steps = a_is.shown.steps in
    let b_steps = b_is.shown.steps in
    same_verdict _ _ _ _ _ _ _ _ _ _ _ _
    (a_is.shown.panic ∙ sym b_is.shown.panic)
    (one_values a.outcome.values b.outcome.values (a_is.meant.values ∙ sym b_is.meant.values))
    (omega arith)
    (omega arith)
    (omega arith)
    (a_is.shown.checks ∙ sym b_is.shown.checks)

-- an accepted run has a verdict
pub some_verdict : (program : Program) (input : Input) (run : Run) → entry_gas program ≤ input.gas → IsAccepted program input run → (verdict : Verdict) × IsVerdict program input run verdict
some_verdict program input run enough accepted =
    let verdict : Verdict = record { outcome = record { panic = false; values = values.Felt (applied program.operation input.argument program.constant) ∷ []; gas_left = input.gas - entry_gas program; gas_used = entry_gas program }; steps = length run.states - 1; checks = 0 } in
    let left : input.gas - entry_gas program + 300 ≡ input.gas = omega arith in
    let shown = shows_it program input run.rc (get run.memory) run.states accepted verdict refl refl left refl refl refl in
    let meant = soundness program input run.rc (get run.memory) run.states accepted verdict shown in
    (verdict, record { shown = shown; meant = meant.0; cost = meant.1 })
