-- What the sources gave to a command causes one answer.
use Rattle.std.proofs.Common.{◌≡◌, ℕ, ◌<◌, ◌≤◌, List, length, Option, Some, None, Result, Ok, Err, refl, sym, ◌∙◌, ap, subst, inl, inr, ◌⊎◌, arith}
use Rattle.std.specs.Prelude.{All}
use Rattle.std.proofs.lemmas.Bool.{cases_lt}
use Rattle.run_file.specs.declared.refusal.FileRefusal.{FileRefusal}
use Rattle.run_file.specs.declared.run.Run.{Run}
use Rattle.run_file.specs.Reading.{reading}
use Rattle.run_file.proofs.Runs.{one_run, reads_exactly}
use Rattle.sierra_tool.specs.declared.answer.Answer.{Answer}
use Rattle.sierra_tool.specs.declared.answer.Answer.TheVariants as answers
use Rattle.sierra_tool.specs.declared.command.Command.{Command}
use Rattle.sierra_tool.specs.declared.command.Command.TheVariants as commands
use Rattle.sierra_tool.specs.declared.command.Source.{Source}
use Rattle.sierra_tool.specs.declared.command.Source.TheVariants as sources
use Rattle.first_form.specs.declared.program.Program.{Program}
use Rattle.first_form.specs.declared.input.Input.{Input}
use Rattle.gas_solver.specs.Plans.{PlanView}
use Rattle.gas_solver.specs.Accepting.{AcceptedView}
use Rattle.typed_values.specs.Inputs.{InputView}
use Rattle.typed_values.specs.Reading.{input_at}
use Rattle.typed_values.specs.Texts.{outcome_text}
use Rattle.typed_values.specs.declared.fault.InputFault.{InputFault}
use Rattle.sierra_tool.specs.Causes.{Reading, absent, unread, found, SourceReadings, Holds, IsRunFile, IsTree, IsOfForm, IsForm, TakesOneFelt, argument_types, IsCheckedTree, IsRefusedTree, IsAcceptedText, IsInputOf, IsNoInputOf, IsOutcomeOf, HasAccepted, HasInputOf, HasProgram, HasInput, HasRun, CanEvaluate, CanRun, ComesTo, IsCasm, Cause}
use Rattle.sierra_tool.specs.Command.{limit, IsRead, IsCompiled, RunsCode, Evaluates}
use Rattle.sierra_tool.specs.Known.{Known}
use Rattle.first_form.specs.Forms.{IsProgram, IsInput}
use Rattle.felt64.specs.Field.{modulus}
use Rattle.std.specs.FinMap.{get}
use Rattle.first_form.specs.Meaning.{entry_gas, code_of, parameter_types, arguments_of}
use Rattle.first_form.specs.Rejected.{IsRejected}
use Rattle.first_form.specs.declared.accepted.CheckFault.{CheckFault}
use Rattle.first_form.proofs.DecidedRuns.{accepted_or_rejected}
use Rattle.first_form.proofs.RejectedLaws.{not_both, rejected_once}
use Rattle.first_form.specs.Runs.{IsAccepted}
use Rattle.casm_word.specs.declared.instr.Instr.{Instr}
use Rattle.first_form.specs.declared.judgement.Judgement.{Judgement}
use Rattle.first_form.specs.declared.judgement.Judgement.TheVariants as judgements
use Rattle.first_form.specs.Honest.{honest_run}
use Rattle.first_form.specs.Judgements.{IsJudgement}
use Rattle.run_file.specs.Spelling.{spelling}
use Rattle.sierra_text.specs.Layout.{layout}
use Rattle.sierra_text.proofs.Refusing.{same_program as one_tree, one_refusal as one_text_fault, program_or_refusal, never_both as text_never_both}
use Rattle.sierra_types.specs.declared.program.Program.{Program as Tree}
use Rattle.program_checks.specs.Checks as checks
use Rattle.program_checks.specs.Checks.{accepted_by}
use Rattle.program_checks.proofs.Accepting.{found_accepted, one_accepted}
use Rattle.program_checks.proofs.Checks.{one_gas_plan, passes_or_refused, one_refusal as one_program_refusal, never_both as passes_never_both}
use Rattle.sierra_tool.specs.Stages.{IsUnfit, IsRefused, NoTree, FailsChecks, NoChecked, NoProgram, NoInputOf, NoRun, NoCasm}
use Rattle.first_form.proofs.FormLaws.{one_program, one_input}
use Rattle.sierra_tool.specs.OneNumber.{HasOneNumber, with_number}
use Rattle.sierra_tool.proofs.OneNumber.{has_one_number, to_form, from_form}
use Rattle.first_form.proofs.VerdictLaws.{one_verdict, some_verdict}
use Rattle.casm_text.proofs.Refusing.{one_code, one_refusal as one_asm_fault, code_or_refusal, never_both as never_refused}

-- ---- One source

one_found : (given : Reading) (x y : List ℕ) → given ≡ found x → given ≡ found y → x ≡ y
one_found given x y p q = cc

unfit_once : (source : Source) (given : Reading) (a b : Answer) → IsUnfit source given a → IsUnfit source given b → a ≡ b
unfit_once source given a b (inl p) (inl q) = p.1 ∙ sym q.1
unfit_once source given a b (inl p) (inr (inl q)) = absurd cc
unfit_once source given a b (inl p) (inr (inr q)) = absurd (cc (q.0.1))
unfit_once source given a b (inr (inl p)) (inl q) = absurd cc
unfit_once source given a b (inr (inl p)) (inr (inl q)) = p.1 ∙ sym q.1
unfit_once source given a b (inr (inl p)) (inr (inr q)) = absurd (cc (q.0.1))
unfit_once source given a b (inr (inr p)) (inl q) = absurd (cc (p.0.1))
unfit_once source given a b (inr (inr p)) (inr (inl q)) = absurd (cc (p.0.1))
unfit_once source given a b (inr (inr p)) (inr (inr q)) = p.1 ∙ sym q.1

unfit_never : (source : Source) (given : Reading) (a : Answer) (bytes : List ℕ) → IsUnfit source given a → given ≡ found bytes → length bytes ≤ limit source → ⊥
unfit_never source given a bytes (inl p) is within = cc
unfit_never source given a bytes (inr (inl p)) is within = cc
unfit_never source given a bytes (inr (inr p)) is within =
    let same : length p.0.0 ≡ length bytes = ap length (one_found given p.0.0 bytes p.0.1 is) in
    omega (arith, p.0.2)

-- ---- One stage

-- a source is refused with an answer, or gives x, and the rest leads to the answer
abbrev Stage : {X : Type 0} → Source → (List ℕ → Answer → Type 0) → (List ℕ → X → Type 0) → (X → Answer → Type 0) → Reading → Answer → Type 0
Stage {X} source wrong right next given answer =
    IsRefused source wrong given answer ⊎ ((x : X) × Holds source given (λ bytes. right bytes x) × next x answer)

module _ {X : Type 0} (source : Source) (wrong : List ℕ → Answer → Type 0) (right : List ℕ → X → Type 0) (next : X → Answer → Type 0)
    (one_wrong : (bytes : List ℕ) (a b : Answer) → wrong bytes a → wrong bytes b → a ≡ b)
    (either : (bytes : List ℕ) (a : Answer) (x : X) → wrong bytes a → right bytes x → ⊥)
    (one_right : (bytes : List ℕ) (x y : X) → right bytes x → right bytes y → x ≡ y)
    (once : (x : X) (a b : Answer) → next x a → next x b → a ≡ b)
    (given : Reading)
  where
    refused_once : (a b : Answer) → IsRefused source wrong given a → IsRefused source wrong given b → a ≡ b
    refused_once a b (inl p) (inl q) = unfit_once source given a b p q
    refused_once a b (inl p) (inr q) = absurd (unfit_never source given a q.0 p q.1 q.2)
    refused_once a b (inr p) (inl q) = absurd (unfit_never source given b p.0 q p.1 p.2)
    refused_once a b (inr p) (inr q) = one_wrong q.0 a b (subst (λ bytes. wrong bytes a) (one_found given p.0 q.0 p.1 q.1) p.3) q.3

    never_both : (a : Answer) (x : X) → IsRefused source wrong given a → Holds source given (λ bytes. right bytes x) → ⊥
    never_both a x (inl p) q = unfit_never source given a q.0 p q.1 q.2
    never_both a x (inr p) q = either q.0 a x (subst (λ bytes. wrong bytes a) (one_found given p.0 q.0 p.1 q.1) p.3) q.3

    one_held : (x y : X) → Holds source given (λ bytes. right bytes x) → Holds source given (λ bytes. right bytes y) → x ≡ y
    one_held x y p q = one_right q.0 x y (subst (λ bytes. right bytes x) (one_found given p.0 q.0 p.1 q.1) p.3) q.3

    stage_once : (a b : Answer) → Stage source wrong right next given a → Stage source wrong right next given b → a ≡ b
    stage_once a b (inl p) (inl q) = refused_once a b p q
    stage_once a b (inl p) (inr q) = absurd (never_both a q.0 p q.1)
    stage_once a b (inr p) (inl q) = absurd (never_both b p.0 q p.1)
    stage_once a b (inr p) (inr q) = once p.0 a b p.2 (subst (λ x. next x b) (one_held q.0 p.0 q.1 p.1) q.2)

-- ---- What a run leads to

one_cause : (program : Program) (input : Input) (run : Run) (e f : CheckFault) → IsRejected program input run e → IsRejected program input run f → e ≡ f
one_cause program input run e f p q = rejected_once (code_of program) (parameter_types program) (arguments_of program input) run.rc (get run.memory) run.states e f p q

pub never_accepted : (program : Program) (input : Input) (run : Run) (fault : CheckFault) → IsRejected program input run fault → IsAccepted program input run → ⊥
never_accepted program input run fault p q = not_both (code_of program) (parameter_types program) (arguments_of program input) run.rc (get run.memory) run.states fault p q

-- a judgement, as the answer that it is
abbrev pub judged_answer : Judgement → Answer
judged_answer (judgements.Accepted verdict) = answers.Judged verdict
judged_answer (judgements.Rejected fault) = answers.RunRejected fault

abbrev OfRun : Program → Input → Run → Answer → Type 0
OfRun program input run answer = (judgement : Judgement) × IsJudgement program input run judgement × (answer ≡ judged_answer judgement)

one_judgement : (program : Program) (input : Input) (run : Run) (a b : Judgement) → IsJudgement program input run a → IsJudgement program input run b → judged_answer a ≡ judged_answer b
one_judgement program input run (judgements.Accepted a) (judgements.Accepted b) p q = ap answers.Judged (one_verdict program input run a b p.1 q.1)
one_judgement program input run (judgements.Accepted a) (judgements.Rejected b) p q = absurd (never_accepted program input run b q p.0)
one_judgement program input run (judgements.Rejected a) (judgements.Accepted b) p q = absurd (never_accepted program input run a p q.0)
one_judgement program input run (judgements.Rejected a) (judgements.Rejected b) p q = ap answers.RunRejected (one_cause program input run a b p q)

of_run_once : (program : Program) (input : Input) (run : Run) (a b : Answer) → OfRun program input run a → OfRun program input run b → a ≡ b
of_run_once program input run a b p q = p.2 ∙ one_judgement program input run p.0 q.0 p.1 q.1 ∙ sym q.2

-- ---- The stages of each command

-- what comes behind the gas
abbrev AfterGas : Command → SourceReadings → Program → Input → Answer → Type 0
AfterGas (commands.Check check) readings program input answer = Stage sources.Run NoRun IsRunFile (OfRun program input) (readings sources.Run) answer
AfterGas (commands.Run execute) readings program input answer = (file : List ℕ) × (file ≡ spelling (honest_run program input)) × (answer ≡ answers.Ran file)
AfterGas (commands.Eval evaluate) readings program input answer = ⊥
AfterGas (commands.Gas gas) readings program input answer = ⊥
AfterGas (commands.Show show) readings program input answer = ⊥
AfterGas (commands.Asm assemble) readings program input answer = ⊥
AfterGas commands.Planned readings program input answer = ⊥

abbrev AfterInput : Command → SourceReadings → Program → Input → Answer → Type 0
AfterInput command readings program input answer =
    ((input.gas < entry_gas program) × (answer ≡ answers.NotEnoughGas (entry_gas program) input.gas)) ⊎ ((entry_gas program ≤ input.gas) × AfterGas command readings program input answer)

-- a program of the form that is built, with what is found of it, and its text
abbrev Form : Type 0
Form = AcceptedView × Program

abbrev IsTextOfForm : List ℕ → Form → Type 0
IsTextOfForm text form = IsAcceptedText text form.0 × IsForm form.0 form.1

abbrev IsInputOfForm : Form → List ℕ → Input → Type 0
IsInputOfForm form text input = TakesOneFelt form.0 × IsInput form.1 text input

abbrev AfterProgram : Command → SourceReadings → Form → Answer → Type 0
AfterProgram command readings form = Stage sources.Input (NoInputOf form.0) (IsInputOfForm form) (AfterInput command readings form.1) (readings sources.Input)

-- the stages of a command that starts a run
abbrev Starting : Command → SourceReadings → Answer → Type 0
Starting command readings = Stage sources.Program NoProgram IsTextOfForm (AfterProgram command readings) (readings sources.Program)

-- what `eval` does with a program and an input
abbrev OfInput : AcceptedView → InputView → Answer → Type 0
OfInput a input answer =
    ((input.gas < a.plan.entry) × (answer ≡ answers.NotEnoughGas a.plan.entry input.gas))
    ⊎ ((text : List ℕ) × IsOutcomeOf a input text × (answer ≡ answers.Evaluated text))

abbrev OfAccepted : SourceReadings → AcceptedView → Answer → Type 0
OfAccepted readings a = Stage sources.Input (NoInputOf a) (IsInputOf a) (OfInput a) (readings sources.Input)

abbrev Evaluating : SourceReadings → Answer → Type 0
Evaluating readings = Stage sources.Program NoChecked IsAcceptedText (OfAccepted readings) (readings sources.Program)

abbrev OfPlan : Tree → Answer → Type 0
OfPlan tree answer = (plan : PlanView) × checks.HasPlan tree plan × (answer ≡ answers.Plan plan)

abbrev Planning : SourceReadings → Answer → Type 0
Planning readings = Stage sources.Program NoChecked IsCheckedTree OfPlan (readings sources.Program)

abbrev OfTree : Tree → Answer → Type 0
OfTree tree answer = (text : List ℕ) × (text ≡ layout tree) × (answer ≡ answers.Printed text)

abbrev Showing : SourceReadings → Answer → Type 0
Showing readings = Stage sources.Program NoTree IsTree OfTree (readings sources.Program)

abbrev OfCode : List Instr → Answer → Type 0
OfCode code answer = answer ≡ answers.Assembled code

abbrev Assembling : SourceReadings → Answer → Type 0
Assembling readings = Stage sources.Casm NoCasm IsCasm OfCode (readings sources.Casm)

abbrev Ordered : Command → SourceReadings → Answer → Type 0
Ordered (commands.Check check) readings answer = Starting (commands.Check check) readings answer
Ordered (commands.Run execute) readings answer = Starting (commands.Run execute) readings answer
Ordered (commands.Eval evaluate) readings answer = Evaluating readings answer
Ordered (commands.Gas gas) readings answer = Planning readings answer
Ordered (commands.Show show) readings answer = Showing readings answer
Ordered (commands.Asm assemble) readings answer = Assembling readings answer
Ordered commands.Planned readings answer = answer ≡ answers.NotBuilt

one_refusal : (bytes : List ℕ) (e f : FileRefusal) → reading bytes ≡ Err e → reading bytes ≡ Err f → e ≡ f
one_refusal bytes e f p q = cc

after_gas_once : (command : Command) (readings : SourceReadings) (program : Program) (input : Input) (a b : Answer) → AfterGas command readings program input a → AfterGas command readings program input b → a ≡ b
after_gas_once (commands.Check check) readings program input a b p q =
    stage_once sources.Run NoRun IsRunFile (OfRun program input)
    (λ bytes a b p q. p.2 ∙ ap answers.RunRefused (one_refusal bytes p.0 q.0 p.1.1 q.1.1) ∙ sym q.2)
    (λ bytes a run p q. p.1.0 run q)
    (λ bytes p q p_is q_is. one_run p q p_is.0 q_is.0 (sym p_is.1 ∙ q_is.1))
    (of_run_once program input) (readings sources.Run) a b p q
after_gas_once (commands.Run execute) readings program input a b p q = p.2 ∙ ap answers.Ran (p.1 ∙ sym q.1) ∙ sym q.2
after_gas_once (commands.Eval evaluate) readings program input a b p q = absurd p
after_gas_once (commands.Gas gas) readings program input a b p q = absurd p
after_gas_once (commands.Show show) readings program input a b p q = absurd p
after_gas_once (commands.Asm assemble) readings program input a b p q = absurd p
after_gas_once commands.Planned readings program input a b p q = absurd p

after_input_once : (command : Command) (readings : SourceReadings) (program : Program) (input : Input) (a b : Answer) → AfterInput command readings program input a → AfterInput command readings program input b → a ≡ b
after_input_once command readings program input a b (inl p) (inl q) = p.1 ∙ sym q.1
after_input_once command readings program input a b (inl p) (inr q) = absurd (omega (arith, p.0, q.0))
after_input_once command readings program input a b (inr p) (inl q) = absurd (omega (arith, p.0, q.0))
after_input_once command readings program input a b (inr p) (inr q) = after_gas_once command readings program input a b p.1 q.1

-- a text has one fault, or one tree, and of that one form
no_tree_once : (text : List ℕ) (a b : Answer) → NoTree text a → NoTree text b → a ≡ b
no_tree_once text a b p q = p.2 ∙ ap answers.TextRefused (one_text_fault text p.0 q.0 p.1 q.1) ∙ sym q.2

never_tree : (text : List ℕ) (a : Answer) (tree : Tree) → NoTree text a → IsTree text tree → ⊥
never_tree text a tree p q = text_never_both text tree p.0 p.1 q.0 q.1

same_tree : (text : List ℕ) (a b : Tree) → IsTree text a → IsTree text b → a ≡ b
same_tree text a b p q = one_tree text a b p.0 q.0

-- a program that is refused for a reason doesn't pass
never_checked : (text : List ℕ) (a : Answer) (tree : Tree) → FailsChecks text a → IsCheckedTree text tree → ⊥
never_checked text a tree p q =
    let refused = p.1 in
    passes_never_both tree p.0 (subst (λ (t : Tree). checks.Refused t p.0) (same_tree text refused.0 tree refused.1 q.0) refused.2) q.1

fails_checks_once : (text : List ℕ) (a b : Answer) → FailsChecks text a → FailsChecks text b → a ≡ b
fails_checks_once text a b p q =
    let one = p.1 in
    let other = q.1 in
    p.2 ∙ ap answers.ProgramRefused (one_program_refusal other.0 p.0 q.0 (subst (λ (t : Tree). checks.Refused t p.0) (same_tree text one.0 other.0 one.1 other.1) one.2) other.2) ∙ sym q.2

no_checked_once : (text : List ℕ) (a b : Answer) → NoChecked text a → NoChecked text b → a ≡ b
no_checked_once text a b (inl p) (inl q) = no_tree_once text a b p q
no_checked_once text a b (inl p) (inr q) = absurd (never_tree text a q.1.0 p q.1.1)
no_checked_once text a b (inr p) (inl q) = absurd (never_tree text b p.1.0 q p.1.1)
no_checked_once text a b (inr p) (inr q) = fails_checks_once text a b p q

never_passes : (text : List ℕ) (a : Answer) (tree : Tree) → NoChecked text a → IsCheckedTree text tree → ⊥
never_passes text a tree (inl p) q = never_tree text a tree p q.0
never_passes text a tree (inr p) q = never_checked text a tree p q

-- an accepted program is one, and so is the fault of an input
one_accepted_text : (text : List ℕ) (a b : AcceptedView) → IsAcceptedText text a → IsAcceptedText text b → a ≡ b
one_accepted_text text a b p q = one_accepted a b p.1 q.1 (same_tree text a.program b.program p.0.0 q.0.0)

no_input_once : Known → (a : AcceptedView) (text : List ℕ) (x y : Answer) → NoInputOf a text x → NoInputOf a text y → x ≡ y
no_input_once known a text x y p q = p.2 ∙ ap answers.InputRefused (known.one_fault (argument_types a) text p.0 q.0 p.1 q.1) ∙ sym q.2

never_input : Known → (a : AcceptedView) (text : List ℕ) (x : Answer) (input : InputView) → NoInputOf a text x → IsInputOf a text input → ⊥
never_input known a text x input p q = known.no_input (argument_types a) text p.0 input p.1 q.0 q.1

no_form_once : (text : List ℕ) (a b : Answer) → NoProgram text a → NoProgram text b → a ≡ b
no_form_once text a b (inl p) (inl q) = no_tree_once text a b p q
no_form_once text a b (inl p) (inr (inl q)) = absurd (never_tree text a q.1.0 p q.1.1)
no_form_once text a b (inl p) (inr (inr q)) = let checked = q.0.1.0 in absurd (never_tree text a q.0.0.program p checked.0)
no_form_once text a b (inr (inl p)) (inl q) = absurd (never_tree text b p.1.0 q p.1.1)
no_form_once text a b (inr (inl p)) (inr (inl q)) = fails_checks_once text a b p q
no_form_once text a b (inr (inl p)) (inr (inr q)) = absurd (never_checked text a q.0.0.program p q.0.1.0)
no_form_once text a b (inr (inr p)) (inl q) = let checked = p.0.1.0 in absurd (never_tree text b p.0.0.program q checked.0)
no_form_once text a b (inr (inr p)) (inr (inl q)) = absurd (never_checked text b p.0.0.program q p.0.1.0)
no_form_once text a b (inr (inr p)) (inr (inr q)) = p.1 ∙ sym q.1

never_form : (text : List ℕ) (a : Answer) (form : Form) → NoProgram text a → IsTextOfForm text form → ⊥
never_form text a form (inl p) q = let checked = q.0.0 in never_tree text a form.0.program p checked.0
never_form text a form (inr (inl p)) q = never_checked text a form.0.program p q.0.0
never_form text a form (inr (inr p)) q =
    let no = p.0 in
    no.2 form.1 (subst (λ (x : AcceptedView). IsForm x form.1) (one_accepted_text text form.0 no.0 q.0 no.1) q.1)

same_form : (x y : AcceptedView) (p q : Program) → x ≡ y → p ≡ q → ◌≡◌ {A = Form} (x, p) (y, q)
same_form x y p q is also = cc

one_form : (text : List ℕ) (x y : Form) → IsTextOfForm text x → IsTextOfForm text y → x ≡ y
one_form text x y p q =
    let same = one_accepted_text text x.0 y.0 p.0 q.0 in
    let form = subst (λ (a : AcceptedView). IsForm a x.1) same p.1 in
    let other = q.1 in
    same_form x.0 y.0 x.1 y.1 same (one_program (layout y.0.program) x.1 y.1 form.0 other.0)

-- an input of the form is one of the program
no_input_of_form : Known → (form : Form) (text : List ℕ) (a : Answer) (input : Input) → NoInputOf form.0 text a → IsInputOfForm form text input → ⊥
no_input_of_form known form text a input p q = never_input known form.0 text a (with_number input) p (from_form form.0 form.1 text input q.0 q.1)

after_program_once : Known → (command : Command) (readings : SourceReadings) (form : Form) (a b : Answer) → AfterProgram command readings form a → AfterProgram command readings form b → a ≡ b
after_program_once known command readings form =
    stage_once sources.Input (NoInputOf form.0) (IsInputOfForm form) (AfterInput command readings form.1)
    (no_input_once known form.0) (no_input_of_form known form) (λ text x y p q. one_input form.1 text x y p.1 q.1)
    (after_input_once command readings form.1) (readings sources.Input)

starting_once : Known → (command : Command) (readings : SourceReadings) (a b : Answer) → Starting command readings a → Starting command readings b → a ≡ b
starting_once known command readings =
    stage_once sources.Program NoProgram IsTextOfForm (AfterProgram command readings)
    no_form_once never_form one_form
    (after_program_once known command readings) (readings sources.Program)

-- .. and its input and its meaning
same_input : (read : Result InputView InputFault) (i j : InputView) → read ≡ Ok i → read ≡ Ok j → i ≡ j
same_input read i j p q = cc

module _ (known : Known) where
  one_input_of : (a : AcceptedView) (text : List ℕ) (i j : InputView) → IsInputOf a text i → IsInputOf a text j → i ≡ j
  one_input_of a text i j p q =
      let tys = argument_types a in
      same_input (input_at tys text) i j ((known.texts tys text i).1 p) ((known.texts tys text j).1 q)

  of_input_once : (a : AcceptedView) (input : InputView) (x y : Answer) → OfInput a input x → OfInput a input y → x ≡ y
  of_input_once a input x y (inl p) (inl q) = p.1 ∙ sym q.1
  of_input_once a input x y (inl p) (inr q) = let enough = q.1.1.2.enough in absurd (omega (arith, p.0, enough))
  of_input_once a input x y (inr p) (inl q) = let enough = p.1.1.2.enough in absurd (omega (arith, q.0, enough))
  of_input_once a input x y (inr p) (inr q) =
      let one = p.1 in
      let other = q.1 in
      let same = (known.one_meaning a input one.1.0 other.1.0 one.0 other.0 one.1.2 other.1.2).1 in
      p.2 ∙ ap answers.Evaluated (one.2 ∙ ap outcome_text same ∙ sym other.2) ∙ sym q.2

  evaluating_once : (readings : SourceReadings) (x y : Answer) → Evaluating readings x → Evaluating readings y → x ≡ y
  evaluating_once readings =
      stage_once sources.Program NoChecked IsAcceptedText (OfAccepted readings)
      no_checked_once (λ text x a p q. never_passes text x a.program p q.0) one_accepted_text
      (λ a. stage_once sources.Input (NoInputOf a) (IsInputOf a) (OfInput a)
      (no_input_once known a) (never_input known a) (one_input_of a) (of_input_once a) (readings sources.Input))
      (readings sources.Program)

planning_once : (readings : SourceReadings) (a b : Answer) → Planning readings a → Planning readings b → a ≡ b
planning_once readings =
    stage_once sources.Program NoChecked IsCheckedTree OfPlan
    no_checked_once never_passes (λ text a b p q. same_tree text a b p.0 q.0)
    (λ tree a b p q. p.2 ∙ ap answers.Plan (one_gas_plan tree p.0 q.0 p.1 q.1) ∙ sym q.2) (readings sources.Program)

showing_once : (readings : SourceReadings) (a b : Answer) → Showing readings a → Showing readings b → a ≡ b
showing_once readings =
    stage_once sources.Program NoTree IsTree OfTree
    no_tree_once never_tree same_tree
    (λ tree a b p q. p.2 ∙ ap answers.Printed (p.1 ∙ sym q.1) ∙ sym q.2) (readings sources.Program)

assembling_once : (readings : SourceReadings) (a b : Answer) → Assembling readings a → Assembling readings b → a ≡ b
assembling_once readings =
    stage_once sources.Casm NoCasm IsCasm OfCode
    (λ text a b p q. p.2 ∙ ap answers.CasmRefused (one_asm_fault text p.0 q.0 p.1 q.1) ∙ sym q.2)
    (λ text a code p q. never_refused text code p.0 p.1 q.0 q.1)
    (λ text a b p q. one_code a b text p.0 q.0)
    (λ code a b p q. p ∙ sym q) (readings sources.Casm)

ordered_once : Known → (command : Command) (readings : SourceReadings) (a b : Answer) → Ordered command readings a → Ordered command readings b → a ≡ b
ordered_once known (commands.Check check) readings = starting_once known (commands.Check check) readings
ordered_once known (commands.Run execute) readings = starting_once known (commands.Run execute) readings
ordered_once known (commands.Eval evaluate) readings = evaluating_once known readings
ordered_once known (commands.Gas gas) readings = planning_once readings
ordered_once known (commands.Show show) readings = showing_once readings
ordered_once known (commands.Asm assemble) readings = assembling_once readings
ordered_once known commands.Planned readings = λ a b p q. p ∙ sym q

-- ---- Causes by the stages

-- a command that is about runs or meanings, or reads a run or code, goes by the stages of such a command
runs_code : (command : Command) (readings : SourceReadings) (a : Answer) → RunsCode command → Starting command readings a → Ordered command readings a
runs_code (commands.Check check) readings a is p = p
runs_code (commands.Run execute) readings a is p = p
runs_code (commands.Eval evaluate) readings a is p = absurd is
runs_code (commands.Gas gas) readings a is p = absurd is
runs_code (commands.Show show) readings a is p = absurd is
runs_code (commands.Asm assemble) readings a is p = absurd is
runs_code commands.Planned readings a is p = absurd is

evaluates : (command : Command) (readings : SourceReadings) (a : Answer) → Evaluates command → Evaluating readings a → Ordered command readings a
evaluates (commands.Check check) readings a is p = absurd is
evaluates (commands.Run execute) readings a is p = absurd is
evaluates (commands.Eval evaluate) readings a is p = p
evaluates (commands.Gas gas) readings a is p = absurd is
evaluates (commands.Show show) readings a is p = absurd is
evaluates (commands.Asm assemble) readings a is p = absurd is
evaluates commands.Planned readings a is p = absurd is

-- a command that reads an input goes by what a program means
pub reads_compiled : (command : Command) → IsRead command sources.Input → IsCompiled command
reads_compiled (commands.Check check) is = tt
reads_compiled (commands.Run execute) is = tt
reads_compiled (commands.Eval evaluate) is = tt
reads_compiled (commands.Gas gas) is = absurd cc
reads_compiled (commands.Show show) is = absurd cc
reads_compiled (commands.Asm assemble) is = absurd cc
reads_compiled commands.Planned is = absurd cc

-- a program that is unfit or no text is refused by each command that reads one
pub as_program : (given : Reading) (a : Answer) → IsRefused sources.Program NoTree given a → IsRefused sources.Program NoProgram given a
as_program given a (inl unfit) = inl unfit
as_program given a (inr held) = inr (held.0, held.1, held.2, inl held.3)

pub as_checked : (given : Reading) (a : Answer) → IsRefused sources.Program NoTree given a → IsRefused sources.Program NoChecked given a
as_checked given a (inl unfit) = inl unfit
as_checked given a (inr held) = inr (held.0, held.1, held.2, inl held.3)

no_text_ordered : (command : Command) (readings : SourceReadings) (a : Answer) → IsRead command sources.Program → IsRefused sources.Program NoTree (readings sources.Program) a → Ordered command readings a
no_text_ordered (commands.Check check) readings a is p = inl (as_program (readings sources.Program) a p)
no_text_ordered (commands.Run execute) readings a is p = inl (as_program (readings sources.Program) a p)
no_text_ordered (commands.Eval evaluate) readings a is p = inl (as_checked (readings sources.Program) a p)
no_text_ordered (commands.Gas gas) readings a is p = inl (as_checked (readings sources.Program) a p)
no_text_ordered (commands.Show show) readings a is p = inl p
no_text_ordered (commands.Asm assemble) readings a is p = absurd cc
no_text_ordered commands.Planned readings a is p = absurd cc

-- .. and one that doesn't pass the checks by each that goes by what a program means
refused_ordered : (command : Command) (readings : SourceReadings) (a : Answer) → IsCompiled command → Holds sources.Program (readings sources.Program) (λ text. FailsChecks text a) → Ordered command readings a
refused_ordered (commands.Check check) readings a is p = inl (inr (p.0, p.1, p.2, inr (inl p.3)))
refused_ordered (commands.Run execute) readings a is p = inl (inr (p.0, p.1, p.2, inr (inl p.3)))
refused_ordered (commands.Eval evaluate) readings a is p = inl (inr (p.0, p.1, p.2, inr p.3))
refused_ordered (commands.Gas gas) readings a is p = inl (inr (p.0, p.1, p.2, inr p.3))
refused_ordered (commands.Show show) readings a is p = absurd is
refused_ordered (commands.Asm assemble) readings a is p = absurd is
refused_ordered commands.Planned readings a is p = absurd is

-- .. from the program and the input on to the run
abbrev RunStage : SourceReadings → Program → Input → Answer → Type 0
RunStage readings program input = Stage sources.Run NoRun IsRunFile (OfRun program input) (readings sources.Run)

-- what a program of the form gave, and an input of it
form_held : (readings : SourceReadings) (program : Program) → (has : HasProgram readings program) → Holds sources.Program (readings sources.Program) (λ text. IsTextOfForm text (has.3.0, program))
form_held readings program has = let is = has.3 in (has.0, has.1, has.2, (is.1, is.2))

input_held : (readings : SourceReadings) (a : AcceptedView) (program : Program) (input : Input) → TakesOneFelt a → HasInput readings program input → Holds sources.Input (readings sources.Input) (λ text. IsInputOfForm (a, program) text input)
input_held readings a program input takes has = (has.0, has.1, has.2, (takes, has.3))

takes_one : (readings : SourceReadings) (program : Program) → (has : HasProgram readings program) → TakesOneFelt has.3.0
takes_one readings program has = let is = has.3 in let form = is.2 in form.1

can_start : (command : Command) (readings : SourceReadings) (program : Program) (input : Input) (a : Answer) → CanRun readings program input → AfterGas command readings program input a → Starting command readings a
can_start command readings program input a can p =
    let has = can.program_read in
    inr ((has.3.0, program), form_held readings program has, inr (input, input_held readings has.3.0 program input (takes_one readings program has) can.input_read, inr (can.gas, p)))

reads_run : (command : Command) (readings : SourceReadings) (program : Program) (input : Input) (a : Answer) → IsRead command sources.Run → CanRun readings program input → RunStage readings program input a → Ordered command readings a
reads_run (commands.Check check) readings program input a is can p = can_start (commands.Check check) readings program input a can p
reads_run (commands.Run execute) readings program input a is can p = absurd cc
reads_run (commands.Eval evaluate) readings program input a is can p = absurd cc
reads_run (commands.Gas gas) readings program input a is can p = absurd cc
reads_run (commands.Show show) readings program input a is can p = absurd cc
reads_run (commands.Asm assemble) readings program input a is can p = absurd cc
reads_run commands.Planned readings program input a is can p = absurd cc

reads_casm : (command : Command) (readings : SourceReadings) (a : Answer) → IsRead command sources.Casm → Assembling readings a → Ordered command readings a
reads_casm (commands.Check check) readings a is p = absurd cc
reads_casm (commands.Run execute) readings a is p = absurd cc
reads_casm (commands.Eval evaluate) readings a is p = absurd cc
reads_casm (commands.Gas gas) readings a is p = absurd cc
reads_casm (commands.Show show) readings a is p = absurd cc
reads_casm (commands.Asm assemble) readings a is p = p
reads_casm commands.Planned readings a is p = absurd cc

-- a source that a command comes to and that is unfit
unfit_ordered : (command : Command) (readings : SourceReadings) (source : Source) (a : Answer) → ComesTo command readings source → IsUnfit source (readings source) a → Ordered command readings a
unfit_ordered command readings sources.Program a comes unfit = no_text_ordered command readings a comes (inl unfit)
unfit_ordered command readings sources.Input a (inl comes) unfit =
    let has = comes.2 in
    runs_code command readings a comes.0 (inr ((has.3.0, comes.1), form_held readings comes.1 has, inl (inl unfit)))
unfit_ordered command readings sources.Input a (inr comes) unfit = evaluates command readings a comes.0 (inr (comes.1, comes.2, inl (inl unfit)))
unfit_ordered command readings sources.Run a comes unfit = reads_run command readings comes.1 comes.2 a comes.0 comes.3 (inl (inl unfit))
unfit_ordered command readings sources.Casm a comes unfit = reads_casm command readings a comes (inl (inl unfit))

-- a program was read once
accepted_held : (readings : SourceReadings) (program : Program) → (has : HasProgram readings program) → HasAccepted readings has.3.0
accepted_held readings program has = let is = has.3 in (has.0, has.1, has.2, is.1)

same_accepted : (readings : SourceReadings) (a b : AcceptedView) → HasAccepted readings a → HasAccepted readings b → a ≡ b
same_accepted readings a b p q =
    one_accepted_text q.0 a b (subst (λ (bytes : List ℕ). IsAcceptedText bytes a) (one_found (readings sources.Program) p.0 q.0 p.1 q.1) p.3) q.3

same_gas : (need given entry gas : ℕ) → need ≡ entry → given ≡ gas → answers.NotEnoughGas need given ≡ answers.NotEnoughGas entry gas
same_gas need given entry gas p q = cc

-- the cause of an answer, by the stages
ordered : (command : Command) (readings : SourceReadings) (a : Answer) → Cause (Some command) readings a → Ordered command readings a
ordered command readings answers.Usage c = absurd c
ordered command readings (answers.Missing source) c = unfit_ordered command readings source (answers.Missing source) c.0 (inl (c.1, refl))
ordered command readings (answers.ReadFault source) c = unfit_ordered command readings source (answers.ReadFault source) c.0 (inr (inl (c.1, refl)))
ordered command readings (answers.TooLong source) c = unfit_ordered command readings source (answers.TooLong source) c.0 (inr (inr (c.1, refl)))
ordered command readings answers.NotBuilt (inl p) = subst (λ (c : Command). Ordered c readings answers.NotBuilt) (sym p) refl
ordered command readings answers.NotBuilt (inr p) = runs_code command readings answers.NotBuilt p.0 (inl (inr (p.1.0, p.1.1, p.1.2, inr (inr (p.1.3, refl)))))
ordered command readings (answers.TextRefused fault) c =
    let held = c.1 in
    no_text_ordered command readings (answers.TextRefused fault) c.0 (inr (held.0, held.1, held.2, (fault, held.3, refl)))
ordered command readings (answers.ProgramRefused refusal) c =
    let held = c.1 in
    refused_ordered command readings (answers.ProgramRefused refusal) c.0 (held.0, held.1, held.2, (refusal, held.3, refl))
ordered command readings (answers.CasmRefused fault) c =
    let held = c.1 in
    reads_casm command readings (answers.CasmRefused fault) c.0 (inl (inr (held.0, held.1, held.2, (fault, held.3, refl))))
ordered command readings (answers.InputRefused fault) (inl comes, a, has, held) =
    let form = comes.2 in
    let same : a ≡ form.3.0 = same_accepted readings a form.3.0 has (accepted_held readings comes.1 form) in
    let no = subst (λ (x : AcceptedView). Holds sources.Input (readings sources.Input) (λ text. IsNoInputOf x text fault)) same held in
    runs_code command readings (answers.InputRefused fault) comes.0 (inr ((form.3.0, comes.1), form_held readings comes.1 form, inl (inr (no.0, no.1, no.2, (fault, no.3, refl)))))
ordered command readings (answers.InputRefused fault) (inr comes, a, has, held) =
    evaluates command readings (answers.InputRefused fault) comes.0 (inr (a, has, inl (inr (held.0, held.1, held.2, (fault, held.3, refl)))))
ordered command readings (answers.NotEnoughGas need given) (inl c) =
    let has = c.3 in
    runs_code command readings (answers.NotEnoughGas need given) c.0
    (inr ((has.3.0, c.1), form_held readings c.1 has, inr (c.2, input_held readings has.3.0 c.1 c.2 (takes_one readings c.1 has) c.4, inl (omega (arith, c.5, c.6, c.7), same_gas need given (entry_gas c.1) c.2.gas c.6 c.7))))
ordered command readings (answers.NotEnoughGas need given) (inr c) =
    let less : c.2.gas < c.1.plan.entry = omega (arith, c.5, c.6, c.7) in
    evaluates command readings (answers.NotEnoughGas need given) c.0
    (inr (c.1, c.3, inr (c.2, c.4, inl (less, same_gas need given c.1.plan.entry c.2.gas c.6 c.7))))
ordered command readings (answers.RunRefused refusal) c =
    let held = c.1 in
    reads_run command readings c.0.1 c.0.2 (answers.RunRefused refusal) c.0.0 c.0.3 (inl (inr (held.0, held.1, held.2, (refusal, held.3, refl))))
ordered command readings (answers.RunRejected fault) c =
    reads_run command readings c.1 c.2 (answers.RunRejected fault) c.0 c.4 (inr (c.3, c.5, (judgements.Rejected fault, c.6, refl)))
ordered command readings (answers.Judged verdict) c =
    reads_run command readings c.1 c.2 (answers.Judged verdict) c.0 c.4 (inr (c.3, c.5, (judgements.Accepted verdict, (c.6, c.7), refl)))
ordered command readings (answers.Ran file) c =
    let can = c.4 in
    subst (λ (c : Command). Ordered c readings (answers.Ran file)) (sym c.1)
    (can_start (commands.Run c.0) readings c.2 c.3 (answers.Ran file) can (file, c.5, refl))
ordered command readings (answers.Evaluated text) c =
    let can = c.3 in
    evaluates command readings (answers.Evaluated text) c.0 (inr (c.1, can.program_read, inr (c.2, can.input_read, inr (text, c.4, refl))))
ordered command readings (answers.Plan plan) c =
    subst (λ (c : Command). Ordered c readings (answers.Plan plan)) (sym c.1) (inr (c.2, c.3, (plan, c.4, refl)))
ordered command readings (answers.Printed text) c =
    subst (λ (c : Command). Ordered c readings (answers.Printed text)) (sym c.1) (inr (c.2, c.3, (text, c.4, refl)))
ordered command readings (answers.Assembled code) c =
    reads_casm command readings (answers.Assembled code) c.0 (inr (code, c.1, refl))

pub one_answer : Known → (command : Option Command) (readings : SourceReadings) (a b : Answer) → Cause command readings a → Cause command readings b → a ≡ b
one_answer known None readings a b p q = p ∙ sym q
one_answer known (Some command) readings a b p q = ordered_once known command readings a b (ordered command readings a p) (ordered command readings b q)

-- ---- There is an answer

module _ (known : Known) (command : Command) (readings : SourceReadings)
    (small : (source : Source) (bytes : List ℕ) → readings source ≡ found bytes → All (λ byte. byte < 256) bytes)
    (none : (answer : Answer) → Cause (Some command) readings answer → ⊥)
  where
    -- a source that the command comes to gave bytes, and not too many, ..
    held : (source : Source) → ComesTo command readings source → ((bytes : List ℕ) → readings source ≡ found bytes → length bytes ≤ limit source → ⊥) → ⊥
    held source comes more = by_reading (readings source) refl
      where
        by_reading : (given : Reading) → readings source ≡ given → ⊥
        by_reading absent is = none (answers.Missing source) (comes, is)
        by_reading unread is = none (answers.ReadFault source) (comes, is)
        by_reading (found bytes) is = elim (cases_lt (limit source) (length bytes)) [
          | inl beyond ↦ none (answers.TooLong source) (comes, (bytes, is, beyond))
          | inr within ↦ more bytes is (omega arith)
        ]

    -- .. a run is rejected or judged, ..
    no_run : IsRead command sources.Run → (program : Program) (input : Input) (run : Run) → CanRun readings program input → HasRun readings run → ⊥
    no_run reads program input run can has =
        let fits : input.argument < modulus = can.input_read.3.argument_below in
        elim (accepted_or_rejected (code_of program) input.argument run.rc (get run.memory) run.states has.3.0.state_count fits) [
          | inl accepted ↦
              let verdict = some_verdict program input run can.gas accepted in
              none (answers.Judged verdict.0) (reads, program, input, run, can, has, accepted, verdict.1)
          | inr rejected ↦ none (answers.RunRejected rejected.0) (reads, program, input, run, can, has, rejected.1)
        ]

    -- .. bytes are refused or a run's, ..
    no_bytes : IsRead command sources.Run → (program : Program) (input : Input) → CanRun readings program input → ⊥
    no_bytes reads program input can = held sources.Run (reads, program, input, can) (λ bytes is within. by_run bytes is within (reading bytes) refl)
      where
        by_run : (bytes : List ℕ) → readings sources.Run ≡ found bytes → length bytes ≤ limit sources.Run → (read : Result Run FileRefusal) → reading bytes ≡ read → ⊥
        by_run bytes is within (Ok run) read = no_run reads program input run can (bytes, is, within, (reads_exactly bytes run (small sources.Run bytes is)).0 read)
        by_run bytes is within (Err refusal) read =
            none (answers.RunRefused refusal)
            ((reads, program, input, can), (bytes, is, within, ((λ run spelled. absurd (cc (read, (reads_exactly bytes run (small sources.Run bytes is)).1 spelled))), read)))

    -- .. an input has too little gas or enough, ..
    no_gas : RunsCode command → ((program : Program) (input : Input) → CanRun readings program input → ⊥) → (program : Program) (input : Input) → HasProgram readings program → HasInput readings program input → ⊥
    no_gas runs more program input has has_input = elim (cases_lt input.gas (entry_gas program)) [
      | inl less ↦ none (answers.NotEnoughGas (entry_gas program) input.gas) (inl (runs, program, input, has, has_input, less, refl, refl))
      | inr enough ↦ more program input (record { program_read = has; input_read = has_input; gas = omega arith })
    ]

    -- .. a text is one of an input of the program or none, ..
    no_text : ComesTo command readings sources.Input → (a : AcceptedView) → HasAccepted readings a
        → ((text : List ℕ) (input : InputView) → readings sources.Input ≡ found text → length text ≤ limit sources.Input → IsInputOf a text input → ⊥) → ⊥
    no_text comes a has more = held sources.Input comes (λ text is within. by_reading text is within (input_at (argument_types a) text) refl)
      where
        by_reading : (text : List ℕ) → readings sources.Input ≡ found text → length text ≤ limit sources.Input
            → (read : Result InputView InputFault) → input_at (argument_types a) text ≡ read → ⊥
        by_reading text is within (Ok input) read = more text input is within ((known.texts (argument_types a) text input).0 read)
        by_reading text is within (Err fault) read =
            let accepted = has.3 in
            none (answers.InputRefused fault) (comes, a, has, (text, is, within, (known.faults a accepted.1 text fault).0 read))

    -- .. of a program of the form too, ..
    no_input : RunsCode command → ((program : Program) (input : Input) → CanRun readings program input → ⊥) → (program : Program) → HasProgram readings program → ⊥
    no_input runs more program has =
        let takes = takes_one readings program has in
        no_text (inl (runs, program, has)) has.3.0 (accepted_held readings program has) (λ text i is within is_input.
        let one = has_one_number has.3.0 text i takes is_input in
        no_gas runs more program one.number has (text, is, within, to_form has.3.0 program text i one.number takes is_input one.is))

    -- .. a text is refused or that of a tree, ..
    no_tree : IsRead command sources.Program → ((tree : Tree) (text : List ℕ) → readings sources.Program ≡ found text → length text ≤ limit sources.Program → IsTree text tree → ⊥) → ⊥
    no_tree reads more = held sources.Program reads (λ text is within. elim (program_or_refusal text) [
      | inl tree ↦ more tree.0 text is within (tree.1, tree.2)
      | inr refused ↦ none (answers.TextRefused refused.0) (reads, (text, is, within, refused.1))
    ])

    -- .. its program is refused or passes the checks, ..
    no_checked : IsRead command sources.Program → IsCompiled command
        → ((tree : Tree) (text : List ℕ) → readings sources.Program ≡ found text → length text ≤ limit sources.Program → IsCheckedTree text tree → ⊥) → ⊥
    no_checked reads compiled more = no_tree reads (λ tree text is within sierra. passes_or_refused tree sierra.1.statements
        (λ passes. more tree text is within (sierra, passes))
        (λ refusal refused. none (answers.ProgramRefused refusal) (compiled, (text, is, within, (tree, sierra, refused)))))

    -- .. is of no form that is built, or it can be run, ..
    no_program : IsRead command sources.Program → IsCompiled command → RunsCode command → ((program : Program) (input : Input) → CanRun readings program input → ⊥) → ⊥
    no_program reads compiled runs more = no_checked reads compiled (λ tree text is within checked.
        let passes = checked.1 in
        let a = accepted_by tree passes.0 in
        let accepted : IsAcceptedText text a = (checked, found_accepted tree passes.0 passes.1) in
        none answers.NotBuilt
        (inr (runs, (text, is, within, (a, accepted, λ program is_form. no_input runs more program (text, is, within, (a, accepted, is_form)))))))

    -- .. an input that fits main has too little gas or a meaning, ..
    no_meaning : Evaluates command → (a : AcceptedView) (input : InputView) → HasAccepted readings a → HasInputOf readings a input → ⊥
    no_meaning evaluates a input has has_input = elim (cases_lt input.gas a.plan.entry) [
      | inl less ↦ none (answers.NotEnoughGas a.plan.entry input.gas) (inr (evaluates, a, input, has, has_input, less, refl, refl))
      | inr enough ↦
          let gas : a.plan.entry ≤ input.gas = omega arith in
          let meaning = known.every_meaning_ends a has.3.1 input has_input.3.0 gas in
          none (answers.Evaluated (outcome_text meaning.0)) (evaluates, a, input, record { program_read = has; input_read = has_input; gas = gas }, (meaning.0, meaning.1, refl))
    ]

    -- .. and so its input, ..
    no_input_of : Evaluates command → (a : AcceptedView) → HasAccepted readings a → ⊥
    no_input_of evaluates a has = no_text (inr (evaluates, a, has)) a has (λ text input is within is_input. no_meaning evaluates a input has (text, is, within, is_input))

    -- .. and of code
    no_casm : IsRead command sources.Casm → ⊥
    no_casm reads = held sources.Casm reads (λ text is within. elim (code_or_refusal text) [
      | inl code ↦ none (answers.Assembled code.0) (reads, (text, is, within, (code.1, code.2)))
      | inr refused ↦ none (answers.CasmRefused refused.0) (reads, (text, is, within, refused.1))
    ])

pub some_answer : Known → (command : Option Command) (readings : SourceReadings) → ((source : Source) (bytes : List ℕ) → readings source ≡ found bytes → All (λ byte. byte < 256) bytes) → ((answer : Answer) → Cause command readings answer → ⊥) → ⊥
some_answer known None readings small none = none answers.Usage refl
some_answer known (Some (commands.Check check)) readings small none =
    no_program known (commands.Check check) readings small none refl tt tt (no_bytes known (commands.Check check) readings small none refl)
some_answer known (Some (commands.Run execute)) readings small none =
    no_program known (commands.Run execute) readings small none refl tt tt
    (λ program input can. none (answers.Ran (spelling (honest_run program input))) (execute, refl, program, input, can, refl))
some_answer known (Some (commands.Eval evaluate)) readings small none =
    no_checked known (commands.Eval evaluate) readings small none refl tt
    (λ tree text is within checked.
    let passes = checked.1 in
    no_input_of known (commands.Eval evaluate) readings small none tt (accepted_by tree passes.0) (text, is, within, (checked, found_accepted tree passes.0 passes.1)))
some_answer known (Some (commands.Gas gas)) readings small none =
    no_checked known (commands.Gas gas) readings small none refl tt
    (λ tree text is within checked.
    let passes = checked.1 in
    none (answers.Plan passes.0.plan) (gas, refl, tree, (text, is, within, checked), (passes.0, passes.1, refl)))
some_answer known (Some (commands.Show show)) readings small none =
    no_tree known (commands.Show show) readings small none refl
    (λ tree text is within sierra. none (answers.Printed (layout tree)) (show, refl, tree, (text, is, within, sierra), refl))
some_answer known (Some (commands.Asm assemble)) readings small none = no_casm known (commands.Asm assemble) readings small none refl
some_answer known (Some commands.Planned) readings small none = none answers.NotBuilt (inl refl)
