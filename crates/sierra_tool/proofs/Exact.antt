-- Of known files, the status of the tool is exact.
use Rattle.std.proofs.Common.{◌≡◌, ◌≢◌, ◌<◌, ◌↔◌, ℕ, ◌-◌, List, [], ◌∷◌, length, Option, Some, None, refl, sym, ◌∙◌, ap, subst, inl, inr, ◌⊎◌, arith}
use Rattle.std.specs.Prelude.{MatchOption, IsSome, codes}
use Rattle.std.proofs.Common.{get_or, true, false}
use Rattle.std.proofs.lemmas.Slice.Eq.{bytes_eq-Decides}
use Rattle.std.specs.Str.{bytes_eq}
use Rattle.std.specs.FinMap.{get}
use Rattle.std.specs.Option.{option_and_then}
use Rattle.edge_io.specs.Files.{FileMap, FilesView}
use Rattle.edge_io.specs.Sinks.{SinkView}
use Rattle.sierra_tool.specs.declared.answer.Answer.{Answer}
use Rattle.sierra_tool.specs.declared.answer.Answer.TheVariants as answers
use Rattle.sierra_tool.specs.declared.command.Command.{Command}
use Rattle.sierra_tool.specs.declared.command.Command.TheVariants as commands
use Rattle.sierra_tool.specs.declared.command.Source.{Source}
use Rattle.sierra_tool.specs.declared.command.Source.TheVariants as sources
use Rattle.first_form.specs.declared.program.Program.{Program}
use Rattle.first_form.specs.declared.input.Input.{Input}
use Rattle.first_form.specs.declared.verdict.Verdict.{Verdict}
use Rattle.casm_word.specs.declared.instr.Instr.{Instr}
use Rattle.gas_solver.specs.Plans.{PlanView}
use Rattle.gas_solver.specs.Accepting.{AcceptedView}
use Rattle.typed_values.specs.Inputs.{InputView}
use Rattle.typed_values.specs.Texts.{outcome_text}
use Rattle.sierra_tool.specs.Causes.{Reading, absent, unread, found, SourceReadings, Gives, AreReadings, Holds, IsOfForm, IsAcceptedText, IsOutcomeOf, CanRun, CanEvaluate, ComesTo, Cause}
use Rattle.sierra_tool.specs.Command.{IsPlanned, IsCommand, Parses, name_of, IsRead, IsCompiled, RunsCode, Evaluates, status_of}
use Rattle.sierra_tool.specs.Known.{Known}
use Rattle.sierra_tool.specs.Exact.{reading_of, readings_of, HasStart, HasBeginning, HasRunThat, HasCheckedText, HasText, HasCasm, HasExactStatus, IsExact}
use Rattle.sierra_tool.specs.Tool.{Tool}
use Rattle.felt64.specs.Field.{modulus}
use Rattle.first_form.specs.Meaning.{code_of}
use Rattle.first_form.specs.Runs.{IsAccepted}
use Rattle.sierra_tool.specs.declared.command.Assemble.{Assemble}
use Rattle.sierra_tool.specs.declared.command.Check.{Check}
use Rattle.sierra_tool.specs.declared.command.Evaluate.{Evaluate}
use Rattle.sierra_tool.specs.declared.command.Execute.{Execute}
use Rattle.sierra_tool.specs.declared.command.Gas.{Gas}
use Rattle.sierra_tool.specs.declared.command.Show.{Show}
use Rattle.sierra_text.specs.Layout.{layout}
use Rattle.first_form.specs.Honest.{honest_run}
use Rattle.run_file.specs.Spelling.{spelling}
use Rattle.sierra_tool.proofs.Causes.{one_answer, never_accepted}
use Rattle.first_form.proofs.DecidedRuns.{accepted_or_rejected}
use Rattle.first_form.proofs.VerdictLaws.{some_verdict}

-- ---- Two commands that read the same, from sources that gave the same

-- what one read didn't fail to give, the other gave
abbrev Agrees : SourceReadings → SourceReadings → Type 0
Agrees readings others = (source : Source) → readings source ≢ unread → others source ≡ readings source

holds_over : (source : Source) (is : List ℕ → Type 0) (given other : Reading) → (given ≢ unread → other ≡ given) → Holds source given is → Holds source other is
holds_over source is given other agrees held = (held.0, agrees (λ e. cc (held.1)) ∙ held.1, held.2, held.3)

module _ (command other : Command) (readings others : SourceReadings)
    (same : (source : Source) → name_of (Some command) source ≡ name_of (Some other) source)
    (as_planned : command ≡ commands.Planned → other ≡ commands.Planned)
    (as_gas : (gas : Gas) → command ≡ commands.Gas gas → (another : Gas) × (other ≡ commands.Gas another))
    (as_show : (show : Show) → command ≡ commands.Show show → (another : Show) × (other ≡ commands.Show another))
    (as_run : (execute : Execute) → command ≡ commands.Run execute → (another : Execute) × (other ≡ commands.Run another))
    (compiled_over : IsCompiled command → IsCompiled other)
    (runs_over : RunsCode command → RunsCode other)
    (evaluates_over : Evaluates command → Evaluates other)
    (agrees : Agrees readings others)
  where
    read_over : (source : Source) → IsRead command source → IsRead other source
    read_over source is = subst (λ name. IsSome name) (same source) is

    held_over : (source : Source) (is : List ℕ → Type 0) → Holds source (readings source) is → Holds source (others source) is
    held_over source is = holds_over source is (readings source) (others source) (agrees source)

    can_over : (program : Program) (input : Input) → CanRun readings program input → CanRun others program input
    can_over program input can =
        record { program_read = held_over sources.Program _ can.program_read; input_read = held_over sources.Input _ can.input_read; gas = can.gas }

    begin_over : (a : AcceptedView) (input : InputView) → CanEvaluate readings a input → CanEvaluate others a input
    begin_over a input can =
        record { program_read = held_over sources.Program _ can.program_read; input_read = held_over sources.Input _ can.input_read; gas = can.gas }

    comes_over : (source : Source) → ComesTo command readings source → ComesTo other others source
    comes_over sources.Program comes = read_over sources.Program comes
    comes_over sources.Input (inl comes) = inl (runs_over comes.0, comes.1, held_over sources.Program (λ text. IsOfForm text comes.1) comes.2)
    comes_over sources.Input (inr comes) = inr (evaluates_over comes.0, comes.1, held_over sources.Program (λ text. IsAcceptedText text comes.1) comes.2)
    comes_over sources.Run comes = (read_over sources.Run comes.0, comes.1, comes.2, can_over comes.1 comes.2 comes.3)
    comes_over sources.Casm comes = read_over sources.Casm comes

    cause_over : (answer : Answer) → ((source : Source) → answer ≢ answers.ReadFault source) → Cause (Some command) readings answer → Cause (Some other) others answer
    cause_over answers.Usage calm c = absurd c
    cause_over (answers.Missing source) calm c = (comes_over source c.0, agrees source (λ e. cc (c.1)) ∙ c.1)
    cause_over (answers.ReadFault source) calm c = absurd (calm source refl)
    cause_over (answers.TooLong source) calm c =
        let long = c.1 in
        (comes_over source c.0, (long.0, agrees source (λ e. cc (long.1)) ∙ long.1, long.2))
    cause_over answers.NotBuilt calm (inl c) = inl (as_planned c)
    cause_over answers.NotBuilt calm (inr c) = inr (runs_over c.0, held_over sources.Program _ c.1)
    cause_over (answers.TextRefused fault) calm c = (read_over sources.Program c.0, held_over sources.Program _ c.1)
    cause_over (answers.ProgramRefused refusal) calm c = (compiled_over c.0, held_over sources.Program _ c.1)
    cause_over (answers.CasmRefused fault) calm c = (read_over sources.Casm c.0, held_over sources.Casm _ c.1)
    cause_over (answers.InputRefused fault) calm c = (comes_over sources.Input c.0, c.1, held_over sources.Program _ c.2, held_over sources.Input _ c.3)
    cause_over (answers.NotEnoughGas need given) calm (inl c) =
        inl (runs_over c.0, c.1, c.2, held_over sources.Program _ c.3, held_over sources.Input _ c.4, c.5, c.6, c.7)
    cause_over (answers.NotEnoughGas need given) calm (inr c) =
        inr (evaluates_over c.0, c.1, c.2, held_over sources.Program _ c.3, held_over sources.Input _ c.4, c.5, c.6, c.7)
    cause_over (answers.RunRefused refusal) calm c = (comes_over sources.Run c.0, held_over sources.Run _ c.1)
    cause_over (answers.RunRejected fault) calm c = (read_over sources.Run c.0, c.1, c.2, c.3, can_over c.1 c.2 c.4, held_over sources.Run _ c.5, c.6)
    cause_over (answers.Judged verdict) calm c = (read_over sources.Run c.0, c.1, c.2, c.3, can_over c.1 c.2 c.4, held_over sources.Run _ c.5, c.6, c.7)
    cause_over (answers.Ran file) calm c = let run = as_run c.0 c.1 in (run.0, run.1, c.2, c.3, can_over c.2 c.3 c.4, c.5)
    cause_over (answers.Evaluated text) calm c = (evaluates_over c.0, c.1, c.2, begin_over c.1 c.2 c.3, c.4)
    cause_over (answers.Plan plan) calm c = let gas = as_gas c.0 c.1 in (gas.0, gas.1, c.2, held_over sources.Program _ c.3, c.4)
    cause_over (answers.Printed text) calm c = let show = as_show c.0 c.1 in (show.0, show.1, c.2, held_over sources.Program _ c.3, c.4)
    cause_over (answers.Assembled code) calm c = (read_over sources.Casm c.0, held_over sources.Casm _ c.1)

-- the same arguments are one kind of command, with the same names
pub record Alike (command other : Command) : Type 0 where
  pub names : (source : Source) → name_of (Some command) source ≡ name_of (Some other) source
  pub planned : command ≡ commands.Planned → other ≡ commands.Planned
  pub compiled : IsCompiled command → IsCompiled other
  pub runs : RunsCode command → RunsCode other
  pub evaluates : Evaluates command → Evaluates other
  pub evaluate : (evaluate : Evaluate) → command ≡ commands.Eval evaluate → (another : Evaluate) × (other ≡ commands.Eval another)
  pub gas : (gas : Gas) → command ≡ commands.Gas gas → (another : Gas) × (other ≡ commands.Gas another)
  pub show : (show : Show) → command ≡ commands.Show show → (another : Show) × (other ≡ commands.Show another)
  pub run : (execute : Execute) → command ≡ commands.Run execute → (another : Execute) × (other ≡ commands.Run another)

-- the first argument is one word
two_words : (word one other : List ℕ) (others more : List (List ℕ)) → word ∷ others ≡ one ∷ more → word ≡ other → bytes_eq one other ≡ false → ⊥
two_words word one other others more is other_is differ =
    let same : one ≡ other = sym (ap (λ xs. get_or xs 0 []) is) ∙ other_is in
    clash (sym ((bytes_eq-Decides one other).1 same) ∙ differ)
  where
    clash : true ≡ false → ⊥
    clash e = absurd cc

-- arguments have one first word
two_firsts : (arguments : List (List ℕ)) (one other : List ℕ) (others more : List (List ℕ)) → arguments ≡ one ∷ others → arguments ≡ other ∷ more → bytes_eq other one ≡ false → ⊥
two_firsts arguments one other others more is other_is differ = two_words one other one others more (sym is ∙ other_is) refl differ

-- a command that is built isn't one that is planned
built_not_planned : (arguments : List (List ℕ)) (command : Command) → command ≢ commands.Planned → IsCommand arguments command → IsPlanned arguments → ⊥
built_not_planned [] command built is planned = planned
built_not_planned (word ∷ others) (commands.Check check) built is (inl p) = two_words word (codes "check") (codes "compile") others _ is p.0 refl
built_not_planned (word ∷ others) (commands.Check check) built is (inr (inl p)) = two_words word (codes "check") (codes "run") others _ is p.0 refl
built_not_planned (word ∷ others) (commands.Check check) built is (inr (inr p)) = two_words word (codes "check") (codes "make") others _ is p.0 refl
built_not_planned (word ∷ others) (commands.Run execute) built is (inl p) = two_words word (codes "run") (codes "compile") others _ is p.0 refl
built_not_planned (word ∷ others) (commands.Run execute) built is (inr (inl p)) =
    let three : length (word ∷ others) ≡ 3 = ap length is in absurd (omega (arith, p.1, three))
built_not_planned (word ∷ others) (commands.Run execute) built is (inr (inr p)) = two_words word (codes "run") (codes "make") others _ is p.0 refl
built_not_planned (word ∷ others) (commands.Eval evaluate) built is (inl p) = two_words word (codes "eval") (codes "compile") others _ is p.0 refl
built_not_planned (word ∷ others) (commands.Eval evaluate) built is (inr (inl p)) = two_words word (codes "eval") (codes "run") others _ is p.0 refl
built_not_planned (word ∷ others) (commands.Eval evaluate) built is (inr (inr p)) = two_words word (codes "eval") (codes "make") others _ is p.0 refl
built_not_planned (word ∷ others) (commands.Gas gas) built is (inl p) = two_words word (codes "gas") (codes "compile") others _ is p.0 refl
built_not_planned (word ∷ others) (commands.Gas gas) built is (inr (inl p)) = two_words word (codes "gas") (codes "run") others _ is p.0 refl
built_not_planned (word ∷ others) (commands.Gas gas) built is (inr (inr p)) = two_words word (codes "gas") (codes "make") others _ is p.0 refl
built_not_planned (word ∷ others) (commands.Show show) built is (inl p) = two_words word (codes "show") (codes "compile") others _ is p.0 refl
built_not_planned (word ∷ others) (commands.Show show) built is (inr (inl p)) = two_words word (codes "show") (codes "run") others _ is p.0 refl
built_not_planned (word ∷ others) (commands.Show show) built is (inr (inr p)) = two_words word (codes "show") (codes "make") others _ is p.0 refl
built_not_planned (word ∷ others) (commands.Asm assemble) built is (inl p) = two_words word (codes "asm") (codes "compile") others _ is p.0 refl
built_not_planned (word ∷ others) (commands.Asm assemble) built is (inr (inl p)) = two_words word (codes "asm") (codes "run") others _ is p.0 refl
built_not_planned (word ∷ others) (commands.Asm assemble) built is (inr (inr p)) = two_words word (codes "asm") (codes "make") others _ is p.0 refl
built_not_planned (word ∷ others) commands.Planned built is p = built refl

pub alike : (arguments : List (List ℕ)) (command other : Command) → IsCommand arguments command → IsCommand arguments other → Alike command other
alike arguments (commands.Check check) (commands.Check other) p q = record { names = names; planned = λ e. absurd cc; compiled = λ is. is; runs = λ is. is; evaluates = λ is. is; gas = λ gas e. absurd cc; show = λ show e. absurd cc; run = λ execute e. absurd cc; evaluate = λ evaluate e. absurd cc }
  where
    names : (source : Source) → name_of (Some (commands.Check check)) source ≡ name_of (Some (commands.Check other)) source
    names sources.Program = cc
    names sources.Input = cc
    names sources.Run = cc
    names sources.Casm = refl
alike arguments (commands.Run execute) (commands.Run other) p q = record { names = names; planned = λ e. absurd cc; compiled = λ is. is; runs = λ is. is; evaluates = λ is. is; gas = λ gas e. absurd cc; show = λ show e. absurd cc; run = λ execute e. (other, refl); evaluate = λ evaluate e. absurd cc }
  where
    names : (source : Source) → name_of (Some (commands.Run execute)) source ≡ name_of (Some (commands.Run other)) source
    names sources.Program = cc
    names sources.Input = cc
    names sources.Run = refl
    names sources.Casm = refl
alike arguments (commands.Eval evaluate) (commands.Eval other) p q = record { names = names; planned = λ e. absurd cc; compiled = λ is. is; runs = λ is. is; evaluates = λ is. is; gas = λ gas e. absurd cc; show = λ show e. absurd cc; run = λ execute e. absurd cc; evaluate = λ evaluate e. (other, refl) }
  where
    names : (source : Source) → name_of (Some (commands.Eval evaluate)) source ≡ name_of (Some (commands.Eval other)) source
    names sources.Program = cc
    names sources.Input = cc
    names sources.Run = refl
    names sources.Casm = refl
alike arguments (commands.Gas gas) (commands.Gas other) p q = record { names = names; planned = λ e. absurd cc; compiled = λ is. is; runs = λ is. is; evaluates = λ is. is; gas = λ gas e. (other, refl); show = λ show e. absurd cc; run = λ execute e. absurd cc; evaluate = λ evaluate e. absurd cc }
  where
    names : (source : Source) → name_of (Some (commands.Gas gas)) source ≡ name_of (Some (commands.Gas other)) source
    names sources.Program = cc
    names sources.Input = refl
    names sources.Run = refl
    names sources.Casm = refl
alike arguments (commands.Show show) (commands.Show other) p q = record { names = names; planned = λ e. absurd cc; compiled = λ is. is; runs = λ is. is; evaluates = λ is. is; gas = λ gas e. absurd cc; show = λ show e. (other, refl); run = λ execute e. absurd cc; evaluate = λ evaluate e. absurd cc }
  where
    names : (source : Source) → name_of (Some (commands.Show show)) source ≡ name_of (Some (commands.Show other)) source
    names sources.Program = cc
    names sources.Input = refl
    names sources.Run = refl
    names sources.Casm = refl
alike arguments (commands.Asm assemble) (commands.Asm other) p q = record { names = names; planned = λ e. absurd cc; compiled = λ is. is; runs = λ is. is; evaluates = λ is. is; gas = λ gas e. absurd cc; show = λ show e. absurd cc; run = λ execute e. absurd cc; evaluate = λ evaluate e. absurd cc }
  where
    names : (source : Source) → name_of (Some (commands.Asm assemble)) source ≡ name_of (Some (commands.Asm other)) source
    names sources.Program = refl
    names sources.Input = refl
    names sources.Run = refl
    names sources.Casm = cc
alike arguments commands.Planned commands.Planned p q = record { names = λ source. refl; planned = λ e. refl; compiled = λ is. is; runs = λ is. is; evaluates = λ is. is; gas = λ gas e. absurd cc; show = λ show e. absurd cc; run = λ execute e. absurd cc; evaluate = λ evaluate e. absurd cc }
alike arguments commands.Planned (commands.Check check) p q = absurd (built_not_planned arguments (commands.Check check) (λ e. cc) q p)
alike arguments (commands.Check check) commands.Planned p q = absurd (built_not_planned arguments (commands.Check check) (λ e. cc) p q)
alike arguments commands.Planned (commands.Run execute) p q = absurd (built_not_planned arguments (commands.Run execute) (λ e. cc) q p)
alike arguments (commands.Run execute) commands.Planned p q = absurd (built_not_planned arguments (commands.Run execute) (λ e. cc) p q)
alike arguments commands.Planned (commands.Eval evaluate) p q = absurd (built_not_planned arguments (commands.Eval evaluate) (λ e. cc) q p)
alike arguments (commands.Eval evaluate) commands.Planned p q = absurd (built_not_planned arguments (commands.Eval evaluate) (λ e. cc) p q)
alike arguments commands.Planned (commands.Gas gas) p q = absurd (built_not_planned arguments (commands.Gas gas) (λ e. cc) q p)
alike arguments (commands.Gas gas) commands.Planned p q = absurd (built_not_planned arguments (commands.Gas gas) (λ e. cc) p q)
alike arguments commands.Planned (commands.Show show) p q = absurd (built_not_planned arguments (commands.Show show) (λ e. cc) q p)
alike arguments (commands.Show show) commands.Planned p q = absurd (built_not_planned arguments (commands.Show show) (λ e. cc) p q)
alike arguments commands.Planned (commands.Asm assemble) p q = absurd (built_not_planned arguments (commands.Asm assemble) (λ e. cc) q p)
alike arguments (commands.Asm assemble) commands.Planned p q = absurd (built_not_planned arguments (commands.Asm assemble) (λ e. cc) p q)
alike arguments (commands.Check check) (commands.Run execute) p q = absurd cc
alike arguments (commands.Check check) (commands.Eval evaluate) p q = absurd cc
alike arguments (commands.Check check) (commands.Gas gas) p q = absurd cc
alike arguments (commands.Check check) (commands.Show show) p q = absurd cc
alike arguments (commands.Check check) (commands.Asm assemble) p q = absurd cc
alike arguments (commands.Run execute) (commands.Check check) p q = absurd cc
alike arguments (commands.Run execute) (commands.Eval evaluate) p q = absurd (two_firsts arguments (codes "run") (codes "eval") (execute.program.now ∷ execute.input.now ∷ []) (evaluate.program.now ∷ evaluate.input.now ∷ []) p q refl)
alike arguments (commands.Run execute) (commands.Gas gas) p q = absurd cc
alike arguments (commands.Run execute) (commands.Show show) p q = absurd cc
alike arguments (commands.Run execute) (commands.Asm assemble) p q = absurd cc
alike arguments (commands.Eval evaluate) (commands.Check check) p q = absurd cc
alike arguments (commands.Eval evaluate) (commands.Run execute) p q = absurd (two_firsts arguments (codes "eval") (codes "run") (evaluate.program.now ∷ evaluate.input.now ∷ []) (execute.program.now ∷ execute.input.now ∷ []) p q refl)
alike arguments (commands.Eval evaluate) (commands.Gas gas) p q = absurd cc
alike arguments (commands.Eval evaluate) (commands.Show show) p q = absurd cc
alike arguments (commands.Eval evaluate) (commands.Asm assemble) p q = absurd cc
alike arguments (commands.Gas gas) (commands.Check check) p q = absurd cc
alike arguments (commands.Gas gas) (commands.Run execute) p q = absurd cc
alike arguments (commands.Gas gas) (commands.Eval evaluate) p q = absurd cc
alike arguments (commands.Gas gas) (commands.Show show) p q = absurd cc
alike arguments (commands.Gas gas) (commands.Asm assemble) p q = absurd (two_firsts arguments (codes "gas") (codes "asm") (gas.program.now ∷ []) (assemble.file.now ∷ []) p q refl)
alike arguments (commands.Show show) (commands.Check check) p q = absurd cc
alike arguments (commands.Show show) (commands.Run execute) p q = absurd cc
alike arguments (commands.Show show) (commands.Eval evaluate) p q = absurd cc
alike arguments (commands.Show show) (commands.Gas gas) p q = absurd cc
alike arguments (commands.Show show) (commands.Asm assemble) p q = absurd cc
alike arguments (commands.Asm assemble) (commands.Check check) p q = absurd cc
alike arguments (commands.Asm assemble) (commands.Run execute) p q = absurd cc
alike arguments (commands.Asm assemble) (commands.Eval evaluate) p q = absurd cc
alike arguments (commands.Asm assemble) (commands.Gas gas) p q = absurd (two_firsts arguments (codes "asm") (codes "gas") (assemble.file.now ∷ []) (gas.program.now ∷ []) p q refl)
alike arguments (commands.Asm assemble) (commands.Show show) p q = absurd cc

same_names : (arguments : List (List ℕ)) (command other : Option Command) → Parses arguments command → Parses arguments other → (source : Source) → name_of command source ≡ name_of other source
same_names arguments None None p q source = refl
same_names arguments None (Some other) p q source = absurd (p other q)
same_names arguments (Some command) None p q source = absurd (q command p)
same_names arguments (Some command) (Some other) p q source = (alike arguments command other p q).names source

same_cause : (arguments : List (List ℕ)) (command other : Option Command) (readings others : SourceReadings) (answer : Answer) → Parses arguments command → Parses arguments other → Agrees readings others → ((source : Source) → answer ≢ answers.ReadFault source) → Cause command readings answer → Cause other others answer
same_cause arguments None None readings others answer p q agrees calm c = c
same_cause arguments None (Some other) readings others answer p q agrees calm c = absurd (p other q)
same_cause arguments (Some command) None readings others answer p q agrees calm c = absurd (q command p)
same_cause arguments (Some command) (Some other) readings others answer p q agrees calm c =
    let same = alike arguments command other p q in
    cause_over command other readings others same.names same.planned same.gas same.show same.run same.compiled same.runs same.evaluates agrees answer calm c

-- arguments that are a run are no other command, and no run of other names
pub run_alone : (arguments : List (List ℕ)) (command : Option Command) (execute : Execute) → Parses arguments command → IsCommand arguments (commands.Run execute) → (another : Execute) × (command ≡ Some (commands.Run another)) × IsCommand arguments (commands.Run another)
run_alone arguments None execute p q = absurd (p (commands.Run execute) q)
run_alone arguments (Some command) execute p q =
    let run = (alike arguments (commands.Run execute) command q p).run execute refl in
    (run.0, ap Some run.1, subst (λ (c : Command). IsCommand arguments c) run.1 p)

-- .. and so for an evaluation
pub eval_alone : (arguments : List (List ℕ)) (command : Option Command) (evaluate : Evaluate) → Parses arguments command → IsCommand arguments (commands.Eval evaluate) → (another : Evaluate) × (command ≡ Some (commands.Eval another)) × IsCommand arguments (commands.Eval another)
eval_alone arguments None evaluate p q = absurd (p (commands.Eval evaluate) q)
eval_alone arguments (Some command) evaluate p q =
    let eval = (alike arguments (commands.Eval evaluate) command q p).evaluate evaluate refl in
    (eval.0, ap Some eval.1, subst (λ (c : Command). IsCommand arguments c) eval.1 p)

-- ---- What a known map gives

of_file : (file : Option (List ℕ)) (given : Reading) → MatchOption file (given ≡ absent) (λ bytes. (given ≡ found bytes) ⊎ (given ≡ unread)) → given ≢ unread → reading_of file ≡ given
of_file None given is read = sym is
of_file (Some bytes) given (inl is) read = sym is
of_file (Some bytes) given (inr is) read = absurd (read is)

of_name : (files : FileMap) (name : Option (List ℕ)) (given : Reading) → MatchOption name (given ≡ absent) (λ n. Gives (Some files) n given) → given ≢ unread → reading_of (option_and_then (get files) name) ≡ given
of_name files None given is read = sym is
of_name files (Some name) given is read = of_file (get files name) given is read

-- what was read is what the map has, by another command that reads the same too
known_agrees : (arguments : List (List ℕ)) (files : FileMap) (command other : Option Command) (readings : SourceReadings) → Parses arguments command → Parses arguments other → AreReadings (Some files) command readings → Agrees readings (readings_of files other)
known_agrees arguments files command other readings p q given source read =
    ap (λ name. reading_of (option_and_then (get files) name)) (sym (same_names arguments command other p q source)) ∙ of_name files (name_of command source) (readings source) (given source) read

-- ---- Which answers have a status

-- the answers of status 0
abbrev pub OfZero : Answer → Type 0
OfZero answer =
    ((verdict : Verdict) × (answer ≡ answers.Judged verdict))
    ⊎ ((file : List ℕ) × (answer ≡ answers.Ran file))
    ⊎ ((plan : PlanView) × (answer ≡ answers.Plan plan))
    ⊎ ((text : List ℕ) × (answer ≡ answers.Printed text))
    ⊎ ((code : List Instr) × (answer ≡ answers.Assembled code))
    ⊎ ((text : List ℕ) × (answer ≡ answers.Evaluated text))

pub of_zero : (answer : Answer) → status_of answer ≡ 0 → OfZero answer
of_zero (answers.Judged verdict) e = inl (verdict, refl)
of_zero (answers.Ran file) e = inr (inl (file, refl))
of_zero (answers.Plan plan) e = inr (inr (inl (plan, refl)))
of_zero (answers.Printed text) e = inr (inr (inr (inl (text, refl))))
of_zero (answers.Assembled code) e = inr (inr (inr (inr (inl (code, refl)))))
of_zero (answers.Evaluated text) e = inr (inr (inr (inr (inr (text, refl)))))
of_zero answers.Usage e = absurd (omega (arith, e))
of_zero (answers.Missing source) e = absurd (omega (arith, e))
of_zero (answers.ReadFault source) e = absurd (omega (arith, e))
of_zero (answers.TooLong source) e = absurd (omega (arith, e))
of_zero answers.NotBuilt e = absurd (omega (arith, e))
of_zero (answers.TextRefused fault) e = absurd (omega (arith, e))
of_zero (answers.CasmRefused fault) e = absurd (omega (arith, e))
of_zero (answers.ProgramRefused refusal) e = absurd (omega (arith, e))
of_zero (answers.InputRefused fault) e = absurd (omega (arith, e))
of_zero (answers.NotEnoughGas need given) e = absurd (omega (arith, e))
of_zero (answers.RunRefused refusal) e = absurd (omega (arith, e))
of_zero (answers.RunRejected fault) e = absurd (omega (arith, e))

-- to a check such an answer has an accepted run, ..
zero_accepted : (check : Check) (readings : SourceReadings) (answer : Answer) → OfZero answer → Cause (Some (commands.Check check)) readings answer → HasRunThat readings IsAccepted
zero_accepted check readings answer (inl zero) c = let d = subst (Cause (Some (commands.Check check)) readings) zero.1 c in (d.1, d.2, d.3, d.4, d.5, d.6)
zero_accepted check readings answer (inr (inl zero)) c = let d = subst (Cause (Some (commands.Check check)) readings) zero.1 c in absurd (cc (d.1))
zero_accepted check readings answer (inr (inr (inl zero))) c = let d = subst (Cause (Some (commands.Check check)) readings) zero.1 c in absurd (cc (d.1))
zero_accepted check readings answer (inr (inr (inr (inl zero)))) c = let d = subst (Cause (Some (commands.Check check)) readings) zero.1 c in absurd (cc (d.1))
zero_accepted check readings answer (inr (inr (inr (inr (inl zero))))) c = let d = subst (Cause (Some (commands.Check check)) readings) zero.1 c in absurd (cc (d.0))
zero_accepted check readings answer (inr (inr (inr (inr (inr zero))))) c = let d = subst (Cause (Some (commands.Check check)) readings) zero.1 c in absurd d.0

-- .. to `run` a program and an input that can be run, and the honest run's file, ..
abbrev pub RanFile : SourceReadings → Answer → Type 0
RanFile readings answer = (file : List ℕ) × (answer ≡ answers.Ran file) × (program : Program) × (input : Input) × CanRun readings program input × (file ≡ spelling (honest_run program input))

pub zero_ran : (execute : Execute) (readings : SourceReadings) (answer : Answer) → OfZero answer → Cause (Some (commands.Run execute)) readings answer → RanFile readings answer
zero_ran execute readings answer (inl zero) c = let d = subst (Cause (Some (commands.Run execute)) readings) zero.1 c in absurd (cc (d.0))
zero_ran execute readings answer (inr (inl zero)) c = let d = subst (Cause (Some (commands.Run execute)) readings) zero.1 c in (zero.0, zero.1, d.2, d.3, d.4, d.5)
zero_ran execute readings answer (inr (inr (inl zero))) c = let d = subst (Cause (Some (commands.Run execute)) readings) zero.1 c in absurd (cc (d.1))
zero_ran execute readings answer (inr (inr (inr (inl zero)))) c = let d = subst (Cause (Some (commands.Run execute)) readings) zero.1 c in absurd (cc (d.1))
zero_ran execute readings answer (inr (inr (inr (inr (inl zero))))) c = let d = subst (Cause (Some (commands.Run execute)) readings) zero.1 c in absurd (cc (d.0))
zero_ran execute readings answer (inr (inr (inr (inr (inr zero))))) c = let d = subst (Cause (Some (commands.Run execute)) readings) zero.1 c in absurd d.0

-- .. to `gas` the tree of a program that isn't refused, ..
zero_planned : (gas : Gas) (readings : SourceReadings) (answer : Answer) → OfZero answer → Cause (Some (commands.Gas gas)) readings answer → HasCheckedText readings
zero_planned gas readings answer (inl zero) c = let d = subst (Cause (Some (commands.Gas gas)) readings) zero.1 c in absurd (cc (d.0))
zero_planned gas readings answer (inr (inl zero)) c = let d = subst (Cause (Some (commands.Gas gas)) readings) zero.1 c in absurd (cc (d.1))
zero_planned gas readings answer (inr (inr (inl zero))) c = let d = subst (Cause (Some (commands.Gas gas)) readings) zero.1 c in (d.2, d.3)
zero_planned gas readings answer (inr (inr (inr (inl zero)))) c = let d = subst (Cause (Some (commands.Gas gas)) readings) zero.1 c in absurd (cc (d.1))
zero_planned gas readings answer (inr (inr (inr (inr (inl zero))))) c = let d = subst (Cause (Some (commands.Gas gas)) readings) zero.1 c in absurd (cc (d.0))
zero_planned gas readings answer (inr (inr (inr (inr (inr zero))))) c = let d = subst (Cause (Some (commands.Gas gas)) readings) zero.1 c in absurd d.0

-- .. to `show` a program's tree, ..
zero_printed : (show : Show) (readings : SourceReadings) (answer : Answer) → OfZero answer → Cause (Some (commands.Show show)) readings answer → HasText readings
zero_printed show readings answer (inl zero) c = let d = subst (Cause (Some (commands.Show show)) readings) zero.1 c in absurd (cc (d.0))
zero_printed show readings answer (inr (inl zero)) c = let d = subst (Cause (Some (commands.Show show)) readings) zero.1 c in absurd (cc (d.1))
zero_printed show readings answer (inr (inr (inl zero))) c = let d = subst (Cause (Some (commands.Show show)) readings) zero.1 c in absurd (cc (d.1))
zero_printed show readings answer (inr (inr (inr (inl zero)))) c = let d = subst (Cause (Some (commands.Show show)) readings) zero.1 c in (d.2, d.3)
zero_printed show readings answer (inr (inr (inr (inr (inl zero))))) c = let d = subst (Cause (Some (commands.Show show)) readings) zero.1 c in absurd (cc (d.0))
zero_printed show readings answer (inr (inr (inr (inr (inr zero))))) c = let d = subst (Cause (Some (commands.Show show)) readings) zero.1 c in absurd d.0

-- .. and to `asm` code
zero_assembled : (assemble : Assemble) (readings : SourceReadings) (answer : Answer) → OfZero answer → Cause (Some (commands.Asm assemble)) readings answer → HasCasm readings
zero_assembled assemble readings answer (inl zero) c = let d = subst (Cause (Some (commands.Asm assemble)) readings) zero.1 c in absurd (cc (d.0))
zero_assembled assemble readings answer (inr (inl zero)) c = let d = subst (Cause (Some (commands.Asm assemble)) readings) zero.1 c in absurd (cc (d.1))
zero_assembled assemble readings answer (inr (inr (inl zero))) c = let d = subst (Cause (Some (commands.Asm assemble)) readings) zero.1 c in absurd (cc (d.1))
zero_assembled assemble readings answer (inr (inr (inr (inl zero)))) c = let d = subst (Cause (Some (commands.Asm assemble)) readings) zero.1 c in absurd (cc (d.1))
zero_assembled assemble readings answer (inr (inr (inr (inr (inl zero))))) c = let d = subst (Cause (Some (commands.Asm assemble)) readings) zero.1 c in (zero.0, d.1)
zero_assembled assemble readings answer (inr (inr (inr (inr (inr zero))))) c = let d = subst (Cause (Some (commands.Asm assemble)) readings) zero.1 c in absurd d.0

-- .. and to `eval` a program and an input that it can begin with, and the text of the outcome that they mean
abbrev pub EvaluatedTo : SourceReadings → Answer → Type 0
EvaluatedTo readings answer =
    (text : List ℕ) × (answer ≡ answers.Evaluated text) × (a : AcceptedView) × (input : InputView) × CanEvaluate readings a input × IsOutcomeOf a input text

pub zero_evaluated : (evaluate : Evaluate) (readings : SourceReadings) (answer : Answer) → OfZero answer → Cause (Some (commands.Eval evaluate)) readings answer → EvaluatedTo readings answer
zero_evaluated evaluate readings answer (inl zero) c = let d = subst (Cause (Some (commands.Eval evaluate)) readings) zero.1 c in absurd (cc (d.0))
zero_evaluated evaluate readings answer (inr (inl zero)) c = let d = subst (Cause (Some (commands.Eval evaluate)) readings) zero.1 c in absurd (cc (d.1))
zero_evaluated evaluate readings answer (inr (inr (inl zero))) c = let d = subst (Cause (Some (commands.Eval evaluate)) readings) zero.1 c in absurd (cc (d.1))
zero_evaluated evaluate readings answer (inr (inr (inr (inl zero)))) c = let d = subst (Cause (Some (commands.Eval evaluate)) readings) zero.1 c in absurd (cc (d.1))
zero_evaluated evaluate readings answer (inr (inr (inr (inr (inl zero))))) c = let d = subst (Cause (Some (commands.Eval evaluate)) readings) zero.1 c in absurd (cc (d.0))
zero_evaluated evaluate readings answer (inr (inr (inr (inr (inr zero))))) c =
    let d = subst (Cause (Some (commands.Eval evaluate)) readings) zero.1 c in (zero.0, zero.1, d.1, d.2, d.3, d.4)

-- `gas` and `eval` have no answer of status 9
never_nine : (command : Command) (readings : SourceReadings) (answer : Answer) → command ≢ commands.Planned → (RunsCode command → ⊥) → status_of answer ≡ 9 → Cause (Some command) readings answer → ⊥
never_nine command readings answers.NotBuilt built about e (inl c) = built c
never_nine command readings answers.NotBuilt built about e (inr c) = about c.0
never_nine command readings (answers.Judged verdict) built about e c = absurd (omega (arith, e))
never_nine command readings (answers.Ran file) built about e c = absurd (omega (arith, e))
never_nine command readings (answers.Evaluated text) built about e c = absurd (omega (arith, e))
never_nine command readings (answers.Plan plan) built about e c = absurd (omega (arith, e))
never_nine command readings (answers.Printed text) built about e c = absurd (omega (arith, e))
never_nine command readings (answers.Assembled code) built about e c = absurd (omega (arith, e))
never_nine command readings answers.Usage built about e c = absurd (omega (arith, e))
never_nine command readings (answers.Missing source) built about e c = absurd (omega (arith, e))
never_nine command readings (answers.ReadFault source) built about e c = absurd (omega (arith, e))
never_nine command readings (answers.TooLong source) built about e c = absurd (omega (arith, e))
never_nine command readings (answers.TextRefused fault) built about e c = absurd (omega (arith, e))
never_nine command readings (answers.CasmRefused fault) built about e c = absurd (omega (arith, e))
never_nine command readings (answers.ProgramRefused refusal) built about e c = absurd (omega (arith, e))
never_nine command readings (answers.InputRefused fault) built about e c = absurd (omega (arith, e))
never_nine command readings (answers.NotEnoughGas need given) built about e c = absurd (omega (arith, e))
never_nine command readings (answers.RunRefused refusal) built about e c = absurd (omega (arith, e))
never_nine command readings (answers.RunRejected fault) built about e c = absurd (omega (arith, e))

-- an answer of status 15 has a run that isn't accepted
fifteen_rejected : (command : Command) (readings : SourceReadings) (answer : Answer) → status_of answer ≡ 15 → Cause (Some command) readings answer → HasRunThat readings (λ program input run. IsAccepted program input run → ⊥)
fifteen_rejected command readings (answers.RunRejected fault) e c = (c.1, c.2, c.3, c.4, c.5, never_accepted c.1 c.2 c.3 fault c.6)
fifteen_rejected command readings (answers.Judged verdict) e c = absurd (omega (arith, e))
fifteen_rejected command readings (answers.Ran file) e c = absurd (omega (arith, e))
fifteen_rejected command readings (answers.Evaluated text) e c = absurd (omega (arith, e))
fifteen_rejected command readings (answers.Plan plan) e c = absurd (omega (arith, e))
fifteen_rejected command readings (answers.Printed text) e c = absurd (omega (arith, e))
fifteen_rejected command readings (answers.Assembled code) e c = absurd (omega (arith, e))
fifteen_rejected command readings answers.Usage e c = absurd c
fifteen_rejected command readings (answers.Missing source) e c = absurd (omega (arith, e))
fifteen_rejected command readings (answers.ReadFault source) e c = absurd (omega (arith, e))
fifteen_rejected command readings (answers.TooLong source) e c = absurd (omega (arith, e))
fifteen_rejected command readings answers.NotBuilt e c = absurd (omega (arith, e))
fifteen_rejected command readings (answers.TextRefused fault) e c = absurd (omega (arith, e))
fifteen_rejected command readings (answers.CasmRefused fault) e c = absurd (omega (arith, e))
fifteen_rejected command readings (answers.ProgramRefused refusal) e c = absurd (omega (arith, e))
fifteen_rejected command readings (answers.InputRefused fault) e c = absurd (omega (arith, e))
fifteen_rejected command readings (answers.NotEnoughGas need given) e c = absurd (omega (arith, e))
fifteen_rejected command readings (answers.RunRefused refusal) e c = absurd (omega (arith, e))

abbrev HasAnswer : Option Command → SourceReadings → ℕ → Type 0
HasAnswer command readings k = (answer : Answer) × (status_of answer ≡ k) × Cause command readings answer

-- an accepted run has an answer of status 0, ..
accepted_zero : (check : Check) (readings : SourceReadings) → HasRunThat readings IsAccepted → HasAnswer (Some (commands.Check check)) readings 0
accepted_zero check readings (program, input, run, can, has, accepted) =
    let verdict = some_verdict program input run can.gas accepted in
    (answers.Judged verdict.0, refl, (refl, program, input, run, can, has, accepted, verdict.1))

-- .. one that isn't accepted of status 15, ..
rejected_fifteen : (check : Check) (readings : SourceReadings) → HasRunThat readings (λ program input run. IsAccepted program input run → ⊥) → HasAnswer (Some (commands.Check check)) readings 15
rejected_fifteen check readings (program, input, run, can, has, refused) =
    let fits : input.argument < modulus = can.input_read.3.argument_below in
    elim (accepted_or_rejected (code_of program) input.argument run.rc (get run.memory) run.states has.3.0.state_count fits) [
      | inl accepted ↦ absurd (refused accepted)
      | inr rejected ↦ (answers.RunRejected rejected.0, refl, (refl, program, input, run, can, has, rejected.1))
    ]

-- .. a program and an input that can be run of status 0, ..
start_zero : (execute : Execute) (readings : SourceReadings) → HasStart readings → HasAnswer (Some (commands.Run execute)) readings 0
start_zero execute readings (program, input, can) = (answers.Ran (spelling (honest_run program input)), refl, (execute, refl, program, input, can, refl))

-- .. a program and an input that an evaluation can begin with, ..
beginning_zero : Known → (evaluate : Evaluate) (readings : SourceReadings) → HasBeginning readings → HasAnswer (Some (commands.Eval evaluate)) readings 0
beginning_zero known evaluate readings (a, input, can) =
    let meaning = known.every_meaning_ends a can.program_read.3.1 input can.input_read.3.0 can.gas in
    (answers.Evaluated (outcome_text meaning.0), refl, (tt, a, input, can, (meaning.0, meaning.1, refl)))

-- .. so has the text of a program that isn't refused, ..
checked_zero : (gas : Gas) (readings : SourceReadings) → HasCheckedText readings → HasAnswer (Some (commands.Gas gas)) readings 0
checked_zero gas readings (tree, held) =
    let passes = held.3.1 in
    (answers.Plan passes.0.plan, refl, (gas, refl, tree, held, (passes.0, passes.1, refl)))

-- .. a program's text, ..
text_zero : (show : Show) (readings : SourceReadings) → HasText readings → HasAnswer (Some (commands.Show show)) readings 0
text_zero show readings (tree, held) = (answers.Printed (layout tree), refl, (show, refl, tree, held, refl))

-- .. and code
casm_zero : (assemble : Assemble) (readings : SourceReadings) → HasCasm readings → HasAnswer (Some (commands.Asm assemble)) readings 0
casm_zero assemble readings (code, held) = (answers.Assembled code, refl, (refl, held))

-- ---- The status

-- each status by its answers, and so those of a run and of code
by_answers : Known → (files : FileMap) (command : Option Command) (status : ℕ) → ((k : ℕ) → (status ≡ k) ↔ HasAnswer command (readings_of files command) k) → HasExactStatus files command status
by_answers known files command status each =
    let readings = readings_of files command in
    let of_command : (other : Command) (k : ℕ) → command ≡ Some other → HasAnswer command readings k → HasAnswer (Some other) readings k = λ other k is. subst (λ (c : Option Command). HasAnswer c readings k) is in
    record {
      each = each;
      accepted = λ check is. (
        λ e. let h = of_command (commands.Check check) 0 is ((each 0).0 e) in zero_accepted check readings h.0 (of_zero h.0 h.1) h.2,
        λ h. (each 0).1 (subst (λ (c : Option Command). HasAnswer c readings 0) (sym is) (accepted_zero check readings h)),
      );
      rejected = λ check is. (
        λ e. let h = of_command (commands.Check check) 15 is ((each 15).0 e) in fifteen_rejected (commands.Check check) readings h.0 h.1 h.2,
        λ h. (each 15).1 (subst (λ (c : Option Command). HasAnswer c readings 15) (sym is) (rejected_fifteen check readings h)),
      );
      ran = λ execute is. (
        λ e. let h = of_command (commands.Run execute) 0 is ((each 0).0 e) in let ran = zero_ran execute readings h.0 (of_zero h.0 h.1) h.2 in (ran.2, ran.3, ran.4),
        λ h. (each 0).1 (subst (λ (c : Option Command). HasAnswer c readings 0) (sym is) (start_zero execute readings h)),
      );
      evaluated = λ evaluate is. (
        λ e. let h = of_command (commands.Eval evaluate) 0 is ((each 0).0 e) in let to = zero_evaluated evaluate readings h.0 (of_zero h.0 h.1) h.2 in (to.2, to.3, to.4),
        λ h. (each 0).1 (subst (λ (c : Option Command). HasAnswer c readings 0) (sym is) (beginning_zero known evaluate readings h)),
      );
      meant = λ evaluate is e. let h = of_command (commands.Eval evaluate) 9 is ((each 9).0 e) in never_nine (commands.Eval evaluate) readings h.0 (λ p. cc) (λ p. p) h.1 h.2;
      planned = λ gas is. (
        λ e. let h = of_command (commands.Gas gas) 0 is ((each 0).0 e) in zero_planned gas readings h.0 (of_zero h.0 h.1) h.2,
        λ h. (each 0).1 (subst (λ (c : Option Command). HasAnswer c readings 0) (sym is) (checked_zero gas readings h)),
      );
      built = λ gas is e. let h = of_command (commands.Gas gas) 9 is ((each 9).0 e) in never_nine (commands.Gas gas) readings h.0 (λ p. cc) (λ p. p) h.1 h.2;
      printed = λ show is. (
        λ e. let h = of_command (commands.Show show) 0 is ((each 0).0 e) in zero_printed show readings h.0 (of_zero h.0 h.1) h.2,
        λ h. (each 0).1 (subst (λ (c : Option Command). HasAnswer c readings 0) (sym is) (text_zero show readings h)),
      );
      assembled = λ assemble is. (
        λ e. let h = of_command (commands.Asm assemble) 0 is ((each 0).0 e) in zero_assembled assemble readings h.0 (of_zero h.0 h.1) h.2,
        λ h. (each 0).1 (subst (λ (c : Option Command). HasAnswer c readings 0) (sym is) (casm_zero assemble readings h)),
      );
    }

exact_known : Known → (arguments : List (List ℕ)) (before now : FilesView) (out written : SinkView) (status : ℕ) (files : FileMap) → before.contents ≡ Some files → Tool arguments before now out written status → IsExact arguments (Some files) status
exact_known known arguments before now out written status files is (command, parses, inr ran_out) not_4 not_5 not_6 other parsed = absurd (not_6 ran_out.0)
exact_known known arguments before now out written status files is (command, parses, inl answered) not_4 not_5 not_6 other parsed =
    elim answered.delivered [
      | inr failed ↦ absurd (not_5 failed.0)
      | inl whole ↦
          let calm : (source : Source) → answered.answer ≢ answers.ReadFault source = λ source e. not_4 (whole.0 ∙ ap status_of e) in
          let given = subst (λ contents. AreReadings contents command answered.readings) is answered.given in
          let agrees = known_agrees arguments files command other answered.readings parses parsed given in
          let cause = same_cause arguments command other answered.readings (readings_of files other) answered.answer parses parsed agrees calm answered.cause in
          by_answers known files other status (λ k. (
            λ e. (answered.answer, sym whole.0 ∙ e, cause),
            λ h. whole.0 ∙ ap status_of (one_answer known other (readings_of files other) answered.answer h.0 cause h.2) ∙ h.1,
          ))
    ]

pub exact : Known → (arguments : List (List ℕ)) (before now : FilesView) (out written : SinkView) (status : ℕ) → Tool arguments before now out written status → (contents : Option FileMap) → before.contents ≡ contents → IsExact arguments contents status
exact known arguments before now out written status tool None is = tt
exact known arguments before now out written status tool (Some files) is = exact_known known arguments before now out written status files is tool
