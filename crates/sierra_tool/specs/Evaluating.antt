-- What the parts of the work of `eval` give. Only contracts inside this crate cite it.
use Rattle.std.specs.Prelude.{ℕ, ◌≡◌, ◌<◌, List, Result, MatchResult}
use Rattle.gas_solver.specs.Accepting.{AcceptedView}
use Rattle.typed_values.specs.Inputs.{InputView}
use Rattle.typed_values.specs.Shown.{input_meant}
use Rattle.typed_values.specs.declared.input.Input.{Input}
use Rattle.sierra_tool.specs.declared.answer.Answer.{Answer}
use Rattle.sierra_tool.specs.declared.answer.Answer.TheVariants as answers
use Rattle.sierra_tool.specs.declared.answer.Stop.{Stop}
use Rattle.sierra_tool.specs.Causes.{IsInputOf, IsOutcomeOf}
use Rattle.sierra_tool.specs.Stages.{Stops, NoInputOf}

-- a text is that of an input of the program, or the stop is its refusal
abbrev pub ReadsInput : AcceptedView → List ℕ → Result Input Stop → Type 0
ReadsInput a text result = MatchResult result (λ input. IsInputOf a text (input_meant input)) (Stops (NoInputOf a text) (Unit {0}))

-- the input has less gas than the program needs to begin
abbrev pub IsShortOfGas : AcceptedView → InputView → Answer → Type 0
IsShortOfGas a input answer = (input.gas < a.plan.entry) × (answer ≡ answers.NotEnoughGas a.plan.entry input.gas)

-- the answer with the text of the outcome that the program means on the input, or the stop is the refusal for too little gas
abbrev pub GivesOutcome : AcceptedView → InputView → Result Answer Stop → Type 0
GivesOutcome a input result =
    MatchResult result (λ answer. (text : List ℕ) × IsOutcomeOf a input text × (answer ≡ answers.Evaluated text)) (Stops (IsShortOfGas a input) (Unit {0}))
