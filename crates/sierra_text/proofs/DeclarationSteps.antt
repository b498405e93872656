-- Declarations as the code reads them, one after another.
use Rattle.std.proofs.Common.{◌≡◌, ℕ, List, [], ◌∷◌, length, ◌<◌, false, cond, Option, Ok, Err, refl, ◌∙◌, ap, arith}
use Rattle.text_reading.specs.Reading.{Answer.answers, done, go_on, ◌>>=◌}
use Rattle.text_reading.specs.Repeating.{is_end, finish_at}
use Rattle.text_reading.proofs.WholeTexts.{Moves}
use Rattle.text_reading.proofs.Repeats.{repeat_step}
use Rattle.sierra_types.specs.declared.program.Program.{Program}
use Rattle.sierra_text.specs.declared.part.Part.{Part}
use Rattle.sierra_text.specs.declared.declaration.Declaration.{Declaration}
use Rattle.sierra_text.specs.Text.{standard}
use Rattle.sierra_text.specs.LabelReading.{Sierra}
use Rattle.sierra_text.specs.ProgramReading.{Progress, added, declaration_at, next_at, declarations_at}
use Rattle.sierra_text.proofs.DeclarationForms.{declaration_moves}
use Rattle.sierra_text.proofs.ProgramForms.{next_moves}

abbrev all : Progress → Sierra Program
all = declarations_at standard

step : (so_far : Progress) (text : List ℕ) → all so_far text ≡ cond (is_end text) (finish_at so_far.program text) ((next_at standard so_far >>= all) text)
unfolding declarations_at
step so_far text = repeat_step is_end (λ s. finish_at s.program) (next_at standard) (next_moves standard) so_far text

not_end : (text : List ℕ) → 0 < length text → is_end text ≡ false
not_end [] some = absurd (omega arith)
not_end (byte ∷ text) some = refl

pub declarations_end : (so_far : Progress) (text : List ℕ) → length text ≡ 0 → all so_far text ≡ answers (Ok so_far.program) text
declarations_end so_far [] none = step so_far []
declarations_end so_far (byte ∷ text) none = absurd (omega arith)

into : (so_far : Progress) (text : List ℕ) → 0 < length text → all so_far text ≡ go_on (go_on (declaration_at standard so_far.part text) (λ d. done (added so_far d))) all
unfolding next_at
into so_far text some =
    step so_far text ∙ ap (λ b. cond b (finish_at so_far.program text) ((next_at standard so_far >>= all) text)) (not_end text some)

pub declarations_more : (so_far : Progress) (text rest : List ℕ) (d : Declaration) → 0 < length text → declaration_at standard so_far.part text ≡ answers (Ok d) rest
    → all so_far text ≡ all (added so_far d) rest
declarations_more so_far text rest d some read = into so_far text some ∙ ap (λ a. go_on (go_on a (λ e. done (added so_far e))) all) read

pub declarations_stop : (so_far : Progress) (text rest : List ℕ) (why : Option (Unit {0})) → 0 < length text → declaration_at standard so_far.part text ≡ answers (Err why) rest
    → all so_far text ≡ answers (Err why) rest
declarations_stop so_far text rest why some read = into so_far text some ∙ ap (λ a. go_on (go_on a (λ e. done (added so_far e))) all) read

pub standard_moves : (part : Part) → Moves (declaration_at standard part)
standard_moves = declaration_moves standard
