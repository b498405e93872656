-- The program of the form that is built: what reading an accepted program gave, as what reading a program of the form gives.
use Rattle.std.proofs.Common.{◌≡◌, ◌≢◌, ℕ, List, Result, Ok, Err, refl, inl, inr}
use Rattle.edge_io.specs.Files.{FilesView}
use Rattle.first_form.specs.declared.program.Program.{Program}
use Rattle.gas_solver.specs.Accepting.{AcceptedView}
use Rattle.sierra_tool.specs.declared.answer.Answer.{Answer}
use Rattle.sierra_tool.specs.declared.answer.Answer.TheVariants as answers
use Rattle.sierra_tool.specs.declared.answer.Stop.{Stop}
use Rattle.sierra_tool.specs.declared.answer.Stop.TheVariants as stops
use Rattle.sierra_tool.specs.declared.command.Source.TheVariants as sources
use Rattle.sierra_tool.specs.Causes.{Reading, absent, IsAcceptedText, IsForm}
use Rattle.sierra_tool.specs.Stages.{Stops, IsRefused, NoChecked, NoProgram, ReadsSource, ReadsAccepted}
use Rattle.sierra_tool.specs.Tool.{IsCounted}
use Rattle.sierra_tool.proofs.Stages.{held_present, uncounted}
use Rattle.sierra_tool.proofs.Starting.{Form, TakesForm}

-- a program that isn't accepted is of no form
as_form : (given : Reading) (a : Answer) → IsRefused sources.Program NoChecked given a → IsRefused sources.Program NoProgram given a
as_form given a (inl unfit) = inl unfit
as_form given a (inr (bytes, is, within, inl no_text)) = inr (bytes, is, within, inl no_text)
as_form given a (inr (bytes, is, within, inr refused)) = inr (bytes, is, within, inr (inl refused))

module _ (before now : FilesView) (name : List ℕ) where
  abbrev pub ReadsForm : Result Form Stop → Type 0
  ReadsForm = ReadsSource before now name TakesForm (IsRefused sources.Program NoProgram)

  -- the program is refused, ..
  pub not_accepted : (stop : Stop) → ReadsAccepted before now name (Err stop) → ReadsForm (Err stop)
  not_accepted stop part = record { keeps = part.keeps; reading = part.reading; given = part.given; outcome = by_stop stop part.outcome }
    where
      by_stop : (stop : Stop) → Stops (λ answer. IsRefused sources.Program NoChecked part.reading answer × IsCounted before now answer) (part.reading ≢ absent) stop → Stops (λ answer. IsRefused sources.Program NoProgram part.reading answer × IsCounted before now answer) (part.reading ≢ absent) stop
      by_stop (stops.Refused answer) h = (as_form part.reading answer h.0, h.1)
      by_stop stops.OutOfMemory h = h

  module _ (a : AcceptedView) (part : ReadsAccepted before now name (Ok a)) where
    -- .. or it is of the form, ..
    pub is_of_form : (program : Program) → IsForm a program → ReadsForm (Ok (record { accepted = a; program = program }))
    is_of_form program is =
        let held = part.outcome in
        record { keeps = part.keeps; reading = part.reading; given = part.given; outcome = (held.0, held.1, held.2, (held.3, is)) }

    -- .. or of none, or there is no memory for its layout
    pub not_of_form : (stop : Stop) → Stops (λ answer. ((program : Program) → IsForm a program → ⊥) × (answer ≡ answers.NotBuilt)) (Unit {0}) stop → ReadsForm (Err stop)
    not_of_form (stops.Refused answer) none =
        let held = part.outcome in
        record {
          keeps = part.keeps;
          reading = part.reading;
          given = part.given;
          outcome = (
            inr (held.0, held.1, held.2, inr (inr ((a, held.3, none.0), none.1))),
            uncounted before now answer (λ source e. cc (none.1)) (λ source e. cc (none.1)),
          );
        }
    not_of_form stops.OutOfMemory out =
        record { keeps = part.keeps; reading = part.reading; given = part.given; outcome = held_present sources.Program part.reading (λ text. IsAcceptedText text a) part.outcome }
