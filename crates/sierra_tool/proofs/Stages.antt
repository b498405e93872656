-- The parts of a command's work, put together: what the sources gave, and what that causes.
use Rattle.std.proofs.Common.{◌≡◌, ◌≢◌, ℕ, ◌+◌, ◌<◌, List, [], length, Option, Some, None, Result, Ok, Err, refl, sym, ap, subst, inl, inr, ◌⊎◌, replicate, arith}
use Rattle.std.specs.Prelude.{MatchOption, IsErrAnd, IsSome}
use Rattle.std.specs.Option.{unwrap_or}
use Rattle.std.specs.Global.{Vec}
use Rattle.std.specs.FinMap.{get}
use Rattle.std.proofs.Math.ListN.{length-replicate}
use Rattle.edge_io.specs.Files.{FileMap, FilesView, Keeps, ForFile}
use Rattle.edge_io.specs.Reading.{ReadsWhole}
use Rattle.edge_io.specs.Sinks.{SinkView}
use Rattle.edge_io.specs.declared.files.ReadFault.{ReadFault}
use Rattle.edge_io.specs.declared.files.ReadFault.TheVariants as faults
use Rattle.edge_io.proofs.Reading.{Keeps-more}
use Rattle.sierra_tool.specs.declared.answer.Answer.{Answer}
use Rattle.sierra_tool.specs.declared.answer.Answer.TheVariants as answers
use Rattle.sierra_tool.specs.declared.answer.Stop.{Stop}
use Rattle.sierra_tool.specs.declared.answer.Stop.TheVariants as stops
use Rattle.sierra_tool.specs.declared.command.Command.{Command}
use Rattle.sierra_tool.specs.declared.command.Command.TheVariants as commands
use Rattle.sierra_tool.specs.declared.command.Source.{Source}
use Rattle.sierra_tool.specs.declared.command.Source.TheVariants as sources
use Rattle.first_form.specs.declared.program.Program.{Program}
use Rattle.sierra_tool.specs.Causes.{Reading, absent, unread, found, SourceReadings, Gives, AreReadings, Holds, IsTooLong, IsOfForm, HasProgram, ComesTo, Cause}
use Rattle.sierra_tool.specs.Command.{limit, name_of, IsRead}
use Rattle.sierra_tool.specs.Exact.{reading_of}
use Rattle.sierra_tool.specs.Stages.{Stops, IsUnfit, ReadsSource, Reaches, IsCaused, IsNotMissing, IsDelivered}
use Rattle.sierra_tool.specs.Known.{Known}
use Rattle.sierra_tool.specs.Tool.{IsCounted, MayHaveFirst, IsOutOfMemory, IsAnswered}
use Rattle.sierra_tool.proofs.Causes.{one_answer}

-- what holds of a fault holds of a result that passes it on
pub passed_on : {T E : Type 0} (holds : Result T E → Type 0) (fault : E) (result : Result T E) → IsErrAnd result (λ e. e ≡ fault) → holds (Err fault) → holds result
passed_on holds fault (Ok value) is h = absurd is
passed_on holds fault (Err e) is h = subst (λ x. holds (Err x)) (sym is) h

-- ---- One file

-- there are more bytes than any number
longer : (n : ℕ) → (bytes : List ℕ) × (n < length bytes)
longer n = (replicate (n + 1) 0, rw (length-replicate {A = ℕ} (n + 1) 0) (omega arith))

-- a file that is too long has more bytes than the limit
too_long_at : (known : Option FileMap) (name : List ℕ) (source : Source) → ForFile known name (◌≡◌ {A = Result (Vec ℕ) ReadFault} (Err faults.TooLong) (Err faults.Missing)) (λ bytes. ReadsWhole bytes (limit source) (Err faults.TooLong)) → (given : Reading) × Gives known name given × IsTooLong source given
too_long_at None name source whole = let more = longer (limit source) in (found more.0, tt, (more.0, refl, more.1))
too_long_at (Some files) name source whole = of_file (get files name) whole
  where
    of_file : (file : Option (List ℕ)) → MatchOption file (◌≡◌ {A = Result (Vec ℕ) ReadFault} (Err faults.TooLong) (Err faults.Missing)) (λ bytes. ReadsWhole bytes (limit source) (Err faults.TooLong)) → (given : Reading) × MatchOption file (given ≡ absent) (λ bytes. (given ≡ found bytes) ⊎ (given ≡ unread)) × IsTooLong source given
    of_file None h = absurd cc
    of_file (Some there) h = (found there, inl refl, (there, refl, h))

pub gives_too_long : (known : Option FileMap) (name : List ℕ) (source : Source) (n : ℕ) (fault : ReadFault) → n ≡ limit source → fault ≡ faults.TooLong → ForFile known name (◌≡◌ {A = Result (Vec ℕ) ReadFault} (Err fault) (Err faults.Missing)) (λ bytes. ReadsWhole bytes n (Err fault)) → (given : Reading) × Gives known name given × IsTooLong source given
gives_too_long known name source n fault limited too_long whole =
    too_long_at known name source
    (subst (λ m. ForFile known name (◌≡◌ {A = Result (Vec ℕ) ReadFault} (Err faults.TooLong) (Err faults.Missing)) (λ bytes. ReadsWhole bytes m (Err faults.TooLong))) limited
    (subst (λ f. ForFile known name (◌≡◌ {A = Result (Vec ℕ) ReadFault} (Err f) (Err faults.Missing)) (λ bytes. ReadsWhole bytes n (Err f))) too_long whole))

-- what a file can give that nobody asked for
usual : Option FileMap → List ℕ → Reading
usual None name = absent
usual (Some files) name = reading_of (get files name)

usual_gives : (known : Option FileMap) (name : List ℕ) → Gives known name (usual known name)
unfolding usual
usual_gives None name = tt
usual_gives (Some files) name = of_file (get files name)
  where
    of_file : (file : Option (List ℕ)) → MatchOption file (reading_of file ≡ absent) (λ bytes. (reading_of file ≡ found bytes) ⊎ (reading_of file ≡ unread))
    of_file None = refl
    of_file (Some bytes) = inl refl

-- a file that isn't absent may be there
pub may_be_there : (known : Option FileMap) (name : List ℕ) (given : Reading) → Gives known name given → given ≢ absent → ForFile known name ⊥ (λ there. Unit {0})
may_be_there None name given gives present = tt
may_be_there (Some files) name given gives present = of_file (get files name) gives
  where
    of_file : (file : Option (List ℕ)) → MatchOption file (given ≡ absent) (λ bytes. (given ≡ found bytes) ⊎ (given ≡ unread)) → MatchOption file ⊥ (λ there. Unit {0})
    of_file None is = absurd (present is)
    of_file (Some bytes) is = tt

pub held_present : (source : Source) (given : Reading) (is : List ℕ → Type 0) → Holds source given is → given ≢ absent
held_present source given is held e = cc (held.1)

-- nothing is no value
pub never : {X : Type 0} (x : X) → None ≡ Some x → ⊥
never x e = absurd cc

-- ---- Counts

-- what rose after a part rose in the whole
later_counted : (a b c : FilesView) (answer : Answer) → Keeps a b → IsCounted b c answer → IsCounted a c answer
later_counted a b c answer keeps counted =
    record { missed = λ source is. omega (arith, keeps.misses, counted.missed source is); failed = λ source is. omega (arith, keeps.faults, counted.failed source is) }

-- the other answers have no count
pub uncounted : (a b : FilesView) (answer : Answer) → ((source : Source) → answer ≢ answers.Missing source) → ((source : Source) → answer ≢ answers.ReadFault source) → IsCounted a b answer
uncounted a b answer not_missing not_failed =
    record { missed = λ source is. absurd (not_missing source is); failed = λ source is. absurd (not_failed source is) }

-- ---- The cause of each refusal

pub unfit_cause : (command : Command) (readings : SourceReadings) (source : Source) (answer : Answer) → ComesTo command readings source → IsUnfit source (readings source) answer → Cause (Some command) readings answer
unfit_cause command readings source answer comes (inl unfit) = subst (Cause (Some command) readings) (sym unfit.1) (comes, unfit.0)
unfit_cause command readings source answer comes (inr (inl unfit)) = subst (Cause (Some command) readings) (sym unfit.1) (comes, unfit.0)
unfit_cause command readings source answer comes (inr (inr unfit)) = subst (Cause (Some command) readings) (sym unfit.1) (comes, unfit.0)

-- ---- One source after another

-- what the sources gave, with this reading of one of them
abbrev pub put : Source → Reading → SourceReadings → SourceReadings
put sources.Program given readings sources.Program = given
put sources.Program given readings sources.Input = readings sources.Input
put sources.Program given readings sources.Run = readings sources.Run
put sources.Program given readings sources.Casm = readings sources.Casm
put sources.Input given readings sources.Program = readings sources.Program
put sources.Input given readings sources.Input = given
put sources.Input given readings sources.Run = readings sources.Run
put sources.Input given readings sources.Casm = readings sources.Casm
put sources.Run given readings sources.Program = readings sources.Program
put sources.Run given readings sources.Input = readings sources.Input
put sources.Run given readings sources.Run = given
put sources.Run given readings sources.Casm = readings sources.Casm
put sources.Casm given readings sources.Program = readings sources.Program
put sources.Casm given readings sources.Input = readings sources.Input
put sources.Casm given readings sources.Run = readings sources.Run
put sources.Casm given readings sources.Casm = given

abbrev MayGive : Option FileMap → Option Command → Source → Reading → Type 0
MayGive known command source given = MatchOption (name_of command source) (given ≡ absent) (λ name. Gives known name given)

put_given : (known : Option FileMap) (command : Option Command) (source : Source) (given : Reading) (readings : SourceReadings) → MayGive known command source given → AreReadings known command readings → AreReadings known command (put source given readings)
put_given known command sources.Program given readings here others sources.Program = here
put_given known command sources.Program given readings here others sources.Input = others sources.Input
put_given known command sources.Program given readings here others sources.Run = others sources.Run
put_given known command sources.Program given readings here others sources.Casm = others sources.Casm
put_given known command sources.Input given readings here others sources.Program = others sources.Program
put_given known command sources.Input given readings here others sources.Input = here
put_given known command sources.Input given readings here others sources.Run = others sources.Run
put_given known command sources.Input given readings here others sources.Casm = others sources.Casm
put_given known command sources.Run given readings here others sources.Program = others sources.Program
put_given known command sources.Run given readings here others sources.Input = others sources.Input
put_given known command sources.Run given readings here others sources.Run = here
put_given known command sources.Run given readings here others sources.Casm = others sources.Casm
put_given known command sources.Casm given readings here others sources.Program = others sources.Program
put_given known command sources.Casm given readings here others sources.Input = others sources.Input
put_given known command sources.Casm given readings here others sources.Run = others sources.Run
put_given known command sources.Casm given readings here others sources.Casm = here

named_gives : (known : Option FileMap) (command : Option Command) (source : Source) (name : List ℕ) (given : Reading) → name_of command source ≡ Some name → Gives known name given → MayGive known command source given
named_gives known command source name given is gives = rw is gives

-- what the sources of a command can give before any is read
pub unasked : Option FileMap → Option Command → SourceReadings
unasked known command source = of_name (name_of command source)
  where
    of_name : Option (List ℕ) → Reading
    of_name None = absent
    of_name (Some name) = usual known name

pub unasked_given : (known : Option FileMap) (command : Option Command) → AreReadings known command (unasked known command)
unfolding unasked
unasked_given known command source = of_name (name_of command source) refl
  where
    of_name : (name : Option (List ℕ)) → name_of command source ≡ name → MayGive known command source (unasked known command source)
    of_name None is = rw is refl
    of_name (Some name) is = rw is (usual_gives known name)

-- the name of a source that is read
pub read_name : (command : Command) (source : Source) (name : List ℕ) → IsRead command source → name ≡ unwrap_or (name_of (Some command) source) [] → name_of (Some command) source ≡ Some name
read_name command source name reads is = of_name (name_of (Some command) source) reads is
  where
    of_name : (found : Option (List ℕ)) → IsSome found → name ≡ unwrap_or found [] → found ≡ Some name
    of_name None reads is = absurd cc
    of_name (Some other) reads is = ap Some (sym is)

-- the sources that were read so far, and what they gave
pub record Progress (before now : FilesView) (command : Command) (readings : SourceReadings) : Type 0 where
  pub keeps : Keeps before now
  pub given : AreReadings before.contents (Some command) readings

-- the next source is read
module _ (before middle now : FilesView) (command : Command) (readings : SourceReadings) (source : Source) (name : List ℕ)
    (progress : Progress before middle command readings)
    (is : name_of (Some command) source ≡ Some name)
  where
    next_given : (reading : Reading) → Gives middle.contents name reading → AreReadings before.contents (Some command) (put source reading readings)
    next_given reading gives =
        put_given before.contents (Some command) source reading readings
        (named_gives before.contents (Some command) source name reading is (subst (λ contents. Gives contents name reading) progress.keeps.contents gives))
        progress.given

    pub goes_on : {X : Type 0} (taken : Reading → X → Type 0) (refused : Reading → Answer → Type 0) (result : Result X Stop)
        → (part : ReadsSource middle now name taken refused result) → Progress before now command (put source part.reading readings)
    goes_on taken refused result part =
        record { keeps = Keeps-more before middle now progress.keeps part.keeps; given = next_given part.reading part.given }

    -- .. and its refusal is the answer, or there was no memory
    pub stops_there : {X Y : Type 0} (taken : Reading → X → Type 0) (refused : Reading → Answer → Type 0) (reached : SourceReadings → Y → Type 0) (stop : Stop)
        → (part : ReadsSource middle now name taken refused (Err stop))
        → ((answer : Answer) → refused part.reading answer → Cause (Some command) (put source part.reading readings) answer)
        → (part.reading ≢ absent → MayHaveFirst before.contents (Some command))
        → Reaches before now (Some command) reached (Err stop)
    stops_there taken refused reached stop part cause first =
        record {
          keeps = Keeps-more before middle now progress.keeps part.keeps;
          readings = put source part.reading readings;
          given = next_given part.reading part.given;
          outcome = by_stop stop part.outcome;
        }
      where
        by_stop : (stop : Stop) → Stops (λ answer. refused part.reading answer × IsCounted middle now answer) (part.reading ≢ absent) stop → Stops (IsCaused before now (Some command) (put source part.reading readings)) (MayHaveFirst before.contents (Some command)) stop
        by_stop (stops.Refused answer) h = (cause answer h.0, later_counted before middle now answer progress.keeps h.1)
        by_stop stops.OutOfMemory h = first h

-- a part that stopped stops what it is a part of
pub stopped : {X Y : Type 0} (before now : FilesView) (command : Command) (taken : SourceReadings → X → Type 0) (reached : SourceReadings → Y → Type 0) (stop : Stop) → Reaches before now (Some command) taken (Err stop) → Reaches before now (Some command) reached (Err stop)
stopped before now command taken reached stop part = record { keeps = part.keeps; readings = part.readings; given = part.given; outcome = part.outcome }

-- nothing was read yet
pub begins : (before : FilesView) (command : Command) → Progress before before command (unasked before.contents (Some command))
begins before command = record { keeps = record { contents = refl; faults = omega arith; misses = omega arith }; given = unasked_given before.contents (Some command) }

-- ---- The first file

-- a command that reads a program reads it first: where it isn't absent, the first file may be there
pub program_present : (known : Option FileMap) (command : Command) (readings : SourceReadings) → AreReadings known (Some command) readings → IsRead command sources.Program → readings sources.Program ≢ absent → MayHaveFirst known (Some command)
program_present known (commands.Check check) readings given is present = may_be_there known check.program.now (readings sources.Program) (given sources.Program) present
program_present known (commands.Run execute) readings given is present = may_be_there known execute.program.now (readings sources.Program) (given sources.Program) present
program_present known (commands.Eval evaluate) readings given is present = may_be_there known evaluate.program.now (readings sources.Program) (given sources.Program) present
program_present known (commands.Gas gas) readings given is present = may_be_there known gas.program.now (readings sources.Program) (given sources.Program) present
program_present known (commands.Show show) readings given is present = may_be_there known show.program.now (readings sources.Program) (given sources.Program) present
program_present known (commands.Asm assemble) readings given is present = absurd cc
program_present known commands.Planned readings given is present = absurd cc

pub program_read_present : (known : Option FileMap) (command : Command) (readings : SourceReadings) (program : Program) → AreReadings known (Some command) readings → IsRead command sources.Program → HasProgram readings program → MayHaveFirst known (Some command)
program_read_present known command readings program given is has =
    program_present known command readings given is (held_present sources.Program (readings sources.Program) (λ text. IsOfForm text program) has)

-- ---- An answer that was delivered

-- a first file that isn't missing may be there
first_may_be_there : Known → (known : Option FileMap) (command : Command) (readings : SourceReadings) (answer : Answer) → AreReadings known (Some command) readings → Cause (Some command) readings answer → IsNotMissing answer → MayHaveFirst known (Some command)
first_may_be_there laws known (commands.Check check) readings answer given cause not_missing =
    program_present known (commands.Check check) readings given refl (λ is. not_missing sources.Program (one_answer laws (Some (commands.Check check)) readings answer (answers.Missing sources.Program) cause (refl, is)))
first_may_be_there laws known (commands.Run execute) readings answer given cause not_missing =
    program_present known (commands.Run execute) readings given refl (λ is. not_missing sources.Program (one_answer laws (Some (commands.Run execute)) readings answer (answers.Missing sources.Program) cause (refl, is)))
first_may_be_there laws known (commands.Eval evaluate) readings answer given cause not_missing =
    program_present known (commands.Eval evaluate) readings given refl (λ is. not_missing sources.Program (one_answer laws (Some (commands.Eval evaluate)) readings answer (answers.Missing sources.Program) cause (refl, is)))
first_may_be_there laws known (commands.Gas gas) readings answer given cause not_missing =
    program_present known (commands.Gas gas) readings given refl (λ is. not_missing sources.Program (one_answer laws (Some (commands.Gas gas)) readings answer (answers.Missing sources.Program) cause (refl, is)))
first_may_be_there laws known (commands.Show show) readings answer given cause not_missing =
    program_present known (commands.Show show) readings given refl (λ is. not_missing sources.Program (one_answer laws (Some (commands.Show show)) readings answer (answers.Missing sources.Program) cause (refl, is)))
first_may_be_there laws known (commands.Asm assemble) readings answer given cause not_missing =
    may_be_there known assemble.file.now (readings sources.Casm) (given sources.Casm) (λ is. not_missing sources.Casm (one_answer laws (Some (commands.Asm assemble)) readings answer (answers.Missing sources.Casm) cause (refl, is)))
first_may_be_there laws known commands.Planned readings answer given cause not_missing = λ e. cc

-- what the tool did, where the answer of a command was delivered
pub delivers_answer : Known → (before now : FilesView) (out written : SinkView) (command : Command) (readings : SourceReadings) (answer : Answer) (status : ℕ) → AreReadings before.contents (Some command) readings → IsCaused before now (Some command) readings answer → IsDelivered out written (Some command) answer status → IsAnswered before now out written (Some command) status ⊎ IsOutOfMemory before.contents out written (Some command) status
delivers_answer laws before now out written command readings answer status given caused (inl delivered) =
    inl (record { readings = readings; given = given; answer = answer; cause = caused.0; counted = caused.1; delivered = delivered })
delivers_answer laws before now out written command readings answer status given caused (inr (is, nothing, not_missing)) =
    inr (is, first_may_be_there laws before.contents command readings answer given caused.0 not_missing, nothing)
