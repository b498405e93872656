-- An example: a log that begins where the first answer to Fresh says, in which the words 4, 5 and 6 were written for the keys
-- P - 1, 0 and P - 1.
use Rattle.std.specs.Prelude.{ℕ, ◌-◌, Option}
use Rattle.std.specs.FinMap.{empty}
use Rattle.felt64.specs.Field.{modulus}
use Rattle.hint_source.specs.declared.kind.Kind.{Kind}
use Rattle.hint_source.specs.declared.note.Note.TheVariants.{Begun, Written}
use Rattle.hint_source.specs.Honest.{Logs, honest_answer}
use Rattle.hint_source.specs.View.{logs_after_note}

-- where the log begins
abbrev pub start : ℕ
start = 12884901888

-- the key P - 1
abbrev pub top : ℕ
top = modulus - 1

-- the logs after these notes
abbrev pub three_accesses : Logs
three_accesses = logs_after_note
    (logs_after_note (logs_after_note (logs_after_note empty (Begun start)) (Written start top 4)) (Written start 0 5))
    (Written start top 6)

-- the honest answer then
abbrev pub answer_then : Kind ℕ → Option ℕ
answer_then kind = honest_answer three_accesses 0 kind

-- the honest answer before the log began
abbrev pub answer_before : Kind ℕ → Option ℕ
answer_before kind = honest_answer empty 0 kind
