-- What a source shows of itself, what it answers by that, and what each call makes of it.
use Rattle.std.specs.Prelude.{⊤, ℕ, ◌≡◌, ◌+◌, Bool, true, false, ◌&&◌, if◌then◌else◌, [], ◌∷◌, ◌++◌, is_some, IsSome, Option, None, Result, Ok, Err}
use Rattle.std.specs.Option.{option_or, option_map_or}
use Rattle.std.specs.Ordering.{nat_cmp}
use Rattle.std.specs.FinMap.{FinMap, empty, get, contains_key, insert}
use Rattle.hint_source.specs.declared.kind.Kind.{Kind}
use Rattle.hint_source.specs.declared.kind.Kind.TheVariants.{Fresh}
use Rattle.hint_source.specs.declared.note.Note.{Note}
use Rattle.hint_source.specs.declared.note.Note.TheVariants.{Begun, Written}
use Rattle.hint_source.specs.declared.source.Query.{Query}
use Rattle.hint_source.specs.declared.source.TeachFault.{TeachFault}
use Rattle.hint_source.specs.declared.source.TeachFault.TheVariants.{Declined, Taken, Memory}
use Rattle.hint_source.specs.Honest.{Logs, honest_answer}

-- the answers that were taught: a finite map from the numbers of queries to words
abbrev pub Taught : Type 0
Taught = FinMap nat_cmp ℕ

-- What a source shows: whether it is honest, the taught answers, the logs, and how many Fresh queries it answered.
pub record View : Type 0 where
  pub honest : Bool
  pub taught : Taught
  pub logs : Logs
  pub fresh : ℕ

-- a view that isn't honest keeps no list, and its number stays 0
abbrev pub KeepsNothing : View → Type 0
KeepsNothing v = v.honest ≡ false → (v.logs ≡ empty) × (v.fresh ≡ 0)

-- the taught word where there is one, else, where the view is honest, the honest answer, else none
abbrev pub answer_of : View → Query → Option ℕ
answer_of v q = option_or (get v.taught q.number) (if v.honest then honest_answer v.logs v.fresh q.kind else None)

-- whether a free segment is asked for
abbrev pub is_fresh : Kind ℕ → Bool
is_fresh Fresh = true
is_fresh kind = false

-- The view after a query: in an honest view an answered Fresh query raises the number.
abbrev pub view_after_query : View → Query → View
view_after_query v q = if v.honest && is_fresh q.kind && is_some (answer_of v q) then record v { fresh = v.fresh + 1 } else v

-- The view after a word was taught.
abbrev pub view_after_teaching : View → ℕ → ℕ → View
view_after_teaching v number word = record v { taught = insert v.taught number word }

-- What a source with this view answers to a word for the query of this number, out of memory aside.
abbrev pub Teaches : View → ℕ → Result ⊤ TeachFault → Type 0
Teaches v number (Ok done) = (v.honest ≡ false) × (get v.taught number ≡ None)
Teaches v number (Err Declined) = v.honest ≡ true
Teaches v number (Err Taken) = (v.honest ≡ false) × IsSome (get v.taught number)
Teaches v number (Err Memory) = Unit {0}

-- The logs after a note: Begun adds an empty list and Written appends to its list. A Begun of a begun log, and a Written of a
-- log that was not begun, change nothing.
abbrev pub logs_after_note : Logs → Note ℕ → Logs
logs_after_note logs (Begun log) = if contains_key logs log then logs else insert logs log []
logs_after_note logs (Written log key word) = option_map_or (λ accesses. insert logs log (accesses ++ (key, word) ∷ [])) (get logs log) logs

-- The view after a note. One that isn't honest keeps no list.
abbrev pub view_after_note : View → Note ℕ → View
view_after_note v note = if v.honest then record v { logs = logs_after_note v.logs note } else v
