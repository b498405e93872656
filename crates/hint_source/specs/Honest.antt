-- The honest answer to each kind of query.
use Rattle.std.specs.Prelude.{ℕ, ◌+◌, ◌-◌, ◌*◌, ◌/◌, ◌%◌, ◌^◌, ◌==◌, nat_lt, if◌then◌else◌, Option, Some, None}
use Rattle.std.specs.Option.{option_map, option_and_then}
use Rattle.std.specs.Ordering.{nat_cmp}
use Rattle.std.specs.FinMap.{FinMap, get}
use Rattle.hint_source.specs.declared.kind.Kind.{Kind}
use Rattle.hint_source.specs.declared.kind.Kind.TheVariants.{Less, Quotient, Remainder, High, Low, Fresh, Previous, KeyCount, KeyAt, FirstAt, NextIn}
use Rattle.hint_source.specs.Accesses.{Accesses, last_word, key_count, key_at, first_access, distance_to_next}

-- The logs that were begun: a finite map from their starts to their accesses.
abbrev pub Logs : Type 0
Logs = FinMap nat_cmp Accesses

-- the answer to a Fresh query after so many that were answered: the first address of the next segment, while a whole one is left
abbrev pub fresh_answer : ℕ → Option ℕ
fresh_answer answered = if nat_lt (3 + answered) (2 ^ 32 - 1) then Some ((3 + answered) * 2 ^ 32) else None

-- the quotient of whole numbers, and the remainder; by 0 there is none
abbrev pub quotient : ℕ → ℕ → Option ℕ
quotient a b = if b == 0 then None else Some (a / b)

abbrev pub remainder : ℕ → ℕ → Option ℕ
remainder a b = if b == 0 then None else Some (a % b)

-- the answer from these logs, after so many Fresh queries that were answered
abbrev pub honest_answer : Logs → ℕ → Kind ℕ → Option ℕ
honest_answer logs answered (Less a b) = Some (if nat_lt a b then 1 else 0)
honest_answer logs answered (Quotient a b) = quotient a b
honest_answer logs answered (Remainder a b) = remainder a b
honest_answer logs answered (High a) = Some (a / 2 ^ 32)
honest_answer logs answered (Low a) = Some (a % 2 ^ 32)
honest_answer logs answered Fresh = fresh_answer answered
honest_answer logs answered (Previous log key) = option_map (λ accesses. last_word accesses key) (get logs log)
honest_answer logs answered (KeyCount log) = option_map key_count (get logs log)
honest_answer logs answered (KeyAt log i) = option_and_then (λ accesses. key_at accesses i) (get logs log)
honest_answer logs answered (FirstAt log key) = option_and_then (λ accesses. first_access accesses key) (get logs log)
honest_answer logs answered (NextIn log key index) = option_and_then (λ accesses. distance_to_next accesses key index) (get logs log)
