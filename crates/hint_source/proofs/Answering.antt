-- What the honest source answers while it has no log, and what notes and queries do to its view.
use Rattle.std.proofs.Common.{◌≡◌, ◌≢◌, ℕ, ◌+◌, Bool, true, false, cond, [], ◌∷◌, ◌++◌, ◌&&◌, ◌⊎◌, ⊎_elim, if◌then◌else◌, Option, Some, None, is_some, refl, ap, sym, ◌∙◌}
use Rattle.std.proofs.lemmas.Bool.{true≢false}
use Rattle.std.specs.Ordering.{nat_cmp}
use Rattle.std.specs.FinMap.{empty, get, insert, get-empty, get-insert}
use Rattle.std.specs.Cmp.{nat_cmp_total, eq_by_cmp_equiv}
use Rattle.hint_source.specs.declared.kind.Kind.{Kind}
use Rattle.hint_source.specs.declared.kind.Kind.TheVariants.{Fresh, Previous, KeyCount, KeyAt, FirstAt, NextIn}
use Rattle.hint_source.specs.declared.note.Note.{Note}
use Rattle.hint_source.specs.declared.note.Note.TheVariants.{Begun, Written}
use Rattle.hint_source.specs.declared.source.Query.{Query}
use Rattle.hint_source.specs.Accesses.{Accesses}
use Rattle.hint_source.specs.Honest.{Logs, honest_answer}
use Rattle.hint_source.specs.View.{View, answer_of, is_fresh, view_after_query, view_after_note, logs_after_note}
use Rattle.hint_source.specs.Remembered.{Remembered, honest_view}

-- nothing was taught, so the honest answer is the answer
answer_of-honest : (remembered : Remembered) (q : Query) → answer_of (honest_view remembered) q ≡ honest_answer remembered.logs remembered.fresh q.kind
answer_of-honest remembered q = rw (get-empty {X = ℕ} nat_cmp q.number) refl

-- the answer of what is remembered without a log
pub known : (fresh : ℕ) (remembered : Remembered) (q : Query) (answer : Option ℕ)
    → record { logs = empty; fresh = fresh } ≡ remembered
    → answer ≡ honest_answer empty fresh q.kind
    → answer ≡ answer_of (honest_view remembered) q
known fresh remembered q answer same answer_is =
    answer_is ∙ ap (λ (h : Remembered). honest_answer h.logs h.fresh q.kind) same ∙ sym (answer_of-honest remembered q)

-- a kind that isn't Fresh
pub is_fresh-other : (kind : Kind ℕ) → kind ≢ Fresh → is_fresh kind ≡ false
is_fresh-other Fresh other = absurd (other refl)
is_fresh-other kind other = refl

-- an answer that isn't counted
pub uncounted : (remembered : Remembered) (q : Query) → (is_fresh q.kind ≡ false) ⊎ (is_some (answer_of (honest_view remembered) q) ≡ false)
    → Some (honest_view remembered) ≡ Some (view_after_query (honest_view remembered) q)
uncounted remembered q why = go (is_fresh q.kind) (is_some (answer_of (honest_view remembered) q)) why
  where
    go : (kind some : Bool) → (kind ≡ false) ⊎ (some ≡ false)
        → Some (honest_view remembered) ≡ Some (if kind && some then record (honest_view remembered) { fresh = remembered.fresh + 1 } else honest_view remembered)
    go false some why = refl
    go true false why = refl
    go true true why = absurd (⊎_elim true≢false true≢false why)

-- a kind that names a log
abbrev pub NamesLog : Kind ℕ → Type 0
NamesLog (Previous log key) = Unit {0}
NamesLog (KeyCount log) = Unit {0}
NamesLog (KeyAt log i) = Unit {0}
NamesLog (FirstAt log key) = Unit {0}
NamesLog (NextIn log key index) = Unit {0}
NamesLog kind = ⊥

-- without a log there is no answer
pub no_log : (answered : ℕ) (kind : Kind ℕ) → NamesLog kind → honest_answer empty answered kind ≡ None
no_log answered (Previous log key) names = rw (get-empty {X = Accesses} nat_cmp log) refl
no_log answered (KeyCount log) names = rw (get-empty {X = Accesses} nat_cmp log) refl
no_log answered (KeyAt log i) names = rw (get-empty {X = Accesses} nat_cmp log) refl
no_log answered (FirstAt log key) names = rw (get-empty {X = Accesses} nat_cmp log) refl
no_log answered (NextIn log key index) names = rw (get-empty {X = Accesses} nat_cmp log) refl
no_log answered kind names = absurd names

-- a Written changes nothing without a log
pub unlogged : (logs : Logs) (note : Note ℕ) (log key word : ℕ) → logs ≡ empty → note ≡ Written log key word → logs ≡ logs_after_note logs note
unlogged logs note log key word none is = rw (is, none) (rw (get-empty {X = Accesses} nat_cmp log) refl)

-- a source that isn't honest and was taught nothing answers nothing
pub answer_of-silent : (v : View) (q : Query) → v.honest ≡ false → v.taught ≡ empty → answer_of v q ≡ None
answer_of-silent v q plain none = rw (plain, none) (rw (get-empty {X = ℕ} nat_cmp q.number) refl)

-- the view of a source that isn't honest stays as it is through a run
pub view_after_query-plain : (v : View) (q : Query) → v.honest ≡ false → view_after_query v q ≡ v
view_after_query-plain v q plain = rw plain refl

pub view_after_note-plain : (v : View) (n : Note ℕ) → v.honest ≡ false → view_after_note v n ≡ v
view_after_note-plain v n plain = rw plain refl

same_key : (logs : Logs) (log : ℕ) (accesses : Accesses) → get (insert logs log accesses) log ≡ Some accesses
same_key logs log accesses =
    get-insert nat_cmp_total logs log accesses log
    ∙ ap (λ b. cond b (Some accesses) (get logs log)) ((eq_by_cmp_equiv nat_cmp_total).refl log)

-- a log begins with an empty list
pub get-begun : (logs : Logs) (log : ℕ) → get logs log ≡ None → get (logs_after_note logs (Begun log)) log ≡ Some []
get-begun logs log none = rw none (same_key logs log [])

-- a Written appends to its list
pub get-written : (logs : Logs) (log key word : ℕ) (accesses : Accesses)
    → get logs log ≡ Some accesses
    → get (logs_after_note logs (Written log key word)) log ≡ Some (accesses ++ (key, word) ∷ [])
get-written logs log key word accesses has = rw has (same_key logs log (accesses ++ (key, word) ∷ []))
