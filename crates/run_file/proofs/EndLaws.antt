-- What a file says that ends, with too few bytes behind the last number for another one.
use Rattle.std.proofs.Common.{◌≡◌, ℕ, ◌+◌, ◌<◌, Bool, true, false, ltb, List, [], ◌++◌, length, take, drop, Ok, Err, refl, sym, ap, ◌∙◌, append_assoc, arith}
use Rattle.std.specs.Prelude.{nat_eq}
use Rattle.std.specs.List.{starts_with}
use Rattle.std.proofs.lemmas.Bool.{lt-ltb, ne_eqb, false≢true}
use Rattle.std.proofs.lemmas.Bool.Decides.{Decides-eqb}
use Rattle.std.proofs.lemmas.List.{take_at, take-append-le, take-append-drop, append-nil, length-append}
use Rattle.std.proofs.lemmas.Slice.Eq.{starts_is}
use Rattle.byte_reading.specs.Reading.{Place, ◌>>=◌}
use Rattle.run_file.specs.declared.refusal.FileRefusal.TheVariants as refusals
use Rattle.run_file.specs.declared.stage.Stage.{Stage}
use Rattle.run_file.specs.declared.stage.Stage.TheVariants as stages
use Rattle.run_file.specs.Spelling.{magic, Listing}
use Rattle.std.specs.FinMap.{entries}
use Rattle.run_file.specs.declared.progress.Progress.{Progress}
use Rattle.run_file.specs.Progress.{rest_of, IsStart}
use Rattle.run_file.proofs.Order.{entries-empty}
use Rattle.run_file.specs.Reading.{run_of, reading, magic_at, word_at, address_at, steps_at, ends_at, listing_at}
use Rattle.run_file.specs.Stages.{nothing, from_cells, from_steps, from_states, from_count, from_stage}

pub not_whole : (bytes : List ℕ) → length bytes < 8 → starts_with nat_eq bytes magic ≡ false
not_whole bytes short = test (starts_with nat_eq bytes magic) refl
  where
    test : (b : Bool) → starts_with nat_eq bytes magic ≡ b → starts_with nat_eq bytes magic ≡ false
    test true is =
        let whole = ap length ((starts_is {E = nat_eq} Decides-eqb bytes magic (starts_with nat_eq bytes magic) refl).0 is) in
        absurd (omega (arith, whole, length-append magic (drop (length magic) bytes)))
    test false is = is

pub magic_cut : (at : ℕ) (bytes : List ℕ) → length bytes < 8 → starts_with nat_eq magic bytes ≡ true → magic_at (record { at = at; rest = bytes }) ≡ Err (refusals.Cut (at + length bytes))
unfolding magic_at
magic_cut at bytes short begins = rw (not_whole bytes short, begins) refl

-- bytes with which the magic doesn't begin, and others behind them
pub begins_not : (bytes more : List ℕ) → length bytes < 8 → starts_with nat_eq magic bytes ≡ false → (rest : List ℕ) → bytes ++ more ≡ magic ++ rest → ⊥
begins_not bytes more short isnt rest same =
    let front : bytes ≡ take (length bytes) magic = sym (take_at bytes more (length bytes) refl) ∙ (ap (take (length bytes)) same ∙ take-append-le (length bytes) magic rest (omega arith)) in
    let whole : magic ≡ bytes ++ drop (length bytes) magic = sym (take-append-drop (length bytes) magic) ∙ ap (λ (t : List ℕ). t ++ drop (length bytes) magic) (sym front) in
    false≢true (sym isnt ∙ (starts_is {E = nat_eq} Decides-eqb magic bytes (starts_with nat_eq magic bytes) refl).1 (drop (length bytes) magic) whole)

pub magic_stays : (at : ℕ) (bytes more : List ℕ) → length bytes < 8 → starts_with nat_eq magic bytes ≡ false → magic_at (record { at = at; rest = bytes ++ more }) ≡ Err refusals.Magic
unfolding magic_at
magic_stays at bytes more short isnt = rw (not_behind (starts_with nat_eq (bytes ++ more) magic) refl, not_before (starts_with nat_eq magic (bytes ++ more)) refl) refl
  where
    not_behind : (b : Bool) → starts_with nat_eq (bytes ++ more) magic ≡ b → starts_with nat_eq (bytes ++ more) magic ≡ false
    not_behind true is = absurd (begins_not bytes more short isnt _ ((starts_is {E = nat_eq} Decides-eqb (bytes ++ more) magic (starts_with nat_eq (bytes ++ more) magic) refl).0 is))
    not_behind false is = is

    not_before : (b : Bool) → starts_with nat_eq magic (bytes ++ more) ≡ b → starts_with nat_eq magic (bytes ++ more) ≡ false
    not_before true is = absurd (false≢true (sym isnt ∙ (starts_is {E = nat_eq} Decides-eqb magic bytes (starts_with nat_eq magic bytes) refl).1 _ ((starts_is {E = nat_eq} Decides-eqb magic (bytes ++ more) (starts_with nat_eq magic (bytes ++ more)) refl).0 is ∙ append_assoc bytes more _)))
    not_before false is = is

pub magic_refused_now : (at : ℕ) (bytes : List ℕ) → length bytes < 8 → starts_with nat_eq magic bytes ≡ false → magic_at (record { at = at; rest = bytes }) ≡ Err refusals.Magic
magic_refused_now at bytes short isnt = ap (λ (rest : List ℕ). magic_at (record { at = at; rest = rest })) (sym (append-nil bytes)) ∙ magic_stays at bytes [] short isnt

-- too few bytes for a number
number_cut : (at : ℕ) (bytes : List ℕ) → length bytes < 8 → word_at (record { at = at; rest = bytes }) ≡ Err (refusals.Cut (at + length bytes))
unfolding word_at
number_cut at bytes short =
    let few : ltb (length bytes) 8 ≡ true = lt-ltb _ _ short in
    rw few refl

pub stage_cut : (stage : Stage) (l : Listing) (at : ℕ) (bytes : List ℕ) → length bytes < 8 → (stage ≡ stages.Magic → ⊥) → (stage ≡ stages.End → ⊥) → from_stage stage l (record { at = at; rest = bytes }) ≡ Err (refusals.Cut (at + length bytes))
unfolding from_stage from_count from_steps address_at steps_at
stage_cut stages.Magic l at bytes short start end = absurd (start refl)
stage_cut stages.CellCount l at bytes short start end = let few : ltb (length bytes) 8 ≡ true = lt-ltb _ _ short in rw few refl
stage_cut (stages.Address least left) l at bytes short start end = rw (number_cut at bytes short) refl
stage_cut stages.StepCount l at bytes short start end = let few : ltb (length bytes) 8 ≡ true = lt-ltb _ _ short in rw few refl
stage_cut (stages.Word meaning) l at bytes short start end = rw (number_cut at bytes short) refl
stage_cut stages.End l at bytes short start end = absurd (end refl)

pub ends_behind : (l : Listing) (at : ℕ) (bytes : List ℕ) → 0 < length bytes → ends_at l (record { at = at; rest = bytes }) ≡ Err (refusals.Extra at)
ends_behind l at bytes some = rw (ne_eqb (length bytes) 0 (λ none. omega arith)) refl

-- a file is read from its first stage on
pub from_start : (p : Place) → listing_at p ≡ from_stage stages.Magic nothing p
unfolding listing_at from_stage from_count from_cells from_steps from_states
from_start p = refl

-- with nothing read, the rest of the file is the file
pub says_all : (p : Progress) (bytes : List ℕ) → IsStart p → (kept : List ℕ) → kept ≡ [] → (rest_of p (kept ++ bytes) >>= λ l. Ok (run_of l)) ≡ reading bytes
unfolding reading
says_all p bytes start kept none =
    let empty_cells : entries p.run.memory ≡ [] = ap entries start.no_cells ∙ entries-empty in
    rw (none, start.at_magic, start.at_0, empty_cells, start.no_states, start.rc_0, ← from_start (record { at = 0; rest = bytes })) refl
