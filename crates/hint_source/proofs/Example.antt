-- The answers from the example's log.
use Rattle.std.proofs.Common.{◌≡◌, ℕ, [], ◌∷◌, map, length, slice_get, Some, None, refl, ap, sym, ◌∙◌, arith}
use Rattle.std.specs.Ordering.{nat_cmp}
use Rattle.std.specs.Cmp.{nat_cmp_total}
use Rattle.std.specs.FinMap.{get, entries, empty, get-empty, entries-insert, get-from_entries, len-entries, len-empty}
use Rattle.hint_source.specs.declared.kind.Kind.TheVariants.{Previous, KeyCount, KeyAt, FirstAt, NextIn}
use Rattle.hint_source.specs.Accesses.{Accesses, last_words}
use Rattle.hint_source.specs.Example.{start, top, three_accesses, answer_then}
use Rattle.hint_source.proofs.Answering.{get-begun, get-written}

abbrev accesses : Accesses
accesses = (top, 4) ∷ (0, 5) ∷ (top, 6) ∷ []

has : get three_accesses start ≡ Some accesses
has = get-written _ start top 6 _ (get-written _ start 0 5 _ (get-written _ start top 4 _ (get-begun empty start (get-empty nat_cmp start))))

no_length : (es : Accesses) → length es ≡ 0 → es ≡ []
no_length [] e = refl
no_length (x ∷ es) e = absurd (omega arith)

no_entries : entries (empty {K = ℕ} {X = ℕ} {R = nat_cmp}) ≡ []
no_entries = no_length _ (sym (len-entries (empty {K = ℕ} {X = ℕ} {R = nat_cmp})) ∙ len-empty nat_cmp ℕ)

-- the newest word of each key, the keys rising
last : entries (last_words accesses) ≡ (0, 5) ∷ (top, 6) ∷ []
last = rw (entries-insert nat_cmp_total, entries-insert nat_cmp_total, entries-insert nat_cmp_total, no_entries) refl

pub previous : (answer_then (Previous start top) ≡ Some 6) × (answer_then (Previous start 0) ≡ Some 5) × (answer_then (Previous start 1) ≡ Some 0)
previous = (
  rw has (rw (get-from_entries nat_cmp_total) refl),
  rw has (rw (get-from_entries nat_cmp_total) refl),
  rw has (rw (get-from_entries nat_cmp_total) refl),
)

pub count : answer_then (KeyCount start) ≡ Some 2
count = rw has (ap Some (len-entries (last_words accesses) ∙ ap length last))

place : (i : ℕ) → answer_then (KeyAt start i) ≡ slice_get (0 ∷ top ∷ []) i
place i = rw has (ap (λ (es : Accesses). slice_get (map (λ e. e.0) es) i) last)

pub key : (answer_then (KeyAt start 0) ≡ Some 0) × (answer_then (KeyAt start 1) ≡ Some top) × (answer_then (KeyAt start 2) ≡ None)
key = (place 0, place 1, place 2)

pub first : (answer_then (FirstAt start top) ≡ Some 0) × (answer_then (FirstAt start 0) ≡ Some 1) × (answer_then (FirstAt start 1) ≡ None)
first = (rw has refl, rw has refl, rw has refl)

pub next : (answer_then (NextIn start top 0) ≡ Some 2) × (answer_then (NextIn start top 2) ≡ Some 0)
    × (answer_then (NextIn start 0 1) ≡ Some 0) × (answer_then (NextIn start 1 0) ≡ None)
next = (rw has refl, rw has refl, rw has refl, rw has refl)
