-- A run and what its file holds of it.
use Rattle.std.proofs.Common.{◌≡◌, ℕ, ◌<◌, List, length, All, inl, inr, arith, Result, Ok, Err, refl, sym, ap, subst, ◌∙◌}
use Rattle.std.specs.Prelude.{IfOk, ◌↔◌}
use Rattle.std.specs.Ordering.{nat_cmp}
use Rattle.std.proofs.lemmas.Bool.{cases_lt}
use Rattle.std.proofs.lemmas.List.{get_or_past}
use Rattle.std.specs.FinMap.{entries-from_sorted}
use Rattle.byte_reading.specs.Reading.{Gives}
use Rattle.byte_reading.proofs.ReadingLaws.{IsBytes, bind_ok, ok_is}
use Rattle.run_file.specs.declared.run.Run.{Run}
use Rattle.run_file.specs.declared.refusal.FileRefusal.{FileRefusal}
use Rattle.run_file.specs.declared.refusal.FileRefusal.TheVariants as refusals
use Rattle.run_file.specs.Spelling.{Listing, listing, listing_spelling, spelling, IsListing, IsRun}
use Rattle.run_file.specs.Reading.{listing_at, run_of, reading}
use Rattle.run_file.proofs.Order.{IsRisingFrom, entries_rise, sorted_from_rising, same_cells}
use Rattle.run_file.proofs.Listings.{listing_takes, listing_again}

run_of-listing : (run : Run) → run_of (listing run) ≡ run
run_of-listing run = ap (λ m. record { rc = run.rc; memory = m; states = run.states }) (same_cells run.memory)

listing-run_of : (l : Listing) → IsRisingFrom 0 l.cells → listing (run_of l) ≡ l
listing-run_of l rising = ap (λ (cells : List (ℕ × ℕ)). record { rc = l.rc; cells = cells; states = l.states }) (entries-from_sorted nat_cmp l.cells (sorted_from_rising 0 l.cells rising))

reading_takes : (bytes : List ℕ) (run : Run) → IsBytes bytes → reading bytes ≡ Ok run → IsRun run × (bytes ≡ spelling run)
unfolding reading
reading_takes bytes run fits e =
    let a = bind_ok (listing_at (record { at = 0; rest = bytes })) (λ l. Ok (run_of l)) run e in
    let t = listing_takes bytes a.0 fits a.1 in
    let same : a.0 ≡ listing run = sym (listing-run_of a.0 t.2) ∙ ap listing (ok_is {E = FileRefusal} (run_of a.0) run a.2) in
    subst (λ (l : Listing). IsListing l × (bytes ≡ listing_spelling l)) same (t.0, t.1)

reading_again : (bytes : List ℕ) (run : Run) → IsRun run → bytes ≡ spelling run → reading bytes ≡ Ok run
unfolding reading
reading_again bytes run fits e =
    let again = listing_again (listing run) fits (entries_rise run.memory) in
    rw (e, again) (ap (λ (y : Run). Ok y) (run_of-listing run))

bytes_fit : (bytes : List ℕ) → All (λ byte. byte < 256) bytes → IsBytes bytes
bytes_fit bytes fit i =
    elim (cases_lt i (length bytes)) [
      | inl lt ↦ fit i 0 lt
      | inr le ↦ rw (get_or_past bytes i 0 le) (omega arith)
    ]

pub reads_exactly : (bytes : List ℕ) (run : Run) → All (λ byte. byte < 256) bytes → (reading bytes ≡ Ok run) ↔ (IsRun run × (bytes ≡ spelling run))
reads_exactly bytes run fit = (reading_takes bytes run (bytes_fit bytes fit), λ h. reading_again bytes run h.0 h.1)

pub one_run : (a b : Run) → IsRun a → IsRun b → spelling a ≡ spelling b → a ≡ b
one_run a b a_fits b_fits same =
    ok_is {E = FileRefusal} a b (sym (reading_again (spelling a) a a_fits refl) ∙ reading_again (spelling a) b b_fits same)

pub is_found : (bytes : List ℕ) (r : Result Run FileRefusal) → IsBytes bytes → Gives refusals.Memory (λ x. x) r (reading bytes) → IfOk r (λ run. IsRun run × (bytes ≡ spelling run))
is_found bytes (Ok run) fits given = reading_takes bytes run fits given
is_found bytes (Err e) fits given = tt

pub is_only : (bytes : List ℕ) (r : Result Run FileRefusal) → Gives refusals.Memory (λ x. x) r (reading bytes) → (run : Run) → IsRun run → bytes ≡ spelling run → Gives refusals.Memory (λ x. x) r (Ok run)
is_only bytes (Ok x) given run fits same = sym (reading_again bytes run fits same) ∙ given
is_only bytes (Err e) given run fits same = λ other. sym (reading_again bytes run fits same) ∙ given other
