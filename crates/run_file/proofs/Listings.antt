-- The two laws of the whole file: what is read is spelled so, and what is spelled so is read.
use Rattle.std.proofs.Common.{◌≡◌, ℕ, ◌+◌, ◌-◌, eqb, List, [], ◌++◌, length, Result, Ok, refl, sym, ap, subst, ◌∙◌, append_assoc, arith}
use Rattle.std.specs.List.{flat_map}
use Rattle.std.proofs.lemmas.Bool.{eqb-true}
use Rattle.std.proofs.lemmas.List.{append-nil, nil_from_length}
use Rattle.byte_reading.specs.Reading.{Place, ◌>>=◌}
use Rattle.byte_reading.proofs.ReadingLaws.{IsBytes, bind_ok, guard_passed, Takes-then, number_takes, number_again, counted_take, counted_again}
use Rattle.ro_machine.specs.declared.machine.State.{State}
use Rattle.run_file.specs.declared.refusal.FileRefusal.{FileRefusal}
use Rattle.run_file.specs.declared.refusal.FileRefusal.TheVariants as refusals
use Rattle.run_file.specs.Spelling.{magic, number, cell, state, Listing, listing_spelling, IsState, IsListing}
use Rattle.run_file.specs.Reading.{magic_at, number_at, word_at, cell_at, cells_at, steps_at, state_at, states_at, ends_at, listing_at}
use Rattle.run_file.proofs.Order.{IsRisingFrom}
use Rattle.run_file.proofs.StageLaws.{magic_step}
use Rattle.run_file.proofs.Fields.{IsCellFrom, magic_takes, word_takes, word_again, steps_takes, steps_again, cell_takes, cell_again, cells_in_turn, in_turn_cells, state_takes, state_again, states_in_turn, in_turn_states}

-- what each field leaves for those after it

abbrev to_states : ℕ → List (ℕ × ℕ) → ℕ × Place → Result Listing FileRefusal
to_states rc cells steps = states_at (steps.0 + 1) steps.1 >>= λ states. ends_at (record { rc = rc; cells = cells; states = states.0 }) states.1

abbrev to_steps : ℕ → List (ℕ × ℕ) × Place → Result Listing FileRefusal
to_steps rc cells = steps_at cells.1 >>= to_states rc cells.0

abbrev to_cells : ℕ → ℕ × Place → Result Listing FileRefusal
to_cells rc count = cells_at 0 count.0 count.1 >>= to_steps rc

abbrev to_count : ℕ × Place → Result Listing FileRefusal
to_count rc = number_at rc.1 >>= to_cells rc.0

abbrev to_rc : Place → Result Listing FileRefusal
to_rc start = word_at start >>= to_count

pub listing_takes : (bytes : List ℕ) (l : Listing) → IsBytes bytes → listing_at (record { at = 0; rest = bytes }) ≡ Ok l → IsListing l × (bytes ≡ listing_spelling l) × IsRisingFrom 0 l.cells
unfolding listing_at
listing_takes bytes l fits e =
    let p : Place = record { at = 0; rest = bytes } in
    let a = bind_ok (magic_at p) to_rc l e in
    let b = bind_ok (word_at a.0) to_count l a.2 in
    let c = bind_ok (number_at b.0.1) (to_cells b.0.0) l b.2 in
    let d = bind_ok (cells_at 0 c.0.0 c.0.1) (to_steps b.0.0) l c.2 in
    let f = bind_ok (steps_at d.0.1) (to_states b.0.0 d.0.0) l d.2 in
    let g = bind_ok (states_at (f.0.0 + 1) f.0.1) (λ states. ends_at (record { rc = b.0.0; cells = d.0.0; states = states.0 }) states.1) l f.2 in
    let made : Listing = record { rc = b.0.0; cells = d.0.0; states = g.0.0 } in
    let h = guard_passed (eqb (length g.0.1.rest) 0) (refusals.Extra g.0.1.at) made l g.2 in
    let t0 = magic_takes p a.0 fits a.1 in
    let t1 = word_takes a.0 b.0 t0.rest_fits b.1 in
    let t2 = number_takes refusals.Cut b.0.1 c.0 t1.0.rest_fits c.1 in
    let t3 = counted_take cell_at (λ (c : ℕ × ℕ). c.0 + 1) cell IsCellFrom cell_takes 0 c.0.0 c.0.1 d.0 t2.0.rest_fits d.1 in
    let t4 = steps_takes d.0.1 f.0 t3.0.rest_fits f.1 in
    let t5 = counted_take (λ (_ : ℕ). state_at) (λ (_ : State). 0) state (λ (_ : ℕ). IsState) (λ (_ : ℕ). state_takes) 0 (f.0.0 + 1) f.0.1 g.0 t4.0.rest_fits g.1 in
    let u1 = Takes-then p magic a.0 (number b.0.0) b.0.1 t0 t1.0 in
    let u2 = Takes-then p (magic ++ number b.0.0) b.0.1 (number c.0.0) c.0.1 u1 t2.0 in
    let u3 = Takes-then p (magic ++ number b.0.0 ++ number c.0.0) c.0.1 (flat_map cell d.0.0) d.0.1 u2 t3.0 in
    let u4 = Takes-then p (magic ++ number b.0.0 ++ number c.0.0 ++ flat_map cell d.0.0) d.0.1 (number f.0.0) f.0.1 u3 t4.0 in
    let u5 = Takes-then p (magic ++ number b.0.0 ++ number c.0.0 ++ flat_map cell d.0.0 ++ number f.0.0) f.0.1 (flat_map state g.0.0) g.0.1 u4 t5.0 in
    let nothing : g.0.1.rest ≡ [] = nil_from_length g.0.1.rest (eqb-true _ _ h.0) in
    let steps-is : f.0.0 ≡ length g.0.0 - 1 = omega (arith, t5.1) in
    let whole : bytes ≡ listing_spelling made =
    u5.parts
    ∙ ap (λ (r : List ℕ). (magic ++ number b.0.0 ++ number c.0.0 ++ flat_map cell d.0.0 ++ number f.0.0 ++ flat_map state g.0.0) ++ r) nothing
    ∙ append-nil (magic ++ number b.0.0 ++ number c.0.0 ++ flat_map cell d.0.0 ++ number f.0.0 ++ flat_map state g.0.0)
    ∙ ap (λ (n : ℕ). magic ++ number b.0.0 ++ number n ++ flat_map cell d.0.0 ++ number f.0.0 ++ flat_map state g.0.0) (sym t3.1)
    ∙ ap (λ (n : ℕ). magic ++ number b.0.0 ++ number (length d.0.0) ++ flat_map cell d.0.0 ++ number n ++ flat_map state g.0.0) steps-is in
    let cells = cells_in_turn 0 d.0.0 t3.2 in
    let is_listing : IsListing made = record {
      rc = t1.1;
      cells = cells.0;
      cell_count = omega (arith, t3.1, t2.1);
      states = states_in_turn 0 g.0.0 t5.2;
      some_state = omega (arith, t5.1);
      state_count = omega (arith, t5.1, t4.1);
    } in
    subst (λ (m : Listing). IsListing m × (bytes ≡ listing_spelling m) × IsRisingFrom 0 m.cells) h.1 (is_listing, whole, cells.1)

-- the fields of a file one after the other
reads : (p b0 b1 b2 b3 b4 : Place) (rc count steps : ℕ) (cells : List (ℕ × ℕ)) (states : List State) (end : ℕ)
    → magic_at p ≡ Ok b0 → word_at b0 ≡ Ok (rc, b1) → number_at b1 ≡ Ok (count, b2) → cells_at 0 count b2 ≡ Ok (cells, b3)
    → steps_at b3 ≡ Ok (steps, b4) → states_at (steps + 1) b4 ≡ Ok (states, record { at = end; rest = [] }) → listing_at p ≡ Ok (record { rc = rc; cells = cells; states = states })
unfolding listing_at
reads p b0 b1 b2 b3 b4 rc count steps cells states end h0 h1 h2 h3 h4 h5 = rw (h0, h1, h2, h3, h4, h5) refl

pub listing_again : (l : Listing) → IsListing l → IsRisingFrom 0 l.cells → listing_at (record { at = 0; rest = listing_spelling l }) ≡ Ok l
listing_again l fits rising =
    let states : List ℕ = flat_map state l.states in
    let b3 : List ℕ = number (length l.states - 1) ++ states in
    let b2 : List ℕ = flat_map cell l.cells ++ b3 in
    let b1 : List ℕ = number (length l.cells) ++ b2 in
    let b0 : List ℕ = number l.rc ++ b1 in
    let regrouped : listing_spelling l ≡ magic ++ b0 = simp append_assoc refl in
    let rc = word_again l.rc fits.rc 8 b1 in
    let count = number_again refusals.Cut (length l.cells) fits.cell_count rc.0 b2 in
    let cells = counted_again cell_at (λ (c : ℕ × ℕ). c.0 + 1) cell IsCellFrom cell_again 0 l.cells (in_turn_cells 0 l.cells fits.cells rising) count.0 b3 in
    let steps = steps_again (length l.states - 1) (omega (arith, fits.state_count, fits.some_state)) cells.0 states in
    let ended = counted_again (λ (_ : ℕ). state_at) (λ (_ : State). 0) state (λ (_ : ℕ). IsState) (λ (_ : ℕ). state_again) 0 l.states (in_turn_states 0 l.states fits.states) steps.0 [] in
    let some : (length l.states - 1) + 1 ≡ length l.states = omega (arith, fits.some_state) in
    let last : states_at ((length l.states - 1) + 1) (record { at = steps.0; rest = states }) ≡ Ok (l.states, record { at = ended.0; rest = [] }) =
    ap (λ (n : ℕ). states_at n (record { at = steps.0; rest = states })) some ∙ (ap (λ (t : List ℕ). states_at (length l.states) (record { at = steps.0; rest = t })) (sym (append-nil states)) ∙ ended.1) in
    ap (λ (bytes : List ℕ). listing_at (record { at = 0; rest = bytes })) regrouped
    ∙ reads _ (record { at = 8; rest = b0 }) _ _ _ _ l.rc (length l.cells) (length l.states - 1) l.cells l.states ended.0 (magic_step 0 b0) rc.1 count.1 cells.1 steps.1 last
