-- Each stage reads the number that comes next, and the rest is read from the stage behind it.
use Rattle.std.proofs.Common.{◌≡◌, ◌≢◌, ℕ, Bool, true, false, ◌+◌, ◌^◌, ◌<◌, ◌≤◌, ltb, List, [], ◌∷◌, ◌++◌, length, take, Result, Ok, Err, refl, sym, ap, ◌∙◌, append_assoc, add-one, arith}
use Rattle.std.specs.Prelude.{nat_eq}
use Rattle.std.specs.Int.{w64, from_le_bytes}
use Rattle.std.specs.List.{starts_with}
use Rattle.std.proofs.lemmas.Bool.{lt-ltb, le-ltb, ne_eqb}
use Rattle.std.proofs.lemmas.List.{append-nil, take_at, length-append}
use Rattle.std.proofs.lemmas.Bool.Decides.{Decides-eqb}
use Rattle.std.proofs.lemmas.Slice.Eq.{starts_is}
use Rattle.felt64.specs.Field.{modulus}
use Rattle.byte_reading.specs.Reading.{Place, ◌>>=◌, counted}
use Rattle.byte_reading.proofs.ReadingLaws.{number_step}
use Rattle.ro_machine.specs.declared.machine.State.{State}
use Rattle.run_file.specs.declared.refusal.FileRefusal.{FileRefusal}
use Rattle.run_file.specs.declared.refusal.FileRefusal.TheVariants as refusals
use Rattle.run_file.specs.declared.stage.Stage.TheVariants as stages
use Rattle.run_file.specs.declared.stage.Meaning.TheVariants as meanings
use Rattle.run_file.specs.Spelling.{magic, Listing}
use Rattle.run_file.specs.Reading.{magic_at, word_at, address_at, cell_at, cells_at, steps_at, state_at, states_at, ends_at}
use Rattle.run_file.specs.Stages.{with_cells, with_states, from_cells, from_steps, from_states, from_word, from_stage}

pub word_step : (at : ℕ) (number more : List ℕ) → length number ≡ 8 → from_le_bytes w64 number < modulus → word_at (record { at = at; rest = number ++ more }) ≡ Ok (from_le_bytes w64 number, record { at = at + 8; rest = more })
unfolding word_at
word_step at number more len below =
    let passes : ltb (from_le_bytes w64 number) modulus ≡ true = lt-ltb _ _ below in
    rw (number_step refusals.Cut at number more len, passes) refl

pub word_refused : (at : ℕ) (number more : List ℕ) → length number ≡ 8 → modulus ≤ from_le_bytes w64 number → word_at (record { at = at; rest = number ++ more }) ≡ Err (refusals.WordRange at)
unfolding word_at
word_refused at number more len above =
    let fails : ltb (from_le_bytes w64 number) modulus ≡ false = le-ltb _ _ above in
    rw (number_step refusals.Cut at number more len, fails) refl

pub address_step : (least : ℕ) (p q : Place) (address : ℕ) → word_at p ≡ Ok (address, q) → least ≤ address → address_at least p ≡ Ok (address, q)
unfolding address_at
address_step least p q address read le =
    let passes : ltb address least ≡ false = le-ltb _ _ le in
    rw (read, passes) refl

pub address_refused : (least : ℕ) (p q : Place) (address : ℕ) → word_at p ≡ Ok (address, q) → address < least → address_at least p ≡ Err (refusals.Order p.at)
unfolding address_at
address_refused least p q address read lt =
    let fails : ltb address least ≡ true = lt-ltb _ _ lt in
    rw (read, fails) refl

pub address_no_word : (least : ℕ) (p : Place) (e : FileRefusal) → word_at p ≡ Err e → address_at least p ≡ Err e
unfolding address_at
address_no_word least p e read = rw read refl

pub steps_step : (at : ℕ) (number more : List ℕ) → length number ≡ 8 → from_le_bytes w64 number < 2 ^ 32 → steps_at (record { at = at; rest = number ++ more }) ≡ Ok (from_le_bytes w64 number, record { at = at + 8; rest = more })
unfolding steps_at
steps_step at number more len below =
    let passes : ltb (from_le_bytes w64 number) (2 ^ 32) ≡ true = lt-ltb _ _ below in
    rw (number_step refusals.Cut at number more len, passes) refl

pub steps_refused : (at : ℕ) (number more : List ℕ) → length number ≡ 8 → 2 ^ 32 ≤ from_le_bytes w64 number → steps_at (record { at = at; rest = number ++ more }) ≡ Err refusals.StepsAbove
unfolding steps_at
steps_refused at number more len above =
    let fails : ltb (from_le_bytes w64 number) (2 ^ 32) ≡ false = le-ltb _ _ above in
    rw (number_step refusals.Cut at number more len, fails) refl

-- ---- so many cells, and so many states

pub no_cells : (least : ℕ) (l : Listing) (p : Place) → from_cells least 0 l p ≡ from_steps l p
unfolding from_cells counted
no_cells least l p = ap (λ (cells : List (ℕ × ℕ)). from_steps (record { rc = l.rc; cells = cells; states = l.states }) p) (append-nil l.cells)

pub no_states : (l : Listing) (p : Place) → from_states 0 l p ≡ ends_at l p
unfolding from_states counted
no_states l p = ap (λ (states : List State). ends_at (record { rc = l.rc; cells = l.cells; states = states }) p) (append-nil l.states)

-- the parts of a cell, and so many others behind it
abbrev then_word : ℕ × Place → Result ((ℕ × ℕ) × Place) FileRefusal
then_word a = word_at a.1 >>= λ word. Ok ((a.0, word.0), word.1)

abbrev then_cells : ℕ → (ℕ × ℕ) × Place → Result (List (ℕ × ℕ) × Place) FileRefusal
then_cells left c = cells_at (c.0.0 + 1) left c.1 >>= λ xs. Ok (c.0 ∷ xs.0, xs.1)

abbrev then_steps : Listing → List (ℕ × ℕ) × Place → Result Listing FileRefusal
then_steps l cells = from_steps (with_cells l cells.0) cells.1

abbrev from_second : ℕ → Listing → ℕ × Place → Result Listing FileRefusal
from_second left l a = word_at a.1 >>= λ word. from_cells (a.0 + 1) left (with_cells l ((a.0, word.0) ∷ [])) word.1

pub some_cells : (least left : ℕ) (l : Listing) (p : Place) → from_cells least (left + 1) l p ≡ from_stage (stages.Address least left) l p
unfolding from_cells from_stage counted cell_at
some_cells least left l p = rw add-one (first (address_at least p))
  where
    others : (c : ℕ × ℕ) (r : Result (List (ℕ × ℕ) × Place) FileRefusal) → ((r >>= λ xs. Ok (c ∷ xs.0, xs.1)) >>= then_steps l) ≡ (r >>= then_steps (with_cells l (c ∷ [])))
    others c (Ok xs) = ap (λ (cells : List (ℕ × ℕ)). from_steps (record { rc = l.rc; cells = cells; states = l.states }) xs.1) (sym (append_assoc l.cells (c ∷ []) xs.0))
    others c (Err e) = refl

    second : (a : ℕ) (r : Result (ℕ × Place) FileRefusal) → (((r >>= λ word. Ok ((a, word.0), word.1)) >>= then_cells left) >>= then_steps l) ≡ (r >>= λ word. from_cells (a + 1) left (with_cells l ((a, word.0) ∷ [])) word.1)
    second a (Ok w) = others (a, w.0) (cells_at (a + 1) left w.1)
    second a (Err e) = refl

    first : (r : Result (ℕ × Place) FileRefusal) → (((r >>= then_word) >>= then_cells left) >>= then_steps l) ≡ (r >>= from_second left l)
    first (Ok a) = second a.0 (word_at a.1)
    first (Err e) = refl

-- the parts of a state, and so many others behind it
abbrev then_fp : ℕ → ℕ × Place → Result (State × Place) FileRefusal
then_fp pc a = word_at a.1 >>= λ fp. Ok (record { pc = pc; ap = a.0; fp = fp.0 }, fp.1)

abbrev then_ap : ℕ × Place → Result (State × Place) FileRefusal
then_ap pc = word_at pc.1 >>= then_fp pc.0

abbrev then_states : ℕ → State × Place → Result (List State × Place) FileRefusal
then_states left x = states_at left x.1 >>= λ xs. Ok (x.0 ∷ xs.0, xs.1)

abbrev then_ends : Listing → List State × Place → Result Listing FileRefusal
then_ends l states = ends_at (with_states l states.0) states.1

abbrev from_third : ℕ → ℕ → ℕ → Listing → ℕ × Place → Result Listing FileRefusal
from_third pc a left l fp = from_states left (with_states l (record { pc = pc; ap = a; fp = fp.0 } ∷ [])) fp.1

pub some_states : (left : ℕ) (l : Listing) (p : Place) → from_states (left + 1) l p ≡ from_stage (stages.Word (meanings.Pc left)) l p
unfolding from_states from_stage from_word counted state_at
some_states left l p = rw add-one (first (word_at p))
  where
    others : (s : State) (r : Result (List State × Place) FileRefusal) → ((r >>= λ xs. Ok (s ∷ xs.0, xs.1)) >>= then_ends l) ≡ (r >>= then_ends (with_states l (s ∷ [])))
    others s (Ok xs) = ap (λ (states : List State). ends_at (record { rc = l.rc; cells = l.cells; states = states }) xs.1) (sym (append_assoc l.states (s ∷ []) xs.0))
    others s (Err e) = refl

    third : (pc a : ℕ) (r : Result (ℕ × Place) FileRefusal) → (((r >>= λ fp. Ok (record { pc = pc; ap = a; fp = fp.0 }, fp.1)) >>= then_states left) >>= then_ends l) ≡ (r >>= from_third pc a left l)
    third pc a (Ok f) = others (record { pc = pc; ap = a; fp = f.0 }) (states_at left f.1)
    third pc a (Err e) = refl

    second : (pc : ℕ) (r : Result (ℕ × Place) FileRefusal) → (((r >>= then_fp pc) >>= then_states left) >>= then_ends l) ≡ (r >>= λ a. word_at a.1 >>= from_third pc a.0 left l)
    second pc (Ok a) = third pc a.0 (word_at a.1)
    second pc (Err e) = refl

    first : (r : Result (ℕ × Place) FileRefusal) → (((r >>= then_ap) >>= then_states left) >>= then_ends l) ≡ (r >>= λ pc. word_at pc.1 >>= λ a. word_at a.1 >>= from_third pc.0 a.0 left l)
    first (Ok pc) = second pc.0 (word_at pc.1)
    first (Err e) = refl

-- ---- the magic

pub magic_step : (at : ℕ) (more : List ℕ) → magic_at (record { at = at; rest = magic ++ more }) ≡ Ok (record { at = at + 8; rest = more })
unfolding magic_at
magic_step at more = refl

first_eight : (front back more rest : List ℕ) → length front ≡ 8 → length back ≡ 8 → front ++ more ≡ back ++ rest → front ≡ back
first_eight front back more rest front_len back_len same =
    sym (take_at front more 8 front_len) ∙ (ap (take 8) same ∙ take_at back rest 8 back_len)

pub magic_refused : (at : ℕ) (number more : List ℕ) → length number ≡ 8 → number ≢ magic → magic_at (record { at = at; rest = number ++ more }) ≡ Err refusals.Magic
unfolding magic_at
magic_refused at number more len other = rw (not_behind (starts_with nat_eq (number ++ more) magic) refl, not_before (starts_with nat_eq magic (number ++ more)) refl) refl
  where
    not_behind : (b : Bool) → starts_with nat_eq (number ++ more) magic ≡ b → starts_with nat_eq (number ++ more) magic ≡ false
    not_behind true is = absurd (other (first_eight number magic more _ len refl ((starts_is {E = nat_eq} Decides-eqb (number ++ more) magic (starts_with nat_eq (number ++ more) magic) refl).0 is)))
    not_behind false is = is

    not_before : (b : Bool) → starts_with nat_eq magic (number ++ more) ≡ b → starts_with nat_eq magic (number ++ more) ≡ false
    not_before true is = absurd (other (sym (first_eight magic number [] _ refl len (append-nil magic ∙ (starts_is {E = nat_eq} Decides-eqb magic (number ++ more) (starts_with nat_eq magic (number ++ more)) refl).0 is ∙ append_assoc number more _))))
    not_before false is = is

-- ---- the end

pub ends_refused : (l : Listing) (at : ℕ) (number more : List ℕ) → length number ≡ 8 → ends_at l (record { at = at; rest = number ++ more }) ≡ Err (refusals.Extra at)
ends_refused l at number more len = rw (ne_eqb (length (number ++ more)) 0 (λ none. omega (arith, length-append number more))) refl
