-- A field that is read is the field that was written, and what was written is read again.
use Rattle.std.proofs.Common.{◌≡◌, ℕ, ◌+◌, ◌^◌, ◌<◌, ◌≤◌, Bool, true, false, cond, ltb, List, [], ◌∷◌, ◌++◌, length, drop, Result, Ok, Err, refl, ap, subst, ◌∙◌, append_assoc, arith}
use Rattle.std.specs.Prelude.{nat_eq}
use Rattle.std.specs.List.{starts_with, AllByRecursion}
use Rattle.std.proofs.lemmas.Bool.{ltb-true, ltb-false, lt-ltb, le-ltb}
use Rattle.std.proofs.lemmas.Bool.Decides.{Decides-eqb}
use Rattle.std.proofs.lemmas.Slice.Eq.{starts_is}
use Rattle.felt64.specs.Field.{modulus}
use Rattle.byte_reading.specs.Reading.{Place, ◌>>=◌, InTurn}
use Rattle.byte_reading.proofs.ReadingLaws.{IsBytes, IsBytes-drop, bind_ok, guard_ok, guard_passed, ok_is, Takes, Takes-then, Again, number_takes, number_again}
use Rattle.ro_machine.specs.declared.machine.State.{State}
use Rattle.run_file.specs.declared.refusal.FileRefusal.{FileRefusal}
use Rattle.run_file.specs.declared.refusal.FileRefusal.TheVariants as refusals
use Rattle.run_file.specs.Spelling.{magic, number, cell, state, IsCell, IsState}
use Rattle.run_file.specs.Reading.{magic_at, number_at, word_at, address_at, cell_at, steps_at, state_at}
use Rattle.run_file.proofs.Order.{IsRisingFrom}

abbrev done : {A : Type 0} → A → Result A FileRefusal
done x = Ok x

-- ---- the magic

pub magic_takes : (p q : Place) → IsBytes p.rest → magic_at p ≡ Ok q → Takes p magic q
unfolding magic_at
magic_takes p q fits e = test (starts_with nat_eq p.rest magic) refl e
  where
    test : (b : Bool) → starts_with nat_eq p.rest magic ≡ b → cond b (Ok (record { at = p.at + 8; rest = drop 8 p.rest })) (cond (starts_with nat_eq magic p.rest) (Err (refusals.Cut (p.at + length p.rest))) (Err refusals.Magic)) ≡ done q → Takes p magic q
    test true is given =
        let same = ap (λ (r : Place). r.rest) (ok_is {E = FileRefusal} (record { at = p.at + 8; rest = drop 8 p.rest }) q given) in
        record {
          parts = (starts_is {E = nat_eq} Decides-eqb p.rest magic (starts_with nat_eq p.rest magic) refl).0 is ∙ ap (λ (t : List ℕ). magic ++ t) same;
          rest_fits = rw (← same) (IsBytes-drop 8 p.rest fits);
        }
    test false is given = absurd (no_ok (starts_with nat_eq magic p.rest) given)
      where
        no_ok : (b : Bool) → cond b (Err (refusals.Cut (p.at + length p.rest))) (Err refusals.Magic) ≡ done q → ⊥
        no_ok true other = cc
        no_ok false other = cc

-- ---- words and steps

pub word_takes : (p : Place) (x : ℕ × Place) → IsBytes p.rest → word_at p ≡ Ok x → Takes p (number x.0) x.1 × (x.0 < modulus)
unfolding word_at
word_takes p x fits e =
    let a = bind_ok (number_at p) (λ n. cond (ltb n.0 modulus) (Ok n) (Err (refusals.WordRange p.at))) x e in
    let g = guard_passed (ltb a.0.0 modulus) (refusals.WordRange p.at) a.0 x a.2 in
    let t = number_takes refusals.Cut p a.0 fits a.1 in
    let lt : a.0.0 < modulus = ltb-true _ _ g.0 in
    subst (λ (y : ℕ × Place). Takes p (number y.0) y.1 × (y.0 < modulus)) g.1 (t.0, lt)

pub word_again : (n : ℕ) → n < modulus → Again word_at (number n) n
unfolding word_at
word_again n lt at rest =
    let below : ltb n modulus ≡ true = lt-ltb _ _ lt in
    let read = number_again refusals.Cut n (omega arith) at rest in
    (read.0, rw (read.1, below) refl)

pub steps_takes : (p : Place) (x : ℕ × Place) → IsBytes p.rest → steps_at p ≡ Ok x → Takes p (number x.0) x.1 × (x.0 < 2 ^ 32)
unfolding steps_at
steps_takes p x fits e =
    let a = bind_ok (number_at p) (λ n. cond (ltb n.0 (2 ^ 32)) (Ok n) (Err refusals.StepsAbove)) x e in
    let g = guard_passed (ltb a.0.0 (2 ^ 32)) refusals.StepsAbove a.0 x a.2 in
    let t = number_takes refusals.Cut p a.0 fits a.1 in
    let lt : a.0.0 < 2 ^ 32 = ltb-true _ _ g.0 in
    subst (λ (y : ℕ × Place). Takes p (number y.0) y.1 × (y.0 < 2 ^ 32)) g.1 (t.0, lt)

pub steps_again : (n : ℕ) → n < 2 ^ 32 → Again steps_at (number n) n
unfolding steps_at
steps_again n lt at rest =
    let below : ltb n (2 ^ 32) ≡ true = lt-ltb _ _ lt in
    let read = number_again refusals.Cut n (omega arith) at rest in
    (read.0, rw (read.1, below) refl)

-- ---- cells

address_takes : (least : ℕ) (p : Place) (x : ℕ × Place) → IsBytes p.rest → address_at least p ≡ Ok x → Takes p (number x.0) x.1 × (x.0 < modulus) × (least ≤ x.0)
unfolding address_at
address_takes least p x fits e =
    let a = bind_ok (word_at p) (λ n. cond (ltb n.0 least) (Err (refusals.Order p.at)) (Ok n)) x e in
    let g = guard_ok (ltb a.0.0 least) (refusals.Order p.at) a.0 x a.2 in
    let t = word_takes p a.0 fits a.1 in
    let le : least ≤ a.0.0 = ltb-false _ _ g.0 in
    subst (λ (y : ℕ × Place). Takes p (number y.0) y.1 × (y.0 < modulus) × (least ≤ y.0)) g.1 (t.0, t.1, le)

address_again : (least n : ℕ) → n < modulus → least ≤ n → Again (address_at least) (number n) n
unfolding address_at
address_again least n lt le at rest =
    let above : ltb n least ≡ false = le-ltb _ _ le in
    let read = word_again n lt at rest in
    (read.0, rw (read.1, above) refl)

-- a cell that may stand where the addresses are at least this
abbrev pub IsCellFrom : ℕ → ℕ × ℕ → Type 0
IsCellFrom least c = IsCell c × (least ≤ c.0)

pub cell_takes : (least : ℕ) (p : Place) (x : (ℕ × ℕ) × Place) → IsBytes p.rest → cell_at least p ≡ Ok x → Takes p (cell x.0) x.1 × IsCellFrom least x.0
unfolding cell_at
cell_takes least p x fits e =
    let a = bind_ok (address_at least p) (λ address. word_at address.1 >>= λ word. Ok ((address.0, word.0), word.1)) x e in
    let b = bind_ok (word_at a.0.1) (λ word. Ok ((a.0.0, word.0), word.1)) x a.2 in
    let t0 = address_takes least p a.0 fits a.1 in
    let t1 = word_takes a.0.1 b.0 t0.0.rest_fits b.1 in
    let both = Takes-then p (number a.0.0) a.0.1 (number b.0.0) b.0.1 t0.0 t1.0 in
    let made : (ℕ × ℕ) × Place = ((a.0.0, b.0.0), b.0.1) in
    subst (λ (y : (ℕ × ℕ) × Place). Takes p (cell y.0) y.1 × IsCellFrom least y.0) (ok_is {E = FileRefusal} made x b.2) (both, ((t0.1, t1.1), t0.2))

pub cell_again : (least : ℕ) (c : ℕ × ℕ) → IsCellFrom least c → Again (cell_at least) (cell c) c
unfolding cell_at
cell_again least c fits at rest =
    let first = address_again least c.0 fits.0.0 fits.1 at (number c.1 ++ rest) in
    let second = word_again c.1 fits.0.1 first.0 rest in
    (second.0, ap (λ (bytes : List ℕ). cell_at least (record { at = at; rest = bytes })) (append_assoc (number c.0) (number c.1) rest) ∙ rw (first.1, second.1) refl)

-- cells in turn are cells that rise
pub cells_in_turn : (least : ℕ) (cells : List (ℕ × ℕ)) → InTurn IsCellFrom (λ (c : ℕ × ℕ). c.0 + 1) least cells → AllByRecursion IsCell cells × IsRisingFrom least cells
cells_in_turn least [] fits = (tt, tt)
cells_in_turn least (c ∷ cells) fits = let others = cells_in_turn (c.0 + 1) cells fits.1 in ((fits.0.0, others.0), (fits.0.1, others.1))

pub in_turn_cells : (least : ℕ) (cells : List (ℕ × ℕ)) → AllByRecursion IsCell cells → IsRisingFrom least cells → InTurn IsCellFrom (λ (c : ℕ × ℕ). c.0 + 1) least cells
in_turn_cells least [] fits rising = tt
in_turn_cells least (c ∷ cells) fits rising = ((fits.0, rising.0), in_turn_cells (c.0 + 1) cells fits.1 rising.1)

-- ---- states

pub state_takes : (p : Place) (x : State × Place) → IsBytes p.rest → state_at p ≡ Ok x → Takes p (state x.0) x.1 × IsState x.0
unfolding state_at
state_takes p x fits e =
    let a = bind_ok (word_at p) (λ pc. word_at pc.1 >>= λ ap. word_at ap.1 >>= λ fp. Ok (record { pc = pc.0; ap = ap.0; fp = fp.0 }, fp.1)) x e in
    let b = bind_ok (word_at a.0.1) (λ ap. word_at ap.1 >>= λ fp. Ok (record { pc = a.0.0; ap = ap.0; fp = fp.0 }, fp.1)) x a.2 in
    let d = bind_ok (word_at b.0.1) (λ fp. Ok (record { pc = a.0.0; ap = b.0.0; fp = fp.0 }, fp.1)) x b.2 in
    let t0 = word_takes p a.0 fits a.1 in
    let t1 = word_takes a.0.1 b.0 t0.0.rest_fits b.1 in
    let t2 = word_takes b.0.1 d.0 t1.0.rest_fits d.1 in
    let two = Takes-then p (number a.0.0) a.0.1 (number b.0.0) b.0.1 t0.0 t1.0 in
    let three = Takes-then p (number a.0.0 ++ number b.0.0) b.0.1 (number d.0.0) d.0.1 two t2.0 in
    let made : State × Place = (record { pc = a.0.0; ap = b.0.0; fp = d.0.0 }, d.0.1) in
    subst (λ (y : State × Place). Takes p (state y.0) y.1 × IsState y.0) (ok_is {E = FileRefusal} made x d.2) (three, record { pc = t0.1; ap = t1.1; fp = t2.1 })

pub state_again : (s : State) → IsState s → Again state_at (state s) s
unfolding state_at
state_again s fits at rest =
    let first = word_again s.pc fits.pc at (number s.ap ++ (number s.fp ++ rest)) in
    let second = word_again s.ap fits.ap first.0 (number s.fp ++ rest) in
    let third = word_again s.fp fits.fp second.0 rest in
    let regrouped : state s ++ rest ≡ number s.pc ++ (number s.ap ++ (number s.fp ++ rest)) = refl in
    (third.0, ap (λ (bytes : List ℕ). state_at (record { at = at; rest = bytes })) regrouped ∙ rw (first.1, second.1, third.1) refl)

pub states_in_turn : (n : ℕ) (states : List State) → InTurn (λ (_ : ℕ). IsState) (λ (_ : State). 0) n states → AllByRecursion IsState states
states_in_turn n [] fits = tt
states_in_turn n (s ∷ states) fits = (fits.0, states_in_turn 0 states fits.1)

pub in_turn_states : (n : ℕ) (states : List State) → AllByRecursion IsState states → InTurn (λ (_ : ℕ). IsState) (λ (_ : State). 0) n states
in_turn_states n [] fits = tt
in_turn_states n (s ∷ states) fits = (fits.0, in_turn_states 0 states fits.1)
