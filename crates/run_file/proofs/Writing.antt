-- What is written so far, and that a run of words in the field has a spelling.
use Rattle.std.proofs.Common.{◌≡◌, ℕ, ◌+◌, ◌<◌, ◌≤◌, List, [], ◌∷◌, ◌++◌, length, get_or, take, Some, refl, sym, ap, ◌∙◌, append_assoc, arith}
use Rattle.std.specs.List.{flat_map, AllByRecursion}
use Rattle.std.specs.Ordering.{nat_cmp}
use Rattle.std.specs.FinMap.{find, get, get-entries, entries}
use Rattle.std.proofs.lemmas.Bool.Decides.{nat_tests}
use Rattle.std.proofs.lemmas.List.{take_more, append-nil}
use Rattle.std.proofs.lemmas.List.Concat.{flat_map-cons}
use Rattle.std.proofs.lemmas.Grind.{flat_map-append}
use Rattle.ro_machine.specs.Cells.{Cells}
use Rattle.ro_machine.specs.Memory.{IsMemory}
use Rattle.ro_machine.specs.declared.machine.State.{State}
use Rattle.run_file.specs.Spelling.{number, cell, state, IsCell, IsState}
use Rattle.run_file.proofs.Order.{IsRisingFrom, entries_rise}

-- a cell was put, and the others follow
pub cell_put : (before first second target : List ℕ) (address word : ℕ) (cells rest : List (ℕ × ℕ)) → first ≡ before ++ number address → second ≡ first ++ number word → cells ≡ (address, word) ∷ rest → before ++ flat_map cell cells ≡ target → second ++ flat_map cell rest ≡ target
cell_put before first second target address word cells rest one two are so_far =
    rw (two, one) (append_assoc (before ++ number address) (number word) (flat_map cell rest)
    ∙ append_assoc before (number address) (number word ++ flat_map cell rest)
    ∙ ap (λ (t : List ℕ). before ++ t) (sym (append_assoc (number address) (number word) (flat_map cell rest)) ∙ (sym (flat_map-cons cell (address, word) rest) ∙ ap (flat_map cell) (sym are)))
    ∙ so_far)

-- a state was put behind those before it
pub state_put : (start before first second third : List ℕ) (states : List State) (i : ℕ) (s : State) → i < length states → s ≡ get_or states i s → before ≡ start ++ flat_map state (take i states) → first ≡ before ++ number s.pc → second ≡ first ++ number s.ap → third ≡ second ++ number s.fp → third ≡ start ++ flat_map state (take (i + 1) states)
state_put start before first second third states i s within is so_far one two three =
    let longer : take (i + 1) states ≡ take i states ++ s ∷ [] = take_more states i s within ∙ ap (λ (x : State). take i states ++ x ∷ []) (sym is) in
    let last : flat_map state (s ∷ []) ≡ state s = flat_map-cons state s [] ∙ append-nil (state s) in
    rw (three, two, one, so_far, longer, flat_map-append state (take i states) (s ∷ []), last)
    (append_assoc ((start ++ flat_map state (take i states)) ++ number s.pc) (number s.ap) (number s.fp)
    ∙ append_assoc (start ++ flat_map state (take i states)) (number s.pc) (number s.ap ++ number s.fp)
    ∙ append_assoc start (flat_map state (take i states)) (number s.pc ++ (number s.ap ++ number s.fp)))

all_more : (states : List State) (s : State) → AllByRecursion IsState states → IsState s → AllByRecursion IsState (states ++ s ∷ [])
all_more [] s all fits = (fits, tt)
all_more (x ∷ states) s all fits = (all.0, all_more states s all.1 fits)

pub states_fit : (states : List State) (i : ℕ) (s : State) → i < length states → s ≡ get_or states i s → AllByRecursion IsState (take i states) → IsState s → AllByRecursion IsState (take (i + 1) states)
states_fit states i s within is all fits =
    let longer : take (i + 1) states ≡ take i states ++ s ∷ [] = take_more states i s within ∙ ap (λ (x : State). take i states ++ x ∷ []) (sym is) in
    rw longer (all_more (take i states) s all fits)

-- ---- the words of a memory

found_above : (cells : List (ℕ × ℕ)) (least a w : ℕ) → IsRisingFrom least cells → find nat_cmp a cells ≡ Some w → least ≤ a
found_above [] least a w rising is = absurd cc
found_above (c ∷ cells) least a w rising is = grind (arith, nat_tests, found_above cells (c.0 + 1) a w rising.1)

fit_by_find : (cells : List (ℕ × ℕ)) (least : ℕ) → IsRisingFrom least cells → ((a w : ℕ) → find nat_cmp a cells ≡ Some w → IsCell (a, w)) → AllByRecursion IsCell cells
fit_by_find [] least rising fits = tt
fit_by_find (c ∷ cells) least rising fits = (
  fits c.0 c.1 (grind (arith, nat_tests)),
  fit_by_find cells (c.0 + 1) rising.1 (λ a w is. fits a w (let above = found_above cells (c.0 + 1) a w rising.1 is in grind (arith, nat_tests))),
)

pub cells_fit : (m : Cells) → IsMemory (get m) → AllByRecursion IsCell (entries m)
cells_fit m in_field = fit_by_find (entries m) 0 (entries_rise m) (λ a w is. in_field a w (get-entries m a ∙ is))

-- ---- the whole

pub whole : (b0 b1 b2 b3 b4 b5 b6 head rc count cells steps states : List ℕ) → b0 ≡ [] → b1 ≡ b0 ++ head → b2 ≡ b1 ++ rc → b3 ≡ b2 ++ count → b4 ≡ b3 ++ cells → b5 ≡ b4 ++ steps → b6 ≡ b5 ++ states → b6 ≡ head ++ rc ++ count ++ cells ++ steps ++ states
whole b0 b1 b2 b3 b4 b5 b6 head rc count cells steps states e0 e1 e2 e3 e4 e5 e6 = rw (e6, e5, e4, e3, e2, e1, e0) refl
