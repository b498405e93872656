-- A walk over the cells in order of address.
use Rattle.std.proofs.Common.{◌≡◌, ℕ, zero, suc, ◌+◌, ◌<◌, List, [], ◌∷◌, ◌++◌, length, get_or, refl, sym, ap, subst, ◌∙◌, arith, drop}
use Rattle.std.proofs.Math.Seq.{drop-cons, drop-append_seam}
use Rattle.felt64.specs.Field.{modulus}
use Rattle.ro_machine.specs.Stretches.{Stretch, words_of, end_of, numbered, cells_of, cells_from, IsInFirst, IsWalk}
use Rattle.ro_machine.proofs.Lookups.{apart_wider}
use Rattle.ro_machine.proofs.Order.{length-numbered, length-cells_of, apart_bound}

-- a walk over the cells

get_or-numbered : (a : ℕ) (ws : List ℕ) (cells : List (ℕ × ℕ)) (i : ℕ) (d : ℕ × ℕ) → i < length ws → get_or (numbered a ws ++ cells) i d ≡ (a + i, get_or ws i 0)
get_or-numbered a [] cells i d lt = absurd (omega arith)
get_or-numbered a (w ∷ ws) cells zero d lt = ap (λ n. (n, w)) {x = a} {y = a + 0} (omega arith)
get_or-numbered a (w ∷ ws) cells (suc i) d lt = get_or-numbered (a + 1) ws cells i d (omega arith) ∙ ap (λ n. (n, get_or ws i 0)) {x = a + 1 + i} {y = a + suc i} (omega arith)

pub walk_bound : (i : ℕ) (ss rest : List Stretch) (s : Stretch) → ss ≡ s ∷ rest → IsWalk i ss → s.start + i < modulus
walk_bound i ss rest s is walk =
    let there = subst (IsWalk i) is walk in
    omega (arith, there.inside, apart_bound rest (end_of s) there.apart.2)

first_offset : (ss : List Stretch) → IsInFirst 0 ss
first_offset [] = refl
first_offset (s ∷ ss) = omega arith

pub next_walk : (i : ℕ) (ss rest : List Stretch) (s : Stretch) → ss ≡ s ∷ rest → IsWalk i ss → IsWalk 0 rest
next_walk i ss rest s is walk =
    let there = subst (IsWalk i) is walk in
    record { apart = apart_wider rest 0 (end_of s) (omega arith) there.apart.2; inside = first_offset rest }

pub walk_cell : (i : ℕ) (ss rest : List Stretch) (s : Stretch) (cell : ℕ × ℕ) → ss ≡ s ∷ rest → IsWalk i ss → cell ≡ (s.start + i, get_or (words_of s) i 0) → cells_from i ss ≡ cell ∷ cells_from (i + 1) ss
walk_cell i ss rest s cell is walk read =
    let there = subst (IsWalk i) is walk in
    let within : i < length (cells_of (s ∷ rest)) = omega (arith, there.inside, length-cells_of s rest) in
    let here = get_or-numbered s.start (words_of s) (cells_of rest) i (0, 0) (omega (arith, there.inside)) in
    subst (λ ss. cells_from i ss ≡ cell ∷ cells_from (i + 1) ss) (sym is)
    (drop-cons (cells_of (s ∷ rest)) i (0, 0) within
    ∙ ap (λ (c : ℕ × ℕ). c ∷ drop (suc i) (cells_of (s ∷ rest))) (here ∙ sym read)
    ∙ ap (λ n. cell ∷ drop n (cells_of (s ∷ rest))) {x = suc i} {y = i + 1} (omega arith))

pub walk_last : (i : ℕ) (ss rest : List Stretch) (s : Stretch) → ss ≡ s ∷ rest → i ≡ length s.others → cells_from (i + 1) ss ≡ cells_from 0 rest
walk_last i ss rest s is last =
    ap (cells_from (i + 1)) is
    ∙ ap (λ n. drop n (cells_of (s ∷ rest))) {x = i + 1} {y = length (numbered s.start (words_of s))} (omega (arith, last, length-numbered s.start (words_of s)))
    ∙ drop-append_seam (numbered s.start (words_of s)) (cells_of rest)
