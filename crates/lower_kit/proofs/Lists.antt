-- What runs of terms read where a fragment begins.
use Rattle.std.proofs.Common.{◌≡◌, ℕ, zero, suc, ◌+◌, ◌<◌, ◌≤◌, pos, Option, Some, List, [], ◌∷◌, map, take, drop, length, replicate, refl, sym, ap, ◌∙◌, arith}
use Rattle.std.specs.List.{range_with_len}
use Rattle.felt64.specs.Field.{sum}
use Rattle.casm_word.specs.declared.cell_expr.CellExpr.{CellExpr}
use Rattle.ro_machine.specs.Readings.{cells_at}
use Rattle.casm_steps.specs.Reading.{behind, reading, readings}
use Rattle.cell_terms.specs.declared.term.Slot.{Slot}
use Rattle.cell_terms.specs.declared.term.Slot.TheVariants as slots
use Rattle.cell_terms.specs.declared.term.Term.{Term}
use Rattle.cell_terms.specs.declared.term.Term.TheVariants as terms
use Rattle.cell_terms.specs.Resolving.{argument}
use Rattle.cost_table.specs.Terms.{further, run, kept, laid, framed, zeros}
use Rattle.frag_plan.specs.AtBegin.{slot_at, at_begin}

module _ (m : ℕ → Option ℕ) (ap_ fp : ℕ) where
  pub readings_long : (args : List CellExpr) → length (readings m ap_ fp args) ≡ length args
  readings_long [] = refl
  readings_long (e ∷ args) = ap suc (readings_long args)

  -- the readings from an argument expression on
  pub from_argument : (args : List CellExpr) (i : ℕ) → i < length args → drop i (readings m ap_ fp args) ≡ reading m ap_ fp (argument args i) ∷ drop (i + 1) (readings m ap_ fp args)
  from_argument [] i few = absurd (omega (arith, few))
  from_argument (e ∷ args) zero few = refl
  from_argument (e ∷ args) (suc i) few =
      let next : suc (i + 1) ≡ suc i + 1 = omega arith in
      from_argument args i (omega (arith, few)) ∙ ap (λ n. reading m ap_ fp (argument args i) ∷ drop n (reading m ap_ fp e ∷ readings m ap_ fp args)) next

  module _ (args : List CellExpr) where
    kept_further : (from k n : ℕ) → from + k + n ≤ length args
        → map (at_begin m ap_ fp args) (map (further (terms.Whole from)) (range_with_len k n)) ≡ take n (drop (from + k) (readings m ap_ fp args))
    kept_further from k zero few = refl
    kept_further from k (suc n) few =
        let next : from + (k + 1) ≡ from + k + 1 = omega arith in
        let rest = kept_further from (k + 1) n (omega (arith, few)) in
        let here = from_argument args (from + k) (omega (arith, few)) in
        ap (λ os. reading m ap_ fp (argument args (from + k)) ∷ os) (rest ∙ ap (λ i. take n (drop i (readings m ap_ fp args))) next)
        ∙ sym (ap (take (suc n)) here)

    -- argument expressions as they are
    pub kept_read : (from n : ℕ) → from + n ≤ length args → map (at_begin m ap_ fp args) (kept from n) ≡ take n (drop from (readings m ap_ fp args))
    kept_read from n few =
        let same : from + 0 ≡ from = omega arith in
        kept_further from 0 n (omega (arith, few)) ∙ ap (λ i. take n (drop i (readings m ap_ fp args))) same

    laid_further : (k n : ℕ) → map (at_begin m ap_ fp args) (map (further (terms.Cell (slots.Own 0))) (range_with_len k n)) ≡ cells_at m ap_ k n
    laid_further k zero = refl
    laid_further k (suc n) =
        let same : 0 + k ≡ k = omega arith in
        ap (λ i. m (sum ap_ i) ∷ map (at_begin m ap_ fp args) (map (further (terms.Cell (slots.Own 0))) (range_with_len (k + 1) n))) same
        ∙ ap (λ os. m (sum ap_ k) ∷ os) (laid_further (k + 1) n)

    -- new cells
    pub laid_read : (n : ℕ) → map (at_begin m ap_ fp args) (laid n) ≡ cells_at m ap_ 0 n
    laid_read n = laid_further 0 n

    framed_further : (from k n : ℕ) → map (at_begin m ap_ fp args) (map (further (terms.Cell (slots.Frame from))) (range_with_len k n)) ≡ cells_at m fp (from + k) n
    framed_further from k zero = refl
    framed_further from k (suc n) =
        let next : from + (k + 1) ≡ from + k + 1 = omega arith in
        ap (λ os. m (sum fp (from + k)) ∷ os) (framed_further from (k + 1) n ∙ ap (λ i. cells_at m fp i n) next)

    -- cells from fp on
    pub framed_read : (from n : ℕ) → map (at_begin m ap_ fp args) (framed from n) ≡ cells_at m fp from n
    framed_read from n =
        let same : from + 0 ≡ from = omega arith in
        framed_further from 0 n ∙ ap (λ i. cells_at m fp i n) same

    zeros_further : (k n : ℕ) → map (at_begin m ap_ fp args) (map (further (terms.Word 0)) (range_with_len k n)) ≡ replicate n (Some 0)
    zeros_further k zero = refl
    zeros_further k (suc n) = ap (λ os. Some 0 ∷ os) (zeros_further (k + 1) n)

    pub zeros_read : (n : ℕ) → map (at_begin m ap_ fp args) (zeros n) ≡ replicate n (Some 0)
    zeros_read n = zeros_further 0 n

    behind_further : (s : Slot) (a k n : ℕ) → slot_at m ap_ fp args s ≡ Some a
        → map (at_begin m ap_ fp args) (map (further (terms.Behind s 0)) (range_with_len k n)) ≡ cells_at m a k n
    behind_further s a k zero is = refl
    behind_further s a k (suc n) is =
        let same : 0 + k ≡ k = omega arith in
        let here : behind m (slot_at m ap_ fp args s) (pos (0 + k)) ≡ m (sum a k) = ap (λ o. behind m o (pos (0 + k))) is ∙ ap (λ i. m (sum a i)) same in
        ap (λ o. o ∷ map (at_begin m ap_ fp args) (map (further (terms.Behind s 0)) (range_with_len (k + 1) n))) here
        ∙ ap (λ os. m (sum a k) ∷ os) (behind_further s a (k + 1) n is)

    -- the cells from the one on to which a cell points
    pub behind_read : (s : Slot) (a n : ℕ) → slot_at m ap_ fp args s ≡ Some a → map (at_begin m ap_ fp args) (run (terms.Behind s 0) n) ≡ cells_at m a 0 n
    behind_read s a n is = behind_further s a 0 n is

further_long : (t : Term) (k n : ℕ) → length (map (further t) (range_with_len k n)) ≡ n
further_long t k zero = refl
further_long t k (suc n) = ap suc (further_long t (k + 1) n)

-- a run has so many terms
pub run_long : (t : Term) (n : ℕ) → length (run t n) ≡ n
run_long t n = further_long t 0 n

pub cells_long : (m : ℕ → Option ℕ) (base k n : ℕ) → length (cells_at m base k n) ≡ n
cells_long m base k zero = refl
cells_long m base k (suc n) = ap suc (cells_long m base (k + 1) n)
