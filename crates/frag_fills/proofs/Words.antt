-- The words of terms, and of queries, once ap has moved.
use Rattle.std.proofs.Common.{◌≡◌, ℕ, pos, Option, List, refl, ap, ◌∙◌}
use Rattle.std.specs.Option.{option_map}
use Rattle.felt64.specs.Field.{sum, difference, product}
use Rattle.casm_word.specs.declared.cell_expr.CellExpr.{CellExpr}
use Rattle.casm_steps.specs.Reading.{both, behind, side_by}
use Rattle.cell_terms.specs.declared.term.Slot.{Slot}
use Rattle.cell_terms.specs.declared.term.Second.{Second}
use Rattle.cell_terms.specs.declared.term.Second.TheVariants as seconds
use Rattle.cell_terms.specs.declared.term.Term.{Term}
use Rattle.cell_terms.specs.declared.term.Term.TheVariants as terms
use Rattle.cell_terms.specs.Resolving.{argument, place, side_of, resolve}
use Rattle.hint_source.specs.declared.kind.Kind.{Kind}
use Rattle.hint_source.specs.declared.kind.Kind.TheVariants as kind
use Rattle.frag_code.specs.Evaluation.{address_after, word_after}
use Rattle.frag_plan.specs.AtBegin.{slot_at, second_at, at_begin}
use Rattle.frag_plan.specs.Plan.{resolve_ask}
use Rattle.frag_plan.proofs.Bridges.{whole_is, slot_word}
use Rattle.frag_fills.specs.Filling.{with_two, with_three, query_of}

with_two_is : (f : ℕ → ℕ → Kind ℕ) (a b c d : Option ℕ) → a ≡ c → b ≡ d → with_two f a b ≡ with_two f c d
with_two_is f a b c d first second = ap (λ o. with_two f o b) first ∙ ap (with_two f c) second

module _ (m : ℕ → Option ℕ) (a fp : ℕ) (args : List CellExpr) (d : ℕ) where
  second_word : (o : Second) → side_by m (address_after a fp d) (side_of d args o) ≡ second_at m a fp args o
  second_word (seconds.Slot n) = slot_word m a fp args d n
  second_word (seconds.Number k) = refl

  both_word : (f : ℕ → ℕ → ℕ) (n : Slot) (o : Second)
      → both f (m (address_after a fp d (place d args n))) (side_by m (address_after a fp d) (side_of d args o)) ≡ both f (slot_at m a fp args n) (second_at m a fp args o)
  both_word f n o =
      ap (λ x. both f x (side_by m (address_after a fp d) (side_of d args o))) (slot_word m a fp args d n) ∙ ap (both f (slot_at m a fp args n)) (second_word o)

  -- a term's expression has the word that the term reads where the fragment begins
  pub term_word : (t : Term) → word_after m a fp d (resolve d args t) ≡ at_begin m a fp args t
  term_word (terms.Whole i) = whole_is m a fp args d (argument args i)
  term_word (terms.Cell n) = slot_word m a fp args d n
  term_word (terms.Behind n k) = ap (λ o. behind m o (pos k)) (slot_word m a fp args d n)
  term_word (terms.Word k) = refl
  term_word (terms.Add n o) = both_word sum n o
  term_word (terms.Sub n o) = both_word difference n o
  term_word (terms.Mul n o) = both_word product n o

  -- and so does a query of terms
  pub query_word : (q : Kind Term) → query_of (word_after m a fp d) (resolve_ask d args q) ≡ query_of (at_begin m a fp args) q
  query_word (kind.Less x y) = with_two_is kind.Less _ _ _ _ (term_word x) (term_word y)
  query_word (kind.Quotient x y) = with_two_is kind.Quotient _ _ _ _ (term_word x) (term_word y)
  query_word (kind.Remainder x y) = with_two_is kind.Remainder _ _ _ _ (term_word x) (term_word y)
  query_word (kind.High x) = ap (λ o. option_map kind.High o) (term_word x)
  query_word (kind.Low x) = ap (λ o. option_map kind.Low o) (term_word x)
  query_word kind.Fresh = refl
  query_word (kind.Previous log key) = with_two_is kind.Previous _ _ _ _ (term_word log) (term_word key)
  query_word (kind.KeyCount log) = ap (λ o. option_map kind.KeyCount o) (term_word log)
  query_word (kind.KeyAt log i) = with_two_is kind.KeyAt _ _ _ _ (term_word log) (term_word i)
  query_word (kind.FirstAt log key) = with_two_is kind.FirstAt _ _ _ _ (term_word log) (term_word key)
  query_word (kind.NextIn log key index) =
      ap (λ o. with_three kind.NextIn o (word_after m a fp d (resolve d args key)) (word_after m a fp d (resolve d args index))) (term_word log)
      ∙ ap (λ o. with_three kind.NextIn (at_begin m a fp args log) o (word_after m a fp d (resolve d args index))) (term_word key)
      ∙ ap (λ o. with_three kind.NextIn (at_begin m a fp args log) (at_begin m a fp args key) o) (term_word index)
