-- Cells without a word, and memories that grow by them alone.
use Rattle.std.proofs.Common.{◌≡◌, ℕ, suc, ◌<◌, ℤ, pos, negsuc, false, eqb, Option, Some, None, IsSome, List, [], ◌∷◌, ◌++◌, refl, sym, ap, ◌∙◌, subst, inl, inr, arith}
use Rattle.std.specs.FinMap.{get, insert, get-insert}
use Rattle.std.specs.Cmp.{nat_cmp_total}
use Rattle.std.specs.List.{AllByRecursion, IsDistinct, Contains}
use Rattle.std.proofs.lemmas.Bool.{cases_eq}
use Rattle.std.proofs.lemmas.Bool.Decides.{nat_tests}
use Rattle.std.proofs.lemmas.List.Elements.{Contains-append_right}
use Rattle.felt64.specs.Field.{modulus, sum, difference, product}
use Rattle.felt64.proofs.FieldLaws.{sum_below, difference_below, product_below}
use Rattle.casm_word.specs.declared.cell_expr.CellExpr.{CellExpr}
use Rattle.casm_word.specs.declared.cell_expr.CellExpr.TheVariants as expr
use Rattle.casm_word.specs.Expressions.{IsExprInField}
use Rattle.ro_machine.specs.Cells.{Cells}
use Rattle.ro_machine.specs.Memory.{IsMemory}
use Rattle.ro_machine.specs.Step.{moved}
use Rattle.casm_steps.specs.Reading.{address, side_by, reading}
use Rattle.casm_steps.proofs.Readings.{both_parts, behind_parts}
use Rattle.frag_fills.specs.Lines.{Gets}
use Rattle.lower_kit.specs.Completing.{IsFree}

all_front : {X : Type 0} (P : X → Type 0) (xs ys : List X) → AllByRecursion P (xs ++ ys) → AllByRecursion P xs
all_front P [] ys all = tt
all_front P (x ∷ xs) ys all = (all.0, all_front P xs ys all.1)

all_behind : {X : Type 0} (P : X → Type 0) (xs ys : List X) → AllByRecursion P (xs ++ ys) → AllByRecursion P ys
all_behind P [] ys all = all
all_behind P (x ∷ xs) ys all = all_behind P xs ys all.1

distinct_front : (xs ys : List ℕ) → IsDistinct eqb (xs ++ ys) → IsDistinct eqb xs
unfolding IsDistinct
distinct_front [] ys distinct = tt
distinct_front (x ∷ xs) ys distinct = (all_front (λ y. eqb x y ≡ false) xs ys distinct.0, distinct_front xs ys distinct.1)

distinct_behind : (xs ys : List ℕ) → IsDistinct eqb (xs ++ ys) → IsDistinct eqb ys
unfolding IsDistinct
distinct_behind [] ys distinct = distinct
distinct_behind (x ∷ xs) ys distinct = distinct_behind xs ys distinct.1

pub free_front : (m : ℕ → Option ℕ) (xs ys : List ℕ) → IsFree m (xs ++ ys) → IsFree m xs
free_front m xs ys free = (all_front (λ a. m a ≡ None) xs ys free.0, distinct_front xs ys free.1)

pub free_behind : (m : ℕ → Option ℕ) (xs ys : List ℕ) → IsFree m (xs ++ ys) → IsFree m ys
free_behind m xs ys free = (all_behind (λ a. m a ≡ None) xs ys free.0, distinct_behind xs ys free.1)

pub first_free : (m : ℕ → Option ℕ) (a : ℕ) (xs : List ℕ) → IsFree m (a ∷ xs) → m a ≡ None
first_free m a xs free = free.0.0

-- where a cell gets a word, each other one stays as it is
other_kept : (m more : Cells) (a w b : ℕ) → Gets m a w more → (a ≡ b → ⊥) → get more b ≡ get m b
other_kept m more a w b gets other =
    let at = get-insert nat_cmp_total m a w b in
    ap (λ cells. get cells b) gets.added ∙ grind (arith, nat_tests, at, other)

differ : (a b : ℕ) → eqb a b ≡ false → a ≡ b → ⊥
differ a b not same = grind (arith, nat_tests, not, same)

all_next : (m more : Cells) (a w : ℕ) (xs : List ℕ) → Gets m a w more → AllByRecursion (λ y. get m y ≡ None) xs → AllByRecursion (λ y. eqb a y ≡ false) xs
    → AllByRecursion (λ y. get more y ≡ None) xs
all_next m more a w [] gets none others = tt
all_next m more a w (x ∷ xs) gets none others =
    (other_kept m more a w x gets (differ a x others.0) ∙ none.0, all_next m more a w xs gets none.1 others.1)

-- the cells behind it stay free
pub free_next : (m more : Cells) (a w : ℕ) (xs : List ℕ) → IsFree (get m) (a ∷ xs) → Gets m a w more → IsFree (get more) xs
unfolding IsDistinct
free_next m more a w xs free gets = (all_next m more a w xs gets free.0.1 free.1.0, free.1.1)

-- the larger memory is in the field as the smaller one is, and has words in none but these cells besides
pub record Grown (m : Cells) (cells : List ℕ) (more : Cells) : Type 0 where
  pub in_field : IsMemory (get m) → IsMemory (get more)
  pub only : (a : ℕ) → get m a ≡ None → IsSome (get more a) → Contains cells a

no_word : (o : Option ℕ) → o ≡ None → IsSome o → ⊥
no_word None none some = cc
no_word (Some w) none some = cc

pub not_grown : (m : Cells) (cells : List ℕ) → Grown m cells m
not_grown m cells = record { in_field = λ h. h; only = λ a none some. absurd (no_word (get m a) none some) }

pub grown_by_one : (m more : Cells) (a w : ℕ) (cells : List ℕ) → Gets m a w more → a < modulus → Contains cells a → Grown m cells more
grown_by_one m more a w cells gets address_small within = record {
  in_field = λ h x n is.
      elim (cases_eq a x) [
        | inl same ↦ (subst (λ y. y < modulus) same address_small, subst (λ v. v < modulus) (word_here x n same is) gets.small)
        | inr other ↦ h x n (sym (other_kept m more a w x gets other) ∙ is)
      ];
  only = λ x none some.
      elim (cases_eq a x) [
        | inl same ↦ subst (λ y. Contains cells y) same within
        | inr other ↦ absurd (no_word (get more x) (other_kept m more a w x gets other ∙ none) some)
      ];
} where
  word_here : (x n : ℕ) → a ≡ x → get more x ≡ Some n → w ≡ n
  word_here x n same is =
      let at = get-insert nat_cmp_total m a w x in
      let here : get (insert m a w) x ≡ Some n = sym (ap (λ cells. get cells x) gets.added) ∙ is in
      let word : get (insert m a w) x ≡ Some w = grind (arith, nat_tests, at, same) in
      let equal : Some w ≡ Some n = sym word ∙ here in cc

pub grown_on : (m more most : Cells) (cells : List ℕ) → Grown m cells more → Grown more cells most → Grown m cells most
grown_on m more most cells first second = record {
  in_field = λ h. second.in_field (first.in_field h);
  only = λ a none some. by_cases a none some (get more a) refl;
} where
  by_cases : (a : ℕ) → get m a ≡ None → IsSome (get most a) → (o : Option ℕ) → get more a ≡ o → Contains cells a
  by_cases a none some None is = second.only a is some
  by_cases a none some (Some w) is = first.only a none (subst (λ o. IsSome o) (sym is) refl)

pub grown_within : (m more : Cells) (cells larger : List ℕ) → ((a : ℕ) → Contains cells a → Contains larger a) → Grown m cells more → Grown m larger more
grown_within m more cells larger within grown = record { in_field = grown.in_field; only = λ a none some. within a (grown.only a none some) }

pub contains_first : (a : ℕ) (xs : List ℕ) → Contains (a ∷ xs) a
contains_first a xs = (0, omega arith, refl)

pub contains_behind : (a b : ℕ) (xs : List ℕ) → Contains xs b → Contains (a ∷ xs) b
contains_behind a b xs h = Contains-append_right (a ∷ []) xs b h

-- addresses and words of the field
pub moved_small : (b : ℕ) (off : ℤ) → moved b off < modulus
moved_small b (pos n) = sum_below b n
moved_small b (negsuc n) = difference_below b (suc n)

pub reading_small : (m : ℕ → Option ℕ) (ap_ fp w : ℕ) (e : CellExpr) → IsMemory m → IsExprInField e → reading m ap_ fp e ≡ Some w → w < modulus
reading_small m ap_ fp w (expr.Cell at) in_field small is = (in_field _ w is).1
reading_small m ap_ fp w (expr.DoubleCell at inner) in_field small is = (in_field _ w (behind_parts m (m (address ap_ fp at)) inner w is).2).1
reading_small m ap_ fp w (expr.Imm n) in_field small is = let same : n ≡ w = cc in subst (λ x. x < modulus) same small
reading_small m ap_ fp w (expr.Sum at s) in_field small is =
    let parts = both_parts sum (m (address ap_ fp at)) (side_by m (address ap_ fp) s) w is in subst (λ x. x < modulus) parts.4 (sum_below parts.0 parts.1)
reading_small m ap_ fp w (expr.Diff at s) in_field small is =
    let parts = both_parts difference (m (address ap_ fp at)) (side_by m (address ap_ fp) s) w is in subst (λ x. x < modulus) parts.4 (difference_below parts.0 parts.1)
reading_small m ap_ fp w (expr.Product at s) in_field small is =
    let parts = both_parts product (m (address ap_ fp at)) (side_by m (address ap_ fp) s) w is in subst (λ x. x < modulus) parts.4 (product_below parts.0 parts.1)
