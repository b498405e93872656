-- When arguments have the form and the place that is asked of them.
use Rattle.std.proofs.Common.{◌≡◌, ◌↔◌, ℕ, zero, suc, ◌+◌, ◌-◌, ◌≤◌, ℤ, pos, ◌-ℤ◌, Bool, true, false, cond, ◌&&◌, IsTrue, IsFalse, List, [], ◌∷◌, ◌++◌, length, map, Option, Some, None, option_map, refl, sym, ap, subst, ◌∙◌, arith}
use Rattle.std.specs.List.{All, list_all, range_with_len}
use Rattle.std.specs.Ordering.{int_eq}
use Rattle.std.proofs.lemmas.Int.{ints}
use Rattle.std.proofs.lemmas.Bool.{false≢true, and_parts}
use Rattle.std.proofs.lemmas.Bool.Decides.{Decides-int_eq}
use Rattle.std.proofs.lemmas.List.Elements.{All-nil, All-cons, All-head, All-tail}
use Rattle.std.proofs.lemmas.Option.{none-some, same_Some}
use Rattle.casm_word.specs.declared.instr.Reg.{Reg}
use Rattle.casm_word.specs.declared.instr.Reg.TheVariants as reg
use Rattle.casm_word.specs.declared.cell_expr.At.{At}
use Rattle.casm_word.specs.declared.cell_expr.CellExpr.{CellExpr}
use Rattle.casm_word.specs.declared.cell_expr.CellExpr.TheVariants as expr
use Rattle.cost_table.specs.declared.mark.Mark.{Mark}
use Rattle.cost_table.specs.Marks.{meets_mark}
use Rattle.held_list.specs.Held.{Held}
use Rattle.ap_refs.specs.Arguments.{Cells, Argument, joined, is_ap, is_below, are_below, first_off_top, first_unmarked, is_from_ap, are_free_of_ap, first_from_ap}
use Rattle.ap_refs.specs.Placed.{top, IsOnTop, AreMarked, IsFreeOfAp}

pub cond_none : (b : Bool) (v : ℕ) (later : Option ℕ) → cond b later (Some v) ≡ None → (b ≡ true) × (later ≡ None)
cond_none true v later is = (refl, is)
cond_none false v later is = absurd (none-some v (sym is))

pub none_cond : (b : Bool) (v : ℕ) (later : Option ℕ) → b ≡ true → later ≡ None → cond b later (Some v) ≡ None
none_cond b v later holds none = ap (λ x. cond x later (Some v)) holds ∙ none

-- the stack

and_assoc : (a b c : Bool) → (a && (b && c)) ≡ ((a && b) && c)
and_assoc true b c = refl
and_assoc false b c = refl

below_append : (down : ℕ) (xs ys : Cells) → are_below down (xs ++ ys) ≡ (are_below down xs && are_below (down - length xs) ys)
below_append down [] ys = (let same : down ≡ down - 0 = omega arith in ap (λ d. are_below d ys) same)
below_append down (x ∷ xs) ys =
    let same : (down - 1) - length xs ≡ down - suc (length xs) = omega arith in
    ap (λ b. is_below down x && b) (below_append (down - 1) xs ys ∙ ap (λ d. are_below (down - 1) xs && are_below d ys) same)
    ∙ and_assoc (is_below down x) (are_below (down - 1) xs) (are_below (down - suc (length xs)) ys)

off_below : (down : ℕ) (args : List Argument) → first_off_top down args ≡ None → are_below down (joined args) ≡ true
off_below down [] is = refl
off_below down (x ∷ xs) is =
    let parts = cond_none (are_below down x.1) x.0 (first_off_top (down - length x.1) xs) is in
    below_append down x.1 (joined xs) ∙ ap (λ b. b && are_below (down - length x.1) (joined xs)) parts.0 ∙ off_below (down - length x.1) xs parts.1

below_off : (down : ℕ) (args : List Argument) → are_below down (joined args) ≡ true → first_off_top down args ≡ None
below_off down [] is = refl
below_off down (x ∷ xs) is =
    let parts = and_parts (are_below down x.1) (are_below (down - length x.1) (joined xs)) (sym (below_append down x.1 (joined xs)) ∙ is) in
    none_cond (are_below down x.1) x.0 (first_off_top (down - length x.1) xs) parts.0 (below_off (down - length x.1) xs parts.1)

abbrev top_cell : ℕ → ℕ → CellExpr
top_cell n k = expr.Cell (record { base = reg.Ap; off = pos k -ℤ pos n })

ap_is : (r : Reg) → is_ap r ≡ true → r ≡ reg.Ap
ap_is reg.Ap is = refl
ap_is reg.Fp is = absurd (false≢true is)

below_cell : (n k : ℕ) (c : CellExpr) → k ≤ n → is_below (n - k) c ≡ true → c ≡ top_cell n k
below_cell n k (expr.Cell at) le is =
    let parts = and_parts (is_ap at.base) (int_eq at.off (pos 0 -ℤ pos (n - k))) is in
    let off = (Decides-int_eq at.off (pos 0 -ℤ pos (n - k))).0 parts.1 in
    let same : at.off ≡ pos k -ℤ pos n = omega (arith, ints) in
    ap (λ r. expr.Cell (record { base = r; off = at.off })) (ap_is at.base parts.0) ∙ ap (λ o. expr.Cell (record { base = reg.Ap; off = o })) same
below_cell n k (expr.DoubleCell at inner) le is = absurd (false≢true is)
below_cell n k (expr.Imm w) le is = absurd (false≢true is)
below_cell n k (expr.Sum at s) le is = absurd (false≢true is)
below_cell n k (expr.Diff at s) le is = absurd (false≢true is)
below_cell n k (expr.Product at s) le is = absurd (false≢true is)

cell_below : (n k : ℕ) → k ≤ n → is_below (n - k) (top_cell n k) ≡ true
cell_below n k le =
    let same : pos k -ℤ pos n ≡ pos 0 -ℤ pos (n - k) = omega (arith, ints) in
    (Decides-int_eq (pos k -ℤ pos n) (pos 0 -ℤ pos (n - k))).1 same

below_top : (n k : ℕ) (cells : Cells) → k + length cells ≡ n → are_below (n - k) cells ≡ true → cells ≡ map (top_cell n) (range_with_len k (length cells))
below_top n k [] long is = refl
below_top n k (c ∷ cs) long is =
    let parts = and_parts (is_below (n - k) c) (are_below ((n - k) - 1) cs) is in
    let same : (n - k) - 1 ≡ n - (k + 1) = omega arith in
    let later = below_top n (k + 1) cs (omega (arith, long)) (ap (λ d. are_below d cs) (sym same) ∙ parts.1) in
    ap (λ x. x ∷ cs) (below_cell n k c (omega (arith, long)) parts.0) ∙ ap (λ xs. top_cell n k ∷ xs) later

top_below : (n k m : ℕ) → k + m ≡ n → are_below (n - k) (map (top_cell n) (range_with_len k m)) ≡ true
top_below n k zero long = refl
top_below n k (suc m) long =
    let same : (n - k) - 1 ≡ n - (k + 1) = omega arith in
    ap (λ b. b && are_below ((n - k) - 1) (map (top_cell n) (range_with_len (k + 1) m))) (cell_below n k (omega (arith, long)))
    ∙ ap (λ d. are_below d (map (top_cell n) (range_with_len (k + 1) m))) same ∙ top_below n (k + 1) m (omega (arith, long))

pub on_top : (args : List Argument) → first_off_top (length (joined args)) args ≡ None → IsOnTop (joined args)
on_top args is =
    let n = length (joined args) in
    let same : n - 0 ≡ n = omega arith in
    below_top n 0 (joined args) (omega arith) (ap (λ d. are_below d (joined args)) same ∙ off_below n args is)

pub top_on : (args : List Argument) → IsOnTop (joined args) → first_off_top (length (joined args)) args ≡ None
top_on args is =
    let n = length (joined args) in
    let same : n ≡ n - 0 = omega arith in
    below_off n args (ap (λ d. are_below d (joined args)) same ∙ ap (are_below (n - 0)) is ∙ top_below n 0 n (omega arith))

-- marks

pub marked : (marks : List Mark) (args : List Argument) → first_unmarked marks args ≡ None → AreMarked marks args
marked [] args is = tt
marked (m ∷ ms) [] is = tt
marked (m ∷ ms) (x ∷ xs) is = let parts = cond_none (meets_mark m x.1) x.0 (first_unmarked ms xs) is in (parts.0, marked ms xs parts.1)

pub none_unmarked : (marks : List Mark) (args : List Argument) → AreMarked marks args → first_unmarked marks args ≡ None
none_unmarked [] args are = refl
none_unmarked (m ∷ ms) [] are = refl
none_unmarked (m ∷ ms) (x ∷ xs) are = none_cond (meets_mark m x.1) x.0 (first_unmarked ms xs) are.0 (none_unmarked ms xs are.1)

-- what is left

abbrev IsApart : CellExpr → Type 0
IsApart c = IsFalse (is_from_ap c)

cond_false : (b : Bool) (later : Bool) → cond b false later ≡ true → (b ≡ false) × (later ≡ true)
cond_false true later is = absurd (false≢true is)
cond_false false later is = (refl, is)

free_all : (cells : Cells) → are_free_of_ap cells ≡ true → All IsApart cells
free_all [] is = All-nil IsApart
free_all (c ∷ cs) is = let parts = cond_false (is_from_ap c) (are_free_of_ap cs) is in All-cons IsApart c cs parts.0 (free_all cs parts.1)

all_free : (cells : Cells) → All IsApart cells → are_free_of_ap cells ≡ true
all_free [] all = refl
all_free (c ∷ cs) all = ap (λ b. cond b false (are_free_of_ap cs)) (All-head IsApart c cs all) ∙ all_free cs (All-tail IsApart c cs all)

abbrev IsFree : Argument → Type 0
IsFree x = All IsApart x.1

pub held_free : (held : Held Cells) → first_from_ap held ≡ None → IsFreeOfAp held
held_free [] is = All-nil IsFree
held_free (x ∷ xs) is = let parts = cond_none (are_free_of_ap x.1) x.0 (first_from_ap xs) is in All-cons IsFree x xs (free_all x.1 parts.0) (held_free xs parts.1)

pub free_held : (held : Held Cells) → IsFreeOfAp held → first_from_ap held ≡ None
free_held [] all = refl
free_held (x ∷ xs) all = none_cond (are_free_of_ap x.1) x.0 (first_from_ap xs) (all_free x.1 (All-head IsFree x xs all)) (free_held xs (All-tail IsFree x xs all))
