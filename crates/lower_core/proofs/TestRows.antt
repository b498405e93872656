-- The pieces of a match are those of its plan.
use Rattle.std.proofs.Common.{◌≡◌, ℕ, zero, suc, ◌+◌, ◌-◌, ◌*◌, if◌then◌else◌, List, [], ◌∷◌, ◌++◌, refl, sym, ap, ◌∙◌, ne_eqb, append_assoc, arith}
use Rattle.std.specs.List.{flat_map, range_with_len}
use Rattle.std.proofs.lemmas.List.{map-id, flat_map_more}
use Rattle.std.proofs.lemmas.List.FromFn.{map-range_with_len_more}
use Rattle.casm_word.specs.declared.cell_expr.CellExpr.{CellExpr}
use Rattle.cell_terms.specs.declared.term.Slot.{Slot}
use Rattle.cell_terms.specs.declared.term.Slot.TheVariants as slots
use Rattle.cell_terms.specs.declared.term.Second.TheVariants as seconds
use Rattle.cell_terms.specs.declared.term.Term.TheVariants as terms
use Rattle.cell_terms.specs.Resolving.{resolve}
use Rattle.frag_code.specs.declared.piece.Piece.{Piece}
use Rattle.frag_code.specs.declared.piece.Piece.TheVariants as piece
use Rattle.frag_plan.specs.Plan.{ref_of, flatten}
use Rattle.lower_core.specs.Data.{matches}
use Rattle.lower_core.specs.Tests.{slot_of, tested, lessened, one_test, all_tests}

next_slot : (i : ℕ) → slot_of (i + 1) ≡ slots.Own i
next_slot i =
    let less : i + 1 - 1 ≡ i = omega arith in
    ap (λ b. if b then slots.Arg 0 else slots.Own (i + 1 - 1)) (ne_eqb (i + 1) 0 (λ h. omega (arith, h))) ∙ ap slots.Own less

-- the last test, with both its exits
abbrev pub last_test : List CellExpr → ℕ → List Piece
last_test args i = piece.IfNonZero (tested args i) (3 * i + 2) ∷ piece.Exit i ∷ piece.Exit (i + 1) ∷ []

module _ (args : List CellExpr) where
  tests_from : (cell : Slot) (i more : ℕ) → slot_of i ≡ cell → flatten args i (3 * i) (matches cell i more) ≡ flat_map (one_test args) (range_with_len i more) ++ last_test args (i + more)
  tests_from cell i zero is =
      let same : i ≡ i + 0 = omega arith in
      let to : 3 * i + 1 + 1 ≡ 3 * i + 2 = omega arith in
      ap (λ s. piece.IfNonZero (ref_of i args s) (3 * i + 1 + 1) ∷ piece.Exit i ∷ piece.Exit (i + 1) ∷ []) (sym is)
      ∙ ap (λ n. piece.IfNonZero (tested args i) n ∷ piece.Exit i ∷ piece.Exit (i + 1) ∷ []) to ∙ ap (last_test args) same
  tests_from cell i (suc more) is =
      let to : 3 * i + 1 + 1 ≡ 3 * i + 2 = omega arith in
      let at : 3 * i + 1 + 1 + 1 ≡ 3 * (i + 1) = omega arith in
      let end : i + 1 + more ≡ i + suc more = omega arith in
      let rest = tests_from (slots.Own i) (i + 1) more (next_slot i) in
      ap (λ s. piece.IfNonZero (ref_of i args s) (3 * i + 1 + 1) ∷ piece.Exit i ∷ piece.Let (resolve i args (terms.Sub s (seconds.Number 1))) ∷ flatten args (i + 1) (3 * i + 1 + 1 + 1) (matches (slots.Own i) (i + 1) more)) (sym is)
      ∙ ap (λ n. piece.IfNonZero (tested args i) n ∷ piece.Exit i ∷ piece.Let (lessened args i) ∷ flatten args (i + 1) (3 * i + 1 + 1 + 1) (matches (slots.Own i) (i + 1) more)) to
      ∙ ap (λ ps. piece.IfNonZero (tested args i) (3 * i + 2) ∷ piece.Exit i ∷ piece.Let (lessened args i) ∷ ps)
      (ap (λ n. flatten args (i + 1) n (matches (slots.Own i) (i + 1) more)) at ∙ rest ∙ ap (λ n. flat_map (one_test args) (range_with_len (i + 1) more) ++ last_test args n) end)

  pub tests_row : (more : ℕ) → flatten args 0 0 (matches (slots.Arg 0) 0 more) ≡ all_tests args more ++ last_test args more
  tests_row more =
      let same : 0 + more ≡ more = omega arith in
      tests_from (slots.Arg 0) 0 more refl ∙ ap (λ n. all_tests args more ++ last_test args n) same

range_more : (i : ℕ) → range_with_len 0 (i + 1) ≡ range_with_len 0 i ++ i ∷ []
range_more i =
    sym (map-id (range_with_len 0 (i + 1))) ∙ map-range_with_len_more (λ x. x) 0 i i (omega arith) ∙ ap (λ xs. xs ++ i ∷ []) (map-id (range_with_len 0 i))

-- three pieces more
pub three_more : (before after_one after_two after_three : List Piece) (a b d a' b' d' : Piece) → after_one ≡ before ++ a ∷ [] → after_two ≡ after_one ++ b ∷ []
    → after_three ≡ after_two ++ d ∷ [] → a ≡ a' → b ≡ b' → d ≡ d' → after_three ≡ before ++ (a' ∷ b' ∷ d' ∷ [])
three_more before after_one after_two after_three a b d a' b' d' one two three is_a is_b is_d =
    let joined : ((before ++ a ∷ []) ++ b ∷ []) ++ d ∷ [] ≡ before ++ (a ∷ b ∷ d ∷ []) = rw (append_assoc, append_assoc) refl in
    three ∙ ap (λ ps. ps ++ d ∷ []) (two ∙ ap (λ ps. ps ++ b ∷ []) one) ∙ joined
    ∙ ap (λ x. before ++ (x ∷ b ∷ d ∷ [])) is_a ∙ ap (λ x. before ++ (a' ∷ x ∷ d ∷ [])) is_b ∙ ap (λ x. before ++ (a' ∷ b' ∷ x ∷ [])) is_d

-- one test more
pub test_more : (args : List CellExpr) (i : ℕ) (before now next : List Piece) → now ≡ before ++ all_tests args i → next ≡ now ++ one_test args i → next ≡ before ++ all_tests args (i + 1)
test_more args i before now next held pushed =
    let joined : (before ++ all_tests args i) ++ one_test args i ≡ before ++ (all_tests args i ++ one_test args i) = rw append_assoc refl in
    pushed ∙ ap (λ ps. ps ++ one_test args i) held ∙ joined
    ∙ ap (λ ps. before ++ ps) (flat_map_more (one_test args) [] (range_with_len 0 i) i ∙ ap (flat_map (one_test args)) (sym (range_more i)))
