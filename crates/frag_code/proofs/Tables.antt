-- The places of pieces, and the distances of their jumps.
use Rattle.std.proofs.Common.{◌≡◌, ℕ, zero, suc, ◌+◌, ◌-◌, ◌<◌, ◌≤◌, ◌^◌, Bool, List, [], ◌∷◌, ◌++◌, length, get_or, take, drop, slice_index, nat_lt, nat_le, IsTrue, refl, sym, ap, subst, ◌∙◌, append_assoc, add-one, add-zero, zero-add, length-drop, append-nil, arith}
use Rattle.std.specs.List.{Contains}
use Rattle.std.specs.Option.{option_to_list}
use Rattle.std.proofs.Math.Seq.{drop-cons}
use Rattle.std.proofs.Math.ListN.{drop_of_length-le}
use Rattle.std.proofs.lemmas.List.{take-take, drop-take}
use Rattle.std.proofs.lemmas.List.Elements.{Contains-get_or}
use Rattle.std.proofs.lemmas.List.Sums.{sum_by_more, sum_by-take-drop, sum_by-take-le}
use Rattle.std.proofs.lemmas.Bool.{and_parts, ltb-true, leb-true, false≢true}
use Rattle.frag_code.specs.declared.piece.Piece.{Piece}
use Rattle.frag_code.specs.declared.piece.Piece.TheVariants as piece
use Rattle.casm_word.specs.declared.instr.CellRef.{CellRef}
use Rattle.frag_code.specs.Form.{IsWellFormed, has_jump, shape}
use Rattle.frag_code.specs.Meaning.{AreEntries}
use Rattle.casm_word.specs.declared.instr.Instr.{Instr}
use Rattle.frag_code.specs.declared.emission.HintAt.{HintAt}
use Rattle.frag_code.specs.Emit.{cells_of, code_cells, cells_of_code, instr_of, distance, code_from, hint_of, hints_from}
use Rattle.frag_code.specs.Tables.{places_from, IsLeap, leap_of}
use Rattle.frag_code.proofs.Places.{code_cells-cons, shape_parts, shape_last}

pub drop_next : (ps : List Piece) (i : ℕ) (d : Piece) → i < length ps → drop i ps ≡ get_or ps i d ∷ drop (i + 1) ps
drop_next ps i d within = drop-cons ps i d within ∙ ap (λ n. get_or ps i d ∷ drop n ps) (sym (add-one i))

pub places_step : (jumps : Bool) (place cells i : ℕ) (ps : List Piece) (d : Piece) (places more all : List ℕ) → i < length ps → more ≡ places ++ place ∷ [] → cells ≡ cells_of jumps (get_or ps i d)
    → places ++ places_from jumps place (drop i ps) ≡ all → more ++ places_from jumps (place + cells) (drop (i + 1) ps) ≡ all
places_step jumps place cells i ps d places more all within pushed size so_far =
    let next = drop_next ps i d within in
    rw (pushed, size, append_assoc) (rw next at so_far)

pub cells_step : (jumps : Bool) (place cells i : ℕ) (ps : List Piece) (d : Piece) (all : ℕ) → i < length ps → cells ≡ cells_of jumps (get_or ps i d)
    → place + code_cells jumps (drop i ps) ≡ all → place + cells + code_cells jumps (drop (i + 1) ps) ≡ all
cells_step jumps place cells i ps d all within size left =
    let next = ap (code_cells jumps) (drop_next ps i d within) ∙ code_cells-cons jumps (get_or ps i d) (drop (i + 1) ps) in
    omega (arith, next)

pub places_length : (jumps : Bool) (at : ℕ) (ps : List Piece) → length (places_from jumps at ps) ≡ length ps
places_length jumps at [] = refl
places_length jumps at (p ∷ ps) = ap (λ n. suc n) (places_length jumps (at + cells_of jumps p) ps)

pub places_each : (jumps : Bool) (at : ℕ) (ps : List Piece) (k : ℕ) → k < length ps → slice_index (places_from jumps at ps) k ≡ at + code_cells jumps (take k ps)
places_each jumps at [] k within = absurd (omega (arith, within))
places_each jumps at (p ∷ ps) zero within = sym (add-zero at)
places_each jumps at (p ∷ ps) (suc k) within =
    let rest = places_each jumps (at + cells_of jumps p) ps k (omega (arith, within)) in
    let all = code_cells-cons jumps p (take k ps) in
    omega (arith, rest, all)

-- the shape of the pieces that are left
pub shape_drop : (jumps : Bool) (i : ℕ) (ps : List Piece) (k : ℕ) → k < length ps → IsTrue (shape jumps i ps) → IsTrue (shape jumps (i + k) (drop k ps))
shape_drop jumps i [] k within shaped = absurd (omega (arith, within))
shape_drop jumps i (p ∷ ps) zero within shaped = subst (λ n. IsTrue (shape jumps n (p ∷ ps))) (sym (add-zero i)) shaped
shape_drop jumps i (p ∷ []) (suc k) within shaped = absurd (omega (arith, within))
shape_drop jumps i (p ∷ q ∷ ps) (suc k) within shaped =
    subst (λ n. IsTrue (shape jumps n (drop k (q ∷ ps)))) (omega arith)
    (shape_drop jumps (i + 1) (q ∷ ps) k (omega (arith, within)) (shape_parts jumps i p q ps shaped).1)

-- an IfNonZero names a later position
pub jump_ahead : (jumps : Bool) (i to : ℕ) (c : CellRef) (ps : List Piece) → IsTrue (shape jumps i (piece.IfNonZero c to ∷ ps)) → (i < to) × (to ≤ i + length ps)
jump_ahead jumps i to c [] shaped = absurd (false≢true (shape_last jumps i (piece.IfNonZero c to) shaped))
jump_ahead jumps i to c (q ∷ ps) shaped =
    let placed = and_parts (nat_lt i to) (nat_le to (i + length (q ∷ ps))) ((shape_parts jumps i (piece.IfNonZero c to) q ps shaped).0) in
    (ltb-true i to placed.0, leb-true to (i + length (q ∷ ps)) placed.1)

-- the code before a later position is that before an earlier one, that piece's, and what lies between
pub cells_between : (jumps : Bool) (ps : List Piece) (i to : ℕ) (d : Piece) → i < to → i < length ps
    → code_cells jumps (take to ps) ≡ code_cells jumps (take i ps) + cells_of jumps (get_or ps i d) + code_cells jumps (take (to - (i + 1)) (drop (i + 1) ps))
cells_between jumps ps i to d before within = subst Splits (omega arith) (by_gap (to - (i + 1)))
  where
    Splits : ℕ → Type 0
    Splits n = code_cells jumps (take n ps) ≡ code_cells jumps (take i ps) + cells_of jumps (get_or ps i d) + code_cells jumps (take (to - (i + 1)) (drop (i + 1) ps))

    by_gap : (gap : ℕ) → code_cells jumps (take (i + 1 + gap) ps) ≡ code_cells jumps (take i ps) + cells_of jumps (get_or ps i d) + code_cells jumps (take gap (drop (i + 1) ps))
    by_gap gap =
        let parts = sum_by-take-drop (cells_of jumps) (take (i + 1 + gap) ps) (i + 1) in
        let first = ap (code_cells jumps) (take-take (i + 1) (i + 1 + gap) ps (omega arith)) in
        let behind = ap (code_cells jumps) (drop-take (i + 1) gap ps) in
        let more = sum_by_more (cells_of jumps) ps i d within in
        sym parts ∙ ap (λ n. n + code_cells jumps (drop (i + 1) (take (i + 1 + gap) ps))) (first ∙ more)
        ∙ ap (λ n. code_cells jumps (take i ps) + cells_of jumps (get_or ps i d) + n) behind

-- what `emit` knows of the pieces while it goes through them
pub record Known (jumps : Bool) (f : List Piece) (at : ℕ) (exits : List ℕ) : Type 0 where
  pub shaped : IsTrue (shape jumps 0 f)
  pub small : at + code_cells jumps f ≤ 2 ^ 25
  pub entries : AreEntries f exits

pub known : (jumps : Bool) (whole f : List Piece) (at : ℕ) (exits : List ℕ) → f ≡ whole → jumps ≡ has_jump f → IsWellFormed whole → at + cells_of_code whole ≤ 2 ^ 25 → AreEntries whole exits
    → Known jumps f at exits
known jumps whole f at exits same is well small entries = record {
  shaped = subst (λ b. IsTrue (shape b 0 f)) (sym is) (subst (λ f. IsTrue (shape (has_jump f) 0 f)) (sym same) well.shaped);
  small = subst (λ b. at + code_cells b f ≤ 2 ^ 25) (sym is) (subst (λ f. at + code_cells (has_jump f) f ≤ 2 ^ 25) (sym same) small);
  entries = subst (λ f. AreEntries f exits) (sym same) entries;
}

module _ (jumps : Bool) (f : List Piece) (at : ℕ) (exits : List ℕ) (k : Known jumps f at exits) (i : ℕ) (d : Piece) (within : i < length f) where
  abbrev here : ℕ
  here = at + code_cells jumps (take i f)

  abbrev places : List ℕ
  places = places_from jumps at f

  abbrev behind : List Piece
  behind = drop (i + 1) f

  next_is : (p : Piece) → get_or f i d ≡ p → drop i f ≡ p ∷ behind
  next_is p is = drop_next f i d within ∙ ap (λ p. p ∷ behind) is

  shaped_here : (p : Piece) → get_or f i d ≡ p → IsTrue (shape jumps i (p ∷ behind))
  shaped_here p is = subst (λ ps. IsTrue (shape jumps i ps)) (next_is p is) (subst (λ n. IsTrue (shape jumps n (drop i f))) (zero-add i) (shape_drop jumps 0 f i within k.shaped))

  -- an IfNonZero names a later position of the fragment
  ahead : (c : CellRef) (to : ℕ) → get_or f i d ≡ piece.IfNonZero c to → (i < to) × (to < length f)
  ahead c to is =
      let range = jump_ahead jumps i to c behind (shaped_here (piece.IfNonZero c to) is) in
      let left = length-drop (i + 1) f in
      (range.0, omega (arith, range.1, left))

  place_is : (n : ℕ) → n < length f → slice_index places n ≡ at + code_cells jumps (take n f)
  place_is n n_within = places_each jumps at f n n_within

  before_end : (n : ℕ) → at + code_cells jumps (take n f) ≤ 2 ^ 25
  before_end n = let le = sum_by-take-le (cells_of jumps) f n in let small = k.small in omega (arith, le, small)

  named : (x : ℕ) → get_or f i d ≡ piece.Exit x → Contains f (piece.Exit x)
  named x is = subst (Contains f) is (Contains-get_or f i d within)

  leap_known : (p : Piece) → get_or f i d ≡ p → IsLeap p here places exits
  leap_known (piece.Let e) is = tt
  leap_known (piece.Reserve n) is = tt
  leap_known (piece.Hint c ask) is = tt
  leap_known (piece.Assert c e) is = tt
  leap_known (piece.Range p o c) is = tt
  leap_known (piece.IfNonZero c to) is =
      let range = ahead c to is in
      let long = places_length jumps at f in
      let there = place_is to range.1 in
      let between = cells_between jumps f i to d range.0 within in
      let end = before_end to in
      (omega (arith, range.1, long), omega (arith, there, between), omega (arith, there, end))
  leap_known (piece.Exit x) is = k.entries x (named x is)

  leap_is : (p : Piece) → get_or f i d ≡ p → leap_of p here places exits ≡ distance jumps (slice_index exits) i here p behind
  leap_is (piece.Let e) is = refl
  leap_is (piece.Reserve n) is = refl
  leap_is (piece.Hint c ask) is = refl
  leap_is (piece.Assert c e) is = refl
  leap_is (piece.Range p o c) is = refl
  leap_is (piece.IfNonZero c to) is =
      let range = ahead c to is in
      let there = place_is to range.1 in
      let two : cells_of jumps (get_or f i d) ≡ 2 = ap (cells_of jumps) is in
      let between = cells_between jumps f i to d range.0 within in
      omega (arith, there, two, between)
  leap_is (piece.Exit x) is = refl

  cells_next : at + code_cells jumps (take (i + 1) f) ≡ here + cells_of jumps (get_or f i d)
  cells_next = let more = sum_by_more (cells_of jumps) f i d within in omega (arith, more)

  -- the place that is found in the table
  module _ (table : List ℕ) (is_table : table ≡ places) where
    abbrev place : ℕ
    place = slice_index table i

    is_here : place ≡ here
    is_here = ap (λ ps. slice_index ps i) is_table ∙ place_is i within

    pub is_small : place ≤ 2 ^ 25
    is_small = let end = before_end i in let is = is_here in omega (arith, end, is)

    pub knows_leap : IsLeap (get_or f i d) place table exits
    knows_leap = subst (λ ps. IsLeap (get_or f i d) place ps exits) (sym is_table) (subst (λ n. IsLeap (get_or f i d) n places exits) (sym is_here) (leap_known (get_or f i d) refl))

    leap_here : leap_of (get_or f i d) place table exits ≡ distance jumps (slice_index exits) i here (get_or f i d) behind
    leap_here = ap (λ n. leap_of (get_or f i d) n table exits) is_here ∙ ap (λ ps. leap_of (get_or f i d) here ps exits) is_table ∙ leap_is (get_or f i d) refl

    -- the code so far and that of the pieces that are left is the whole
    pub code_step : (leap : ℕ) (so_far more all : List Instr) → leap ≡ leap_of (get_or f i d) place table exits → more ≡ so_far ++ option_to_list (instr_of jumps leap (get_or f i d))
        → so_far ++ code_from jumps (slice_index exits) i here (drop i f) ≡ all
        → more ++ code_from jumps (slice_index exits) (i + 1) (at + code_cells jumps (take (i + 1) f)) (drop (i + 1) f) ≡ all
    code_step leap so_far more all leap_at added before =
        let next = next_is (get_or f i d) refl in
        rw (added, leap_at, leap_here, append_assoc, cells_next) (rw next at before)

    pub hints_step : (so_far more all : List HintAt) → more ≡ so_far ++ option_to_list (hint_of place (get_or f i d))
        → so_far ++ hints_from jumps here (drop i f) ≡ all
        → more ++ hints_from jumps (at + code_cells jumps (take (i + 1) f)) (drop (i + 1) f) ≡ all
    hints_step so_far more all added before =
        let next = next_is (get_or f i d) refl in
        rw (added, is_here, append_assoc, cells_next) (rw next at before)

-- behind the last piece the code is whole
pub code_end : (jumps : Bool) (exits : ℕ → ℕ) (place i : ℕ) (f : List Piece) (so_far all : List Instr) → length f ≤ i → so_far ++ code_from jumps exits i place (drop i f) ≡ all → so_far ≡ all
code_end jumps exits place i f so_far all past whole =
    let none : drop i f ≡ [] = drop_of_length-le f past in
    sym (append-nil so_far) ∙ rw none at whole
