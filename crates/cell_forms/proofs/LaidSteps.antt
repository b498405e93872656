-- What each step of the laying adds to the words.
use Rattle.std.proofs.Common.{◌≡◌, ℕ, zero, suc, ◌+◌, ◌-◌, ◌<◌, ◌≤◌, List, [], ◌∷◌, ◌++◌, length, replicate, get_or, map, drop, false, Option, Some, None, slice_get, ◌==◌, true, true≢false, refl, sym, ap, ◌∙◌, subst, arith}
use Rattle.std.proofs.lemmas.Bool.{ne_eqb}
use Rattle.std.proofs.Math.Seq.{drop-cons}
use Rattle.std.proofs.lemmas.List.{append_assoc, append-nil}
use Rattle.std.specs.Option.{option_map_or}
use Rattle.type_table.specs.Trees.{parts}
use Rattle.type_table.specs.View.{RowView, tree_at, trees_at}
use Rattle.type_table.specs.declared.type_id.TypeId.{TypeId}
use Rattle.type_trees.specs.Ty.{Ty, size}
use Rattle.std.specs.List.{All}
use Rattle.value_trees.specs.Meant.{meant}
use Rattle.value_trees.specs.Val.{Plain, Vals, WordMap, OpenMap, enum, no_values, values, vals_of}
use Rattle.value_trees.specs.declared.value.Value.{Value}
use Rattle.cell_forms.specs.Laying.{laid, laid_each}

past : (rows : List RowView) (ids : List TypeId) (i : ℕ) → length ids ≤ i → slice_get (trees_at rows ids) i ≡ None
past rows [] i end = refl
past rows (id ∷ ids) zero end = absurd (omega arith)
past rows (id ∷ ids) (suc i) end = past rows ids i (omega arith)

picked : (rows : List RowView) (ids : List TypeId) (i : ℕ) (d : TypeId) → i < length ids → slice_get (trees_at rows ids) i ≡ Some (tree_at rows (get_or ids i d).0)
picked rows [] i d below = absurd (omega arith)
picked rows (id ∷ ids) zero d below = refl
picked rows (id ∷ ids) (suc i) d below = picked rows ids i d (omega arith)

payload_words : Ty → Plain → Option Ty → List ℕ
payload_words ty v o = option_map_or (λ variant. replicate (size ty - (1 + size variant)) 0 ++ laid v variant) o []

-- past the last variant there is no payload
pub laid_alone : (rows : List RowView) (ids : List TypeId) (ty : Ty) (i n : ℕ) (v : Plain) (old new : List ℕ) → trees_at rows ids ≡ parts ty → length ids ≤ i → n ≡ i → new ≡ old ++ (n ∷ [])
    → new ≡ old ++ laid (enum i v) ty
unfolding laid payload_words
laid_alone rows ids ty i n v old new are end same is =
    is ∙ ap (λ k. old ++ (k ∷ [])) same
    ∙ ap (λ o. old ++ (i ∷ payload_words ty v o)) (sym (past rows ids i end) ∙ ap (λ l. slice_get l i) are)

pub laid_enum : (rows : List RowView) (ids : List TypeId) (ty : Ty) (i n : ℕ) (d : TypeId) (v : Plain) (old one two : List ℕ) (count : ℕ) → trees_at rows ids ≡ parts ty → i < length ids → n ≡ i
    → one ≡ old ++ (n ∷ []) → count ≡ size ty - (1 + size (tree_at rows (get_or ids i d).0)) → two ≡ one ++ replicate count 0
    → two ++ laid v (tree_at rows (get_or ids i d).0) ≡ old ++ laid (enum i v) ty
unfolding laid payload_words
laid_enum rows ids ty i n d v old one two count are below same first many second =
    let variant = tree_at rows (get_or ids i d).0 in
    let pad = replicate (size ty - (1 + size variant)) 0 in
    ap (λ l. l ++ laid v variant) (second ∙ ap (λ k. one ++ replicate k 0) many ∙ ap (λ l. l ++ pad) (first ∙ ap (λ k. old ++ (k ∷ [])) same))
    ∙ append_assoc (old ++ (i ∷ [])) pad (laid v variant) ∙ append_assoc old (i ∷ []) (pad ++ laid v variant)
    ∙ ap (λ o. old ++ (i ∷ payload_words ty v o)) (sym (picked rows ids i d below) ∙ ap (λ l. slice_get l i) are)

-- with no type left nothing is laid
pub none_left : (rows : List RowView) (ids : List TypeId) (vs : Vals WordMap OpenMap) (old : List ℕ) → (length ids == 0) ≡ true → old ++ laid_each vs (trees_at rows ids) ≡ old
unfolding laid_each
none_left rows [] no_values old none = append-nil old
none_left rows [] (values v vs) old none = append-nil old
none_left rows (id ∷ ids) vs old none = absurd (true≢false (sym none ∙ ne_eqb (suc (length ids)) 0 (λ z. omega (arith, z))))

-- one value more
pub one_laid : (rows : List RowView) (rest others : List TypeId) (d : TypeId) (vs : List Value) (i : ℕ) (dv : Value) (words new whole : List ℕ) → (length rest == 0) ≡ false → i < length vs → others ≡ drop 1 rest
    → words ++ laid_each (vals_of (map meant (drop i vs))) (trees_at rows rest) ≡ whole → new ≡ words ++ laid (meant (get_or vs i dv)) (tree_at rows (get_or rest 0 d).0)
    → new ++ laid_each (vals_of (map meant (drop (i + 1) vs))) (trees_at rows others) ≡ whole
unfolding laid_each
one_laid rows [] others d vs i dv words new whole some below are so_far is = absurd (true≢false some)
one_laid rows (id ∷ ids) others d vs i dv words new whole some below are so_far is =
    let first = laid (meant (get_or vs i dv)) (tree_at rows id.0) in
    let left = laid_each (vals_of (map meant (drop (i + 1) vs))) (trees_at rows ids) in
    ap (λ l. new ++ laid_each (vals_of (map meant (drop (i + 1) vs))) (trees_at rows l)) are
    ∙ ap (λ l. l ++ left) is ∙ append_assoc words first left
    ∙ ap (λ k. words ++ (first ++ laid_each (vals_of (map meant (drop k vs))) (trees_at rows ids))) (one_more i)
    ∙ ap (λ l. words ++ laid_each (vals_of (map meant l)) (trees_at rows (id ∷ ids))) (sym (drop-cons vs i dv below)) ∙ so_far
  where
    one_more : (n : ℕ) → n + 1 ≡ suc n
    one_more n = omega arith

pub all_behind : (P : TypeId → Type 0) (rest others : List TypeId) → (length rest == 0) ≡ false → others ≡ drop 1 rest → All P rest → All P others
all_behind P [] others some are all = absurd (true≢false some)
all_behind P (id ∷ ids) others some are all = subst (All P) (sym are) (λ k d below. all (suc k) d (omega arith))

-- with no value left nothing is laid
pub all_laid_by : (tys : List Ty) (vs : List Value) (i : ℕ) (old : List ℕ) → length vs ≤ i → old ++ laid_each (vals_of (map meant (drop i vs))) tys ≡ old
unfolding laid_each
all_laid_by tys vs i old end = ap (λ l. old ++ laid_each (vals_of (map meant l)) tys) (none vs i end) ∙ append-nil old
  where
    none : (vs : List Value) (i : ℕ) → length vs ≤ i → drop i vs ≡ []
    none [] zero end = refl
    none [] (suc i) end = refl
    none (v ∷ vs) zero end = absurd (omega arith)
    none (v ∷ vs) (suc i) end = none vs i (omega arith)

-- a word of padding more
pub padded_more : (words new : List ℕ) (word i count : ℕ) (whole : List ℕ) → i < count → word ≡ 0 → new ≡ words ++ (word ∷ []) → words ++ replicate (count - i) 0 ≡ whole
    → new ++ replicate (count - (i + 1)) 0 ≡ whole
padded_more words new word i count whole below is pushed so_far =
    ap (λ l. l ++ replicate (count - (i + 1)) 0) (pushed ∙ ap (λ k. words ++ (k ∷ [])) is)
    ∙ append_assoc words (0 ∷ []) (replicate (count - (i + 1)) 0)
    ∙ ap (λ k. words ++ replicate k 0) (one_fewer below) ∙ so_far
  where
    one_fewer : i < count → suc (count - (i + 1)) ≡ count - i
    one_fewer below = omega (arith, below)
