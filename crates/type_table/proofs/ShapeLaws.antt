-- Types by shape: a row has the shape of its type, and none other.
use Rattle.std.proofs.Common.{◌≡◌, ◌↔◌, ◌⊎◌, inl, inr, ℕ, suc, ◌+◌, ◌<◌, ◌≤◌, Bool, true, false, true≢false, cond, List, [], ◌∷◌, ◌++◌, map, length, Option, Some, None, option_map, option_and_then, unwrap_or, slice_get, refl, ap, sym, subst, ◌∙◌, arith}
use Rattle.std.specs.Prelude.{codes}
use Rattle.std.specs.List.{All}
use Rattle.std.specs.Option.{option_map_or}
use Rattle.std.proofs.lemmas.Bool.{cases_lt, eqb-true, eq-eqb}
use Rattle.std.proofs.lemmas.List.{length-map}
use Rattle.std.proofs.lemmas.Option.{slice_get-map, slice_get_within, slice_get_past}
use Rattle.std.proofs.lemmas.Slice.Eq.{bytes_eq-Decides}
use Rattle.type_trees.specs.Ty.{Ty, Tys, number, nonzero, range_check, gas_builtin, box, array, snapshot, struct, enum, dict, dict_entry, squashed_dict, uninitialized, storable}
use Rattle.type_trees.specs.declared.num.Num.{Num}
use Rattle.type_trees.specs.declared.num.Num.TheVariants as nums
use Rattle.type_table.specs.declared.kind.Shape.{Shape}
use Rattle.type_table.specs.declared.kind.Shape.TheVariants as shapes
use Rattle.type_table.specs.declared.row.Row.{Row}
use Rattle.type_table.specs.declared.row.Signature.{Signature}
use Rattle.type_table.specs.declared.type_id.TypeId.{TypeId}
use Rattle.type_table.specs.Trees.{kind_of, user_of, listed, parts, IsAllowed}
use Rattle.type_table.specs.View.{RowView, made_of, no_type, joined, tree_within, tree_at, tree_of, trees_of, HasTree, IsRow, IsTable}
use Rattle.type_table.specs.Kept.{row_view, table_view}
use Rattle.type_table.specs.Shapes.{shaped}
use Rattle.type_table.specs.Lookups.{same_num, same_shape, found_shape}
use Rattle.type_table.specs.Shaping.{view_of, AreDistinct, number_of, number_at, one_number, access_of, access_in, is_tuple, shape_of_first, shape_given, shape_of}
use Rattle.type_table.proofs.Plain.{none-some, some_is, cons-nil}
use Rattle.type_table.proofs.Trees.{joined-listed}
use Rattle.type_table.proofs.DecidedLists.{at_below, heads, behind}
use Rattle.type_table.proofs.DecidedRows.{id_of}

-- ---- numbers and shapes that are one

same_num_is : (a b : Num) → same_num a b ≡ true → a ≡ b
same_num_is nums.Felt64 nums.Felt64 e = refl
same_num_is nums.U8 nums.U8 e = refl
same_num_is nums.U16 nums.U16 e = refl
same_num_is nums.U32 nums.U32 e = refl
same_num_is _ _ e = absurd (true≢false (sym e))

same_num_itself : (a : Num) → same_num a a ≡ true
same_num_itself nums.Felt64 = refl
same_num_itself nums.U8 = refl
same_num_itself nums.U16 = refl
same_num_itself nums.U32 = refl

same_id : (a b : TypeId) (made : TypeId → Shape) → a.0 ≡ b.0 → made a ≡ made b
same_id a b made e = ap (λ j. made (id_of j)) e

same_shape_is : (a b : Shape) → same_shape a b ≡ true → a ≡ b
same_shape_is (shapes.Number a) (shapes.Number b) e = ap (λ n. shapes.Number n) (same_num_is a b e)
same_shape_is (shapes.NonZero a) (shapes.NonZero b) e = ap (λ n. shapes.NonZero n) (same_num_is a b e)
same_shape_is shapes.RangeCheck shapes.RangeCheck e = refl
same_shape_is shapes.GasBuiltin shapes.GasBuiltin e = refl
same_shape_is (shapes.Box a) (shapes.Box b) e = same_id a b (λ t. shapes.Box t) (eqb-true a.0 b.0 e)
same_shape_is (shapes.Array a) (shapes.Array b) e = same_id a b (λ t. shapes.Array t) (eqb-true a.0 b.0 e)
same_shape_is (shapes.Snapshot a) (shapes.Snapshot b) e = same_id a b (λ t. shapes.Snapshot t) (eqb-true a.0 b.0 e)
same_shape_is (shapes.Uninitialized a) (shapes.Uninitialized b) e = same_id a b (λ t. shapes.Uninitialized t) (eqb-true a.0 b.0 e)
same_shape_is (shapes.Dict a) (shapes.Dict b) e = ap (λ n. shapes.Dict n) (same_num_is a b e)
same_shape_is (shapes.DictEntry a) (shapes.DictEntry b) e = ap (λ n. shapes.DictEntry n) (same_num_is a b e)
same_shape_is (shapes.SquashedDict a) (shapes.SquashedDict b) e = ap (λ n. shapes.SquashedDict n) (same_num_is a b e)
same_shape_is (shapes.Access a) (shapes.Access b) e = ap (λ n. shapes.Access n) (same_num_is a b e)
same_shape_is _ _ e = absurd (true≢false (sym e))

same_shape_itself : (a : Shape) → same_shape a a ≡ true
same_shape_itself (shapes.Number a) = same_num_itself a
same_shape_itself (shapes.NonZero a) = same_num_itself a
same_shape_itself shapes.RangeCheck = refl
same_shape_itself shapes.GasBuiltin = refl
same_shape_itself (shapes.Box a) = eq-eqb a.0 a.0 refl
same_shape_itself (shapes.Array a) = eq-eqb a.0 a.0 refl
same_shape_itself (shapes.Snapshot a) = eq-eqb a.0 a.0 refl
same_shape_itself (shapes.Uninitialized a) = eq-eqb a.0 a.0 refl
same_shape_itself (shapes.Dict a) = same_num_itself a
same_shape_itself (shapes.DictEntry a) = same_num_itself a
same_shape_itself (shapes.SquashedDict a) = same_num_itself a
same_shape_itself (shapes.Access a) = same_num_itself a

abbrev or_else : Option TypeId → Option TypeId → Option TypeId
or_else None other = other
or_else (Some t) other = Some t

found_shape_push : (es : List (Shape × TypeId)) (s shape : Shape) (t : TypeId) → found_shape (es ++ (shape, t) ∷ []) s ≡ or_else (found_shape es s) (cond (same_shape s shape) (Some t) None)
found_shape_push [] s shape t = refl
found_shape_push (e ∷ es) s shape t = by (same_shape s e.0) (found_shape_push es s shape t)
  where
    by : (b : Bool) → found_shape (es ++ (shape, t) ∷ []) s ≡ or_else (found_shape es s) (cond (same_shape s shape) (Some t) None)
        → cond b (Some e.1) (found_shape (es ++ (shape, t) ∷ []) s) ≡ or_else (cond b (Some e.1) (found_shape es s)) (cond (same_shape s shape) (Some t) None)
    by true rest = refl
    by false rest = rest

-- ---- numbers of an access

number_is : (ty : Ty) (n : Num) → number_of (kind_of ty) ≡ Some n → ty ≡ number n
number_is (number num) n is = ap number (some_is num n is)
number_is _ n is = absurd (none-some n is)

one_number_parts : (a b n : Num) → one_number a b ≡ Some n → (a ≡ n) × (b ≡ n)
one_number_parts a b n is = by (same_num a b) refl
  where
    by : (t : Bool) → same_num a b ≡ t → (a ≡ n) × (b ≡ n)
    by true e =
        let first : a ≡ n = some_is a n (sym (ap (λ t. cond t (Some a) None) e) ∙ is) in
        (first, sym (same_num_is a b e) ∙ first)
    by false e = absurd (none-some n (sym (ap (λ t. cond t (Some a) None) e) ∙ is))

access_parts : (x y z : Option Num) (n : Num) → access_of x y z ≡ Some n → (x ≡ Some nums.Felt64) × (y ≡ Some n) × (z ≡ Some n)
access_parts (Some nums.Felt64) (Some a) (Some b) n is = let same = one_number_parts a b n is in (refl, ap Some same.0, ap Some same.1)
access_parts _ _ _ n is = absurd (none-some n is)

-- no type is past the end
within_past : (m : ℕ) (rows : List RowView) (i : ℕ) → slice_get rows i ≡ None → tree_within (suc m) rows i ≡ no_type
within_past m rows i none = ap (λ o. option_map_or (λ r. made_of r.kind (unwrap_or r.user []) (map (λ t. tree_within m rows t.0) r.members)) o no_type) none

tree_past : (rows : List RowView) (i : ℕ) → length rows ≤ i → tree_at rows i ≡ no_type
unfolding tree_at
tree_past rows i past = within_past 255 rows i (slice_get_past rows i past)

-- the first i types are found by shape
pub record AreFoundBefore (rows : List Row) (i : ℕ) (es : List (Shape × TypeId)) : Type 0 where
  pub found : (shape : Shape) (t : TypeId) → found_shape es shape ≡ Some t → (t.0 < i) × HasTree (view_of rows) t.0 (shaped (view_of rows) shape)
  pub all : (shape : Shape) (t : TypeId) → t.0 < i → HasTree (view_of rows) t.0 (shaped (view_of rows) shape) → found_shape es shape ≡ Some t

pub none_found : (rows : List Row) → AreFoundBefore rows 0 []
none_found rows = record { found = λ shape t is. absurd (none-some t is); all = λ shape t less _. absurd (omega (arith, less)) }

module _ (rows : List Row) (distinct : AreDistinct rows) where
  abbrev IsInside : TypeId → Type 0
  IsInside t = t.0 < length (map row_view rows)

  inside : (t : TypeId) → storable (tree_of (view_of rows) t.0) ≡ true → IsInside t
  inside t stored = by (cases_lt t.0 (length (map row_view rows)))
    where
      by : (t.0 < length (map row_view rows)) ⊎ (length (map row_view rows) ≤ t.0) → IsInside t
      by (inl less) = less
      by (inr past) = absurd (true≢false (sym stored ∙ ap storable (tree_past (map row_view rows) t.0 past)))

  number_here : (t : TypeId) (n : Num) → number_at rows t ≡ Some n → tree_of (view_of rows) t.0 ≡ number n
  number_here t n is = by (slice_get rows t.0) refl
    where
      by : (o : Option Row) → slice_get rows t.0 ≡ o → tree_of (view_of rows) t.0 ≡ number n
      by None e = absurd (none-some n (sym (ap (option_and_then (λ row. number_of row.kind)) e) ∙ is))
      by (Some row) e =
          let number_told : number_of row.kind ≡ Some n = sym (ap (option_and_then (λ r. number_of r.kind)) e) ∙ is in
          number_is (tree_of (view_of rows) t.0) n (ap number_of (sym (distinct.rows_right t.0 row e).kind) ∙ number_told)

  number_found : (t : TypeId) (n : Num) → IsInside t → tree_of (view_of rows) t.0 ≡ number n → number_at rows t ≡ Some n
  number_found t n less tree =
      let (row, here) = at_below rows t.0 (subst (λ m. t.0 < m) (length-map rows row_view) less) in
      ap (option_and_then (λ r. number_of r.kind)) here ∙ ap number_of (distinct.rows_right t.0 row here).kind ∙ ap (λ ty. number_of (kind_of ty)) tree

  access_here : (ms : List TypeId) (n : Num) → access_in rows ms ≡ Some n → trees_of (view_of rows) ms ≡ number nums.Felt64 ∷ number n ∷ number n ∷ []
  access_here [] n is = absurd (none-some n is)
  access_here (key ∷ []) n is = absurd (none-some n is)
  access_here (key ∷ before ∷ []) n is = absurd (none-some n is)
  access_here (key ∷ before ∷ after ∷ []) n is =
      let (first, second, third) = access_parts (number_at rows key) (number_at rows before) (number_at rows after) n is in
      ap (λ ty. ty ∷ tree_of (view_of rows) before.0 ∷ tree_of (view_of rows) after.0 ∷ []) (number_here key nums.Felt64 first)
      ∙ ap (λ ty. number nums.Felt64 ∷ ty ∷ tree_of (view_of rows) after.0 ∷ []) (number_here before n second)
      ∙ ap (λ ty. number nums.Felt64 ∷ number n ∷ ty ∷ []) (number_here after n third)
  access_here (key ∷ before ∷ after ∷ other ∷ more) n is = absurd (none-some n is)

  access_found : (ms : List TypeId) (n : Num) → trees_of (view_of rows) ms ≡ number nums.Felt64 ∷ number n ∷ number n ∷ [] → All IsInside ms → access_in rows ms ≡ Some n
  access_found [] n are below = absurd (omega (arith, ap length are))
  access_found (key ∷ []) n are below = absurd (omega (arith, ap length are))
  access_found (key ∷ before ∷ []) n are below = absurd (omega (arith, ap length are))
  access_found (key ∷ before ∷ after ∷ []) n are below =
      let tree = λ (t : TypeId). tree_of (view_of rows) t.0 in
      let rest : tree before ∷ tree after ∷ [] ≡ number n ∷ number n ∷ [] = ap behind are in
      let last : tree after ∷ [] ≡ number n ∷ [] = ap behind rest in
      ap (λ x. access_of x (number_at rows before) (number_at rows after))
      (number_found key nums.Felt64 (below 0 key (omega arith)) (heads (tree key) (number nums.Felt64) (tree before ∷ tree after ∷ []) (number n ∷ number n ∷ []) are))
      ∙ ap (λ y. access_of (Some nums.Felt64) y (number_at rows after)) (number_found before n (below 1 key (omega arith)) (heads (tree before) (number n) (tree after ∷ []) (number n ∷ []) rest))
      ∙ ap (λ z. access_of (Some nums.Felt64) (Some n) z) (number_found after n (below 2 key (omega arith)) (heads (tree after) (number n) [] [] last))
      ∙ ap (λ b. cond b (Some n) None) (same_num_itself n)
  access_found (key ∷ before ∷ after ∷ other ∷ more) n are below = absurd (omega (arith, ap length are))

  -- ---- a shape that is found is that of the type

  first_here : (made : TypeId → Shape) (wrap : Ty → Ty) (ty : Ty) (ms : List TypeId) → ((t : TypeId) → shaped (view_of rows) (made t) ≡ wrap (tree_of (view_of rows) t.0))
      → trees_of (view_of rows) ms ≡ ty ∷ [] → (shape : Shape) → shape_of_first made ms ≡ Some shape → wrap ty ≡ shaped (view_of rows) shape
  first_here made wrap ty [] makes are shape is = absurd (none-some shape is)
  first_here made wrap ty (t ∷ ts) makes are shape is =
      ap wrap (sym (heads (tree_of (view_of rows) t.0) ty (trees_of (view_of rows) ts) [] are)) ∙ sym (makes t) ∙ ap (shaped (view_of rows)) (some_is (made t) shape is)

  struct_here : (name : List ℕ) (tys : Tys) (user : Option (List ℕ)) (ms : List TypeId) → user ≡ Some name → trees_of (view_of rows) ms ≡ listed tys → (shape : Shape)
      → cond (is_tuple user) (option_map (λ num. shapes.Access num) (access_in rows ms)) None ≡ Some shape → struct name tys ≡ shaped (view_of rows) shape
  struct_here name tys user ms named are shape is = by (is_tuple user) refl
    where
      made : is_tuple user ≡ true → (o : Option Num) → access_in rows ms ≡ o → option_map (λ num. shapes.Access num) o ≡ Some shape → struct name tys ≡ shaped (view_of rows) shape
      made tuple None e gives = absurd (none-some shape gives)
      made tuple (Some n) e gives =
          let name_is : name ≡ codes "Tuple" = (bytes_eq-Decides name (codes "Tuple")).0 (sym (ap is_tuple named) ∙ tuple) in
          ap (λ m. struct m tys) name_is
          ∙ ap (struct (codes "Tuple")) (sym (joined-listed tys) ∙ ap joined (sym are ∙ access_here ms n e))
          ∙ ap (shaped (view_of rows)) (some_is (shapes.Access n) shape gives)

      by : (b : Bool) → is_tuple user ≡ b → struct name tys ≡ shaped (view_of rows) shape
      by true e = made e (access_in rows ms) refl (sym (ap (λ b. cond b (option_map (λ num. shapes.Access num) (access_in rows ms)) None) e) ∙ is)
      by false e = absurd (none-some shape (sym (ap (λ b. cond b (option_map (λ num. shapes.Access num) (access_in rows ms)) None) e) ∙ is))

  given_here : (ty : Ty) (user : Option (List ℕ)) (ms : List TypeId) → user ≡ user_of ty → trees_of (view_of rows) ms ≡ parts ty → (shape : Shape) → shape_given rows (kind_of ty) user ms ≡ Some shape
      → ty ≡ shaped (view_of rows) shape
  given_here (number num) user ms named are shape is = ap (shaped (view_of rows)) (some_is (shapes.Number num) shape is)
  given_here (nonzero num) user ms named are shape is = ap (shaped (view_of rows)) (some_is (shapes.NonZero num) shape is)
  given_here range_check user ms named are shape is = ap (shaped (view_of rows)) (some_is shapes.RangeCheck shape is)
  given_here gas_builtin user ms named are shape is = ap (shaped (view_of rows)) (some_is shapes.GasBuiltin shape is)
  given_here (box ty) user ms named are shape is = first_here (λ t. shapes.Box t) box ty ms (λ t. refl) are shape is
  given_here (array ty) user ms named are shape is = first_here (λ t. shapes.Array t) array ty ms (λ t. refl) are shape is
  given_here (snapshot ty) user ms named are shape is = first_here (λ t. shapes.Snapshot t) snapshot ty ms (λ t. refl) are shape is
  given_here (struct name tys) user ms named are shape is = struct_here name tys user ms named are shape is
  given_here (enum name tys) user ms named are shape is = absurd (none-some shape is)
  given_here (dict num) user ms named are shape is = ap (shaped (view_of rows)) (some_is (shapes.Dict num) shape is)
  given_here (dict_entry num) user ms named are shape is = ap (shaped (view_of rows)) (some_is (shapes.DictEntry num) shape is)
  given_here (squashed_dict num) user ms named are shape is = ap (shaped (view_of rows)) (some_is (shapes.SquashedDict num) shape is)
  given_here (uninitialized ty) user ms named are shape is = first_here (λ t. shapes.Uninitialized t) uninitialized ty ms (λ t. refl) are shape is

  -- ---- the shape of a type is found

  first_found : (made : TypeId → Shape) (ms : List TypeId) (t : TypeId) → trees_of (view_of rows) ms ≡ tree_of (view_of rows) t.0 ∷ [] → All IsInside ms → IsInside t → shape_of_first made ms ≡ Some (made t)
  first_found made [] t are below less = absurd (cons-nil (tree_of (view_of rows) t.0) [] (sym are))
  first_found made (u ∷ us) t are below less =
      ap Some (same_id u t made (distinct.tree_once u.0 t.0 (tree_of (view_of rows) t.0)
      (record { below = below 0 u (omega arith); tree = heads (tree_of (view_of rows) u.0) (tree_of (view_of rows) t.0) (trees_of (view_of rows) us) [] are }) (record { below = less; tree = refl })))

  given_found : (shape : Shape) (user : Option (List ℕ)) (ms : List TypeId) → user ≡ user_of (shaped (view_of rows) shape) → trees_of (view_of rows) ms ≡ parts (shaped (view_of rows) shape)
      → All IsInside ms → IsAllowed (shaped (view_of rows) shape) → shape_given rows (kind_of (shaped (view_of rows) shape)) user ms ≡ Some shape
  given_found (shapes.Number num) user ms named are below allowed = refl
  given_found (shapes.NonZero num) user ms named are below allowed = refl
  given_found shapes.RangeCheck user ms named are below allowed = refl
  given_found shapes.GasBuiltin user ms named are below allowed = refl
  given_found (shapes.Box t) user ms named are below allowed = first_found (λ u. shapes.Box u) ms t are below (inside t allowed.stored)
  given_found (shapes.Array t) user ms named are below allowed = first_found (λ u. shapes.Array u) ms t are below (inside t allowed.stored)
  given_found (shapes.Snapshot t) user ms named are below allowed = first_found (λ u. shapes.Snapshot u) ms t are below (inside t allowed.stored)
  given_found (shapes.Uninitialized t) user ms named are below allowed = first_found (λ u. shapes.Uninitialized u) ms t are below (inside t allowed)
  given_found (shapes.Dict num) user ms named are below allowed = refl
  given_found (shapes.DictEntry num) user ms named are below allowed = refl
  given_found (shapes.SquashedDict num) user ms named are below allowed = refl
  given_found (shapes.Access num) user ms named are below allowed =
      ap (λ b. cond b (option_map (λ n. shapes.Access n) (access_in rows ms)) None) (ap is_tuple named)
      ∙ ap (option_map (λ n. shapes.Access n)) (access_found ms num are below)

  -- ---- one row

  module _ (i : ℕ) (row : Row) (here : slice_get rows i ≡ Some row) where
    shape_here : (shape : Shape) → shape_of rows row ≡ Some shape → tree_of (view_of rows) i ≡ shaped (view_of rows) shape
    shape_here shape is =
        let r = distinct.rows_right i row here in
        given_here (tree_of (view_of rows) i) row.user row.members r.user r.members shape (ap (λ k. shape_given rows k row.user row.members) (sym r.kind) ∙ is)

    shape_found : (shape : Shape) → tree_of (view_of rows) i ≡ shaped (view_of rows) shape → shape_of rows row ≡ Some shape
    shape_found shape tree =
        let r = distinct.rows_right i row here in
        ap (λ k. shape_given rows k row.user row.members) (r.kind ∙ ap kind_of tree)
        ∙ given_found shape row.user row.members (r.user ∙ ap user_of tree) (r.members ∙ ap parts tree) r.below (subst IsAllowed tree r.allowed)

    has_tree : (shape : Shape) → shape_of rows row ≡ Some shape → HasTree (view_of rows) i (shaped (view_of rows) shape)
    has_tree shape is =
        let within = slice_get_within rows i row here in
        record { below = subst (λ m. i < m) (sym (length-map rows row_view)) within; tree = shape_here shape is }

    module _ (es : List (Shape × TypeId)) (so_far : AreFoundBefore rows i es) where
      pub fresh : (shape : Shape) → shape_of rows row ≡ Some shape → found_shape es shape ≡ None
      fresh shape is = by (found_shape es shape) refl
        where
          by : (o : Option TypeId) → found_shape es shape ≡ o → found_shape es shape ≡ None
          by None e = e
          by (Some t) e =
              let (less, tree) = so_far.found shape t e in
              let same = distinct.tree_once t.0 i (shaped (view_of rows) shape) tree (has_tree shape is) in
              absurd (omega (arith, less, same))

      pub one_shape : (shape : Shape) → shape_of rows row ≡ Some shape → AreFoundBefore rows (i + 1) (es ++ (shape, id_of i) ∷ [])
      one_shape shape is = record { found = found; all = all }
        where
          found : (s : Shape) (t : TypeId) → found_shape (es ++ (shape, id_of i) ∷ []) s ≡ Some t → (t.0 < i + 1) × HasTree (view_of rows) t.0 (shaped (view_of rows) s)
          found s t gives = by (found_shape es s) refl (sym (found_shape_push es s shape (id_of i)) ∙ gives)
            where
              last : (b : Bool) → same_shape s shape ≡ b → cond b (Some (id_of i)) None ≡ Some t → (t.0 < i + 1) × HasTree (view_of rows) t.0 (shaped (view_of rows) s)
              last true e image =
                  let at : i ≡ t.0 = ap (λ u. u.0) (some_is (id_of i) t image) in
                  (omega (arith, at), subst (λ k. HasTree (view_of rows) k (shaped (view_of rows) s)) at (subst (λ x. HasTree (view_of rows) i (shaped (view_of rows) x)) (sym (same_shape_is s shape e)) (has_tree shape is)))
              last false e image = absurd (none-some t image)

              by : (o : Option TypeId) → found_shape es s ≡ o → or_else (found_shape es s) (cond (same_shape s shape) (Some (id_of i)) None) ≡ Some t
                  → (t.0 < i + 1) × HasTree (view_of rows) t.0 (shaped (view_of rows) s)
              by None e image = last (same_shape s shape) refl (sym (ap (λ o. or_else o (cond (same_shape s shape) (Some (id_of i)) None)) e) ∙ image)
              by (Some u) e image =
                  let same : u ≡ t = some_is u t (sym (ap (λ o. or_else o (cond (same_shape s shape) (Some (id_of i)) None)) e) ∙ image) in
                  let (less, tree) = so_far.found s t (e ∙ ap Some same) in
                  (omega (arith, less), tree)

          all : (s : Shape) (t : TypeId) → t.0 < i + 1 → HasTree (view_of rows) t.0 (shaped (view_of rows) s) → found_shape (es ++ (shape, id_of i) ∷ []) s ≡ Some t
          all s t less tree = by (cases_lt t.0 i)
            where
              by : (t.0 < i) ⊎ (i ≤ t.0) → found_shape (es ++ (shape, id_of i) ∷ []) s ≡ Some t
              by (inl before) = found_shape_push es s shape (id_of i) ∙ ap (λ o. or_else o (cond (same_shape s shape) (Some (id_of i)) None)) (so_far.all s t before tree)
              by (inr at) =
                  let last : i ≡ t.0 = omega (arith, at, less) in
                  let own : shape_of rows row ≡ Some s = shape_found s (ap (tree_of (view_of rows)) last ∙ tree.tree) in
                  let same : s ≡ shape = some_is s shape (sym own ∙ is) in
                  found_shape_push es s shape (id_of i)
                  ∙ ap (λ o. or_else o (cond (same_shape s shape) (Some (id_of i)) None)) (fresh s own)
                  ∙ ap (λ b. cond b (Some (id_of i)) None) (ap (same_shape s) (sym same) ∙ same_shape_itself s)
                  ∙ ap (λ k. Some (id_of k)) last

      pub no_shape : shape_of rows row ≡ None → AreFoundBefore rows (i + 1) es
      no_shape none = record { found = λ s t gives. let (less, tree) = so_far.found s t gives in (omega (arith, less), tree); all = all }
        where
          all : (s : Shape) (t : TypeId) → t.0 < i + 1 → HasTree (view_of rows) t.0 (shaped (view_of rows) s) → found_shape es s ≡ Some t
          all s t less tree = by (cases_lt t.0 i)
            where
              by : (t.0 < i) ⊎ (i ≤ t.0) → found_shape es s ≡ Some t
              by (inl before) = so_far.all s t before tree
              by (inr at) =
                  let last : i ≡ t.0 = omega (arith, at, less) in
                  absurd (none-some s (sym none ∙ shape_found s (ap (tree_of (view_of rows)) last ∙ tree.tree)))

pub all_found : (rows : List Row) (i : ℕ) (es : List (Shape × TypeId)) → length rows ≤ i → AreFoundBefore rows i es
    → (shape : Shape) (t : TypeId) → (found_shape es shape ≡ Some t) ↔ HasTree (view_of rows) t.0 (shaped (view_of rows) shape)
all_found rows i es long so_far shape t = (λ gives. (so_far.found shape t gives).1, λ tree. so_far.all shape t (omega (arith, tree.below, length-map rows row_view, long)) tree)

-- ---- for the table

module _ (ids : List (List ℕ × ℕ)) (rows : List Row) (function_ids : List (List ℕ × ℕ)) (functions : List Signature) where
  -- the rows of a table are those of types, each at one position alone
  pub distinct_rows : IsTable (table_view ids rows function_ids functions) → AreDistinct rows
  distinct_rows table = record { rows_right = right; tree_once = λ i j ty x y. table.tree_once i j ty (record { below = x.below; tree = x.tree }) (record { below = y.below; tree = y.tree }) }
    where
      right : (i : ℕ) (row : Row) → slice_get rows i ≡ Some row → IsRow (view_of rows) i (row_view row)
      right i row here =
          let r = table.rows_right i (row_view row) (slice_get-map row_view rows i ∙ ap (option_map row_view) here) in
          record {
            kind = r.kind;
            user = r.user;
            members = r.members;
            below = r.below;
            few_members = r.few_members;
            ordinary = r.ordinary;
            allowed = r.allowed;
            few_cells = r.few_cells;
            shallow = r.shallow;
          }

  -- what the index says of the rows it says of the table
  pub shapes_kept : (es : List (Shape × TypeId)) → ((shape : Shape) (t : TypeId) → (found_shape es shape ≡ Some t) ↔ HasTree (view_of rows) t.0 (shaped (view_of rows) shape))
      → (shape : Shape) (t : TypeId) → (found_shape es shape ≡ Some t) ↔ HasTree (table_view ids rows function_ids functions) t.0 (shaped (table_view ids rows function_ids functions) shape)
  shapes_kept es right shape t =
      (λ gives. let has = (right shape t).0 gives in record { below = has.below; tree = has.tree }, λ has. (right shape t).1 (record { below = has.below; tree = has.tree }))
