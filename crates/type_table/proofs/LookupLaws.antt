-- Look-ups by name and by shape.
use Rattle.std.proofs.Common.{◌≡◌, ◌↔◌, ℕ, zero, suc, Bool, true, false, true≢false, cond, List, [], ◌∷◌, map, Some, option_map, slice_get, refl, ap, sym, subst, ◌∙◌}
use Rattle.std.proofs.lemmas.Option.{slice_get-map}
use Rattle.std.proofs.lemmas.Slice.Eq.{bytes_eq-Decides}
use Rattle.std.specs.Map.{lookup}
use Rattle.std.specs.Str.{bytes_eq}
use Rattle.type_trees.specs.declared.num.Num.{Num}
use Rattle.type_trees.specs.declared.num.Num.TheVariants as nums
use Rattle.type_trees.specs.contracts.num.NumPartialEq.TheImpl as num_impl
use Rattle.type_table.specs.contracts.kind.ShapePartialEq.TheImpl as shape_impl
use Rattle.type_table.specs.declared.kind.Shape.{Shape}
use Rattle.type_table.specs.declared.kind.Shape.TheVariants as shapes
use Rattle.type_table.specs.declared.type_id.TypeId.{TypeId}
use Rattle.type_table.specs.Lookups.{found, names_in, found_shape, same_num, same_shape}
use Rattle.type_table.specs.Kept.{AreNumbered}
use Rattle.type_table.proofs.Plain.{none-some, some_is, pair_is}

pub found-lookup : {K : Type 0} (bytes : K → List ℕ) (name : List ℕ) (es : List (K × ℕ))
    → lookup (λ k. bytes_eq name (bytes k)) es ≡ found (map (λ e. (bytes e.0, e.1)) es) name
found-lookup bytes name [] = refl
found-lookup bytes name (e ∷ es) = ap (λ rest. cond (bytes_eq name (bytes e.0)) (Some e.1) rest) (found-lookup bytes name es)

-- the derived comparisons are those of the definitions
pub same_num-derived : (a b : Num) → num_impl.eq-value.it a b ≡ same_num a b
same_num-derived nums.Felt64 nums.Felt64 = refl
same_num-derived nums.U8 nums.U8 = refl
same_num-derived nums.U16 nums.U16 = refl
same_num-derived nums.U32 nums.U32 = refl
same_num-derived _ _ = refl

pub same_shape-derived : (a b : Shape) → shape_impl.eq-value.it a b ≡ same_shape a b
same_shape-derived (shapes.Number a) (shapes.Number b) = same_num-derived a b
same_shape-derived (shapes.NonZero a) (shapes.NonZero b) = same_num-derived a b
same_shape-derived shapes.RangeCheck shapes.RangeCheck = refl
same_shape-derived shapes.GasBuiltin shapes.GasBuiltin = refl
same_shape-derived (shapes.Box a) (shapes.Box b) = refl
same_shape-derived (shapes.Array a) (shapes.Array b) = refl
same_shape-derived (shapes.Snapshot a) (shapes.Snapshot b) = refl
same_shape-derived (shapes.Uninitialized a) (shapes.Uninitialized b) = refl
same_shape-derived (shapes.Dict a) (shapes.Dict b) = same_num-derived a b
same_shape-derived (shapes.DictEntry a) (shapes.DictEntry b) = same_num-derived a b
same_shape-derived (shapes.SquashedDict a) (shapes.SquashedDict b) = same_num-derived a b
same_shape-derived (shapes.Access a) (shapes.Access b) = same_num-derived a b
same_shape-derived _ _ = refl

pub found_shape-lookup : (shape : Shape) (es : List (Shape × TypeId)) → lookup (shape_impl.eq-value.it shape) es ≡ found_shape es shape
found_shape-lookup shape [] = refl
found_shape-lookup shape (e ∷ es) =
    ap (λ b. cond b (Some e.1) (lookup (shape_impl.eq-value.it shape) es)) (same_shape-derived shape e.0)
    ∙ ap (λ rest. cond (same_shape shape e.0) (Some e.1) rest) (found_shape-lookup shape es)

-- what is found is an entry with the name
pub found_at : (es : List (List ℕ × ℕ)) (name : List ℕ) (i : ℕ) → found es name ≡ Some i → (j : ℕ) × (slice_get es j ≡ Some (name, i))
found_at [] name i is = absurd (none-some i is)
found_at (e ∷ es) name i is = by (bytes_eq name e.0) refl (λ rest. found_at es name i rest)
  where
    by : (b : Bool) → bytes_eq name e.0 ≡ b → (found es name ≡ Some i → (j : ℕ) × (slice_get es j ≡ Some (name, i))) → (j : ℕ) × (slice_get (e ∷ es) j ≡ Some (name, i))
    by true same rest =
        let named : name ≡ e.0 = (bytes_eq-Decides name e.0).0 same in
        let got : Some e.1 ≡ Some i = sym (ap (λ b. cond b (Some e.1) (found es name)) same) ∙ is in
        (0, ap Some (pair_is e name i (sym named) (some_is _ _ got)))
    by false other rest =
        let found_rest = rest (sym (ap (λ b. cond b (Some e.1) (found es name)) other) ∙ is) in
        (suc found_rest.0, found_rest.1)

-- a name that an entry has is found
pub found_some : (es : List (List ℕ × ℕ)) (name : List ℕ) (j : ℕ) → slice_get (names_in es) j ≡ Some name → (i : ℕ) × (found es name ≡ Some i)
found_some [] name j is = absurd (none-some name is)
found_some (e ∷ es) name j is = by (bytes_eq name e.0) refl j is (λ k. found_some es name k)
  where
    by : (b : Bool) → bytes_eq name e.0 ≡ b → (j : ℕ) → slice_get (names_in (e ∷ es)) j ≡ Some name → ((k : ℕ) → slice_get (names_in es) k ≡ Some name → (i : ℕ) × (found es name ≡ Some i)) → (i : ℕ) × (found (e ∷ es) name ≡ Some i)
    by true same j is rest = (e.1, ap (λ b. cond b (Some e.1) (found es name)) same)
    by false other zero is rest = absurd (true≢false (sym ((bytes_eq-Decides name e.0).1 (sym (some_is _ _ is))) ∙ other))
    by false other (suc k) is rest =
        let found_rest = rest k is in
        (found_rest.0, ap (λ b. cond b (Some e.1) (found es name)) other ∙ found_rest.1)

-- where each name stands for its place, and stands at one alone, it is found at its place
pub found-numbered : (es : List (List ℕ × ℕ)) → AreNumbered es
    → ((i j : ℕ) (id : List ℕ) → slice_get (names_in es) i ≡ Some id → slice_get (names_in es) j ≡ Some id → i ≡ j)
    → (name : List ℕ) (i : ℕ) → (found es name ≡ Some i) ↔ (slice_get (names_in es) i ≡ Some name)
found-numbered es numbered once name i = (to i, from)
  where
    to : (i : ℕ) → found es name ≡ Some i → slice_get (names_in es) i ≡ Some name
    to i is =
        let at = found_at es name i is in
        let place : i ≡ at.0 = numbered at.0 (name, i) at.1 in
        let there : slice_get (names_in es) at.0 ≡ Some name = slice_get-map (λ e. e.0) es at.0 ∙ ap (λ o. option_map (λ e. e.0) o) at.1 in
        subst (λ k. slice_get (names_in es) k ≡ Some name) (sym place) there

    from : slice_get (names_in es) i ≡ Some name → found es name ≡ Some i
    from here =
        let some = found_some es name i here in
        some.1 ∙ ap Some (once some.0 i name (to some.0 some.1) here)
