-- Names and shapes, each with what it stands for.
use Rattle.std.specs.Prelude.{ℕ, ◌≡◌, slice_get, List, [], ◌∷◌, Bool, true, false, ◌==◌, Option, Some, None, if◌then◌else◌, map, bytes_eq}
use Rattle.type_trees.specs.declared.num.Num.{Num}
use Rattle.type_trees.specs.declared.num.Num.TheVariants as nums
use Rattle.type_table.specs.declared.type_id.TypeId.{TypeId}
use Rattle.type_table.specs.declared.kind.Shape.{Shape}
use Rattle.type_table.specs.declared.kind.Shape.TheVariants as shapes

-- what the first entry with this name stands for
abbrev pub found : List (List ℕ × ℕ) → List ℕ → Option ℕ
found [] name = None
found (e ∷ es) name = if bytes_eq name e.0 then Some e.1 else found es name

-- the names in order
abbrev pub names_in : List (List ℕ × ℕ) → List (List ℕ)
names_in es = map (λ e. e.0) es

-- each name stands for its place
abbrev pub AreNumbered : List (List ℕ × ℕ) → Type 0
AreNumbered es = (i : ℕ) (e : List ℕ × ℕ) → slice_get es i ≡ Some e → e.1 ≡ i

abbrev pub same_num : Num → Num → Bool
same_num nums.Felt64 nums.Felt64 = true
same_num nums.U8 nums.U8 = true
same_num nums.U16 nums.U16 = true
same_num nums.U32 nums.U32 = true
same_num _ _ = false

abbrev pub same_shape : Shape → Shape → Bool
same_shape (shapes.Number a) (shapes.Number b) = same_num a b
same_shape (shapes.NonZero a) (shapes.NonZero b) = same_num a b
same_shape shapes.RangeCheck shapes.RangeCheck = true
same_shape shapes.GasBuiltin shapes.GasBuiltin = true
same_shape (shapes.Box a) (shapes.Box b) = a.0 == b.0
same_shape (shapes.Array a) (shapes.Array b) = a.0 == b.0
same_shape (shapes.Snapshot a) (shapes.Snapshot b) = a.0 == b.0
same_shape (shapes.Uninitialized a) (shapes.Uninitialized b) = a.0 == b.0
same_shape (shapes.Dict a) (shapes.Dict b) = same_num a b
same_shape (shapes.DictEntry a) (shapes.DictEntry b) = same_num a b
same_shape (shapes.SquashedDict a) (shapes.SquashedDict b) = same_num a b
same_shape (shapes.Access a) (shapes.Access b) = same_num a b
same_shape _ _ = false

-- the type of the first entry with this shape
abbrev pub found_shape : List (Shape × TypeId) → Shape → Option TypeId
found_shape [] shape = None
found_shape (e ∷ es) shape = if same_shape shape e.0 then Some e.1 else found_shape es shape
