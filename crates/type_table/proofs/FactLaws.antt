-- The facts that the code computes of a type are those of its tree.
use Rattle.std.proofs.Common.{◌≡◌, ℕ, ◌+◌, ◌≤◌, max, List, [], ◌∷◌, map, refl, ap, ◌∙◌, arith}
use Rattle.std.specs.Prelude.{fold, ◌&&◌, ◌||◌}
use Rattle.std.specs.List.{list_all, list_any}
use Rattle.type_trees.specs.Ty as trees
use Rattle.type_trees.specs.Ty.{Ty, Tys, struct, enum, box, array, snapshot, uninitialized}
use Rattle.type_table.specs.declared.kind.TypeKind.TheVariants as kinds
use Rattle.type_table.specs.IsType.{most_cells, most_depth}
use Rattle.type_table.specs.View.{joined}
use Rattle.type_table.specs.Facts.{capped, facts_of, total_size, greatest_size, greatest_depth, together, variants, wrapped}

-- a sum and a maximum may be capped at any time
cap_sum : (limit a s r : ℕ) → capped limit (capped limit (a + capped limit s) + r) ≡ capped limit (a + (s + r))
cap_sum limit a s r = omega arith

cap_start : (limit a : ℕ) → a ≤ limit + 1 → a ≡ capped limit (a + 0)
cap_start limit a few = omega arith

cap_max : (limit a s g : ℕ) → max (max a (capped limit s)) (capped limit g) ≡ max a (capped limit (max s g))
cap_max limit a s g = omega arith

cap_more : (limit n : ℕ) → capped limit (1 + capped limit n) ≡ capped limit (1 + n)
cap_more limit n = omega arith

cap_below : (limit n : ℕ) → capped limit n ≤ limit + 1
cap_below limit n = omega arith

sum_from : (a : ℕ) (ts : List Ty) → a ≤ most_cells + 1 → fold (λ sum part. capped most_cells (sum + part.size)) a (map facts_of ts) ≡ capped most_cells (a + trees.size_together (joined ts))
sum_from a [] few = cap_start most_cells a few
sum_from a (t ∷ ts) few =
    sum_from (capped most_cells (a + capped most_cells (trees.size t))) ts (cap_below most_cells (a + capped most_cells (trees.size t)))
    ∙ cap_sum most_cells a (trees.size t) (trees.size_together (joined ts))

sizes_from : (a : ℕ) (ts : List Ty) → fold (λ most part. max most part.size) a (map facts_of ts) ≡ max a (capped most_cells (trees.greatest_size (joined ts)))
sizes_from a [] = omega arith
sizes_from a (t ∷ ts) = sizes_from (max a (capped most_cells (trees.size t))) ts ∙ cap_max most_cells a (trees.size t) (trees.greatest_size (joined ts))

depths_from : (a : ℕ) (ts : List Ty) → fold (λ most part. max most part.depth) a (map facts_of ts) ≡ max a (capped most_depth (trees.greatest_depth (joined ts)))
depths_from a [] = omega arith
depths_from a (t ∷ ts) = depths_from (max a (capped most_depth (trees.depth t))) ts ∙ cap_max most_depth a (trees.depth t) (trees.greatest_depth (joined ts))

max_zero : (n : ℕ) → max 0 n ≡ n
max_zero n = omega arith

size_of : (ts : List Ty) → total_size (map facts_of ts) ≡ capped most_cells (trees.size_together (joined ts))
size_of ts = sum_from 0 ts (omega arith) ∙ ap (capped most_cells) (omega arith)

greatest_of : (ts : List Ty) → capped most_cells (1 + greatest_size (map facts_of ts)) ≡ capped most_cells (1 + trees.greatest_size (joined ts))
greatest_of ts = ap (λ n. capped most_cells (1 + n)) (sizes_from 0 ts ∙ max_zero (capped most_cells (trees.greatest_size (joined ts)))) ∙ cap_more most_cells (trees.greatest_size (joined ts))

depth_of : (ts : List Ty) → capped most_depth (1 + greatest_depth (map facts_of ts)) ≡ capped most_depth (1 + trees.greatest_depth (joined ts))
depth_of ts = ap (λ n. capped most_depth (1 + n)) (depths_from 0 ts ∙ max_zero (capped most_depth (trees.greatest_depth (joined ts)))) ∙ cap_more most_depth (trees.greatest_depth (joined ts))

storable_of : (ts : List Ty) → list_all (λ part. part.storable) (map facts_of ts) ≡ trees.all_storable (joined ts)
storable_of [] = refl
storable_of (t ∷ ts) = ap (λ b. trees.storable t && b) (storable_of ts)

drop_of : (ts : List Ty) → list_all (λ part. part.drop) (map facts_of ts) ≡ trees.all_droppable (joined ts)
drop_of [] = refl
drop_of (t ∷ ts) = ap (λ b. trees.droppable t && b) (drop_of ts)

dup_of : (ts : List Ty) → list_all (λ part. part.dup) (map facts_of ts) ≡ trees.all_duplicable (joined ts)
dup_of [] = refl
dup_of (t ∷ ts) = ap (λ b. trees.duplicable t && b) (dup_of ts)

dict_of : (ts : List Ty) → list_any (λ part. part.holds_dict) (map facts_of ts) ≡ trees.any_holds_dict (joined ts)
dict_of [] = refl
dict_of (t ∷ ts) = ap (λ b. trees.holds_dict t || b) (dict_of ts)

array_of : (ts : List Ty) → list_any (λ part. part.holds_array) (map facts_of ts) ≡ trees.any_holds_array (joined ts)
array_of [] = refl
array_of (t ∷ ts) = ap (λ b. trees.holds_array t || b) (array_of ts)

plain_of : (ts : List Ty) → list_all (λ part. part.plain) (map facts_of ts) ≡ trees.all_plain (joined ts)
plain_of [] = refl
plain_of (t ∷ ts) = ap (λ b. trees.is_plain t && b) (plain_of ts)

pub struct_facts : (name : List ℕ) (ts : List Ty) → together (map facts_of ts) ≡ facts_of (struct name (joined ts))
struct_facts name ts = λ i. record {
  size = size_of ts i;
  storable = storable_of ts i;
  drop = drop_of ts i;
  dup = dup_of ts i;
  holds_dict = dict_of ts i;
  depth = depth_of ts i;
  holds_array = array_of ts i;
  plain = plain_of ts i;
}

pub enum_facts : (name : List ℕ) (ts : List Ty) → variants (map facts_of ts) ≡ facts_of (enum name (joined ts))
enum_facts name ts = λ i. record {
  size = greatest_of ts i;
  storable = storable_of ts i;
  drop = drop_of ts i;
  dup = dup_of ts i;
  holds_dict = dict_of ts i;
  depth = depth_of ts i;
  holds_array = array_of ts i;
  plain = plain_of ts i;
}

deeper_of : (ty : Ty) → capped most_depth (1 + (facts_of ty).depth) ≡ capped most_depth (1 + trees.depth ty)
deeper_of ty = cap_more most_depth (trees.depth ty)

pub box_facts : (ty : Ty) → wrapped kinds.Box (facts_of ty) ≡ facts_of (box ty)
box_facts ty = λ i. record (facts_of (box ty)) { depth = deeper_of ty i }

pub array_facts : (ty : Ty) → wrapped kinds.Array (facts_of ty) ≡ facts_of (array ty)
array_facts ty = λ i. record (facts_of (array ty)) { depth = deeper_of ty i }

pub snapshot_facts : (ty : Ty) → wrapped kinds.Snapshot (facts_of ty) ≡ facts_of (snapshot ty)
snapshot_facts ty = λ i. record (facts_of (snapshot ty)) { depth = deeper_of ty i }

pub uninitialized_facts : (ty : Ty) → wrapped kinds.Uninitialized (facts_of ty) ≡ facts_of (uninitialized ty)
uninitialized_facts ty = λ i. record (facts_of (uninitialized ty)) { depth = deeper_of ty i }
