-- Fewer types take no more cells together.
use Rattle.std.proofs.Common.{ℕ, zero, suc, ◌≤◌, List, [], ◌∷◌, take, arith}
use Rattle.std.proofs.lemmas.List.Sums.{sum_by-cons}
use Rattle.type_trees.specs.Ty.{size}
use Rattle.type_table.specs.declared.type_id.TypeId.{TypeId}
use Rattle.type_table.specs.View.{TypesView, tree_of, trees_of}
use Rattle.cost_table.specs.Results.{cells_of}

pub prefix_cells : (t : TypesView) (k : ℕ) (ids : List TypeId) → cells_of (trees_of t (take k ids)) ≤ cells_of (trees_of t ids)
prefix_cells t zero ids = omega arith
prefix_cells t (suc k) [] = omega arith
prefix_cells t (suc k) (id ∷ ids) =
    omega (arith, prefix_cells t k ids, sum_by-cons size (tree_of t id.0) (trees_of t (take k ids)), sum_by-cons size (tree_of t id.0) (trees_of t ids))
