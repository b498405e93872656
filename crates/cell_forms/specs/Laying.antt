-- Which words a value of a plain type, in which no array is, is laid as: by recursion on the value.
use Rattle.std.specs.Prelude.{ℕ, ◌+◌, ◌-◌, List, [], ◌∷◌, ◌++◌, replicate, slice_get}
use Rattle.std.specs.Option.{option_map_or}
use Rattle.type_trees.specs.Ty.{Ty, size}
use Rattle.type_table.specs.Trees.{parts}
use Rattle.value_trees.specs.Val.{Plain, Vals, WordMap, OpenMap, number, struct, enum, no_values, values}

unfoldable mutual
  pub laid : Plain → Ty → List ℕ
  laid (number k n) ty = n ∷ []
  laid (struct vs) ty = laid_each vs (parts ty)
  laid (enum index v) ty = index ∷ option_map_or (λ variant. replicate (size ty - (1 + size variant)) 0 ++ laid v variant) (slice_get (parts ty) index) []
  laid _ ty = []

  -- values one after another
  pub laid_each : Vals WordMap OpenMap → List Ty → List ℕ
  laid_each no_values tys = []
  laid_each (values v vs) [] = []
  laid_each (values v vs) (ty ∷ tys) = laid v ty ++ laid_each vs tys
