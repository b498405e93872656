-- What the code keeps of a type while it makes the table: what is told of it, its depth, and what arrays and what main ask.
use Rattle.std.specs.Prelude.{ℕ, ◌+◌, List, min, max, fold, Bool, true, false, not, ◌&&◌}
use Rattle.std.specs.List.{list_all, list_any}
use Rattle.type_trees.specs.Ty.{Ty, size, storable, droppable, duplicable, holds_dict, depth, holds_array, is_plain}
use Rattle.type_table.specs.declared.facts.Facts.{Facts}
use Rattle.type_table.specs.declared.kind.TypeKind.{TypeKind}
use Rattle.type_table.specs.declared.kind.TypeKind.TheVariants as kinds
use Rattle.type_table.specs.IsType.{most_cells, most_depth}

-- a number, as far as it is of interest: any above the limit is one above it
abbrev pub capped : ℕ → ℕ → ℕ
capped limit n = min n (limit + 1)

abbrev pub facts_of : Ty → Facts
facts_of ty =
    record {
      size = capped most_cells (size ty);
      storable = storable ty;
      drop = droppable ty;
      dup = duplicable ty;
      holds_dict = holds_dict ty;
      depth = capped most_depth (depth ty);
      holds_array = holds_array ty;
      plain = is_plain ty;
    }

abbrev pub total_size : List Facts → ℕ
total_size parts = fold (λ sum part. capped most_cells (sum + part.size)) 0 parts

abbrev pub greatest_size : List Facts → ℕ
greatest_size parts = fold (λ most part. max most part.size) 0 parts

abbrev pub greatest_depth : List Facts → ℕ
greatest_depth parts = fold (λ most part. max most part.depth) 0 parts

-- a struct of these members
abbrev pub together : List Facts → Facts
together parts =
    record {
      size = total_size parts;
      storable = list_all (λ part. part.storable) parts;
      drop = list_all (λ part. part.drop) parts;
      dup = list_all (λ part. part.dup) parts;
      holds_dict = list_any (λ part. part.holds_dict) parts;
      depth = capped most_depth (1 + greatest_depth parts);
      holds_array = list_any (λ part. part.holds_array) parts;
      plain = list_all (λ part. part.plain) parts;
    }

-- an enum of these variants
abbrev pub variants : List Facts → Facts
variants parts = record (together parts) { size = capped most_cells (1 + greatest_size parts) }

-- a type of one cell without type arguments whose values may be stored, of all other use if this is true
abbrev pub cell : Bool → Facts
cell usable = record { size = 1; storable = true; drop = usable; dup = usable; holds_dict = false; depth = 1; holds_array = false; plain = usable }

-- a dictionary's type, whose one type argument is a number
abbrev pub dictionary : Bool → Bool → Facts
dictionary drop holds = record { size = 2; storable = true; drop = drop; dup = false; holds_dict = holds; depth = 2; holds_array = false; plain = false }

abbrev pub deeper : Facts → ℕ
deeper part = capped most_depth (1 + part.depth)

-- the facts of a type of this kind with this one type argument
abbrev pub wrapped : TypeKind → Facts → Facts
wrapped kinds.Box part = record { size = 1; storable = true; drop = part.drop; dup = part.dup; holds_dict = false; depth = deeper part; holds_array = part.holds_array; plain = false }
wrapped kinds.Array part = record { size = 2; storable = true; drop = part.drop; dup = false; holds_dict = false; depth = deeper part; holds_array = true; plain = part.plain && not part.holds_array }
wrapped kinds.Snapshot part = record { size = part.size; storable = true; drop = true; dup = true; holds_dict = false; depth = deeper part; holds_array = part.holds_array; plain = false }
wrapped _ part = record { size = part.size; storable = false; drop = true; dup = false; holds_dict = part.holds_dict; depth = deeper part; holds_array = part.holds_array; plain = false }
