-- Functions and types by their positions in the table.
use Rattle.std.specs.Prelude.{ℕ, ◌<◌, length}
use Rattle.std.specs.List.{All}
use Rattle.type_table.specs.View.{TypesView}
use Rattle.type_table.specs.declared.type_id.TypeId.{TypeId}
use Rattle.held_list.specs.Held.{Held}

-- the function and all held types are in the table
pub record AreInTable (t : TypesView) (f : ℕ) (held : Held TypeId) : Type 0 where
  pub function : f < length t.functions
  pub types : All (λ x. x.1.0 < length t.rows) held
