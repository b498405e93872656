-- The elements of a list, however they are kept.
use Rattle.std.specs.Prelude.{List}
use Rattle.sierra_types.specs.declared.list.Items.{Items}
use Rattle.sierra_types.specs.declared.list.Items.TheVariants as items

abbrev pub items_of : {T : Type 0} → Items T → List T
items_of (items.One all) = all
items_of (items.Many all) = all.items
