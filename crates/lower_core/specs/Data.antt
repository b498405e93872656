-- Enums, structs, snapshots and boxes: plans.
use Rattle.std.specs.Prelude.{ℕ, zero, suc, ◌+◌, length}
use Rattle.type_trees.specs.Ty.{size}
use Rattle.type_table.specs.Trees.{parts}
use Rattle.hint_source.specs.declared.kind.Kind.TheVariants as kind
use Rattle.libfunc_registry.specs.Data.{DataFam, enum_init, enum_match, enum_snapshot_match, struct_construct, struct_deconstruct, struct_snapshot_deconstruct, snapshot_take, into_box, unbox}
use Rattle.cell_terms.specs.declared.term.Slot.{Slot}
use Rattle.cell_terms.specs.declared.term.Slot.TheVariants as slots
use Rattle.cell_terms.specs.declared.term.Second.TheVariants as seconds
use Rattle.cell_terms.specs.declared.term.Term.TheVariants as terms
use Rattle.frag_plan.specs.Plan.{Plan, lay, reserve, ask, line, test, exit}
use Rattle.cost_table.specs.Terms.{run}
use Rattle.lower_kit.specs.Rows.{same_each}

-- The match of an enum from variant i on, of which so many are left besides this one and the last. The cell has the selector
-- less i: where it is 0, the variant is i. Else its word less 1 is laid, the next new cell being the one of this number; the
-- last variant needs no test.
abbrev pub matches : (cell : Slot) (i : ℕ) (more : ℕ) → Plan
matches cell i zero = test cell (exit i) (exit (i + 1))
matches cell i (suc more) = test cell (exit i) (line (lay (terms.Sub cell (seconds.Number 1))) (matches (slots.Own i) (i + 1) more))

-- the match of an enum with so many variants
abbrev pub match_plan : ℕ → Plan
match_plan zero = exit 0
match_plan (suc zero) = exit 0
match_plan (suc (suc more)) = matches (slots.Arg 0) 0 more

-- the answer is a place for the box, in a new cell; the cells from there on have the words of the argument's
abbrev pub box_plan : ℕ → Plan
box_plan z = line (ask (slots.Own 0) kind.Fresh) (line (reserve 1) (same_each 0 (run (terms.Behind (slots.Own 0) 0) z) (exit 0)))

abbrev pub data_plan : DataFam → Plan
data_plan (enum_init ty index) = exit 0
data_plan (enum_match ty) = match_plan (length (parts ty))
data_plan (enum_snapshot_match ty) = match_plan (length (parts ty))
data_plan (struct_construct ty) = exit 0
data_plan (struct_deconstruct ty) = exit 0
data_plan (struct_snapshot_deconstruct ty) = exit 0
data_plan (snapshot_take ty) = exit 0
data_plan (into_box ty) = box_plan (size ty)
data_plan (unbox ty) = exit 0
