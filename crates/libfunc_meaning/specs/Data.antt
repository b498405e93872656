-- Enums, structs, snapshots and boxes. A snapshot has the value of its type.
use Rattle.std.specs.Prelude.{List, [], ◌∷◌}
use Rattle.libfunc_registry.specs.Data.{DataFam, enum_init, enum_match, enum_snapshot_match, struct_construct, struct_deconstruct, struct_snapshot_deconstruct, snapshot_take, into_box, unbox}
use Rattle.value_trees.specs.Val.{Val, vals_of}
use Rattle.value_trees.specs.Val as val
use Rattle.libfunc_meaning.specs.Answers.{Answer, branch, gives, of_one, with_variant, with_members, with_boxed}

abbrev pub data_does : {D E : Type 0} → DataFam → List (Val D E) → Answer D E
data_does (enum_init ty index) vs = of_one vs (λ v. gives (val.enum index v ∷ []))
data_does (enum_match ty) vs = of_one vs (λ v. with_variant v (λ index payload. branch index (payload ∷ [])))
data_does (enum_snapshot_match ty) vs = of_one vs (λ v. with_variant v (λ index payload. branch index (payload ∷ [])))
data_does (struct_construct ty) vs = gives (val.struct (vals_of vs) ∷ [])
data_does (struct_deconstruct ty) vs = of_one vs (λ v. with_members v (λ members. gives members))
data_does (struct_snapshot_deconstruct ty) vs = of_one vs (λ v. with_members v (λ members. gives members))
data_does (snapshot_take ty) vs = of_one vs (λ v. gives (v ∷ v ∷ []))
data_does (into_box ty) vs = of_one vs (λ v. gives (val.boxed v ∷ []))
data_does (unbox ty) vs = of_one vs (λ v. with_boxed v (λ inner. gives (inner ∷ [])))
