-- The element at an index, lent or by its meaning.
use Rattle.std.proofs.Common.{◌≡◌, ℕ, List, map, Option, Some, None, option_map, slice_get, Bor, refl, sym, ap, ◌∙◌}
use Rattle.std.proofs.lemmas.Option.{slice_get-map}
use Rattle.std.specs.Option.{option_copied}
use Rattle.value_trees.specs.Meant.{meant}
use Rattle.value_trees.specs.declared.value.Value.{Value}

lent_meant : (r : Option (Bor Value)) → option_map (λ v. meant v.now) r ≡ option_map meant (option_copied r)
lent_meant None = refl
lent_meant (Some v) = refl

pub element_at : (vs : List Value) (index : ℕ) (r : Option (Bor Value)) → option_copied r ≡ slice_get vs index → option_map (λ v. meant v.now) r ≡ slice_get (map meant vs) index
element_at vs index r e = lent_meant r ∙ ap (option_map meant) e ∙ sym (slice_get-map meant vs index)
