use Rattle.std.proofs.Common.{◌≡◌, ◌<◌, ◌^◌, List, [], ◌∷◌, map, length, slice_index_or, ap, ◌∙◌, arith}
use Rattle.std.proofs.lemmas.Grind.{common_steps}
use Rattle.std.proofs.lemmas.List.{length-map}
use Rattle.type_trees.specs.Ty.{array}
use Rattle.value_trees.specs.Meant.{meant}
use Rattle.value_trees.specs.Parts.{elements_of}
use Rattle.value_trees.specs.Val.{vals_of, list_of}
use Rattle.value_trees.proofs.Variants.{list_back}
use Rattle.libfunc_meaning.proofs.Shapes.{one_is, mapped_same}
use Rattle.libfunc_meaning.proofs.arrays.array_len.Goals as goal

-- what the only value of a list is
only_is : {X Y : Type 0} (f : X → Y) (xs : List X) (x : X) (y : Y) → map f xs ≡ y ∷ [] → x ≡ slice_index_or xs 0 x → f x ≡ y
only_is f [] x y is at = let never : ⊥ = cc in absurd never
only_is f (z ∷ zs) x y is at = let first : f z ≡ y = cc in ap f at ∙ first

pub from_number-count-requires : goal.from_number-count-requires
from_number-count-requires c =
    let s = one_is (array c.requires.typed.0) _ c.requires.typed.1 in
    let first = only_is meant _ c.index.result.now s.v s.is c.index.ensures in
    let same = mapped_same (λ vs. map meant vs.now.items) c.as_elements.result c.unwrap-elements.result (list_of (vals_of s.typed.0)) (c.as_elements.ensures ∙ ap elements_of (first ∙ s.typed.1)) c.unwrap-elements.ensures in
    let counted : length (map meant c.unwrap-elements.result.now.items) ≡ length s.typed.0 = ap (λ us. length us) (same ∙ list_back s.typed.0) in
    let short : length s.typed.0 < 2 ^ 32 = c.requires.short c.requires.typed.0 s.typed.0 (s.is ∙ ap (λ v. v ∷ []) s.typed.1) in
    let sized : length (map meant c.unwrap-elements.result.now.items) ≡ length c.unwrap-elements.result.now.items = length-map c.unwrap-elements.result.now.items meant in
    grind (arith, common_steps)
