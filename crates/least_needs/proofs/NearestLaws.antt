-- The best of all nodes is the nearest.
use Rattle.std.proofs.Common.{◌≡◌, ℕ, ◌<◌, ◌≤◌, List, Option, None, Some, length, get_or, sym, subst, ◌∙◌, arith}
use Rattle.std.specs.List.{Contains}
use Rattle.std.proofs.lemmas.List.{get_or_default}
use Rattle.least_needs.specs.Nearest.{IsNear, IsBest, IsNearest, distance}

-- a node of the list by its index
node_of : (nodes : List ℕ) (t : ℕ) → Contains nodes t → (k : ℕ) × (k < length nodes) × (get_or nodes k 0 ≡ t)
node_of nodes t at = (at.0, at.1, get_or_default nodes at.0 0 t at.1 ∙ at.2)

pub nearest_none : (nodes : List ℕ) (distances : List (Option ℕ)) (count : ℕ) → length nodes ≤ count → IsBest nodes distances count None → IsNearest nodes distances None
nearest_none nodes distances count all none t at =
    let node = node_of nodes t at in
    subst (λ u. distance distances u ≡ None) node.2 (none node.0 (omega (arith, node.1)))

pub nearest_some : (nodes : List ℕ) (distances : List (Option ℕ)) (count : ℕ) (best : ℕ × ℕ) → count ≤ length nodes → length nodes ≤ count → IsBest nodes distances count (Some best) → IsNearest nodes distances (Some best.1)
nearest_some nodes distances count best within all is =
    let k = is.0.0 in
    let lt : k < length nodes = omega (arith, is.0.1) in
    let here : Contains nodes best.1 = (k, lt, sym (get_or_default nodes k 0 best.1 lt) ∙ is.0.2) in (
      here,
      (
        best.0,
        is.1,
        λ u i at dist.
            let node = node_of nodes u at in
            subst (λ v. IsNear best (i, v)) node.2 (is.2 node.0 i (omega (arith, node.1)) (subst (λ v. distance distances v ≡ Some i) (sym node.2) dist)),
      ),
    )
