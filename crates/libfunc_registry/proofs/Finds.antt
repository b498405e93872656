-- What a search tells of a type follows from what it tells of its parts.
use Rattle.std.proofs.Common.{◌≡◌, ℕ, zero, suc, ◌+◌, ◌<◌, ◌≤◌, ◌^◌, Bool, true, List, [], ◌∷◌, ◌++◌, map, length, get_or, Option, Some, None, refl, sym, ap, subst, ◌∙◌, arith, false, cond, take, inl, inr, slice_get}
use Rattle.std.specs.List.{All, AllZip}
use Rattle.std.proofs.lemmas.List.Elements.{All-tail}
use Rattle.std.proofs.lemmas.List.{map-append, take_more, length-map, get_or_default}
use Rattle.std.proofs.Math.ListN.{get_or-map}
use Rattle.std.proofs.lemmas.Option.{slice_get_cases}
use Rattle.type_trees.specs.Ty.{Ty, range_check, snap, snapshot, duplicable}
use Rattle.type_table.specs.declared.type_id.TypeId.{TypeId}
use Rattle.type_table.specs.Trees.{parts}
use Rattle.type_table.specs.View.{TypesView, RowView, FunctionView, tree_of, trees_of, HasTree, IsInTable, IsTable, IsRow}
use Rattle.std.specs.Option.{option_map_or}
use Rattle.libfunc_registry.specs.Data.{part_at}
use Rattle.libfunc_registry.specs.Fam.{params_of, results_of}
use Rattle.libfunc_registry.specs.Signature.{AreTrees}
use Rattle.libfunc_registry.specs.Wanted.{Finds, FindsAll, IsBelow}

-- a type's own position
pub finds_self : (types : TypesView) → IsTable types → (t : TypeId) → IsBelow types t → Finds types (tree_of types t.0) (Some t)
finds_self types kept t below = record { exactly = λ u. (λ same. there u (some_in u same), λ has. ap Some (ap (λ i. record { 0 = i }) (kept.tree_once t.0 u.0 _ (record { below = below; tree = refl }) has))) }
  where
    some_in : (u : TypeId) → Some t ≡ Some u → t ≡ u
    some_in u same = cc

    there : (v : TypeId) → t ≡ v → HasTree types v.0 (tree_of types t.0)
    there v same = subst (λ w. HasTree types w.0 (tree_of types t.0)) same (record { below = below; tree = refl })

pub finds_same : (types : TypesView) (r : Option TypeId) (a b : Ty) → a ≡ b → Finds types a r → Finds types b r
finds_same types r a b same finds = subst (λ ty. Finds types ty r) same finds

-- a type whose values may be duplicated is its own type of snapshots
pub snap-self : (ty : Ty) → duplicable ty ≡ true → ty ≡ snap ty
snap-self ty dup = sym (ap (λ b. cond b ty (snapshot ty)) dup)

pub snap-other : (ty : Ty) → duplicable ty ≡ false → snapshot ty ≡ snap ty
snap-other ty other = sym (ap (λ b. cond b ty (snapshot ty)) other)

none_some : {A : Type 0} (x : A) → None ≡ Some x → ⊥
none_some x e = cc

-- a type that isn't found isn't in the table
pub not_in_table : (types : TypesView) (ty : Ty) → Finds types ty None → IsInTable types ty → ⊥
not_in_table types ty finds has = none_some _ ((finds.exactly (record { 0 = has.0 })).1 has.1)

-- where a type of one part is declared, the part is
pub part_in_table : (types : TypesView) → IsTable types → (whole part : Ty) → parts whole ≡ part ∷ [] → IsInTable types whole → IsInTable types part
part_in_table types kept whole part only whole_in =
    elim ((slice_get_cases types.rows whole_in.0).1) [
      | inr past ↦ absurd (let below : whole_in.0 < length types.rows = whole_in.1.below in omega (arith, past.0))
      | inl here ↦
          let right : IsRow types whole_in.0 here.0 = kept.rows_right whole_in.0 here.0 here.2 in
          one here.0.members right.below (right.members ∙ ap parts whole_in.1.tree ∙ only)
    ]
  where
    one : (ts : List TypeId) → All (λ t. t.0 < length types.rows) ts → trees_of types ts ≡ part ∷ [] → IsInTable types part
    one [] below e = cc
    one (t ∷ ts) below e =
        let first : tree_of types t.0 ≡ part = cc in
        (t.0, record { below = below 0 t (omega arith); tree = first })

-- a type of one part isn't found where the part isn't
pub finds_no_whole : (types : TypesView) → IsTable types → (whole part : Ty) → parts whole ≡ part ∷ []
    → (r q : Option TypeId) → r ≡ None → q ≡ None → Finds types part r → Finds types whole q
finds_no_whole types kept whole part only r q none none' finds =
    let missing : Finds types part None = subst (λ o. Finds types part o) none finds in
    record {
      exactly = λ t. (
        λ e. absurd (none_some t (sym none' ∙ e)),
        λ has. absurd (not_in_table types part missing (part_in_table types kept whole part only (t.0, has))),
      );
    }

-- a type of one part is found by the part's position
pub finds_whole : (types : TypesView) (make : Ty → Ty) (part : Ty) (r : Option TypeId) (t : TypeId) (q : Option TypeId)
    → r ≡ Some t → Finds types part r → Finds types (make (tree_of types t.0)) q → Finds types (make part) q
finds_whole types make part r t q is finds whole =
    let has : HasTree types t.0 part = (finds.exactly t).0 is in
    subst (λ ty. Finds types (make ty) q) has.tree whole

are_push : (types : TypesView) (ts : List TypeId) (tys : List Ty) (t : TypeId) (ty : Ty) → AreTrees types ts tys → HasTree types t.0 ty
    → AreTrees types (ts ++ t ∷ []) (tys ++ ty ∷ [])
are_push types [] [] t ty are has = (has, tt)
are_push types [] (uy ∷ tys) t ty are has = absurd are
are_push types (u ∷ ts) [] t ty are has = absurd are
are_push types (u ∷ ts) (uy ∷ tys) t ty are has = (are.0, are_push types ts tys t ty are.1 has)

-- one more type is found
pub found_more : {X : Type 0} (types : TypesView) (f : X → Ty) (xs : List X) (i : ℕ) (d : X) (ts : List TypeId) (t : TypeId) (r : Option TypeId)
    → i < length xs → AreTrees types ts (map f (take i xs)) → r ≡ Some t → Finds types (f (get_or xs i d)) r
    → AreTrees types (ts ++ t ∷ []) (map f (take (i + 1) xs))
found_more {X} types f xs i d ts t r within so_far is finds =
    let one_more : map f (take i xs) ++ f (get_or xs i d) ∷ [] ≡ map f (take (i + 1) xs) =
    sym (ap (map f) (take_more xs i d within) ∙ map-append f (take i xs) (get_or xs i d ∷ [])) in
    subst (AreTrees types (ts ++ t ∷ [])) one_more
    (are_push types ts (map f (take i xs)) t (f (get_or xs i d)) so_far ((finds.exactly t).0 is))

-- one type isn't found
pub found_none : {X : Type 0} (types : TypesView) (f : X → Ty) (xs : List X) (i : ℕ) (d : X) (r : Option TypeId)
    → i < length xs → r ≡ None → Finds types (f (get_or xs i d)) r → All (IsInTable types) (map f xs) → ⊥
found_none types f xs i d r within none finds all =
    let long : i < length (map f xs) = omega (arith, length-map xs f) in
    not_in_table types (f (get_or xs i d)) (subst (λ o. Finds types (f (get_or xs i d)) o) none finds)
    (subst (IsInTable types) (get_or-map f xs i d) (all i (f d) long))

-- the positions of types have the trees of these types
pub are_trees : (types : TypesView) (ts : List TypeId) → All (IsBelow types) ts → AreTrees types ts (trees_of types ts)
are_trees types [] below = tt
are_trees types (t ∷ ts) below =
    (record { below = below 0 t (omega arith); tree = refl }, are_trees types ts (All-tail (IsBelow types) t ts below))

pub snaps_of : (types : TypesView) (ts : List TypeId) → map (λ t. snap (tree_of types t.0)) ts ≡ map snap (trees_of types ts)
snaps_of types [] = refl
snaps_of types (t ∷ ts) = ap (λ tys. snap (tree_of types t.0) ∷ tys) (snaps_of types ts)

-- lists in the order of branches: one isn't found
pub not_first : (types : TypesView) (tys : List Ty) (rest : List (List Ty)) (o : Option (List TypeId)) → o ≡ None → FindsAll types tys o
    → All (All (IsInTable types)) (tys ∷ rest) → ⊥
not_first types tys rest o none finds all = (subst (λ p. FindsAll types tys p) none finds) (all 0 tys (omega arith))

pub not_second : (types : TypesView) (first tys : List Ty) (rest : List (List Ty)) (o : Option (List TypeId)) → o ≡ None → FindsAll types tys o
    → All (All (IsInTable types)) (first ∷ tys ∷ rest) → ⊥
not_second types first tys rest o none finds all = (subst (λ p. FindsAll types tys p) none finds) (all 1 tys (omega arith))

-- a branch for each type alone
pub alone_in : (types : TypesView) (tys : List Ty) → All (All (IsInTable types)) (map (λ ty. ty ∷ []) tys) → All (IsInTable types) tys
alone_in types tys all k d within =
    let long : k < length (map (λ (ty : Ty). ty ∷ []) tys) = omega (arith, length-map tys (λ (ty : Ty). ty ∷ [])) in
    let there : get_or (map (λ (ty : Ty). ty ∷ []) tys) k (d ∷ []) ≡ get_or tys k d ∷ [] = get_or-map (λ (ty : Ty). ty ∷ []) tys k d in
    subst (All (IsInTable types)) there (all k (d ∷ []) long) 0 d (omega arith)

pub not_alone : (types : TypesView) (tys : List Ty) (o : Option (List TypeId)) → o ≡ None → FindsAll types tys o
    → All (All (IsInTable types)) (map (λ ty. ty ∷ []) tys) → ⊥
not_alone types tys o none finds all = (subst (λ p. FindsAll types tys p) none finds) (alone_in types tys all)

pub are_alone : (types : TypesView) (ts : List TypeId) (tys : List Ty) → AreTrees types ts tys
    → AllZip (AreTrees types) (map (λ t. t ∷ []) ts) (map (λ ty. ty ∷ []) tys)
are_alone types [] [] are = tt
are_alone types [] (ty ∷ tys) are = absurd are
are_alone types (t ∷ ts) [] are = absurd are
are_alone types (t ∷ ts) (ty ∷ tys) are = ((are.0, tt), are_alone types ts tys are.1)

pub snaps_alone : (tys : List Ty) → map (λ ty. ty ∷ []) (map snap tys) ≡ map (λ ty. snap ty ∷ []) tys
snaps_alone [] = refl
snaps_alone (ty ∷ tys) = ap (λ rest. (snap ty ∷ []) ∷ rest) (snaps_alone tys)

-- the parameters and the results of a function
pub are_params : (types : TypesView) → IsTable types → (f : ℕ) → f < length types.functions → (ts : List TypeId)
    → ((g : FunctionView) → slice_get types.functions f ≡ Some g → ts ≡ g.params) → AreTrees types ts (params_of types f)
are_params types kept f within ts tells = elim ((slice_get_cases types.functions f).1) [
  | inr past ↦ absurd (omega (arith, past.0))
  | inl here ↦
      let is : slice_get types.functions f ≡ Some here.0 = here.2 in
      let same : here.0.params ≡ ts = sym (tells here.0 is) in
      let trees : trees_of types here.0.params ≡ params_of types f = sym (ap (λ o. option_map_or (λ g. trees_of types g.params) o []) is) in
      subst (λ us. AreTrees types us (params_of types f)) same
      (subst (AreTrees types here.0.params) trees (are_trees types here.0.params (kept.functions_right f here.0 is).params))
]

pub are_results : (types : TypesView) → IsTable types → (f : ℕ) → f < length types.functions → (ts : List TypeId)
    → ((g : FunctionView) → slice_get types.functions f ≡ Some g → ts ≡ g.results) → AreTrees types ts (results_of types f)
are_results types kept f within ts tells = elim ((slice_get_cases types.functions f).1) [
  | inr past ↦ absurd (omega (arith, past.0))
  | inl here ↦
      let is : slice_get types.functions f ≡ Some here.0 = here.2 in
      let same : here.0.results ≡ ts = sym (tells here.0 is) in
      let trees : trees_of types here.0.results ≡ results_of types f = sym (ap (λ o. option_map_or (λ g. trees_of types g.results) o []) is) in
      subst (λ us. AreTrees types us (results_of types f)) same
      (subst (AreTrees types here.0.results) trees (are_trees types here.0.results (kept.functions_right f here.0 is).results))
]

-- a part of a type, by its index
pub finds_part : (types : TypesView) → IsTable types → (ty : Ty) (ms : List TypeId) (index : ℕ) (m : TypeId) → index < length ms
    → trees_of types ms ≡ parts ty → All (IsBelow types) ms → m ≡ get_or ms index m → Finds types (part_at ty index) (Some m)
finds_part types kept ty ms index m within trees below at =
    let place : get_or ms index m ≡ m = sym at in
    let low : IsBelow types m = subst (IsBelow types) place (below index m within) in
    let got : get_or (trees_of types ms) index (tree_of types m.0) ≡ tree_of types m.0 =
    get_or-map (λ (t : TypeId). tree_of types t.0) ms index m ∙ ap (λ (t : TypeId). tree_of types t.0) place in
    let long : index < length (trees_of types ms) = omega (arith, length-map ms (λ (t : TypeId). tree_of types t.0)) in
    let tree : tree_of types m.0 ≡ part_at ty index =
    sym got ∙ get_or_default (trees_of types ms) index (tree_of types m.0) range_check long ∙ ap (λ tys. get_or tys index range_check) trees in
    finds_same types (Some m) _ _ tree (finds_self types kept m low)

-- a type is made of few parts
pub few_parts : (types : TypesView) → IsTable types → (t : TypeId) → IsBelow types t → length (parts (tree_of types t.0)) ≤ 2 ^ 24
few_parts types kept t below = elim ((slice_get_cases types.rows t.0).1) [
  | inr past ↦ absurd (omega (arith, past.0))
  | inl here ↦
      let right : IsRow types t.0 here.0 = kept.rows_right t.0 here.0 here.2 in
      let same : length (trees_of types here.0.members) ≡ length (parts (tree_of types t.0)) = ap length right.members in
      let mapped : length (trees_of types here.0.members) ≡ length here.0.members = length-map here.0.members (λ (u : TypeId). tree_of types u.0) in
      omega (arith, right.few_members)
]
