-- What is shown of cells is what stands there.
use Rattle.std.proofs.Common.{◌≡◌, ℕ, suc, true, false, List, [], ◌∷◌, ◌++◌, map, take, drop, length, Option, Some, None, ◌==◌, true≢false, refl, sym, ap, ◌∙◌, arith}
use Rattle.std.proofs.lemmas.List.{append_assoc, append-nil}
use Rattle.value_trees.specs.Meant.{meant}
use Rattle.value_trees.specs.Val.{Plain}
use Rattle.value_trees.specs.declared.value.Value.{Value}
use Rattle.std.proofs.lemmas.Bool.{ne_eqb}
use Rattle.type_trees.specs.Ty.{Ty, Tys, no_types, types, size}
use Rattle.cell_forms.specs.Showing.{shown, shown_together, first_shown, behind_shown}

-- a member more
pub more_shown : (done : List Plain) (v : Plain) (o : Option (List Plain)) → behind_shown (done ++ (v ∷ [])) o ≡ behind_shown done (first_shown (Some v) o)
more_shown done v None = refl
more_shown done v (Some vs) = ap Some (append_assoc done (v ∷ []) vs)

pub members_more : (done new : List Plain) (v : Plain) (tys others : Tys) (ty : Ty) (cells : List ℕ) → tys ≡ types ty others → shown ty (take (size ty) cells) ≡ Some v → new ≡ done ++ (v ∷ [])
    → behind_shown new (shown_together others (drop (size ty) cells)) ≡ behind_shown done (shown_together tys cells)
unfolding shown_together
members_more done new v tys others ty cells are one is =
    ap (λ ds. behind_shown ds (shown_together others (drop (size ty) cells))) is
    ∙ more_shown done v (shown_together others (drop (size ty) cells))
    ∙ ap (λ o. behind_shown done (first_shown o (shown_together others (drop (size ty) cells)))) (sym one)
    ∙ ap (λ l. behind_shown done (shown_together l cells)) (sym are)

pub members_none : (done : List Plain) (tys others : Tys) (ty : Ty) (cells : List ℕ) → tys ≡ types ty others → shown ty (take (size ty) cells) ≡ None
    → behind_shown done (shown_together tys cells) ≡ None
unfolding shown_together
members_none done tys others ty cells are one =
    ap (λ l. behind_shown done (shown_together l cells)) are
    ∙ ap (λ o. behind_shown done (first_shown o (shown_together others (drop (size ty) cells)))) one

pub members_end : (done : List Plain) (tys : Tys) (cells : List ℕ) → tys ≡ no_types → (length cells == 0) ≡ true → behind_shown done (shown_together tys cells) ≡ Some done
unfolding shown_together
members_end done tys [] are none = ap (λ l. behind_shown done (shown_together l [])) are ∙ ap Some (append-nil done)
members_end done tys (n ∷ cells) are none = absurd (true≢false (sym none ∙ ne_eqb (suc (length cells)) 0 (λ z. omega (arith, z))))

pub members_left : (done : List Plain) (tys : Tys) (cells : List ℕ) → tys ≡ no_types → (length cells == 0) ≡ false → behind_shown done (shown_together tys cells) ≡ None
unfolding shown_together
members_left done tys [] are some = absurd (true≢false some)
members_left done tys (n ∷ cells) are some = ap (λ l. behind_shown done (shown_together l (n ∷ cells))) are

pub pushed : (xs new : List Value) (v : Value) → new ≡ xs ++ (v ∷ []) → map meant new ≡ map meant xs ++ (meant v ∷ [])
pushed xs new v is = ap (map meant) is ∙ one xs
  where
    one : (xs : List Value) → map meant (xs ++ (v ∷ [])) ≡ map meant xs ++ (meant v ∷ [])
    one [] = refl
    one (x ∷ xs) = ap (λ l. meant x ∷ l) (one xs)
