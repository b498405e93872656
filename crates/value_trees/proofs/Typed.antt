-- Values of types, one list behind another.
use Rattle.std.proofs.Common.{◌≡◌, List, [], ◌∷◌, ◌++◌, refl, sym, ap, ◌∙◌, subst}
use Rattle.type_trees.specs.Ty.{Ty}
use Rattle.type_trees.specs.declared.num.Num.{Num}
use Rattle.value_trees.specs.Of.{AllOf}
use Rattle.value_trees.specs.Val.{Val}

module _ {D E : Type 0} (OfDict : Num → D → Type 0) (OfEntry : Num → E → Type 0) where
  -- put together
  pub all_of_both : (ts us : List Ty) (vs ws : List (Val D E)) → AllOf OfDict OfEntry ts vs → AllOf OfDict OfEntry us ws → AllOf OfDict OfEntry (ts ++ us) (vs ++ ws)
  all_of_both [] us vs ws h k = subst (λ xs. AllOf OfDict OfEntry us (xs ++ ws)) (sym h) k
  all_of_both (t ∷ ts) us vs ws h k =
      let rest = all_of_both ts us h.1 ws h.4 k in
      (h.0, h.1 ++ ws, ap (λ xs. xs ++ ws) h.2, h.3, rest)

  -- taken apart
  pub both_of_all : (ts us : List Ty) (xs : List (Val D E)) → AllOf OfDict OfEntry (ts ++ us) xs
      → (vs ws : List (Val D E)) × (xs ≡ vs ++ ws) × AllOf OfDict OfEntry ts vs × AllOf OfDict OfEntry us ws
  both_of_all [] us xs h = ([], xs, refl, refl, h)
  both_of_all (t ∷ ts) us xs h =
      let rest = both_of_all ts us h.1 h.4 in
      (h.0 ∷ rest.0, rest.1, h.2 ∙ ap (λ ys. h.0 ∷ ys) rest.2, (h.0, rest.0, refl, h.3, rest.3), rest.4)
