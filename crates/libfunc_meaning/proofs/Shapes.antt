-- Arguments of the types that a family takes, and what calls answered of them.
use Rattle.std.proofs.Common.{◌≡◌, ℕ, List, [], ◌∷◌, ◌++◌, Option, Some, None, refl, sym, ap, ◌∙◌, take, option_map}
use Rattle.std.specs.Option.{IsSome}
use Rattle.type_trees.specs.Ty.{Ty}
use Rattle.value_trees.specs.Of.{AreWords, IsOpenMap, IsPlain}
use Rattle.value_trees.specs.Val.{Plain}
use Rattle.libfunc_meaning.specs.Mapped.{PlainAnswer}
use Rattle.libfunc_meaning.specs.Placed.{ArePlain}
use Rattle.libfunc_meaning.proofs.Typed.{at_one, at_two, at_three}

-- an answer by steps: the arguments are these, the answer of these has these results, and these are the code's
pub finish : (does : List Plain → PlainAnswer) (vs ws : List Plain) (k : ℕ) (us outs : List Plain) → vs ≡ ws → does ws ≡ Some (k, us) → outs ≡ us → does vs ≡ Some (k, outs)
finish does vs ws k us outs args answer results = ap does args ∙ answer ∙ ap (λ (rs : List Plain). Some (k, rs)) (sym results)

pub record IsOne (ty : Ty) (vs : List Plain) : Type 0 where
  pub v : Plain
  pub is : vs ≡ v ∷ []
  pub typed : IsPlain ty v

pub one_is : (ty : Ty) (vs : List Plain) → ArePlain (ty ∷ []) vs → IsOne ty vs
one_is ty vs h = at_one AreWords IsOpenMap (IsOne ty) ty vs h (λ v v_is. record { v = v; is = refl; typed = v_is })

pub record AreTwo (a b : Ty) (vs : List Plain) : Type 0 where
  pub v : Plain
  pub u : Plain
  pub is : vs ≡ v ∷ u ∷ []
  pub first : IsPlain a v
  pub second : IsPlain b u

pub two_are : (a b : Ty) (vs : List Plain) → ArePlain (a ∷ b ∷ []) vs → AreTwo a b vs
two_are a b vs h = at_two AreWords IsOpenMap (AreTwo a b) a b vs h (λ v u v_is u_is. record { v = v; u = u; is = refl; first = v_is; second = u_is })

pub record AreThree (a b c : Ty) (vs : List Plain) : Type 0 where
  pub v : Plain
  pub u : Plain
  pub w : Plain
  pub is : vs ≡ v ∷ u ∷ w ∷ []
  pub first : IsPlain a v
  pub second : IsPlain b u
  pub third : IsPlain c w

pub three_are : (a b c : Ty) (vs : List Plain) → ArePlain (a ∷ b ∷ c ∷ []) vs → AreThree a b c vs
three_are a b c vs h =
    at_three AreWords IsOpenMap (AreThree a b c) a b c vs h (λ v u w v_is u_is w_is. record { v = v; u = u; w = w; is = refl; first = v_is; second = u_is; third = w_is })

-- what a call answered is known
pub known : {X : Type 0} (r : Option X) (x : X) → r ≡ Some x → IsSome r
known None x e = let never : ⊥ = cc in absurd never
known (Some y) x e = refl

pub mapped_known : {X Y : Type 0} (f : X → Y) (r : Option X) (y : Y) → option_map f r ≡ Some y → IsSome r
mapped_known f None y e = let never : ⊥ = cc in absurd never
mapped_known f (Some x) y e = refl

-- and it is what it is known to be
pub same_known : {X : Type 0} (r : Option X) (x y : X) → r ≡ Some x → r ≡ Some y → y ≡ x
same_known r x y a b = cc

pub mapped_same : {X Y : Type 0} (f : X → Y) (r : Option X) (x : X) (y : Y) → option_map f r ≡ Some y → r ≡ Some x → f x ≡ y
mapped_same f r x y a b = let both : Some (f x) ≡ Some y = ap (option_map f) (sym b) ∙ a in cc

-- one value behind the first one
pub behind_one : (vs outs : List Plain) (v last : Plain) → outs ≡ take 1 vs ++ last ∷ [] → vs ≡ v ∷ [] → outs ≡ v ∷ last ∷ []
behind_one vs outs v last e is = e ∙ ap (λ us. take 1 us ++ last ∷ []) is

pub behind_two : (vs outs : List Plain) (v u last : Plain) → outs ≡ take 2 vs ++ last ∷ [] → vs ≡ v ∷ u ∷ [] → outs ≡ v ∷ u ∷ last ∷ []
behind_two vs outs v u last e is = e ∙ ap (λ us. take 2 us ++ last ∷ []) is
