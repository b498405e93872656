-- Values of a type taken apart, and answers that are of a branch's types.
use Rattle.std.proofs.Common.{◌≡◌, ◌≢◌, ℕ, ◌<◌, ◌^◌, Bool, true, false, List, [], ◌∷◌, Some, refl, sym, subst, if◌then◌else◌, slice_get}
use Rattle.std.specs.List.{AllByRecursion}
use Rattle.type_trees.specs.Ty.{Ty, number, nonzero, gas_builtin, box, array}
use Rattle.type_trees.specs.declared.num.Num.{Num}
use Rattle.value_trees.specs.Of.{IsOf, AllOf, bound}
use Rattle.value_trees.specs.Val.{Val, vals_of}
use Rattle.value_trees.specs.Val as val
use Rattle.libfunc_meaning.specs.Answers.{Answer, branch}
use Rattle.libfunc_meaning.specs.Kept.{AreOfBranch}

module _ {D E : Type 0} (OfDict : Num → D → Type 0) (OfEntry : Num → E → Type 0) where
  -- there is an answer, and its results are of the types of its branch
  pub record IsAnswered (tyss : List (List Ty)) (answer : Answer D E) : Type 0 where
    pub branch : ℕ
    pub outs : List (Val D E)
    pub tys : List Ty
    pub is : answer ≡ Some (branch, outs)
    pub there : slice_get tyss branch ≡ Some tys
    pub typed : AllOf OfDict OfEntry tys outs

  pub kept : (tyss : List (List Ty)) (answer : Answer D E) (k : ℕ) (outs : List (Val D E)) → IsAnswered tyss answer → answer ≡ Some (k, outs) → AreOfBranch OfDict OfEntry tyss k outs
  kept tyss answer k outs h is =
      let same : ◌≡◌ {A = ℕ × List (Val D E)} (h.branch, h.outs) (k, outs) = cc in
      (h.tys, subst (λ (p : ℕ × List (Val D E)). slice_get tyss p.0 ≡ Some h.tys) same h.there, subst (λ (p : ℕ × List (Val D E)). AllOf OfDict OfEntry h.tys p.1) same h.typed)

  -- so many values
  pub at_none : (P : List (Val D E) → Type 0) (vs : List (Val D E)) → AllOf OfDict OfEntry [] vs → P [] → P vs
  at_none P vs h p = subst P (sym h) p

  pub at_one : (P : List (Val D E) → Type 0) (a : Ty) (vs : List (Val D E)) → AllOf OfDict OfEntry (a ∷ []) vs
      → ((v : Val D E) → IsOf OfDict OfEntry a v → P (v ∷ [])) → P vs
  at_one P a vs (v, rest, is, v_is, none) p = subst P (sym is) (at_none (λ us. P (v ∷ us)) rest none (p v v_is))

  pub at_two : (P : List (Val D E) → Type 0) (a b : Ty) (vs : List (Val D E)) → AllOf OfDict OfEntry (a ∷ b ∷ []) vs
      → ((v u : Val D E) → IsOf OfDict OfEntry a v → IsOf OfDict OfEntry b u → P (v ∷ u ∷ [])) → P vs
  at_two P a b vs (v, rest, is, v_is, more) p = subst P (sym is) (at_one (λ us. P (v ∷ us)) b rest more (λ u u_is. p v u v_is u_is))

  pub at_three : (P : List (Val D E) → Type 0) (a b c : Ty) (vs : List (Val D E)) → AllOf OfDict OfEntry (a ∷ b ∷ c ∷ []) vs
      → ((v u w : Val D E) → IsOf OfDict OfEntry a v → IsOf OfDict OfEntry b u → IsOf OfDict OfEntry c w → P (v ∷ u ∷ w ∷ [])) → P vs
  at_three P a b c vs (v, rest, is, v_is, more) p = subst P (sym is) (at_two (λ us. P (v ∷ us)) b c rest more (λ u w u_is w_is. p v u w v_is u_is w_is))

  -- a value of a type
  pub at_number : (P : Val D E → Type 0) (k : Num) (v : Val D E) → IsOf OfDict OfEntry (number k) v
      → ((n : ℕ) → n < bound k → P (val.number k n)) → P v
  at_number P k v (n, is, below) p = subst P (sym is) (p n below)

  pub at_nonzero : (P : Val D E → Type 0) (k : Num) (v : Val D E) → IsOf OfDict OfEntry (nonzero k) v
      → ((n : ℕ) → n < bound k → n ≢ 0 → P (val.number k n)) → P v
  at_nonzero P k v (n, is, below, other) p = subst P (sym is) (p n below other)

  pub at_gas : (P : Val D E → Type 0) (v : Val D E) → IsOf OfDict OfEntry gas_builtin v → ((n : ℕ) → n < 2 ^ 32 → P (val.gas n)) → P v
  at_gas P v (n, is, below) p = subst P (sym is) (p n below)

  pub at_box : (P : Val D E → Type 0) (ty : Ty) (v : Val D E) → IsOf OfDict OfEntry (box ty) v
      → ((inner : Val D E) → IsOf OfDict OfEntry ty inner → P (val.boxed inner)) → P v
  at_box P ty v (inner, is, inner_is) p = subst P (sym is) (p inner inner_is)

  pub at_array : (P : Val D E → Type 0) (ty : Ty) (v : Val D E) → IsOf OfDict OfEntry (array ty) v
      → ((us : List (Val D E)) → AllByRecursion (IsOf OfDict OfEntry ty) us → P (val.array (vals_of us))) → P v
  at_array P ty v (us, is, all) p = subst P (sym is) (p us all)

  -- the answer that a test chooses
  pub at_test : (P : Answer D E → Type 0) (test : Bool) (a b : Answer D E) → (test ≡ true → P a) → (test ≡ false → P b) → P (if test then a else b)
  at_test P true a b p q = p refl
  at_test P false a b p q = q refl

  -- so many results
  pub gives_none : (tyss : List (List Ty)) (k : ℕ) → slice_get tyss k ≡ Some [] → IsAnswered tyss (branch k [])
  gives_none tyss k there = record { branch = k; outs = []; tys = []; is = refl; there = there; typed = refl }

  pub gives_one : (tyss : List (List Ty)) (k : ℕ) (a : Ty) (v : Val D E) → slice_get tyss k ≡ Some (a ∷ []) → IsOf OfDict OfEntry a v
      → IsAnswered tyss (branch k (v ∷ []))
  gives_one tyss k a v there v_is = record { branch = k; outs = v ∷ []; tys = a ∷ []; is = refl; there = there; typed = (v, [], refl, v_is, refl) }

  pub gives_two : (tyss : List (List Ty)) (k : ℕ) (a b : Ty) (v u : Val D E) → slice_get tyss k ≡ Some (a ∷ b ∷ [])
      → IsOf OfDict OfEntry a v → IsOf OfDict OfEntry b u → IsAnswered tyss (branch k (v ∷ u ∷ []))
  gives_two tyss k a b v u there v_is u_is =
      let last : AllOf OfDict OfEntry (b ∷ []) (u ∷ []) = (u, [], refl, u_is, refl) in
      let all : AllOf OfDict OfEntry (a ∷ b ∷ []) (v ∷ u ∷ []) = (v, u ∷ [], refl, v_is, last) in
      record { branch = k; outs = v ∷ u ∷ []; tys = a ∷ b ∷ []; is = refl; there = there; typed = all }

  pub gives_three : (tyss : List (List Ty)) (k : ℕ) (a b c : Ty) (v u w : Val D E) → slice_get tyss k ≡ Some (a ∷ b ∷ c ∷ [])
      → IsOf OfDict OfEntry a v → IsOf OfDict OfEntry b u → IsOf OfDict OfEntry c w → IsAnswered tyss (branch k (v ∷ u ∷ w ∷ []))
  gives_three tyss k a b c v u w there v_is u_is w_is =
      let last : AllOf OfDict OfEntry (c ∷ []) (w ∷ []) = (w, [], refl, w_is, refl) in
      let later : AllOf OfDict OfEntry (b ∷ c ∷ []) (u ∷ w ∷ []) = (u, w ∷ [], refl, u_is, last) in
      let all : AllOf OfDict OfEntry (a ∷ b ∷ c ∷ []) (v ∷ u ∷ w ∷ []) = (v, u ∷ w ∷ [], refl, v_is, later) in
      record { branch = k; outs = v ∷ u ∷ w ∷ []; tys = a ∷ b ∷ c ∷ []; is = refl; there = there; typed = all }
