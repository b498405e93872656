-- Variables that are taken or added one after another by a loop: what is left to do leads to what all of it leads to.
use Rattle.std.proofs.Common.{◌≡◌, inl, inr, ℕ, List, [], ◌∷◌, ◌++◌, reverse, length, Option, Some, IsSome, Ok, refl, sym, ap, subst, ◌∙◌, arith, append_assoc}
use Rattle.std.specs.List.{zip}
use Rattle.std.proofs.lemmas.Bool.Decides.{nat_tests}
use Rattle.std.proofs.lemmas.List.{reverse-append, append-nil}
use Rattle.std.proofs.lemmas.Option.{none-some, same_Some, some_pair_parts}
use Rattle.held_list.specs.Held.{Held, get}
use Rattle.held_list.specs.Editing.{take, add, take_all, add_all}
use Rattle.held_list.proofs.Steps.{take_cases}
use Rattle.sierra_meaning.proofs.HeldValues.{ok_same, or_stop_ok, takes_first}

pub is_there : {A : Type 0} (o : Option A) (a : A) → o ≡ Some a → IsSome o
is_there o a is = subst IsSome (sym is) refl

module _ {A : Type 0} where
  -- what is taken is held
  pub taken_held : (held : Held A) (v : ℕ) (a : A) (rest : Held A) → take v held ≡ Some (a, rest) → IsSome (get v held)
  taken_held [] v a rest is = absurd (none-some (a, rest) is)
  taken_held (x ∷ xs) v a rest is =
      elim (take_cases x xs v a rest is) [
        | inl here ↦ (let first : v ≡ x.0 = here.0 in grind (arith, nat_tests))
        | inr behind ↦ (let other : v ≡ x.0 → ⊥ = behind.0 in let later = taken_held xs v a behind.1.0 behind.1.1 in grind (arith, nat_tests))
      ]

  -- the variables that are left lead to the same
  pub record TakesOn (names : List ℕ) (env : Held A) (so_far vs : List A) (rest : Held A) : Type 0 where
    pub later : List A
    pub takes : take_all names env ≡ Ok (later, rest)
    pub all : so_far ++ later ≡ vs

  pub takes_begun : (names : List ℕ) (env : Held A) (none vs : List A) (rest : Held A) → none ≡ [] → take_all names env ≡ Ok (vs, rest) → TakesOn names env none vs rest
  takes_begun names env none vs rest empty is = record { later = vs; takes = is; all = ap (λ (us : List A). us ++ vs) empty }

  pub takes_held : (names later : List ℕ) (n : ℕ) (env : Held A) (so_far vs : List A) (rest : Held A) → names ≡ n ∷ later → TakesOn names env so_far vs rest → IsSome (get n env)
  takes_held names later n env so_far vs rest is on =
      let parts = takes_first n later env on.later rest (ap (λ ns. take_all ns env) (sym is) ∙ on.takes) in
      taken_held env n parts.first parts.left parts.takes

  pub takes_more : (names later : List ℕ) (n : ℕ) (env left : Held A) (a : A) (so_far vs : List A) (rest : Held A) → names ≡ n ∷ later → take n env ≡ Some (a, left) → TakesOn names env so_far vs rest
      → TakesOn later left (so_far ++ a ∷ []) vs rest
  takes_more names later n env left a so_far vs rest is took on =
      let parts = takes_first n later env on.later rest (ap (λ ns. take_all ns env) (sym is) ∙ on.takes) in
      let same = some_pair_parts a parts.first left parts.left (sym took ∙ parts.takes) in
      record {
        later = parts.others;
        takes = ap (take_all later) same.1 ∙ parts.then_takes;
        all = append_assoc so_far (a ∷ []) parts.others ∙ ap (λ (b : A). so_far ++ b ∷ parts.others) same.0 ∙ ap (λ (us : List A). so_far ++ us) parts.all ∙ on.all;
      }

  pub takes_done : (names : List ℕ) (env : Held A) (so_far vs : List A) (rest : Held A) → names ≡ [] → TakesOn names env so_far vs rest → ◌≡◌ {A = List A × Held A} (vs, rest) (so_far, env)
  takes_done names env so_far vs rest none on =
      let same = ok_same ([], env) (on.later, rest) (ap (λ ns. take_all ns env) (sym none) ∙ on.takes) in
      let no_more : [] ≡ on.later = ap (λ (p : List A × Held A). p.0) same in
      let left : env ≡ rest = ap (λ (p : List A × Held A). p.1) same in
      let all : vs ≡ so_far = sym on.all ∙ ap (λ us. so_far ++ us) (sym no_more) ∙ append-nil so_far in
      ap (λ us. (us, rest)) all ∙ ap (λ r. (so_far, r)) (sym left)

  -- the last of the values that are left, turned round, is the next
  pub popped : (old new : List A) (v : A) → old ≡ new ++ v ∷ [] → reverse old ≡ v ∷ reverse new
  popped old new v is = ap reverse is ∙ reverse-append new (v ∷ [])

  -- the variables and values that are left lead to the same
  pub adds_new : (names later : List ℕ) (n : ℕ) (old new : List A) (v : A) (env more : Held A) → names ≡ n ∷ later → old ≡ new ++ v ∷ [] → add_all (zip names (reverse old)) env ≡ Ok more
      → (next : Held A) × (add n v env ≡ Some next) × (add_all (zip later (reverse new)) next ≡ Ok more)
  adds_new names later n old new v env more is last adds =
      let here : add_all (zip (n ∷ later) (v ∷ reverse new)) env ≡ Ok more = ap (λ ns. add_all (zip ns (v ∷ reverse new)) env) (sym is) ∙ ap (λ vs. add_all (zip names vs) env) (sym (popped old new v last)) ∙ adds in
      or_stop_ok (add n v env) n (add_all (zip later (reverse new))) more here

  pub adds_more : (names later : List ℕ) (n : ℕ) (old new : List A) (v : A) (env next more : Held A) → names ≡ n ∷ later → old ≡ new ++ v ∷ [] → add n v env ≡ Some next → add_all (zip names (reverse old)) env ≡ Ok more
      → add_all (zip later (reverse new)) next ≡ Ok more
  adds_more names later n old new v env next more is last added adds =
      let found = adds_new names later n old new v env more is last adds in
      let same : next ≡ found.0 = same_Some next found.0 (sym added ∙ found.1) in
      ap (add_all (zip later (reverse new))) same ∙ found.2

  pub adds_done : (names : List ℕ) (vs : List A) (env more : Held A) → names ≡ [] → add_all (zip names vs) env ≡ Ok more → more ≡ env
  adds_done names vs env more none adds = sym (ok_same env more (ap (λ ns. add_all (zip ns vs) env) (sym none) ∙ adds))

  pub adds_without : (names : List ℕ) (vs : List A) (env more : Held A) → vs ≡ [] → add_all (zip names vs) env ≡ Ok more → more ≡ env
  adds_without [] vs env more none adds = sym (ok_same env more adds)
  adds_without (n ∷ names) vs env more none adds = sym (ok_same env more (ap (λ us. add_all (zip (n ∷ names) us) env) (sym none) ∙ adds))

  pub no_items : (xs : List A) → length xs ≡ 0 → reverse xs ≡ []
  no_items [] none = refl
  no_items (x ∷ xs) none = absurd (omega arith)
