-- Some variables taken out of what is held, or added to it: the sum and the greatest of a number of each value.
use Rattle.std.proofs.Common.{◌≡◌, ℕ, ◌+◌, ◌≤◌, max, List, [], ◌∷◌, Option, Some, None, Result, Ok, Err, refl, ap, ◌∙◌, arith}
use Rattle.std.specs.List.{sum_by, zip}
use Rattle.std.specs.Result.{result_map_both}
use Rattle.std.proofs.lemmas.List.Sums.{sum_by-cons}
use Rattle.held_list.specs.Held.{Held, total, greatest}
use Rattle.held_list.specs.Editing.{take, add, or_stop, take_all, add_all}
use Rattle.held_list.proofs.Totals.{take_totals, add_totals, take_greatest, add_greatest}
use Rattle.sierra_meaning.specs.Facts.{greatest_of}

pub ok_same : {A F : Type 0} (x y : A) → ◌≡◌ {A = Result A F} (Ok x) (Ok y) → x ≡ y
ok_same x y is = cc

-- what there must have been where nothing stopped
pub or_stop_ok : {A B F : Type 0} (o : Option A) (x : F) (next : A → Result B F) (b : B) → or_stop o x next ≡ Ok b → (a : A) × (o ≡ Some a) × (next a ≡ Ok b)
or_stop_ok None x next b is = absurd (cc)
or_stop_ok (Some a) x next b is = (a, refl, is)

pub mapped_ok : {A B F : Type 0} (f : A → B) (g : F → F) (r : Result A F) (y : B) → result_map_both f g r ≡ Ok y → (x : A) × (r ≡ Ok x) × (f x ≡ y)
mapped_ok f g (Ok x) y is = (x, refl, ok_same (f x) y is)
mapped_ok f g (Err e) y is = absurd (cc)

-- the first variable is taken, then the others
pub record TakesFirst {V : Type 0} (v : ℕ) (names : List ℕ) (env : Held V) (taken : List V) (rest : Held V) : Type 0 where
  pub first : V
  pub left : Held V
  pub others : List V
  pub takes : take v env ≡ Some (first, left)
  pub then_takes : take_all names left ≡ Ok (others, rest)
  pub all : first ∷ others ≡ taken

pub takes_first : {V : Type 0} (v : ℕ) (names : List ℕ) (env : Held V) (taken : List V) (rest : Held V) → take_all (v ∷ names) env ≡ Ok (taken, rest) → TakesFirst v names env taken rest
takes_first {V} v names env taken rest is =
    let onto : V → List V × Held V → List V × Held V = λ first others. (first ∷ others.0, others.1) in
    let next : V × Held V → Result (List V × Held V) ℕ = λ got. result_map_both (onto got.0) (λ missing. missing) (take_all names got.1) in
    let found = or_stop_ok (take v env) v next (taken, rest) is in
    let behind = mapped_ok (onto found.0.0) (λ missing. missing) (take_all names found.0.1) (taken, rest) found.2 in
    record {
      first = found.0.0;
      left = found.0.1;
      others = behind.0.0;
      takes = found.1;
      then_takes = behind.1 ∙ ap (λ r. Ok (behind.0.0, r)) (ap (λ (p : List V × Held V). p.1) behind.2);
      all = ap (λ (p : List V × Held V). p.0) behind.2;
    }

pub take_all_total : {V : Type 0} (f : V → ℕ) (names : List ℕ) (env : Held V) (taken : List V) (rest : Held V) → take_all names env ≡ Ok (taken, rest)
    → sum_by f taken + total f rest ≡ total f env
take_all_total {V} f [] env taken rest is =
    let same = ok_same ([], env) (taken, rest) is in
    let none : [] ≡ taken = ap (λ (p : List V × Held V). p.0) same in
    let all : env ≡ rest = ap (λ (p : List V × Held V). p.1) same in
    omega (arith, ap (sum_by f) none, ap (total f) all)
take_all_total f (v ∷ names) env taken rest is =
    let parts = takes_first v names env taken rest is in
    let here = take_totals f env v parts.first parts.left parts.takes in
    let later = take_all_total f names parts.left parts.others rest parts.then_takes in
    omega (arith, ap (sum_by f) parts.all, sum_by-cons f parts.first parts.others)

pub take_all_greatest : {V : Type 0} (f : V → ℕ) (names : List ℕ) (env : Held V) (taken : List V) (rest : Held V) → take_all names env ≡ Ok (taken, rest)
    → max (greatest_of f taken) (greatest f rest) ≡ greatest f env
take_all_greatest {V} f [] env taken rest is =
    let same = ok_same ([], env) (taken, rest) is in
    let none : [] ≡ taken = ap (λ (p : List V × Held V). p.0) same in
    let all : env ≡ rest = ap (λ (p : List V × Held V). p.1) same in
    omega (arith, ap (greatest_of f) none, ap (greatest f) all)
take_all_greatest f (v ∷ names) env taken rest is =
    let parts = takes_first v names env taken rest is in
    let here = take_greatest f env v parts.first parts.left parts.takes in
    let later = take_all_greatest f names parts.left parts.others rest parts.then_takes in
    omega (arith, ap (greatest_of f) parts.all)

-- of names and values the fewer ones count
pub add_all_total : {V : Type 0} (f : V → ℕ) (names : List ℕ) (given : List V) (rest more : Held V) → add_all (zip names given) rest ≡ Ok more
    → total f more ≤ sum_by f given + total f rest
add_all_total f [] given rest more is = let same = ok_same rest more is in omega (arith, ap (total f) same)
add_all_total f (n ∷ names) [] rest more is = let same = ok_same rest more is in omega (arith, ap (total f) same)
add_all_total {V} f (n ∷ names) (v ∷ given) rest more is =
    let found = or_stop_ok (add n v rest) n (add_all (zip names given)) more is in
    let here = add_totals f rest n v found.0 found.1 in
    let later = add_all_total f names given found.0 more found.2 in
    omega (arith, sum_by-cons f v given)

pub add_all_greatest : {V : Type 0} (f : V → ℕ) (names : List ℕ) (given : List V) (rest more : Held V) → add_all (zip names given) rest ≡ Ok more
    → greatest f more ≤ max (greatest_of f given) (greatest f rest)
add_all_greatest f [] given rest more is = let same = ok_same rest more is in omega (arith, ap (greatest f) same)
add_all_greatest f (n ∷ names) [] rest more is = let same = ok_same rest more is in omega (arith, ap (greatest f) same)
add_all_greatest {V} f (n ∷ names) (v ∷ given) rest more is =
    let found = or_stop_ok (add n v rest) n (add_all (zip names given)) more is in
    let here = add_greatest f rest n v found.0 found.1 in
    let later = add_all_greatest f names given found.0 more found.2 in
    omega arith
