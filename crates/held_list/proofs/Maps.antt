-- What the entries of a map are where a variable is taken out or added.
use Rattle.std.proofs.Common.{◌≡◌, ℕ, ◌+◌, ◌<◌, ◌≤◌, Bool, true, false, cond, List, [], ◌∷◌, ◌++◌, Option, Some, None, option_map, refl, sym, ap, ◌∙◌, arith, inl, inr}
use Rattle.std.specs.BTreeMap.{insert_entry, is_at}
use Rattle.std.specs.Map.{lookup, remove_entry}
use Rattle.std.specs.Ordering.{nat_cmp, match_ordering}
use Rattle.std.specs.declared.cmp.Ordering.{Ordering}
use Rattle.std.specs.declared.cmp.Ordering.TheVariants.{Less, Equal, Greater}
use Rattle.std.proofs.lemmas.Bool.{cases_order, cases_eq}
use Rattle.std.proofs.lemmas.Bool.Decides.{nat_tests}
use Rattle.std.proofs.lemmas.Option.{none-some}
use Rattle.held_list.specs.Held.{Held, RisesFrom}
use Rattle.held_list.specs.Editing.{take, add}
use Rattle.held_list.proofs.Rising.{rises_wider}
use Rattle.held_list.proofs.Steps.{take-first, add-first, add-later}

at_same : (v w : ℕ) → v ≡ w → is_at (nat_cmp v) w ≡ true
at_same v w same = grind (arith, nat_tests)

at_other : (v w : ℕ) → (v ≡ w → ⊥) → is_at (nat_cmp v) w ≡ false
at_other v w other = grind (arith, nat_tests)

cmp_less : (v w : ℕ) → v < w → nat_cmp v w ≡ Less
cmp_less v w lt = grind (arith, nat_tests)

cmp_greater : (v w : ℕ) → w < v → nat_cmp v w ≡ Greater
cmp_greater v w lt = grind (arith, nat_tests)

-- what a test of the first key finds
lookup_first : {A : Type 0} (test : ℕ → Bool) (x : ℕ × A) (xs : Held A) (b : Bool) → test x.0 ≡ b → lookup test (x ∷ xs) ≡ cond b (Some x.1) (lookup test xs)
lookup_first test x xs b is = ap (λ c. cond c (Some x.1) (lookup test xs)) is

remove_first : {A : Type 0} (test : ℕ → Bool) (x : ℕ × A) (xs : Held A) (b : Bool) → test x.0 ≡ b → remove_entry test (x ∷ xs) ≡ cond b xs (x ∷ remove_entry test xs)
remove_first test x xs b is = ap (λ c. cond c xs (x ∷ remove_entry test xs)) is

insert_first : {A : Type 0} (x : ℕ × A) (xs : Held A) (v : ℕ) (a : A) (r : Ordering) → nat_cmp v x.0 ≡ r
    → insert_entry nat_cmp (x ∷ xs) v a ≡ match_ordering r ((v, a) ∷ x ∷ xs) ((x.0, a) ∷ xs) (x ∷ insert_entry nat_cmp xs v a)
insert_first x xs v a r is = ap (λ o. match_ordering o ((v, a) ∷ x ∷ xs) ((x.0, a) ∷ xs) (x ∷ insert_entry nat_cmp xs v a)) is

abbrev pub with_rest : {A : Type 0} → Held A → A → A × Held A
with_rest rest a = (a, rest)

-- what is taken out, by the entries
abbrev pub removed : {A : Type 0} → ℕ → Held A → Option (A × Held A)
removed v xs = option_map (with_rest (remove_entry (is_at (nat_cmp v)) xs)) (lookup (is_at (nat_cmp v)) xs)

abbrev onto : {A : Type 0} → ℕ × A → A × Held A → A × Held A
onto x taken = (taken.0, x ∷ taken.1)

pushed : {A : Type 0} (x : ℕ × A) (o : Option A) (rest : Held A) → option_map (onto x) (option_map (with_rest rest) o) ≡ option_map (with_rest (x ∷ rest)) o
pushed x None rest = refl
pushed x (Some a) rest = refl

pub take_removes : {A : Type 0} (v : ℕ) (xs : Held A) → take v xs ≡ removed v xs
take_removes v [] = refl
take_removes {A} v (x ∷ xs) =
    let test = is_at (nat_cmp v) in
    elim (cases_eq v x.0) [
      | inl same ↦
          let is = at_same v x.0 same in
          take-first x xs v same ∙ sym (
          ap (option_map (with_rest (remove_entry test (x ∷ xs)))) (lookup_first test x xs true is) ∙ ap (λ r. Some (x.1, r)) (remove_first test x xs true is)
          )
      | inr other ↦
          let is = at_other v x.0 other in
          let here : take v (x ∷ xs) ≡ option_map (onto x) (take v xs) = grind (arith, nat_tests) in
          here ∙ ap (option_map (onto x)) (take_removes v xs) ∙ pushed x (lookup test xs) (remove_entry test xs) ∙ sym (
          ap (option_map (with_rest (remove_entry test (x ∷ xs)))) (lookup_first test x xs false is) ∙ ap (λ r. option_map (with_rest r) (lookup test xs)) (remove_first test x xs false is)
          )
    ]

lookup_below : {A : Type 0} (xs : Held A) (least v : ℕ) → RisesFrom least xs → v < least → lookup (is_at (nat_cmp v)) xs ≡ None
lookup_below [] least v rises lt = refl
lookup_below (x ∷ xs) least v rises lt =
    lookup_first (is_at (nat_cmp v)) x xs false (at_other v x.0 (λ same. omega (arith, rises.0, same, lt))) ∙ lookup_below xs (x.0 + 1) v rises.1 (omega (arith, rises.0, lt))

-- what isn't held is added where a map puts it
pub add_inserts : {A : Type 0} (xs : Held A) (least v : ℕ) (a : A) → RisesFrom least xs → lookup (is_at (nat_cmp v)) xs ≡ None → add v a xs ≡ Some (insert_entry nat_cmp xs v a)
add_inserts [] least v a rises none = refl
add_inserts (x ∷ xs) least v a rises none =
    let test = is_at (nat_cmp v) in
    elim (cases_order v x.0) [
      | inl same ↦ absurd (none-some _ (sym none ∙ lookup_first test x xs true (at_same v x.0 same)))
      | inr (inl below) ↦ add-first x xs v a below ∙ ap Some (sym (insert_first x xs v a Less (cmp_less v x.0 below)))
      | inr (inr above) ↦
          let is = at_other v x.0 (λ same. omega (arith, above, same)) in
          add-later x xs v a _ above (add_inserts xs (x.0 + 1) v a rises.1 (sym (lookup_first test x xs false is) ∙ none))
          ∙ ap Some (sym (insert_first x xs v a Greater (cmp_greater v x.0 above)))
    ]

-- what is held isn't added
pub add_refuses : {A : Type 0} (xs : Held A) (least v : ℕ) (a b : A) → RisesFrom least xs → lookup (is_at (nat_cmp v)) xs ≡ Some b → add v a xs ≡ None
add_refuses [] least v a b rises some = absurd (none-some b some)
add_refuses (x ∷ xs) least v a b rises some =
    let test = is_at (nat_cmp v) in
    elim (cases_order v x.0) [
      | inl same ↦ (let here : add v a (x ∷ xs) ≡ None = grind (arith, nat_tests) in here)
      | inr (inl below) ↦
          let is = at_other v x.0 (λ same. omega (arith, below, same)) in
          absurd (none-some b (sym (lookup_below xs (x.0 + 1) v rises.1 (omega (arith, below))) ∙ sym (lookup_first test x xs false is) ∙ some))
      | inr (inr above) ↦
          let is = at_other v x.0 (λ same. omega (arith, above, same)) in
          let later = add_refuses xs (x.0 + 1) v a b rises.1 (sym (lookup_first test x xs false is) ∙ some) in
          let here : add v a (x ∷ xs) ≡ option_map (λ (more : Held _). x ∷ more) (add v a xs) = grind (arith, nat_tests) in
          here ∙ ap (option_map (λ (more : Held _). x ∷ more)) later
    ]

rises_by : {A : Type 0} (x : ℕ × A) (xs rest : Held A) (least : ℕ) (b : Bool) → RisesFrom least (x ∷ xs) → RisesFrom (x.0 + 1) rest → RisesFrom least (cond b xs (x ∷ rest))
rises_by x xs rest least true rises later = rises_wider xs least (x.0 + 1) (omega (arith, rises.0)) rises.1
rises_by x xs rest least false rises later = (rises.0, later)

pub remove_rises : {A : Type 0} (test : ℕ → Bool) (xs : Held A) (least : ℕ) → RisesFrom least xs → RisesFrom least (remove_entry test xs)
remove_rises test [] least rises = tt
remove_rises test (x ∷ xs) least rises = rises_by x xs (remove_entry test xs) least (test x.0) rises (remove_rises test xs (x.0 + 1) rises.1)

-- what is added behind all others is the last
pub insert_last : {A : Type 0} (xs rest : Held A) (x : ℕ × A) (least : ℕ) → RisesFrom least (xs ++ x ∷ rest) → insert_entry nat_cmp xs x.0 x.1 ≡ xs ++ x ∷ []
insert_last [] rest x least rises = refl
insert_last (y ∷ ys) rest x least rises =
    insert_first y ys x.0 x.1 Greater (cmp_greater x.0 y.0 (omega (arith, last_above ys rest x (y.0 + 1) rises.1))) ∙ ap (λ more. y ∷ more) (insert_last ys rest x (y.0 + 1) rises.1)
  where
    last_above : {A : Type 0} (ys rest : Held A) (x : ℕ × A) (low : ℕ) → RisesFrom low (ys ++ x ∷ rest) → low ≤ x.0
    last_above [] rest x low rises = rises.0
    last_above (y ∷ ys) rest x low rises = omega (arith, rises.0, last_above ys rest x (y.0 + 1) rises.1)
