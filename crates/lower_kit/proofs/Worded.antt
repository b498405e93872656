-- Values of types that may be stored: each of their own cells has a word, where their padding has.
use Rattle.std.proofs.Common.{◌≡◌, ℕ, zero, suc, ◌-◌, ◌<◌, true, Option, Some, List, [], ◌∷◌, ◌++◌, take, drop, length, refl, sym, ap, ◌∙◌, subst, inl, inr, arith, take-append-drop}
use Rattle.std.specs.List.{All, AllByRecursion}
use Rattle.std.proofs.lemmas.List.Elements.{All-head, All-tail, All-nil, All-cons}
use Rattle.std.proofs.lemmas.Option.{slice_get_cases}
use Rattle.ro_machine.specs.Readings.{Readings}
use Rattle.type_trees.specs.Ty.{Ty, Tys, number, nonzero, range_check, gas_builtin, box, array, snapshot, struct, enum, dict, dict_entry, squashed_dict, uninitialized, no_types, types, size, storable, all_storable}
use Rattle.type_table.specs.declared.type_id.TypeId.{TypeId}
use Rattle.type_table.specs.Trees.{IsAllowed, parts, listed as listed_types}
use Rattle.type_table.specs.View.{TypesView, IsTable, IsInTable, IsRow, tree_of, trees_of}
use Rattle.type_table.proofs.DecidedLists.{at_below}
use Rattle.libfunc_registry.proofs.Finds.{part_in_table}
use Rattle.value_trees.specs.Logs.{Logged}
use Rattle.cell_forms.specs.Standing.{listed, LoggedStands}
use Rattle.cell_forms.proofs.Once.{both_true}
use Rattle.lower_kit.specs.Worded.{IsWorded, AreWorded}
use Rattle.lower_kit.proofs.Members.{Together, Variant}

abbrev pub IsWord : Option ℕ → Type 0
IsWord o = (n : ℕ) × (o ≡ Some n)

module _ (view : TypesView) (kept : IsTable view) where
  pub allowed_in : (ty : Ty) → IsInTable view ty → IsAllowed ty
  allowed_in ty (i, here) = let row = at_below view.rows i here.below in subst IsAllowed here.tree (kept.rows_right i row.0 row.1).allowed

  trees_in : (ts : List TypeId) (tys : List Ty) → All (λ t. t.0 < length view.rows) ts → trees_of view ts ≡ tys → All (IsInTable view) tys
  trees_in [] tys below is = subst (All (IsInTable view)) is (All-nil (IsInTable view))
  trees_in (t ∷ ts) tys below is =
      subst (All (IsInTable view)) is
      (All-cons (IsInTable view) (tree_of view t.0) (trees_of view ts) (t.0, record { below = All-head (λ t. t.0 < length view.rows) t ts below; tree = refl })
      (trees_in ts (trees_of view ts) (All-tail (λ t. t.0 < length view.rows) t ts below) refl))

  -- the types that a declared type is made of are declared
  parts_in : (ty : Ty) → IsInTable view ty → All (IsInTable view) (parts ty)
  parts_in ty has =
      elim ((slice_get_cases view.rows has.0).1) [
        | inl here ↦
            let right : IsRow view has.0 here.0 = kept.rows_right has.0 here.0 here.2 in
            trees_in here.0.members (parts ty) right.below (right.members ∙ ap parts has.1.tree)
        | inr past ↦ absurd (let below : has.0 < length view.rows = has.1.below in omega (arith, past.0))
      ]

  mutual
    pub worded : (ty : Ty) → IsInTable view ty → storable ty ≡ true → IsWorded ty
    worded (number k) has stored = tt
    worded (nonzero k) has stored = tt
    worded range_check has stored = tt
    worded gas_builtin has stored = tt
    worded (box ty) has stored = tt
    worded (array ty) has stored = tt
    worded (snapshot ty) has stored = worded ty (part_in_table view kept (snapshot ty) ty refl has) (allowed_in (snapshot ty) has).stored
    worded (struct name tys) has stored = all_worded tys (parts_in (struct name tys) has) stored
    worded (enum name tys) has stored = all_worded tys (parts_in (enum name tys) has) stored
    worded (dict k) has stored = tt
    worded (dict_entry k) has stored = tt
    worded (squashed_dict k) has stored = tt
    worded (uninitialized ty) has stored = cc

    all_worded : (tys : Tys) → All (IsInTable view) (listed_types tys) → all_storable tys ≡ true → AreWorded tys
    all_worded no_types all stored = tt
    all_worded (types ty tys) all stored =
        let both = both_true (storable ty) (all_storable tys) stored in
        (worded ty (All-head (IsInTable view) ty (listed_types tys) all) both.0, all_worded tys (All-tail (IsInTable view) ty (listed_types tys) all) both.1)

one_word : (cells : Readings) (n : ℕ) → cells ≡ Some n ∷ [] → AllByRecursion IsWord cells
one_word cells n is = subst (AllByRecursion IsWord) (sym is) ((n, refl), tt)

two_words : (cells : Readings) (a b : ℕ) → cells ≡ Some a ∷ Some b ∷ [] → AllByRecursion IsWord cells
two_words cells a b is = subst (AllByRecursion IsWord) (sym is) ((a, refl), ((b, refl), tt))

both_all : (xs ys : Readings) → AllByRecursion IsWord xs → AllByRecursion IsWord ys → AllByRecursion IsWord (xs ++ ys)
both_all [] ys first second = second
both_all (x ∷ xs) ys first second = (first.0, both_all xs ys first.1 second)

taken_all : (n : ℕ) (cells : Readings) → AllByRecursion IsWord (take n cells) → AllByRecursion IsWord (drop n cells) → AllByRecursion IsWord cells
taken_all n cells first second = subst (AllByRecursion IsWord) (take-append-drop n cells) (both_all (take n cells) (drop n cells) first second)

module _ (m : ℕ → Option ℕ) where
  mutual
    pub words : (ty : Ty) (cells : Readings) (v : Logged) → IsWorded ty → LoggedStands listed m ty cells v → AllByRecursion IsWord cells
    words (number k) cells v is h = one_word cells h.0 h.1
    words (nonzero k) cells v is h = one_word cells h.0 h.1
    words range_check cells v is h = one_word cells h.0 h.1
    words gas_builtin cells v is h = one_word cells h.0 h.1
    words (box ty) cells v is h = one_word cells h.2.0 h.2.1
    words (array ty) cells v is h = two_words cells h.2.0 h.2.1 h.2.2
    words (snapshot ty) cells v is h = words ty cells v is h
    words (struct name tys) cells v is h = together_words tys cells h.0 is h.2
    words (enum name tys) cells v is h = taken_all 1 cells (one_word (take 1 cells) h.0 h.4) (variant_words tys h.0 (drop 1 cells) h.1 is h.5)
    words (dict k) cells v is h = two_words cells h.2.0 h.2.1 h.2.2
    words (dict_entry k) cells v is h = two_words cells h.2.0 h.2.1 h.2.2
    words (squashed_dict k) cells v is h = two_words cells h.2.0 h.2.1 h.2.2
    words (uninitialized ty) cells v is h = absurd is

    together_words : (tys : Tys) (cells : Readings) (vs : List Logged) → AreWorded tys → Together listed m tys cells vs → AllByRecursion IsWord cells
    together_words no_types cells vs is h = subst (AllByRecursion IsWord) (sym h.0) tt
    together_words (types ty tys) cells vs is h = taken_all (size ty) cells (words ty (take (size ty) cells) h.0 is.0 h.3) (together_words tys (drop (size ty) cells) h.1 is.1 h.4)

    variant_words : (tys : Tys) (index : ℕ) (cells : Readings) (v : Logged) → AreWorded tys → Variant listed m tys index cells v → AllByRecursion IsWord cells
    variant_words no_types index cells v is h = absurd h
    variant_words (types ty tys) zero cells v is h = taken_all (length cells - size ty) cells h.0 (words ty (drop (length cells - size ty) cells) v is.0 h.1)
    variant_words (types ty tys) (suc index) cells v is h = variant_words tys index cells v is.1 h
