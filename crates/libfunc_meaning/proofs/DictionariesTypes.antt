-- Dictionaries: there is an answer, of the types of its branch, also by the relation.
use Rattle.std.proofs.Common.{◌≡◌, ℕ, ◌<◌, true, false, List, [], ◌∷◌, Option, Some, cond, map, length, refl, sym, ◌∙◌, subst, arith, Less, Equal, Greater}
use Rattle.std.specs.List.{AllByRecursion}
use Rattle.std.specs.Option.{unwrap_or}
use Rattle.std.specs.Ordering.{nat_cmp, eq_by_cmp}
use Rattle.std.specs.Cmp.{nat_cmp_total}
use Rattle.std.specs.FinMap.{entries, get, insert, find, put, get-entries, entries-insert, len-entries, len-empty}
use Rattle.std.specs.FinMap as finite
use Rattle.std.specs.FinMap.Entries.{by_order}
use Rattle.felt64.specs.Field.{modulus}
use Rattle.type_trees.specs.Ty.{number, range_check, array, dict, dict_entry, squashed_dict, no_types, types}
use Rattle.type_trees.specs.declared.num.Num.{Num}
use Rattle.type_trees.specs.declared.num.Num.TheVariants as nums
use Rattle.type_table.specs.Shapes.{access}
use Rattle.libfunc_registry.specs.Fam.{dictionaries}
use Rattle.libfunc_registry.specs.Dictionaries.{DictionariesFam, dict_new, dict_entry_get, dict_entry_finalize, dict_squash, dict_entries, dictionaries_takes, dictionaries_gives, felt}
use Rattle.value_trees.specs.Of.{AllOf, AreOf, IsOf, AreWords, IsOpenMap, bound}
use Rattle.value_trees.specs.Val.{Val, Plain, WordMap, OpenMap, vals_of}
use Rattle.value_trees.specs.Val as val
use Rattle.libfunc_meaning.specs.Dictionaries.{mapped, dictionaries_does, entry_of}
use Rattle.libfunc_meaning.specs.Do.{Do}
use Rattle.libfunc_meaning.specs.Mapped.{mapped_does}
use Rattle.libfunc_meaning.proofs.Typed.{IsAnswered, at_none, at_one, at_two, at_three, at_number, gives_one, gives_two, gives_three}

-- an entry: its key is a felt, and its word a number of the type
abbrev pub IsEntry : Num → ℕ × ℕ → Type 0
IsEntry k e = (e.0 < modulus) × (e.1 < bound k)

pub some_number : (k : Num) → 0 < bound k
some_number nums.Felt64 = omega arith
some_number nums.U8 = omega arith
some_number nums.U16 = omega arith
some_number nums.U32 = omega arith

module _ {D E : Type 0} (OfDict : Num → D → Type 0) (OfEntry : Num → E → Type 0) where
  is_access : (k : Num) (e : ℕ × ℕ) → IsEntry k e → IsOf OfDict OfEntry (access k) (entry_of k e)
  is_access k e h =
      let last : AreOf OfDict OfEntry (types (number k) no_types) (val.number k e.1 ∷ []) = (val.number k e.1, [], refl, (e.1, refl, h.1), refl) in
      let later : AreOf OfDict OfEntry (types (number k) (types (number k) no_types)) (val.number k 0 ∷ val.number k e.1 ∷ []) =
      (val.number k 0, val.number k e.1 ∷ [], refl, (0, refl, some_number k), last) in
      let all : AreOf OfDict OfEntry (types felt (types (number k) (types (number k) no_types))) (val.number nums.Felt64 e.0 ∷ val.number k 0 ∷ val.number k e.1 ∷ []) =
      (val.number nums.Felt64 e.0, val.number k 0 ∷ val.number k e.1 ∷ [], refl, (e.0, refl, h.0), later) in
      (val.number nums.Felt64 e.0 ∷ val.number k 0 ∷ val.number k e.1 ∷ [], refl, all)

  are_accesses : (k : Num) (es : List (ℕ × ℕ)) → AllByRecursion (IsEntry k) es → AllByRecursion (IsOf OfDict OfEntry (access k)) (map (entry_of k) es)
  are_accesses k [] h = tt
  are_accesses k (e ∷ es) h = (is_access k e h.0, are_accesses k es h.1)

  pub entries_answers : (k : Num) (vs : List (Val D E)) → AllOf OfDict OfEntry (dictionaries_takes (dict_entries k)) vs
      → IsAnswered OfDict OfEntry (dictionaries_gives (dict_entries k)) (dictionaries_does (dict_entries k) vs)
  entries_answers k vs h =
      at_one OfDict OfEntry (λ us. IsAnswered OfDict OfEntry (dictionaries_gives (dict_entries k)) (dictionaries_does (dict_entries k) us)) (squashed_dict k) vs h (λ v v_is.
      subst (λ u. IsAnswered OfDict OfEntry (dictionaries_gives (dict_entries k)) (dictionaries_does (dict_entries k) (u ∷ []))) (sym v_is.1)
      (gives_one OfDict OfEntry _ 0 (array (access k)) (val.array (vals_of (map (entry_of k) (entries v_is.0)))) refl
      (map (entry_of k) (entries v_is.0), refl, are_accesses k (entries v_is.0) v_is.2)))

-- the words of a map after one is put
put_entries : (k : Num) (key word : ℕ) (es : List (ℕ × ℕ)) → key < modulus → word < bound k → AllByRecursion (IsEntry k) es → AllByRecursion (IsEntry k) (put nat_cmp key word es)
put_entries k key word [] key_below below h = ((key_below, below), tt)
put_entries k key word (e ∷ es) key_below below h =
    elim (nat_cmp key e.0) as (λ o. AllByRecursion (IsEntry k) (by_order o ((key, word) ∷ e ∷ es) ((e.0, word) ∷ es) (e ∷ put nat_cmp key word es))) [
      | Less ↦ ((key_below, below), h)
      | Equal ↦ ((h.0.0, below), h.1)
      | Greater ↦ (h.0, put_entries k key word es key_below below h.1)
    ]

pub inserted : (k : Num) (m : WordMap) (key word : ℕ) → key < modulus → word < bound k → AreWords k m → AreWords k (insert m key word)
inserted k m key word key_below below h =
    subst (AllByRecursion (IsEntry k)) (sym (entries-insert nat_cmp_total m key word)) (put_entries k key word (entries m) key_below below h)

found_entry : (k : Num) (key : ℕ) (es : List (ℕ × ℕ)) → AllByRecursion (IsEntry k) es → unwrap_or (find nat_cmp key es) 0 < bound k
found_entry k key [] h = some_number k
found_entry k key (e ∷ es) h =
    elim (eq_by_cmp nat_cmp key e.0) as (λ b. unwrap_or (cond b (Some e.1) (find nat_cmp key es)) 0 < bound k) [ true ↦ h.0.1 | false ↦ found_entry k key es h.1 ]

pub found_word : (k : Num) (m : WordMap) (key : ℕ) → AreWords k m → unwrap_or (get m key) 0 < bound k
found_word k m key h = subst (λ o. unwrap_or o 0 < bound k) (sym (get-entries m key)) (found_entry k key (entries m) h)

no_entries : {X : Type 0} (es : List X) → length es ≡ 0 → es ≡ []
no_entries [] e = refl
no_entries (x ∷ es) e = absurd (omega arith)

pub no_words : (k : Num) → AreWords k finite.empty
no_words k =
    let none : entries (finite.empty {X = ℕ} {R = nat_cmp}) ≡ [] = no_entries _ (sym (len-entries finite.empty) ∙ len-empty nat_cmp ℕ) in
    subst (AllByRecursion (IsEntry k)) (sym none) tt

-- an answer of a family's types that the relation gives too
pub record IsMapped (fam : DictionariesFam) (vs : List Plain) : Type 0 where
  pub answered : IsAnswered AreWords IsOpenMap (dictionaries_gives fam) (mapped_does fam vs)
  pub done : (amount k : ℕ) (outs : List Plain) → mapped_does fam vs ≡ Some (k, outs) → Do mapped (dictionaries fam) vs amount k outs

-- what holds of an answer holds of one that is the same
chosen : (Q : ℕ → List Plain → Type 0) (j k : ℕ) (us outs : List Plain) → ◌≡◌ {A = Option (ℕ × List Plain)} (Some (j, us)) (Some (k, outs)) → Q j us → Q k outs
chosen Q j k us outs e h =
    let same : ◌≡◌ {A = ℕ × List Plain} (j, us) (k, outs) = cc in
    subst (λ (p : ℕ × List Plain). Q p.0 p.1) same h

at_dict : (P : Plain → Type 0) (k : Num) (v : Plain) → IsOf AreWords IsOpenMap (dict k) v → ((m : WordMap) → AreWords k m → P (val.dict m)) → P v
at_dict P k v (m, is, words) p = subst P (sym is) (p m words)

at_entry : (P : Plain → Type 0) (k : Num) (v : Plain) → IsOf AreWords IsOpenMap (dict_entry k) v → ((e : OpenMap) → IsOpenMap k e → P (val.dict_entry e)) → P v
at_entry P k v (e, is, open_) p = subst P (sym is) (p e open_)

got : (k : Num) (rc : Plain) (m : WordMap) (key : ℕ) → rc ≡ val.check → AreWords k m → key < modulus → IsMapped (dict_entry_get k) (rc ∷ val.dict m ∷ val.number nums.Felt64 key ∷ [])
got k rc m key is words below =
    let e : OpenMap = record { map = m; key = key } in
    let word : ℕ = unwrap_or (get m key) 0 in
    let fits : word < bound k = found_word k m key words in
    record {
      answered = gives_three AreWords IsOpenMap _ 0 range_check (dict_entry k) (number k) rc (val.dict_entry e) (val.number k word) refl is (e, refl, (words, below)) (word, refl, fits);
      done = λ amount k' outs same. chosen (Do mapped (dictionaries (dict_entry_get k)) (rc ∷ val.dict m ∷ val.number nums.Felt64 key ∷ []) amount) 0 k'
          (rc ∷ val.dict_entry e ∷ val.number k word ∷ []) outs same (refl, (rc, m, key, word, e, (refl, refl), fits, refl, refl));
    }

finalized : (k : Num) (e : OpenMap) (word : ℕ) → IsOpenMap k e → word < bound k → IsMapped (dict_entry_finalize k) (val.dict_entry e ∷ val.number k word ∷ [])
finalized k e word open_ below = record {
  answered = gives_one AreWords IsOpenMap _ 0 (dict k) (val.dict (insert e.map e.key word)) refl (insert e.map e.key word, refl, inserted k e.map e.key word open_.1 below open_.0);
  done = λ amount k' outs same. chosen (Do mapped (dictionaries (dict_entry_finalize k)) (val.dict_entry e ∷ val.number k word ∷ []) amount) 0 k'
      (val.dict (insert e.map e.key word) ∷ []) outs same (refl, (e, word, insert e.map e.key word, refl, refl, refl));
}

squashed : (k : Num) (rc : Plain) (m : WordMap) → rc ≡ val.check → AreWords k m → IsMapped (dict_squash k) (rc ∷ val.dict m ∷ [])
squashed k rc m is words = record {
  answered = gives_two AreWords IsOpenMap _ 0 range_check (squashed_dict k) rc (val.squashed_dict m) refl is (m, refl, words);
  done = λ amount k' outs same. chosen (Do mapped (dictionaries (dict_squash k)) (rc ∷ val.dict m ∷ []) amount) 0 k'
      (rc ∷ val.squashed_dict m ∷ []) outs same (refl, (rc, m, m, refl, refl, refl));
}

begun : (k : Num) → IsMapped (dict_new k) []
begun k = record {
  answered = gives_one AreWords IsOpenMap _ 0 (dict k) (val.dict finite.empty) refl (finite.empty, refl, no_words k);
  done = λ amount k' outs same. chosen (Do mapped (dictionaries (dict_new k)) [] amount) 0 k' (val.dict finite.empty ∷ []) outs same (refl, (finite.empty, refl, refl, refl));
}

pub mapped_answers : (fam : DictionariesFam) (vs : List Plain) → AllOf AreWords IsOpenMap (dictionaries_takes fam) vs → IsMapped fam vs
mapped_answers (dict_new k) vs h = at_none AreWords IsOpenMap (IsMapped (dict_new k)) vs h (begun k)
mapped_answers (dict_entry_get k) vs h =
    at_three AreWords IsOpenMap (IsMapped (dict_entry_get k)) range_check (dict k) felt vs h (λ rc v u rc_is v_is u_is.
    at_dict (λ w. IsMapped (dict_entry_get k) (rc ∷ w ∷ u ∷ [])) k v v_is (λ m words.
    at_number AreWords IsOpenMap (λ w. IsMapped (dict_entry_get k) (rc ∷ val.dict m ∷ w ∷ [])) nums.Felt64 u u_is (λ key below. got k rc m key rc_is words below)))
mapped_answers (dict_entry_finalize k) vs h =
    at_two AreWords IsOpenMap (IsMapped (dict_entry_finalize k)) (dict_entry k) (number k) vs h (λ v u v_is u_is.
    at_entry (λ w. IsMapped (dict_entry_finalize k) (w ∷ u ∷ [])) k v v_is (λ e open_.
    at_number AreWords IsOpenMap (λ w. IsMapped (dict_entry_finalize k) (val.dict_entry e ∷ w ∷ [])) k u u_is (λ word below. finalized k e word open_ below)))
mapped_answers (dict_squash k) vs h =
    at_two AreWords IsOpenMap (IsMapped (dict_squash k)) range_check (dict k) vs h (λ rc v rc_is v_is.
    at_dict (λ w. IsMapped (dict_squash k) (rc ∷ w ∷ [])) k v v_is (λ m words. squashed k rc m rc_is words))
mapped_answers (dict_entries k) vs h =
    let answer = entries_answers AreWords IsOpenMap k vs h in
    record { answered = answer; done = λ amount k' outs same. same }
