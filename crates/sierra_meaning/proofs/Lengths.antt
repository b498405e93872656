-- No libfunc gives anything longer than the longest thing that it takes, but for one element more where one is appended or put
-- into a map.
use Rattle.std.proofs.Common.{◌≡◌, ℕ, zero, suc, ◌+◌, ◌≤◌, max, Bool, true, false, cond, nat_lt, nat_le, ◌==◌, List, [], ◌∷◌, ◌++◌, length, map, Some, None, refl, sym, ap, subst, ◌∙◌, arith}
use Rattle.std.specs.FinMap.{len, len-entries, len-insert, entries, insert, contains_key, len-empty}
use Rattle.std.specs.Ordering.{nat_cmp}
use Rattle.std.proofs.lemmas.Cmp.{nat_cmp_total}
use Rattle.std.proofs.lemmas.List.{length-append, length-map}
use Rattle.libfunc_registry.specs.declared.width.Width.{Width}
use Rattle.type_trees.specs.declared.num.Num.{Num}
use Rattle.libfunc_registry.specs.Fam.{Fam}
use Rattle.libfunc_registry.specs.Fam as fams
use Rattle.libfunc_registry.specs.Control as controls
use Rattle.libfunc_registry.specs.Gas as gases
use Rattle.libfunc_registry.specs.Felts as felts
use Rattle.libfunc_registry.specs.Integers as integers
use Rattle.libfunc_registry.specs.Data as datas
use Rattle.libfunc_registry.specs.Arrays as arrays
use Rattle.libfunc_registry.specs.Dictionaries as dictionaries
use Rattle.value_trees.specs.Val.{Plain, WordMap, OpenMap, vals_of}
use Rattle.value_trees.specs.Val as val
use Rattle.libfunc_meaning.specs.Control.{control_does}
use Rattle.libfunc_meaning.specs.Gas.{gas_does}
use Rattle.libfunc_meaning.specs.Felts.{felts_does}
use Rattle.libfunc_meaning.specs.Integers.{integers_does, limit, narrowed, with_both}
use Rattle.libfunc_meaning.specs.Data.{data_does}
use Rattle.libfunc_meaning.specs.Arrays.{arrays_does, element_at, popped}
use Rattle.libfunc_meaning.specs.Dictionaries.{dictionaries_does, entry_of, mapped, DictionariesDo}
use Rattle.libfunc_meaning.specs.Do.{Do}
use Rattle.sierra_meaning.specs.Measured.{length_of}
use Rattle.sierra_meaning.proofs.LongParts.{PlainAnswer, longest_in, vals_longest, vals_count, Within, none_within, one_within, two_within, three_within, number_within, gas_within, members_within, variant_within, elements_within, boxed_within, squashed_within, test_within}

control_within : (fam : controls.ControlFam) (vs : List Plain) (n : ℕ) → longest_in vs ≤ n → Within n (control_does fam vs)
control_within controls.branch_align vs n le = none_within n n vs _ (omega arith)
control_within controls.jump vs n le = none_within n n vs _ (omega arith)
control_within (controls.rename ty) vs n le = one_within n n vs _ le (λ v v_le. omega arith)
control_within (controls.dup ty) vs n le = one_within n n vs _ le (λ v v_le. omega arith)
control_within (controls.drop ty) vs n le = one_within n n vs _ le (λ v v_le. omega arith)
control_within (controls.store_temp ty) vs n le = one_within n n vs _ le (λ v v_le. omega arith)
control_within (controls.store_local ty) vs n le = two_within n n vs _ le (λ v u v_le u_le. omega arith)
control_within (controls.alloc_local ty) vs n le = none_within n n vs _ (omega arith)
control_within controls.finalize_locals vs n le = none_within n n vs _ (omega arith)
control_within controls.disable_ap_tracking vs n le = none_within n n vs _ (omega arith)
control_within controls.enable_ap_tracking vs n le = none_within n n vs _ (omega arith)

gases_within : (fam : gases.GasFam) (vs : List Plain) (amount n : ℕ) → longest_in vs ≤ n → Within n (gas_does fam vs amount)
gases_within (gases.function_call f params results) vs amount n le = tt
gases_within gases.withdraw_gas vs amount n le =
    two_within n n vs _ le (λ rc v rc_le v_le. gas_within n n v _ (λ g. test_within n n (nat_le amount g) _ _ (omega arith) (omega arith)))

felts_within : (fam : felts.FeltsFam) (vs : List Plain) (n : ℕ) → longest_in vs ≤ n → Within n (felts_does fam vs)
felts_within (felts.const k x) vs n le = none_within n n vs _ (omega arith)
felts_within felts.felt64_add vs n le = two_within n n vs _ le (λ v u v_le u_le. number_within n n v _ (λ x. number_within n n u _ (λ y. omega arith)))
felts_within felts.felt64_sub vs n le = two_within n n vs _ le (λ v u v_le u_le. number_within n n v _ (λ x. number_within n n u _ (λ y. omega arith)))
felts_within felts.felt64_mul vs n le = two_within n n vs _ le (λ v u v_le u_le. number_within n n v _ (λ x. number_within n n u _ (λ y. omega arith)))
felts_within (felts.is_zero k) vs n le = one_within n n vs _ le (λ v v_le. number_within n n v _ (λ x. test_within n n (x == 0) _ _ (omega arith) (omega arith)))
felts_within (felts.unwrap_non_zero k) vs n le = one_within n n vs _ le (λ v v_le. omega arith)

both_within : (n : ℕ) (v u : Plain) (answer : ℕ → ℕ → PlainAnswer) → ((a b : ℕ) → Within n (answer a b)) → Within n (with_both v u answer)
both_within n v u answer p = number_within n n v _ (λ a. number_within n n u _ (p a))

narrowed_within : (n : ℕ) (w : Width) (rc : Plain) (x : ℕ) → length_of rc ≤ n → Within n (narrowed w rc x)
narrowed_within n w rc x le = test_within n n (nat_lt x (limit w)) _ _ (omega arith) (omega arith)

integers_within : (fam : integers.IntegersFam) (vs : List Plain) (n : ℕ) → longest_in vs ≤ n → Within n (integers_does fam vs)
integers_within (integers.to_felt64 w) vs n le = one_within n n vs _ le (λ v v_le. number_within n n v _ (λ x. omega arith))
integers_within (integers.try_from_felt64 w) vs n le = two_within n n vs _ le (λ rc v rc_le v_le. number_within n n v _ (λ x. narrowed_within n w rc x rc_le))
integers_within (integers.overflowing_add w) vs n le =
    three_within n n vs _ le (λ rc v u rc_le v_le u_le. both_within n v u _ (λ a b. test_within n n (nat_lt (a + b) (limit w)) _ _ (omega arith) (omega arith)))
integers_within (integers.overflowing_sub w) vs n le =
    three_within n n vs _ le (λ rc v u rc_le v_le u_le. both_within n v u _ (λ a b. test_within n n (nat_le b a) _ _ (omega arith) (omega arith)))
integers_within (integers.wide_mul w) vs n le = two_within n n vs _ le (λ v u v_le u_le. both_within n v u _ (λ a b. omega arith))
integers_within integers.split_mul vs n le = three_within n n vs _ le (λ rc v u rc_le v_le u_le. both_within n v u _ (λ a b. omega arith))
integers_within (integers.safe_divmod w) vs n le = three_within n n vs _ le (λ rc v u rc_le v_le u_le. both_within n v u _ (λ a b. omega arith))
integers_within (integers.eq w) vs n le = two_within n n vs _ le (λ v u v_le u_le. both_within n v u _ (λ a b. test_within n n (a == b) _ _ (omega arith) (omega arith)))
integers_within (integers.upcast a b) vs n le = one_within n n vs _ le (λ v v_le. number_within n n v _ (λ x. omega arith))
integers_within (integers.downcast a b) vs n le = two_within n n vs _ le (λ rc v rc_le v_le. number_within n n v _ (λ x. narrowed_within n b rc x rc_le))

data_within : (fam : datas.DataFam) (vs : List Plain) (n : ℕ) → longest_in vs ≤ n → Within n (data_does fam vs)
data_within (datas.enum_init ty index) vs n le = one_within n n vs _ le (λ v v_le. omega arith)
data_within (datas.enum_match ty) vs n le = one_within n n vs _ le (λ v v_le. variant_within n n v _ v_le (λ index u u_le. omega arith))
data_within (datas.enum_snapshot_match ty) vs n le = one_within n n vs _ le (λ v v_le. variant_within n n v _ v_le (λ index u u_le. omega arith))
data_within (datas.struct_construct ty) vs n le = omega (arith, vals_longest vs)
data_within (datas.struct_deconstruct ty) vs n le = one_within n n vs _ le (λ v v_le. members_within n n v _ v_le (λ us us_le. us_le))
data_within (datas.struct_snapshot_deconstruct ty) vs n le = one_within n n vs _ le (λ v v_le. members_within n n v _ v_le (λ us us_le. us_le))
data_within (datas.snapshot_take ty) vs n le = one_within n n vs _ le (λ v v_le. omega arith)
data_within (datas.into_box ty) vs n le = one_within n n vs _ le (λ v v_le. omega arith)
data_within (datas.unbox ty) vs n le = one_within n n vs _ le (λ v v_le. boxed_within n n v _ v_le (λ u u_le. omega arith))

element_within : (n : ℕ) (rc : Plain) (vs : List Plain) (i : ℕ) → length_of rc ≤ n → longest_in vs ≤ n → Within n (element_at rc vs i)
element_within n rc [] i rc_le le = omega arith
element_within n rc (v ∷ vs) zero rc_le le = omega arith
element_within n rc (v ∷ vs) (suc i) rc_le le = element_within n rc vs i rc_le (omega arith)

popped_within : (n : ℕ) (vs : List Plain) → length vs ≤ n → longest_in vs ≤ n → Within n (popped vs)
popped_within n [] few le = omega arith
popped_within n (v ∷ vs) few le = omega (arith, vals_count vs, vals_longest vs)

longest_append : (us : List Plain) (v : Plain) → longest_in (us ++ v ∷ []) ≡ max (longest_in us) (length_of v)
longest_append [] v = omega arith
longest_append (u ∷ us) v = omega (arith, longest_append us v)

appended : (n : ℕ) (us : List Plain) (v : Plain) → length us ≤ n → longest_in us ≤ n → length_of v ≤ n → length_of (val.array (vals_of (us ++ v ∷ []))) ≤ n + 1
appended n us v few le v_le =
    let one : length (us ++ v ∷ []) ≡ length us + 1 = length-append us (v ∷ []) in
    omega (arith, vals_count (us ++ v ∷ []), vals_longest (us ++ v ∷ []), longest_append us v)

-- one element more
abbrev pub growth : Fam → ℕ
growth (fams.arrays (arrays.array_append ty)) = 1
growth (fams.dictionaries (dictionaries.dict_entry_finalize num)) = 1
growth _ = 0

arrays_within : (fam : arrays.ArraysFam) (vs : List Plain) (n : ℕ) → longest_in vs ≤ n → Within (n + growth (fams.arrays fam)) (arrays_does fam vs)
arrays_within (arrays.array_new ty) vs n le = none_within n (n + 0) vs _ (omega arith)
arrays_within (arrays.array_append ty) vs n le =
    two_within n (n + 1) vs _ le (λ a v a_le v_le. elements_within n (n + 1) a _ a_le (λ us few us_le. let one = appended n us v few us_le v_le in omega arith))
arrays_within (arrays.array_len ty) vs n le = one_within n (n + 0) vs _ le (λ a a_le. elements_within n (n + 0) a _ a_le (λ us few us_le. omega arith))
arrays_within (arrays.array_get ty) vs n le =
    three_within n (n + 0) vs _ le (λ rc a v rc_le a_le v_le. elements_within n (n + 0) a _ a_le (λ us few us_le. number_within n (n + 0) v _ (λ i. element_within (n + 0) rc us i (omega arith) (omega arith))))
arrays_within (arrays.array_pop_front ty) vs n le = one_within n (n + 0) vs _ le (λ a a_le. elements_within n (n + 0) a _ a_le (λ us few us_le. popped_within (n + 0) us (omega arith) (omega arith)))

-- dictionaries

abbrev plain_entry : Num → ℕ × ℕ → Plain
plain_entry k e = entry_of k e

entries_longest : (k : Num) (es : List (ℕ × ℕ)) → longest_in (map (plain_entry k) es) ≡ 0
entries_longest k [] = refl
entries_longest k (e ∷ es) = omega (arith, entries_longest k es)

listed_entries : (k : Num) (m : WordMap) (n : ℕ) → len m ≤ n → length_of (val.array (vals_of (map (plain_entry k) (entries m)))) ≤ n
listed_entries k m n le =
    let many : length (map (plain_entry k) (entries m)) ≡ length (entries m) = length-map (entries m) (plain_entry k) in
    let counted = vals_count (map (plain_entry k) (entries m)) in
    let none = vals_longest (map (plain_entry k) (entries m)) in
    let zero_long = entries_longest k (entries m) in
    let lens = len-entries m in
    omega arith

dictionaries_within : (fam : dictionaries.DictionariesFam) (vs : List Plain) (n : ℕ) → longest_in vs ≤ n → Within n (dictionaries_does fam vs)
dictionaries_within (dictionaries.dict_entries k) vs n le = one_within n n vs _ le (λ v v_le. squashed_within n n v _ v_le (λ m m_le. (let one = listed_entries k m n m_le in omega arith)))
dictionaries_within _ vs n le = tt

inserted : (m : WordMap) (key word : ℕ) → len (insert m key word) ≤ len m + 1
inserted m key word = by (contains_key m key) (len-insert nat_cmp_total m key word)
  where
    by : (b : Bool) → len (insert m key word) ≡ cond b (len m) (len m + 1) → len (insert m key word) ≤ len m + 1
    by true is = omega arith
    by false is = omega arith

mapped_within : (fam : dictionaries.DictionariesFam) (vs outs : List Plain) (n : ℕ) → longest_in vs ≤ n → DictionariesDo mapped fam vs outs → longest_in outs ≤ n + growth (fams.dictionaries fam)
mapped_within (dictionaries.dict_new k) vs outs n le (begun, begins, took, gave) =
    let none : len begun ≡ 0 = ap len begins ∙ len-empty nat_cmp ℕ in
    subst (λ us. longest_in us ≤ n + 0) (sym gave) (omega arith)
mapped_within (dictionaries.dict_entry_get k) vs outs n le (rc, m, key, word, open_, opens, fits, took, gave) =
    let same : len open_.map ≡ len m = ap (λ (e : OpenMap). len e.map) opens.1 in
    let had = subst (λ us. longest_in us ≤ n) took le in
    subst (λ us. longest_in us ≤ n + 0) (sym gave) (omega arith)
mapped_within (dictionaries.dict_entry_finalize k) vs outs n le (open_, word, closed, closes, took, gave) =
    let same : len closed ≡ len (insert open_.map open_.key word) = ap len closes in
    let more = inserted open_.map open_.key word in
    let had = subst (λ us. longest_in us ≤ n) took le in
    subst (λ us. longest_in us ≤ n + 1) (sym gave) (omega arith)
mapped_within (dictionaries.dict_squash k) vs outs n le (rc, m, squashed, ends, took, gave) =
    let same : len squashed ≡ len m = ap len ends in
    let had = subst (λ us. longest_in us ≤ n) took le in
    subst (λ us. longest_in us ≤ n + 0) (sym gave) (omega arith)
mapped_within (dictionaries.dict_entries k) vs outs n le does = absurd does

-- of all families

wider : (answer : PlainAnswer) (n : ℕ) → Within n answer → Within (n + 0) answer
wider None n within = tt
wider (Some answer) n within = omega arith

answered : (answer : PlainAnswer) (k m : ℕ) (outs : List Plain) → Within m answer → answer ≡ Some (k, outs) → longest_in outs ≤ m
answered answer k m outs within is = subst (Within m) is within

pub grows : (fam : Fam) (vs : List Plain) (amount k : ℕ) (outs : List Plain) → Do mapped fam vs amount k outs → longest_in outs ≤ longest_in vs + growth fam
grows (fams.control fam) vs amount k outs does = answered (control_does fam vs) k _ outs (wider (control_does fam vs) (longest_in vs) (control_within fam vs (longest_in vs) (omega arith))) does
grows (fams.gas fam) vs amount k outs does = answered (gas_does fam vs amount) k _ outs (wider (gas_does fam vs amount) (longest_in vs) (gases_within fam vs amount (longest_in vs) (omega arith))) does
grows (fams.felts fam) vs amount k outs does = answered (felts_does fam vs) k _ outs (wider (felts_does fam vs) (longest_in vs) (felts_within fam vs (longest_in vs) (omega arith))) does
grows (fams.integers fam) vs amount k outs does = answered (integers_does fam vs) k _ outs (wider (integers_does fam vs) (longest_in vs) (integers_within fam vs (longest_in vs) (omega arith))) does
grows (fams.data_ fam) vs amount k outs does = answered (data_does fam vs) k _ outs (wider (data_does fam vs) (longest_in vs) (data_within fam vs (longest_in vs) (omega arith))) does
grows (fams.arrays fam) vs amount k outs does = answered (arrays_does fam vs) k _ outs (arrays_within fam vs (longest_in vs) (omega arith)) does
grows (fams.dictionaries (dictionaries.dict_new num)) vs amount k outs does = mapped_within (dictionaries.dict_new num) vs outs (longest_in vs) (omega arith) does.1
grows (fams.dictionaries (dictionaries.dict_entry_get num)) vs amount k outs does = mapped_within (dictionaries.dict_entry_get num) vs outs (longest_in vs) (omega arith) does.1
grows (fams.dictionaries (dictionaries.dict_entry_finalize num)) vs amount k outs does = mapped_within (dictionaries.dict_entry_finalize num) vs outs (longest_in vs) (omega arith) does.1
grows (fams.dictionaries (dictionaries.dict_squash num)) vs amount k outs does = mapped_within (dictionaries.dict_squash num) vs outs (longest_in vs) (omega arith) does.1
grows (fams.dictionaries (dictionaries.dict_entries num)) vs amount k outs does =
    let fam = dictionaries.dict_entries num in
    answered (dictionaries_does fam vs) k _ outs (wider (dictionaries_does fam vs) (longest_in vs) (dictionaries_within fam vs (longest_in vs) (omega arith))) does
