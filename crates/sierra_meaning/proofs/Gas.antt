-- No libfunc makes gas.
use Rattle.std.proofs.Common.{◌≡◌, ℕ, zero, suc, ◌+◌, ◌≤◌, nat_lt, nat_le, ◌==◌, List, [], ◌∷◌, ◌++◌, map, Some, None, refl, ap, subst, arith}
use Rattle.std.proofs.lemmas.Bool.Decides.{nat_tests}
use Rattle.std.specs.FinMap.{entries}
use Rattle.type_trees.specs.declared.num.Num.{Num}
use Rattle.libfunc_registry.specs.declared.width.Width.{Width}
use Rattle.libfunc_registry.specs.Fam.{Fam}
use Rattle.libfunc_registry.specs.Fam as fams
use Rattle.libfunc_registry.specs.Control as controls
use Rattle.libfunc_registry.specs.Gas as gases
use Rattle.libfunc_registry.specs.Felts as felts
use Rattle.libfunc_registry.specs.Integers as integers
use Rattle.libfunc_registry.specs.Data as datas
use Rattle.libfunc_registry.specs.Arrays as arrays
use Rattle.libfunc_registry.specs.Dictionaries as dictionaries
use Rattle.cost_table.specs.Rows.{by_branch}
use Rattle.value_trees.specs.Val.{Plain, vals_of}
use Rattle.libfunc_meaning.specs.Control.{control_does}
use Rattle.libfunc_meaning.specs.Gas.{gas_does}
use Rattle.libfunc_meaning.specs.Felts.{felts_does}
use Rattle.libfunc_meaning.specs.Integers.{integers_does, limit, narrowed, with_both}
use Rattle.libfunc_meaning.specs.Data.{data_does}
use Rattle.libfunc_meaning.specs.Arrays.{arrays_does, element_at, popped}
use Rattle.libfunc_meaning.specs.Dictionaries.{dictionaries_does, entry_of, mapped, DictionariesDo}
use Rattle.libfunc_meaning.specs.Do.{Do}
use Rattle.sierra_meaning.specs.Measured.{gas_inside}
use Rattle.sierra_meaning.proofs.LongParts.{PlainAnswer}
use Rattle.sierra_meaning.proofs.GasParts.{gas_in, gas_among, vals_gas, Costs, none_costs, one_costs, two_costs, three_costs, number_costs, gas_costs, members_costs, variant_costs, elements_costs, boxed_costs, squashed_costs, test_costs}

-- nothing is taken
abbrev nothing : ℕ → ℕ
nothing k = 0

-- where a value is doubled, it has no gas
abbrev pub DoublesNoGas : Fam → List Plain → Type 0
DoublesNoGas (fams.control (controls.dup ty)) vs = gas_in vs ≡ 0
DoublesNoGas (fams.data_ (datas.snapshot_take ty)) vs = gas_in vs ≡ 0
DoublesNoGas _ vs = Unit {0}

control_costs : (fam : controls.ControlFam) (vs : List Plain) → DoublesNoGas (fams.control fam) vs → Costs nothing (gas_in vs) (control_does fam vs)
control_costs controls.branch_align vs none = none_costs nothing (gas_in vs) vs _ (λ empty. omega arith)
control_costs controls.jump vs none = none_costs nothing (gas_in vs) vs _ (λ empty. omega arith)
control_costs (controls.rename ty) vs none = one_costs nothing (gas_in vs) vs _ (λ v le. omega arith)
control_costs (controls.dup ty) vs none = one_costs nothing (gas_in vs) vs _ (λ v le. omega arith)
control_costs (controls.drop ty) vs none = one_costs nothing (gas_in vs) vs _ (λ v le. omega arith)
control_costs (controls.store_temp ty) vs none = one_costs nothing (gas_in vs) vs _ (λ v le. omega arith)
control_costs (controls.store_local ty) vs none = two_costs nothing (gas_in vs) vs _ (λ v u le. omega arith)
control_costs (controls.alloc_local ty) vs none = none_costs nothing (gas_in vs) vs _ (λ empty. omega arith)
control_costs controls.finalize_locals vs none = none_costs nothing (gas_in vs) vs _ (λ empty. omega arith)
control_costs controls.disable_ap_tracking vs none = none_costs nothing (gas_in vs) vs _ (λ empty. omega arith)
control_costs controls.enable_ap_tracking vs none = none_costs nothing (gas_in vs) vs _ (λ empty. omega arith)

-- what a successful `withdraw_gas` takes
abbrev amount_by : ℕ → ℕ → ℕ
amount_by amount k = by_branch k amount 0

withdraws : (vs : List Plain) (amount : ℕ) → Costs (amount_by amount) (gas_in vs) (gas_does gases.withdraw_gas vs amount)
withdraws vs amount =
    two_costs (amount_by amount) (gas_in vs) vs _ (λ rc v le.
    gas_costs (amount_by amount) (gas_in vs) v _ (λ g is.
    test_costs (amount_by amount) (gas_in vs) (nat_le amount g) _ _
    (λ enough. let fits : amount ≤ g = grind (arith, nat_tests) in omega arith)
    (λ few. omega arith)))

felts_costs : (fam : felts.FeltsFam) (vs : List Plain) → Costs nothing (gas_in vs) (felts_does fam vs)
felts_costs (felts.const k x) vs = none_costs nothing (gas_in vs) vs _ (λ empty. omega arith)
felts_costs felts.felt64_add vs = two_costs nothing (gas_in vs) vs _ (λ v u le. number_costs nothing (gas_in vs) v _ (λ x. number_costs nothing (gas_in vs) u _ (λ y. omega arith)))
felts_costs felts.felt64_sub vs = two_costs nothing (gas_in vs) vs _ (λ v u le. number_costs nothing (gas_in vs) v _ (λ x. number_costs nothing (gas_in vs) u _ (λ y. omega arith)))
felts_costs felts.felt64_mul vs = two_costs nothing (gas_in vs) vs _ (λ v u le. number_costs nothing (gas_in vs) v _ (λ x. number_costs nothing (gas_in vs) u _ (λ y. omega arith)))
felts_costs (felts.is_zero k) vs = one_costs nothing (gas_in vs) vs _ (λ v le. number_costs nothing (gas_in vs) v _ (λ x. test_costs nothing (gas_in vs) (x == 0) _ _ (λ is. omega arith) (λ not. omega arith)))
felts_costs (felts.unwrap_non_zero k) vs = one_costs nothing (gas_in vs) vs _ (λ v le. omega arith)

both_costs : (m : ℕ) (v u : Plain) (answer : ℕ → ℕ → PlainAnswer) → ((a b : ℕ) → Costs nothing m (answer a b)) → Costs nothing m (with_both v u answer)
both_costs m v u answer p = number_costs nothing m v _ (λ a. number_costs nothing m u _ (p a))

narrowed_costs : (m : ℕ) (w : Width) (rc : Plain) (x : ℕ) → gas_inside rc ≤ m → Costs nothing m (narrowed w rc x)
narrowed_costs m w rc x le = test_costs nothing m (nat_lt x (limit w)) _ _ (λ is. omega arith) (λ not. omega arith)

integers_costs : (fam : integers.IntegersFam) (vs : List Plain) → Costs nothing (gas_in vs) (integers_does fam vs)
integers_costs (integers.to_felt64 w) vs = one_costs nothing (gas_in vs) vs _ (λ v le. number_costs nothing (gas_in vs) v _ (λ x. omega arith))
integers_costs (integers.try_from_felt64 w) vs = two_costs nothing (gas_in vs) vs _ (λ rc v le. number_costs nothing (gas_in vs) v _ (λ x. narrowed_costs (gas_in vs) w rc x (omega arith)))
integers_costs (integers.overflowing_add w) vs =
    three_costs nothing (gas_in vs) vs _ (λ rc v u le. both_costs (gas_in vs) v u _ (λ a b. test_costs nothing (gas_in vs) (nat_lt (a + b) (limit w)) _ _ (λ is. omega arith) (λ not. omega arith)))
integers_costs (integers.overflowing_sub w) vs =
    three_costs nothing (gas_in vs) vs _ (λ rc v u le. both_costs (gas_in vs) v u _ (λ a b. test_costs nothing (gas_in vs) (nat_le b a) _ _ (λ is. omega arith) (λ not. omega arith)))
integers_costs (integers.wide_mul w) vs = two_costs nothing (gas_in vs) vs _ (λ v u le. both_costs (gas_in vs) v u _ (λ a b. omega arith))
integers_costs integers.split_mul vs = three_costs nothing (gas_in vs) vs _ (λ rc v u le. both_costs (gas_in vs) v u _ (λ a b. omega arith))
integers_costs (integers.safe_divmod w) vs = three_costs nothing (gas_in vs) vs _ (λ rc v u le. both_costs (gas_in vs) v u _ (λ a b. omega arith))
integers_costs (integers.eq w) vs = two_costs nothing (gas_in vs) vs _ (λ v u le. both_costs (gas_in vs) v u _ (λ a b. test_costs nothing (gas_in vs) (a == b) _ _ (λ is. omega arith) (λ not. omega arith)))
integers_costs (integers.upcast a b) vs = one_costs nothing (gas_in vs) vs _ (λ v le. number_costs nothing (gas_in vs) v _ (λ x. omega arith))
integers_costs (integers.downcast a b) vs = two_costs nothing (gas_in vs) vs _ (λ rc v le. number_costs nothing (gas_in vs) v _ (λ x. narrowed_costs (gas_in vs) b rc x (omega arith)))

data_costs : (fam : datas.DataFam) (vs : List Plain) → DoublesNoGas (fams.data_ fam) vs → Costs nothing (gas_in vs) (data_does fam vs)
data_costs (datas.enum_init ty index) vs none = one_costs nothing (gas_in vs) vs _ (λ v le. omega arith)
data_costs (datas.enum_match ty) vs none = one_costs nothing (gas_in vs) vs _ (λ v le. variant_costs nothing (gas_in vs) v _ (λ index u is. omega arith))
data_costs (datas.enum_snapshot_match ty) vs none = one_costs nothing (gas_in vs) vs _ (λ v le. variant_costs nothing (gas_in vs) v _ (λ index u is. omega arith))
data_costs (datas.struct_construct ty) vs none = omega (arith, vals_gas vs)
data_costs (datas.struct_deconstruct ty) vs none = one_costs nothing (gas_in vs) vs _ (λ v le. members_costs nothing (gas_in vs) v _ (λ us is. omega arith))
data_costs (datas.struct_snapshot_deconstruct ty) vs none = one_costs nothing (gas_in vs) vs _ (λ v le. members_costs nothing (gas_in vs) v _ (λ us is. omega arith))
data_costs (datas.snapshot_take ty) vs none = one_costs nothing (gas_in vs) vs _ (λ v le. omega arith)
data_costs (datas.into_box ty) vs none = one_costs nothing (gas_in vs) vs _ (λ v le. omega arith)
data_costs (datas.unbox ty) vs none = one_costs nothing (gas_in vs) vs _ (λ v le. boxed_costs nothing (gas_in vs) v _ (λ u is. omega arith))

element_costs : (m : ℕ) (rc : Plain) (vs : List Plain) (i : ℕ) → gas_inside rc + gas_in vs ≤ m → Costs nothing m (element_at rc vs i)
element_costs m rc [] i le = omega arith
element_costs m rc (v ∷ vs) zero le = omega arith
element_costs m rc (v ∷ vs) (suc i) le = element_costs m rc vs i (omega arith)

popped_costs : (m : ℕ) (vs : List Plain) → gas_in vs ≤ m → Costs nothing m (popped vs)
popped_costs m [] le = omega arith
popped_costs m (v ∷ vs) le = omega (arith, vals_gas vs)

gas_append : (us : List Plain) (v : Plain) → gas_in (us ++ v ∷ []) ≡ gas_in us + gas_inside v
gas_append [] v = omega arith
gas_append (u ∷ us) v = omega (arith, gas_append us v)

arrays_costs : (fam : arrays.ArraysFam) (vs : List Plain) → Costs nothing (gas_in vs) (arrays_does fam vs)
arrays_costs (arrays.array_new ty) vs = none_costs nothing (gas_in vs) vs _ (λ empty. omega arith)
arrays_costs (arrays.array_append ty) vs =
    two_costs nothing (gas_in vs) vs _ (λ a v le. elements_costs nothing (gas_in vs) a _ (λ us is. let one = vals_gas (us ++ v ∷ []) in let more = gas_append us v in omega arith))
arrays_costs (arrays.array_len ty) vs = one_costs nothing (gas_in vs) vs _ (λ a le. elements_costs nothing (gas_in vs) a _ (λ us is. omega arith))
arrays_costs (arrays.array_get ty) vs =
    three_costs nothing (gas_in vs) vs _ (λ rc a v le. elements_costs nothing (gas_in vs) a _ (λ us is. number_costs nothing (gas_in vs) v _ (λ i. element_costs (gas_in vs) rc us i (omega arith))))
arrays_costs (arrays.array_pop_front ty) vs = one_costs nothing (gas_in vs) vs _ (λ a le. elements_costs nothing (gas_in vs) a _ (λ us is. popped_costs (gas_in vs) us (omega arith)))

-- dictionaries

abbrev plain_entry : Num → ℕ × ℕ → Plain
plain_entry k e = entry_of k e

entries_gas : (k : Num) (es : List (ℕ × ℕ)) → gas_among (vals_of (map (plain_entry k) es)) ≡ 0
entries_gas k [] = refl
entries_gas k (e ∷ es) = omega (arith, entries_gas k es)

dictionaries_costs : (fam : dictionaries.DictionariesFam) (vs : List Plain) → Costs nothing (gas_in vs) (dictionaries_does fam vs)
dictionaries_costs (dictionaries.dict_entries k) vs = one_costs nothing (gas_in vs) vs _ (λ v le. squashed_costs nothing (gas_in vs) v _ (λ m. (let none = entries_gas k (entries m) in omega arith)))
dictionaries_costs _ vs = tt

mapped_costs : (fam : dictionaries.DictionariesFam) (vs outs : List Plain) → DictionariesDo mapped fam vs outs → gas_in outs ≤ gas_in vs
mapped_costs (dictionaries.dict_new k) vs outs (begun, begins, took, gave) = omega (arith, ap gas_in gave)
mapped_costs (dictionaries.dict_entry_get k) vs outs (rc, m, key, word, open_, opens, fits, took, gave) = omega (arith, ap gas_in gave, ap gas_in took)
mapped_costs (dictionaries.dict_entry_finalize k) vs outs (open_, word, closed, closes, took, gave) = omega (arith, ap gas_in gave, ap gas_in took)
mapped_costs (dictionaries.dict_squash k) vs outs (rc, m, squashed, ends, took, gave) = omega (arith, ap gas_in gave, ap gas_in took)
mapped_costs (dictionaries.dict_entries k) vs outs does = absurd does

-- of all families

answered : (taken : ℕ → ℕ) (answer : PlainAnswer) (k m : ℕ) (outs : List Plain) → Costs taken m answer → answer ≡ Some (k, outs) → gas_in outs + taken k ≤ m
answered taken answer k m outs costs is = subst (Costs taken m) is costs

-- what is withdrawn
abbrev pub withdrawn_by : Fam → (k amount : ℕ) → ℕ
withdrawn_by (fams.gas gases.withdraw_gas) k amount = by_branch k amount 0
withdrawn_by _ k amount = 0

pub gas_kept : (fam : Fam) (vs : List Plain) (amount k : ℕ) (outs : List Plain) → DoublesNoGas fam vs → Do mapped fam vs amount k outs → gas_in outs + withdrawn_by fam k amount ≤ gas_in vs
gas_kept (fams.control fam) vs amount k outs none does = answered nothing (control_does fam vs) k _ outs (control_costs fam vs none) does
gas_kept (fams.gas (gases.function_call f params results)) vs amount k outs none does = answered nothing None k _ outs tt does
gas_kept (fams.gas gases.withdraw_gas) vs amount k outs none does = answered (amount_by amount) (gas_does gases.withdraw_gas vs amount) k _ outs (withdraws vs amount) does
gas_kept (fams.felts fam) vs amount k outs none does = answered nothing (felts_does fam vs) k _ outs (felts_costs fam vs) does
gas_kept (fams.integers fam) vs amount k outs none does = answered nothing (integers_does fam vs) k _ outs (integers_costs fam vs) does
gas_kept (fams.data_ fam) vs amount k outs none does = answered nothing (data_does fam vs) k _ outs (data_costs fam vs none) does
gas_kept (fams.arrays fam) vs amount k outs none does = answered nothing (arrays_does fam vs) k _ outs (arrays_costs fam vs) does
gas_kept (fams.dictionaries (dictionaries.dict_new num)) vs amount k outs none does = omega (arith, mapped_costs (dictionaries.dict_new num) vs outs does.1)
gas_kept (fams.dictionaries (dictionaries.dict_entry_get num)) vs amount k outs none does = omega (arith, mapped_costs (dictionaries.dict_entry_get num) vs outs does.1)
gas_kept (fams.dictionaries (dictionaries.dict_entry_finalize num)) vs amount k outs none does = omega (arith, mapped_costs (dictionaries.dict_entry_finalize num) vs outs does.1)
gas_kept (fams.dictionaries (dictionaries.dict_squash num)) vs amount k outs none does = omega (arith, mapped_costs (dictionaries.dict_squash num) vs outs does.1)
gas_kept (fams.dictionaries (dictionaries.dict_entries num)) vs amount k outs none does =
    answered nothing (dictionaries_does (dictionaries.dict_entries num) vs) k _ outs (dictionaries_costs (dictionaries.dict_entries num) vs) does
