-- Every family but a call: there is an answer, there is one, and it is of the types of its branch.
use Rattle.std.proofs.Common.{◌≡◌, ℕ, List, [], ◌∷◌, Some, length, refl, ap, subst}
use Rattle.std.specs.Option.{unwrap_or}
use Rattle.std.specs.FinMap.{get}
use Rattle.type_trees.specs.Ty.{Ty, array, snapshot}
use Rattle.type_trees.specs.declared.num.Num.{Num}
use Rattle.type_trees.specs.declared.num.Num.TheVariants as nums
use Rattle.libfunc_registry.specs.Fam.{Fam, control, gas, felts, integers, data_, arrays, dictionaries, takes, gives}
use Rattle.libfunc_registry.specs.Arrays.{array_new, array_append, array_len, array_get, array_pop_front}
use Rattle.libfunc_registry.specs.Dictionaries.{dict_new, dict_entry_get, dict_entry_finalize, dict_squash, dict_entries}
use Rattle.value_trees.specs.Of.{AllOf, AreWords, IsOpenMap}
use Rattle.value_trees.specs.Val.{Val, Plain, WordMap, OpenMap, vals_of, list_of}
use Rattle.value_trees.specs.Val as val
use Rattle.libfunc_meaning.specs.Dictionaries.{mapped, DictionariesDo}
use Rattle.libfunc_meaning.specs.Do.{does, Do}
use Rattle.libfunc_meaning.specs.Mapped.{plain_does}
use Rattle.libfunc_meaning.specs.Kept.{AreOfBranch}
use Rattle.libfunc_meaning.specs.Proper.{IsAsked, IsProper, IsNoCall}
use Rattle.libfunc_meaning.proofs.Typed.{IsAnswered, kept, at_one, at_array}
use Rattle.libfunc_meaning.proofs.ControlTypes.{control_answers}
use Rattle.libfunc_meaning.proofs.GasTypes.{gas_answers}
use Rattle.libfunc_meaning.proofs.FeltsTypes.{felts_answers}
use Rattle.libfunc_meaning.proofs.IntegersTypes.{integers_answers}
use Rattle.libfunc_meaning.proofs.DataTypes.{data_answers}
use Rattle.libfunc_meaning.proofs.ArraysTypes.{arrays_answers}
use Rattle.libfunc_meaning.proofs.DictionariesTypes.{mapped_answers}

pub plain_answers : (fam : Fam) (vs : List Plain) (amount : ℕ) → IsAsked fam vs → AllOf AreWords IsOpenMap (takes fam) vs
    → IsAnswered AreWords IsOpenMap (gives fam) (plain_does fam vs amount)
plain_answers (control fam) vs amount asked h = control_answers AreWords IsOpenMap fam vs h
plain_answers (gas fam) vs amount asked h = gas_answers AreWords IsOpenMap fam vs amount asked.no_call h
plain_answers (felts fam) vs amount asked h = felts_answers AreWords IsOpenMap fam vs asked.proper h
plain_answers (integers fam) vs amount asked h = integers_answers AreWords IsOpenMap fam vs asked.proper h
plain_answers (data_ fam) vs amount asked h = data_answers AreWords IsOpenMap fam vs asked.proper h
plain_answers (arrays fam) vs amount asked h = arrays_answers AreWords IsOpenMap fam vs asked.counted h
plain_answers (dictionaries fam) vs amount asked h = (mapped_answers fam vs h).answered

-- what is computed is done
pub plain_done : (fam : Fam) (vs : List Plain) (amount k : ℕ) (outs : List Plain) → AllOf AreWords IsOpenMap (takes fam) vs
    → plain_does fam vs amount ≡ Some (k, outs) → Do mapped fam vs amount k outs
plain_done (control fam) vs amount k outs h e = e
plain_done (gas fam) vs amount k outs h e = e
plain_done (felts fam) vs amount k outs h e = e
plain_done (integers fam) vs amount k outs h e = e
plain_done (data_ fam) vs amount k outs h e = e
plain_done (arrays fam) vs amount k outs h e = e
plain_done (dictionaries fam) vs amount k outs h e = (mapped_answers fam vs h).done amount k outs e

-- two answers are one
same_answer : (fam : Fam) (vs : List Plain) (amount j k : ℕ) (us outs : List Plain) → does fam vs amount ≡ Some (j, us) → does fam vs amount ≡ Some (k, outs) → (j ≡ k) × (us ≡ outs)
same_answer fam vs amount j k us outs a b =
    let same : ◌≡◌ {A = ℕ × List Plain} (j, us) (k, outs) = cc in
    (ap (λ (p : ℕ × List Plain). p.0) same, ap (λ (p : ℕ × List Plain). p.1) same)

one_got : (vs : List Plain) (k : Num) (us outs : List Plain) → DictionariesDo mapped (dict_entry_get k) vs us → DictionariesDo mapped (dict_entry_get k) vs outs → us ≡ outs
one_got vs k us outs (rc, m, key, word, e, opens, fits, took, gave) (rc', m', key', word', e', opens', fits', took', gave') =
    let same_rc : rc ≡ rc' = cc in
    let same_m : m ≡ m' = cc in
    let same_key : key ≡ key' = cc in
    let found : unwrap_or (get m key) 0 ≡ unwrap_or (get m' key') 0 = cc in
    let same_word : word ≡ word' = cc in
    let opened : ◌≡◌ {A = OpenMap} (record { map = m; key = key }) (record { map = m'; key = key' }) = cc in
    let same_e : e ≡ e' = cc in
    cc

one_finalized : (vs : List Plain) (k : Num) (us outs : List Plain) → DictionariesDo mapped (dict_entry_finalize k) vs us → DictionariesDo mapped (dict_entry_finalize k) vs outs → us ≡ outs
one_finalized vs k us outs (e, word, m, closes, took, gave) (e', word', m', closes', took', gave') =
    let same_e : e ≡ e' = cc in
    let same_word : word ≡ word' = cc in
    let same_map : e.map ≡ e'.map = ap (λ (o : OpenMap). o.map) same_e in
    let same_key : e.key ≡ e'.key = ap (λ (o : OpenMap). o.key) same_e in
    let same_m : m ≡ m' = cc in
    cc

one_squashed : (vs : List Plain) (k : Num) (us outs : List Plain) → DictionariesDo mapped (dict_squash k) vs us → DictionariesDo mapped (dict_squash k) vs outs → us ≡ outs
one_squashed vs k us outs (rc, m, s, ends, took, gave) (rc', m', s', ends', took', gave') =
    let same_rc : rc ≡ rc' = cc in
    let same_m : m ≡ m' = cc in
    let same_s : s ≡ s' = cc in
    cc

pub one_answer : (fam : Fam) (vs : List Plain) (amount j k : ℕ) (us outs : List Plain) → Do mapped fam vs amount j us → Do mapped fam vs amount k outs → (j ≡ k) × (us ≡ outs)
one_answer (control fam) vs amount j k us outs a b = same_answer (control fam) vs amount j k us outs a b
one_answer (gas fam) vs amount j k us outs a b = same_answer (gas fam) vs amount j k us outs a b
one_answer (felts fam) vs amount j k us outs a b = same_answer (felts fam) vs amount j k us outs a b
one_answer (integers fam) vs amount j k us outs a b = same_answer (integers fam) vs amount j k us outs a b
one_answer (data_ fam) vs amount j k us outs a b = same_answer (data_ fam) vs amount j k us outs a b
one_answer (arrays fam) vs amount j k us outs a b = same_answer (arrays fam) vs amount j k us outs a b
one_answer (dictionaries (dict_new n)) vs amount j k us outs a b = (cc, (let same : a.1.0 ≡ b.1.0 = cc in cc))
one_answer (dictionaries (dict_entry_get n)) vs amount j k us outs a b = (cc, one_got vs n us outs a.1 b.1)
one_answer (dictionaries (dict_entry_finalize n)) vs amount j k us outs a b = (cc, one_finalized vs n us outs a.1 b.1)
one_answer (dictionaries (dict_squash n)) vs amount j k us outs a b = (cc, one_squashed vs n us outs a.1 b.1)
one_answer (dictionaries (dict_entries n)) vs amount j k us outs a b = same_answer (dictionaries (dict_entries n)) vs amount j k us outs a b

-- an answer that is computed is one
there_is : (fam : Fam) (vs : List Plain) (amount : ℕ) → IsAsked fam vs → AllOf AreWords IsOpenMap (takes fam) vs
    → (k : ℕ) × (outs : List Plain) × Do mapped fam vs amount k outs
there_is fam vs amount asked h =
    let answer = plain_answers fam vs amount asked h in
    let done : Do mapped fam vs amount answer.branch answer.outs = plain_done fam vs amount answer.branch answer.outs h answer.is in
    (answer.branch, answer.outs, done)

-- also where an array's length is one that no u32 tells
told : (ty : Ty) (vs : List Plain) (amount : ℕ) → AllOf AreWords IsOpenMap (takes (arrays (array_len ty))) vs
    → (k : ℕ) × (outs : List Plain) × Do mapped (arrays (array_len ty)) vs amount k outs
told ty vs amount h =
    at_one AreWords IsOpenMap (λ us. (k : ℕ) × (outs : List Plain) × Do mapped (arrays (array_len ty)) us amount k outs) (snapshot (array ty)) vs h (λ a a_is.
    at_array AreWords IsOpenMap (λ b. (k : ℕ) × (outs : List Plain) × Do mapped (arrays (array_len ty)) (b ∷ []) amount k outs) ty a a_is (λ us all.
    (0, val.number nums.U32 (length (list_of (vals_of us))) ∷ [], refl)))

pub never_stuck : (fam : Fam) (vs : List Plain) (amount : ℕ) → IsProper fam → IsNoCall fam → AllOf AreWords IsOpenMap (takes fam) vs
    → (k : ℕ) × (outs : List Plain) × Do mapped fam vs amount k outs
never_stuck (control fam) vs amount proper no_call h = there_is (control fam) vs amount (record { proper = proper; no_call = no_call; counted = tt }) h
never_stuck (gas fam) vs amount proper no_call h = there_is (gas fam) vs amount (record { proper = proper; no_call = no_call; counted = tt }) h
never_stuck (felts fam) vs amount proper no_call h = there_is (felts fam) vs amount (record { proper = proper; no_call = no_call; counted = tt }) h
never_stuck (integers fam) vs amount proper no_call h = there_is (integers fam) vs amount (record { proper = proper; no_call = no_call; counted = tt }) h
never_stuck (data_ fam) vs amount proper no_call h = there_is (data_ fam) vs amount (record { proper = proper; no_call = no_call; counted = tt }) h
never_stuck (arrays (array_new ty)) vs amount proper no_call h = there_is (arrays (array_new ty)) vs amount (record { proper = proper; no_call = no_call; counted = tt }) h
never_stuck (arrays (array_append ty)) vs amount proper no_call h = there_is (arrays (array_append ty)) vs amount (record { proper = proper; no_call = no_call; counted = tt }) h
never_stuck (arrays (array_len ty)) vs amount proper no_call h = told ty vs amount h
never_stuck (arrays (array_get ty)) vs amount proper no_call h = there_is (arrays (array_get ty)) vs amount (record { proper = proper; no_call = no_call; counted = tt }) h
never_stuck (arrays (array_pop_front ty)) vs amount proper no_call h = there_is (arrays (array_pop_front ty)) vs amount (record { proper = proper; no_call = no_call; counted = tt }) h
never_stuck (dictionaries fam) vs amount proper no_call h = there_is (dictionaries fam) vs amount (record { proper = proper; no_call = no_call; counted = tt }) h

pub types_are_kept : (fam : Fam) (vs : List Plain) (amount k : ℕ) (outs : List Plain) → IsAsked fam vs → AllOf AreWords IsOpenMap (takes fam) vs
    → Do mapped fam vs amount k outs → AreOfBranch AreWords IsOpenMap (gives fam) k outs
types_are_kept fam vs amount k outs asked h does_so =
    let answer = plain_answers fam vs amount asked h in
    let done : Do mapped fam vs amount answer.branch answer.outs = plain_done fam vs amount answer.branch answer.outs h answer.is in
    let same = one_answer fam vs amount answer.branch k answer.outs outs done does_so in
    subst (λ (j : ℕ). AreOfBranch AreWords IsOpenMap (gives fam) j outs) same.0
    (subst (λ (us : List Plain). AreOfBranch AreWords IsOpenMap (gives fam) answer.branch us) same.1
    (kept AreWords IsOpenMap (gives fam) (plain_does fam vs amount) answer.branch answer.outs answer answer.is))
