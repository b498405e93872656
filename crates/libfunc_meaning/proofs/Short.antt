-- Short values: an array among them has a length that can be told.
use Rattle.std.proofs.Common.{◌≡◌, suc, ◌-◌, ◌<◌, ◌^◌, List, [], ◌∷◌, length, max, refl, ap, subst, arith}
use Rattle.std.specs.FinMap.{len}
use Rattle.libfunc_registry.specs.Arrays.{array_new, array_append, array_len, array_get, array_pop_front}
use Rattle.libfunc_registry.specs.Fam.{Fam, control, gas, felts, integers, data_, arrays, dictionaries}
use Rattle.value_trees.specs.Measures.{count, longest_of}
use Rattle.value_trees.specs.Val.{Val, Plain, WordMap, OpenMap, vals_of}
use Rattle.value_trees.specs.Val as val
use Rattle.libfunc_meaning.specs.Applying.{AreShort}
use Rattle.libfunc_meaning.specs.Proper.{IsCounted}

pub count_list : {D E : Type 0} (us : List (Val D E)) → count (vals_of us) ≡ length us
count_list [] = refl
count_list (u ∷ us) = ap suc (count_list us)

counted : (us vs : List Plain) → AreShort vs → vs ≡ val.array (vals_of us) ∷ [] → length us < 2 ^ 32
counted us vs short is =
    let here = subst AreShort is short in
    let below : max (count (vals_of us)) (longest_of (λ m. len m) (λ e. len e.map) (vals_of us)) < 2 ^ 32 - 1 = here.0 in
    let same : count (vals_of us) ≡ length us = count_list us in
    omega arith

pub short_is_counted : (fam : Fam) (vs : List Plain) → AreShort vs → IsCounted fam vs
short_is_counted (control fam) vs short = tt
short_is_counted (gas fam) vs short = tt
short_is_counted (felts fam) vs short = tt
short_is_counted (integers fam) vs short = tt
short_is_counted (data_ fam) vs short = tt
short_is_counted (arrays (array_new ty)) vs short = tt
short_is_counted (arrays (array_append ty)) vs short = tt
short_is_counted (arrays (array_len ty)) vs short = λ us is. counted us vs short is
short_is_counted (arrays (array_get ty)) vs short = tt
short_is_counted (arrays (array_pop_front ty)) vs short = tt
short_is_counted (dictionaries fam) vs short = tt
