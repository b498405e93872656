-- What a value of each form is meant to be.
use Rattle.std.proofs.Common.{◌≡◌, ℕ, List, [], ◌∷◌, Some, map, refl, ap, ◌∙◌, rules}
use Rattle.type_trees.specs.declared.num.Num.TheVariants as nums
use Rattle.value_trees.specs.Meant.{meant, opened, num_of_bits}
use Rattle.value_trees.specs.Parts.{members_of, elements_of}
use Rattle.value_trees.specs.Val.{Val, WordMap, vals_of, list_of}
use Rattle.value_trees.specs.Val as val
use Rattle.value_trees.specs.declared.value.Value.{Felt, Int, Struct, Enum, Array, Boxed, Dict, Entry, Squashed, Gas, Check, Empty, the_lemmas}

pub meant_felt : (n : ℕ) → meant (Felt n) ≡ val.number nums.Felt64 n
meant_felt n = search (rules, the_lemmas)

pub meant_int : (bits n : ℕ) → meant (Int bits n) ≡ val.number (num_of_bits bits) n
meant_int bits n = search (rules, the_lemmas)

pub meant_struct : (members : _) → meant (Struct members) ≡ val.struct (vals_of (map meant members.items))
meant_struct members = search (rules, the_lemmas)

pub meant_enum : (index : ℕ) (v : _) → meant (Enum index v) ≡ val.enum index (meant v.value)
meant_enum index v = search (rules, the_lemmas)

pub meant_array : (vs : _) → meant (Array vs) ≡ val.array (vals_of (map meant vs.value.items))
meant_array vs = search (rules, the_lemmas)

pub meant_boxed : (v : _) → meant (Boxed v) ≡ val.boxed (meant v.value)
meant_boxed v = search (rules, the_lemmas)

pub meant_dict : (m : WordMap) → meant (Dict m) ≡ val.dict m
meant_dict m = search (rules, the_lemmas)

pub meant_entry : (m : WordMap) (key : ℕ) → meant (Entry m key) ≡ val.dict_entry (opened (m, key))
meant_entry m key = search (rules, the_lemmas)

pub meant_squashed : (m : WordMap) → meant (Squashed m) ≡ val.squashed_dict m
meant_squashed m = search (rules, the_lemmas)

pub meant_gas : (n : ℕ) → meant (Gas n) ≡ val.gas n
meant_gas n = search (rules, the_lemmas)

pub meant_check : meant Check ≡ val.check
meant_check = search (rules, the_lemmas)

pub meant_empty : meant Empty ≡ val.empty
meant_empty = search (rules, the_lemmas)

-- a list of values is the list that is read off it again
pub list_back : {D E : Type 0} (vs : List (Val D E)) → list_of (vals_of vs) ≡ vs
list_back [] = refl
list_back (v ∷ vs) = ap (λ us. v ∷ us) (list_back vs)

pub members_meant : (members : _) → members_of (meant (Struct members)) ≡ Some (map meant members.items)
members_meant members = ap members_of (meant_struct members) ∙ ap Some (list_back (map meant members.items))

pub elements_meant : (vs : _) → elements_of (meant (Array vs)) ≡ Some (map meant vs.value.items)
elements_meant vs = ap elements_of (meant_array vs) ∙ ap Some (list_back (map meant vs.value.items))
