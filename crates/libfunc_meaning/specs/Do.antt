-- What a libfunc does with values: the branch that it takes, and its results. One line for each family stands in the file of
-- its group.
use Rattle.std.specs.Prelude.{◌≡◌, ℕ, List, Some}
use Rattle.libfunc_registry.specs.Fam.{Fam, control, gas, felts, integers, data_, arrays, dictionaries}
use Rattle.libfunc_registry.specs.Dictionaries.{dict_new, dict_entry_get, dict_entry_finalize, dict_squash}
use Rattle.value_trees.specs.Val.{Val}
use Rattle.libfunc_meaning.specs.Answers.{Answer}
use Rattle.libfunc_meaning.specs.Control.{control_does}
use Rattle.libfunc_meaning.specs.Gas.{gas_does}
use Rattle.libfunc_meaning.specs.Felts.{felts_does}
use Rattle.libfunc_meaning.specs.Integers.{integers_does}
use Rattle.libfunc_meaning.specs.Data.{data_does}
use Rattle.libfunc_meaning.specs.Arrays.{arrays_does}
use Rattle.libfunc_meaning.specs.Dictionaries.{Dictionary, DictionariesDo, dictionaries_does}

-- What every family does that touches no dictionary. The amount is what a successful `withdraw_gas` takes.
abbrev pub does : {D E : Type 0} → Fam → List (Val D E) → (amount : ℕ) → Answer D E
does (control fam) vs amount = control_does fam vs
does (gas fam) vs amount = gas_does fam vs amount
does (felts fam) vs amount = felts_does fam vs
does (integers fam) vs amount = integers_does fam vs
does (data_ fam) vs amount = data_does fam vs
does (arrays fam) vs amount = arrays_does fam vs
does (dictionaries fam) vs amount = dictionaries_does fam vs

module _ {D E : Type 0} (d : Dictionary D E) where
  -- the family takes this branch with these values, and these are the results
  abbrev pub Do : Fam → List (Val D E) → (amount k : ℕ) → List (Val D E) → Type 0
  Do (dictionaries (dict_new num)) vs amount k outs = (k ≡ 0) × DictionariesDo d (dict_new num) vs outs
  Do (dictionaries (dict_entry_get num)) vs amount k outs = (k ≡ 0) × DictionariesDo d (dict_entry_get num) vs outs
  Do (dictionaries (dict_entry_finalize num)) vs amount k outs = (k ≡ 0) × DictionariesDo d (dict_entry_finalize num) vs outs
  Do (dictionaries (dict_squash num)) vs amount k outs = (k ≡ 0) × DictionariesDo d (dict_squash num) vs outs
  Do fam vs amount k outs = does fam vs amount ≡ Some (k, outs)
