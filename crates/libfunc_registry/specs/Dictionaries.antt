-- Dictionaries.
use Rattle.std.specs.Prelude.{ℕ, List, [], ◌∷◌, codes}
use Rattle.type_trees.specs.Ty.{Ty, number, range_check, array, dict, dict_entry, squashed_dict}
use Rattle.type_trees.specs.declared.num.Num.{Num}
use Rattle.type_trees.specs.declared.num.Num.TheVariants as nums
use Rattle.type_table.specs.Shapes.{access}
use Rattle.libfunc_registry.specs.declared.libfunc.Libfunc.TheVariants as libfuncs
use Rattle.libfunc_registry.specs.Arguments.{Form, a_number_type}

-- the generic libfuncs, with what they take as arguments
unfoldable pub dictionaries_rows : List (List ℕ × Form)
dictionaries_rows =
    (codes "felt64_dict_new", a_number_type libfuncs.DictNew)
    ∷ (codes "felt64_dict_entry_get", a_number_type libfuncs.DictEntryGet)
    ∷ (codes "felt64_dict_entry_finalize", a_number_type libfuncs.DictEntryFinalize)
    ∷ (codes "felt64_dict_squash", a_number_type libfuncs.DictSquash)
    ∷ (codes "squashed_felt64_dict_entries", a_number_type libfuncs.DictEntries)
    ∷ []

-- the families, each by the type of the values
pub data DictionariesFam : Type 0 where
  dict_new : Num → DictionariesFam
  dict_entry_get : Num → DictionariesFam
  dict_entry_finalize : Num → DictionariesFam
  dict_squash : Num → DictionariesFam
  dict_entries : Num → DictionariesFam

abbrev pub felt : Ty
felt = number nums.Felt64

-- the types of the arguments
abbrev pub dictionaries_takes : DictionariesFam → List Ty
dictionaries_takes (dict_new num) = []
dictionaries_takes (dict_entry_get num) = range_check ∷ dict num ∷ felt ∷ []
dictionaries_takes (dict_entry_finalize num) = dict_entry num ∷ number num ∷ []
dictionaries_takes (dict_squash num) = range_check ∷ dict num ∷ []
dictionaries_takes (dict_entries num) = squashed_dict num ∷ []

-- the types of the results of each branch
abbrev pub dictionaries_gives : DictionariesFam → List (List Ty)
dictionaries_gives (dict_new num) = (dict num ∷ []) ∷ []
dictionaries_gives (dict_entry_get num) = (range_check ∷ dict_entry num ∷ number num ∷ []) ∷ []
dictionaries_gives (dict_entry_finalize num) = (dict num ∷ []) ∷ []
dictionaries_gives (dict_squash num) = (range_check ∷ squashed_dict num ∷ []) ∷ []
dictionaries_gives (dict_entries num) = (array (access num) ∷ []) ∷ []
