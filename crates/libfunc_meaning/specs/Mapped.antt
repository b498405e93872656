-- What every family does where a dictionary is a map, by computing. On values of the types that a family takes it says what
-- `Do mapped` says.
use Rattle.std.specs.Prelude.{ℕ, List, [], ◌∷◌}
use Rattle.std.specs.Option.{unwrap_or}
use Rattle.std.specs.FinMap.{get, insert}
use Rattle.std.specs.FinMap as finite
use Rattle.libfunc_registry.specs.Fam.{Fam, dictionaries}
use Rattle.libfunc_registry.specs.Dictionaries.{DictionariesFam, dict_new, dict_entry_get, dict_entry_finalize, dict_squash, dict_entries}
use Rattle.value_trees.specs.Parts.{dict_of, entry_of}
use Rattle.value_trees.specs.Val.{Plain, WordMap, OpenMap}
use Rattle.value_trees.specs.Val as val
use Rattle.libfunc_meaning.specs.Answers.{Answer, gives, of_none, of_two, of_three, with_part, with_number}
use Rattle.libfunc_meaning.specs.Dictionaries.{dictionaries_does}
use Rattle.libfunc_meaning.specs.Do.{does}

abbrev pub PlainAnswer : Type 0
PlainAnswer = Answer WordMap OpenMap

abbrev pub with_dict : Plain → (WordMap → PlainAnswer) → PlainAnswer
with_dict v answer = with_part (dict_of v) answer

abbrev pub with_entry : Plain → (OpenMap → PlainAnswer) → PlainAnswer
with_entry v answer = with_part (entry_of v) answer

abbrev pub mapped_does : DictionariesFam → List Plain → PlainAnswer
mapped_does (dict_new k) vs = of_none vs (gives (val.dict finite.empty ∷ []))
mapped_does (dict_entry_get k) vs =
    of_three vs (λ rc v u. with_dict v (λ m. with_number u (λ key.
    gives (rc ∷ val.dict_entry (record { map = m; key = key }) ∷ val.number k (unwrap_or (get m key) 0) ∷ []))))
mapped_does (dict_entry_finalize k) vs = of_two vs (λ v u. with_entry v (λ e. with_number u (λ word. gives (val.dict (insert e.map e.key word) ∷ []))))
mapped_does (dict_squash k) vs = of_two vs (λ rc v. with_dict v (λ m. gives (rc ∷ val.squashed_dict m ∷ [])))
mapped_does (dict_entries k) vs = dictionaries_does (dict_entries k) vs

abbrev pub plain_does : Fam → List Plain → (amount : ℕ) → PlainAnswer
plain_does (dictionaries fam) vs amount = mapped_does fam vs
plain_does fam vs amount = does fam vs amount
