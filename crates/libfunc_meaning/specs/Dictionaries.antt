-- Dictionaries. How a dictionary begins, is accessed and ends is a parameter: by a map for what a program means, by a log for a
-- run whose accesses are logged. What is read of a squashed dictionary is the same for both.
use Rattle.std.specs.Prelude.{◌≡◌, ◌<◌, ℕ, List, [], ◌∷◌, None, map}
use Rattle.std.specs.Option.{unwrap_or}
use Rattle.std.specs.FinMap.{entries, get, insert}
use Rattle.std.specs.FinMap as finite
use Rattle.type_trees.specs.declared.num.Num.{Num}
use Rattle.type_trees.specs.declared.num.Num.TheVariants as nums
use Rattle.libfunc_registry.specs.Dictionaries.{DictionariesFam, dict_new, dict_entry_get, dict_entry_finalize, dict_squash, dict_entries}
use Rattle.value_trees.specs.Of.{bound}
use Rattle.value_trees.specs.Val.{Val, WordMap, OpenMap, vals_of}
use Rattle.value_trees.specs.Val as val
use Rattle.libfunc_meaning.specs.Answers.{Answer, gives, of_one, with_squashed}

pub record Dictionary (D E : Type 0) : Type 1 where
  -- without accesses
  pub Begins : D → Type 0
  -- an entry is opened: its key, the word that is found there, and the open entry
  pub Opens : D → (key word : ℕ) → E → Type 0
  -- a word is put into the open entry
  pub Closes : E → (word : ℕ) → D → Type 0
  -- what is left when it is squashed
  pub Ends : D → WordMap → Type 0

-- by a map: a key that was not accessed before has the word 0
abbrev pub mapped : Dictionary WordMap OpenMap
mapped = record {
  Begins = λ m. m ≡ finite.empty;
  Opens = λ m key word e. (word ≡ unwrap_or (get m key) 0) × (e ≡ record { map = m; key = key });
  Closes = λ e word m. m ≡ insert e.map e.key word;
  Ends = λ m squashed. squashed ≡ m;
}

module _ {D E : Type 0} where
  -- an entry of a squashed dictionary: its key, 0 and its last word
  abbrev pub entry_of : Num → ℕ × ℕ → Val D E
  entry_of k e = val.struct (vals_of (val.number nums.Felt64 e.0 ∷ val.number k 0 ∷ val.number k e.1 ∷ []))

  -- the family that touches no dictionary
  abbrev pub dictionaries_does : DictionariesFam → List (Val D E) → Answer D E
  dictionaries_does (dict_entries k) vs = of_one vs (λ v. with_squashed v (λ m. gives (val.array (vals_of (map (entry_of k) (entries m))) ∷ [])))
  dictionaries_does _ vs = None

module _ {D E : Type 0} (d : Dictionary D E) where
  -- The values that a family which touches a dictionary takes and gives. A word that is found is a number of the dictionary's
  -- type, whatever is found there.
  abbrev pub DictionariesDo : DictionariesFam → List (Val D E) → List (Val D E) → Type 0
  DictionariesDo (dict_new k) vs outs = (begun : D) × d.Begins begun × (vs ≡ []) × (outs ≡ val.dict begun ∷ [])
  DictionariesDo (dict_entry_get k) vs outs =
      (rc : Val D E) × (dict : D) × (key word : ℕ) × (open_ : E) × d.Opens dict key word open_ × (word < bound k)
      × (vs ≡ rc ∷ val.dict dict ∷ val.number nums.Felt64 key ∷ []) × (outs ≡ rc ∷ val.dict_entry open_ ∷ val.number k word ∷ [])
  DictionariesDo (dict_entry_finalize k) vs outs =
      (open_ : E) × (word : ℕ) × (closed : D) × d.Closes open_ word closed × (vs ≡ val.dict_entry open_ ∷ val.number k word ∷ []) × (outs ≡ val.dict closed ∷ [])
  DictionariesDo (dict_squash k) vs outs =
      (rc : Val D E) × (dict : D) × (squashed : WordMap) × d.Ends dict squashed × (vs ≡ rc ∷ val.dict dict ∷ []) × (outs ≡ rc ∷ val.squashed_dict squashed ∷ [])
  DictionariesDo (dict_entries k) vs outs = ⊥
