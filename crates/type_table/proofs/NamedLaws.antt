-- A name is told as a generic type if and only if it is the name of it.
use Rattle.std.proofs.Common.{◌≡◌, ℕ, Bool, true, false, cond, List, Option, Some, None, refl, ap, sym, ◌∙◌}
use Rattle.std.specs.Prelude.{bytes_eq}
use Rattle.std.proofs.lemmas.Slice.Eq.{bytes_eq-Decides}
use Rattle.type_trees.specs.declared.num.Num.{Num}
use Rattle.type_trees.specs.declared.num.Num.TheVariants as nums
use Rattle.type_trees.specs.Ty.{number_name}
use Rattle.type_table.specs.declared.generic.Generic.{Generic}
use Rattle.type_table.specs.declared.generic.Generic.TheVariants as generics
use Rattle.type_table.specs.Generics.{generic_name}
use Rattle.type_table.specs.Named.{number_named, user_named, wrapper_named, numeric_named, first_of, generic_named}
use Rattle.type_table.proofs.Plain.{none-some, some_is}

pub named-name : (g : Generic) → generic_named (generic_name g) ≡ Some g
named-name (generics.Number nums.Felt64) = refl
named-name (generics.Number nums.U8) = refl
named-name (generics.Number nums.U16) = refl
named-name (generics.Number nums.U32) = refl
named-name generics.RangeCheck = refl
named-name generics.GasBuiltin = refl
named-name generics.NonZero = refl
named-name generics.Box = refl
named-name generics.Array = refl
named-name generics.Snapshot = refl
named-name generics.Struct = refl
named-name generics.Enum = refl
named-name generics.Dict = refl
named-name generics.DictEntry = refl
named-name generics.SquashedDict = refl
named-name generics.Uninitialized = refl

-- one line of a table of names
line : {X : Type 0} (name_of : X → List ℕ) (name : List ℕ) (x : X) (rest : Option X) → ((y : X) → rest ≡ Some y → name ≡ name_of y)
    → (y : X) → cond (bytes_eq name (name_of x)) (Some x) rest ≡ Some y → name ≡ name_of y
line {X} name_of name x rest later y = by (bytes_eq name (name_of x)) refl
  where
    by : (b : Bool) → bytes_eq name (name_of x) ≡ b → cond b (Some x) rest ≡ Some y → name ≡ name_of y
    by true same is = (bytes_eq-Decides name (name_of x)).0 same ∙ ap name_of (some_is x y is)
    by false other is = later y is

over : {X : Type 0} (name_of : X → List ℕ) (name : List ℕ) (y : X) → None ≡ Some y → name ≡ name_of y
over name_of name y is = absurd (none-some y is)

number_right : (name : List ℕ) (num : Num) → number_named name ≡ Some num → name ≡ number_name num
number_right name =
    line number_name name nums.Felt64 _ (line number_name name nums.U8 _ (line number_name name nums.U16 _ (line number_name name nums.U32 _ (over number_name name))))

user_right : (name : List ℕ) (g : Generic) → user_named name ≡ Some g → name ≡ generic_name g
user_right name =
    line generic_name name generics.Struct _ (line generic_name name generics.Enum _ (line generic_name name generics.RangeCheck _ (line generic_name name generics.GasBuiltin _ (over generic_name name))))

wrapper_right : (name : List ℕ) (g : Generic) → wrapper_named name ≡ Some g → name ≡ generic_name g
wrapper_right name =
    line generic_name name generics.Box _ (line generic_name name generics.Array _ (line generic_name name generics.Snapshot _ (line generic_name name generics.Uninitialized _ (over generic_name name))))

numeric_right : (name : List ℕ) (g : Generic) → numeric_named name ≡ Some g → name ≡ generic_name g
numeric_right name =
    line generic_name name generics.NonZero _ (line generic_name name generics.Dict _ (line generic_name name generics.DictEntry _ (line generic_name name generics.SquashedDict _ (over generic_name name))))

first_right : (name : List ℕ) (g : Generic) (number : Option Num) (user wrapper numeric : Option Generic)
    → ((num : Num) → number ≡ Some num → name ≡ number_name num)
    → ((h : Generic) → user ≡ Some h → name ≡ generic_name h)
    → ((h : Generic) → wrapper ≡ Some h → name ≡ generic_name h)
    → ((h : Generic) → numeric ≡ Some h → name ≡ generic_name h)
    → first_of number user wrapper numeric ≡ Some g → name ≡ generic_name g
first_right name g (Some num) user wrapper numeric a b c d is = a num refl ∙ ap generic_name (some_is _ _ is)
first_right name g None (Some h) wrapper numeric a b c d is = b h refl ∙ ap generic_name (some_is _ _ is)
first_right name g None None (Some h) numeric a b c d is = c h refl ∙ ap generic_name (some_is _ _ is)
first_right name g None None None numeric a b c d is = d g is

pub named_right : (name : List ℕ) (g : Generic) → generic_named name ≡ Some g → name ≡ generic_name g
named_right name g = first_right name g (number_named name) (user_named name) (wrapper_named name) (numeric_named name)
    (number_right name) (user_right name) (wrapper_right name) (numeric_right name)

-- two generic types have one name only if they are one
pub same_generic : (g h : Generic) → generic_name g ≡ generic_name h → g ≡ h
same_generic g h same = some_is g h (sym (named-name g) ∙ ap generic_named same ∙ named-name h)
