-- What stands between `<` and `>` where a libfunc is declared, and the libfunc that it makes.
use Rattle.std.specs.Prelude.{ℕ, ◌≡◌, ◌<◌, ◌≤◌, ◌-◌, ◌^◌, List, [], ◌∷◌, Bool, true, false, IsTrue, length, Some, slice_get}
use Rattle.felt64.specs.Field.{modulus}
use Rattle.type_trees.specs.Ty.{Ty, Tys, number, struct, enum}
use Rattle.type_trees.specs.declared.num.Num.{Num}
use Rattle.type_trees.specs.declared.num.Num.TheVariants as nums
use Rattle.sierra_types.specs.declared.program.Arg.{Arg}
use Rattle.sierra_types.specs.declared.program.Arg.TheVariants as args
use Rattle.type_table.specs.declared.type_id.TypeId.{TypeId}
use Rattle.type_table.specs.Trees.{listed}
use Rattle.type_table.specs.View.{TypesView, tree_of}
use Rattle.libfunc_registry.specs.declared.width.Width.{Width}
use Rattle.libfunc_registry.specs.declared.width.Width.TheVariants as widths
use Rattle.libfunc_registry.specs.declared.libfunc.Libfunc.{Libfunc}

-- how many bits an integer of this width has
abbrev pub bits : Width → ℕ
bits widths.W8 = 8
bits widths.W16 = 16
bits widths.W32 = 32

-- the type of the integers of this width
abbrev pub num_of : Width → Num
num_of widths.W8 = nums.U8
num_of widths.W16 = nums.U16
num_of widths.W32 = nums.U32

-- how many numbers a type of numbers has
abbrev pub range_of : Num → ℕ
range_of nums.Felt64 = modulus
range_of nums.U8 = 2 ^ 8
range_of nums.U16 = 2 ^ 16
range_of nums.U32 = 2 ^ 32

-- the word of a constant that is written so: a number of the type, or, in the field, `-` and a number from 1 to P - 1
abbrev pub IsWord : Num → Bool → ℕ → ℕ → Type 0
IsWord num false n word = (n < range_of num) × (word ≡ n)
IsWord nums.Felt64 true n word = (0 < n) × (n < modulus) × (word ≡ modulus - n)
IsWord num true n word = ⊥

-- What a generic libfunc takes as arguments, with what they make.
pub data Form : Type 0 where
  nothing : Libfunc → Form
  a_type : (TypeId → Libfunc) → Form
  a_number_type : (Num → Libfunc) → Form
  an_enum : (TypeId → Libfunc) → Form
  a_variant : (TypeId → ℕ → Libfunc) → Form
  a_struct : (TypeId → Libfunc) → Form
  a_function : (ℕ → Libfunc) → Form
  a_constant : Num → (ℕ → Libfunc) → Form
  two_widths : (Width → Width → Bool) → (Width → Width → Libfunc) → Form

module _ (types : TypesView) where
  -- the id is that of the declared type at this position
  abbrev pub NamesType : List ℕ → TypeId → Type 0
  NamesType id t = slice_get types.ids t.0 ≡ Some id

  -- the id is that of a declared type, which is this one
  abbrev pub NamesTree : List ℕ → Ty → Type 0
  NamesTree id ty = (t : TypeId) × NamesType id t × (tree_of types t.0 ≡ ty)

  -- the id is that of the declared function at this position
  abbrev pub NamesFunction : List ℕ → ℕ → Type 0
  NamesFunction id f = slice_get types.function_ids f ≡ Some id

  -- the arguments are of the form, and make the libfunc
  abbrev pub Makes : Form → List Arg → Libfunc → Type 0
  Makes (nothing made) given libfunc = (given ≡ []) × (libfunc ≡ made)
  Makes (a_type make) given libfunc =
      (id : List ℕ) × (t : TypeId) × (given ≡ args.OfType id ∷ []) × NamesType id t × (libfunc ≡ make t)
  Makes (a_number_type make) given libfunc =
      (id : List ℕ) × (num : Num) × (given ≡ args.OfType id ∷ []) × NamesTree id (number num) × (libfunc ≡ make num)
  Makes (an_enum make) given libfunc =
      (id : List ℕ) × (t : TypeId) × (name : List ℕ) × (variants : Tys)
      × (given ≡ args.OfType id ∷ []) × NamesType id t × (tree_of types t.0 ≡ enum name variants) × (libfunc ≡ make t)
  Makes (a_variant make) given libfunc =
      (id : List ℕ) × (t : TypeId) × (name : List ℕ) × (variants : Tys) × (index : ℕ)
      × (given ≡ args.OfType id ∷ args.Number false index ∷ []) × NamesType id t × (tree_of types t.0 ≡ enum name variants)
      × (index < length (listed variants)) × (libfunc ≡ make t index)
  Makes (a_struct make) given libfunc =
      (id : List ℕ) × (t : TypeId) × (name : List ℕ) × (members : Tys)
      × (given ≡ args.OfType id ∷ []) × NamesType id t × (tree_of types t.0 ≡ struct name members) × (libfunc ≡ make t)
  Makes (a_function make) given libfunc =
      (id : List ℕ) × (f : ℕ) × (given ≡ args.Callee id ∷ []) × NamesFunction id f × (libfunc ≡ make f)
  Makes (a_constant num make) given libfunc =
      (negative : Bool) × (n : ℕ) × (word : ℕ)
      × (given ≡ args.Number negative n ∷ []) × IsWord num negative n word × (libfunc ≡ make word)
  Makes (two_widths may make) given libfunc =
      (from : List ℕ) × (to : List ℕ) × (a : Width) × (b : Width)
      × (given ≡ args.OfType from ∷ args.OfType to ∷ []) × NamesTree from (number (num_of a)) × NamesTree to (number (num_of b))
      × IsTrue (may a b) × (libfunc ≡ make a b)
