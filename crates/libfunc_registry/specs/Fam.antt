-- Families: a libfunc with trees in place of the positions of types, in seven groups. What it takes and gives, and what it
-- asks of its types.
use Rattle.std.specs.Prelude.{ℕ, ◌≡◌, ◌≢◌, List, [], ◌++◌, Bool, true, false, slice_get}
use Rattle.std.specs.List.{Contains}
use Rattle.std.specs.Option.{option_map_or}
use Rattle.type_trees.specs.Ty.{Ty, range_check, gas_builtin, storable, droppable, duplicable, holds_dict}
use Rattle.sierra_types.specs.declared.program.Arg.{Arg}
use Rattle.type_table.specs.declared.type_id.TypeId.{TypeId}
use Rattle.type_table.specs.View.{TypesView, tree_of, trees_of}
use Rattle.libfunc_registry.specs.declared.libfunc.Libfunc.{Libfunc}
use Rattle.libfunc_registry.specs.declared.libfunc.Libfunc.TheVariants as libfuncs
use Rattle.libfunc_registry.specs.Arguments.{Form, Makes}
use Rattle.libfunc_registry.specs.Control as controls
use Rattle.libfunc_registry.specs.Control.{ControlFam, control_rows, control_takes, control_gives}
use Rattle.libfunc_registry.specs.Gas as gases
use Rattle.libfunc_registry.specs.Gas.{GasFam, gas_rows, gas_takes, gas_gives}
use Rattle.libfunc_registry.specs.Felts as felt
use Rattle.libfunc_registry.specs.Felts.{FeltsFam, felts_rows, felts_takes, felts_gives}
use Rattle.libfunc_registry.specs.Integers as integer
use Rattle.libfunc_registry.specs.Integers.{IntegersFam, integers_rows, integers_takes, integers_gives}
use Rattle.libfunc_registry.specs.Data as parts
use Rattle.libfunc_registry.specs.Data.{DataFam, data_rows, data_takes, data_gives}
use Rattle.libfunc_registry.specs.Arrays as array
use Rattle.libfunc_registry.specs.Arrays.{ArraysFam, arrays_rows, arrays_takes, arrays_gives}
use Rattle.libfunc_registry.specs.Dictionaries as dictionary
use Rattle.libfunc_registry.specs.Dictionaries.{DictionariesFam, dictionaries_rows, dictionaries_takes, dictionaries_gives}

-- the generic libfuncs, with what they take as arguments
abbrev pub rows : List (List ℕ × Form)
rows =
    control_rows ++ (gas_rows ++ (felts_rows ++ (integers_rows ++ (data_rows ++ (arrays_rows ++ dictionaries_rows)))))

-- some family has this generic name
abbrev pub IsFamily : List ℕ → Type 0
IsFamily generic = (form : Form) × Contains rows (generic, form)

-- the generic name with these arguments is written for the libfunc
abbrev pub IsWritten : TypesView → Libfunc → List ℕ → List Arg → Type 0
IsWritten types libfunc generic args = (form : Form) × Contains rows (generic, form) × Makes types form args libfunc

pub data Fam : Type 0 where
  control : ControlFam → Fam
  gas : GasFam → Fam
  felts : FeltsFam → Fam
  integers : IntegersFam → Fam
  data_ : DataFam → Fam
  arrays : ArraysFam → Fam
  dictionaries : DictionariesFam → Fam

-- the types of the arguments
abbrev pub takes : Fam → List Ty
takes (control fam) = control_takes fam
takes (gas fam) = gas_takes fam
takes (felts fam) = felts_takes fam
takes (integers fam) = integers_takes fam
takes (data_ fam) = data_takes fam
takes (arrays fam) = arrays_takes fam
takes (dictionaries fam) = dictionaries_takes fam

-- the types of the results of each branch, branch 0 first
abbrev pub gives : Fam → List (List Ty)
gives (control fam) = control_gives fam
gives (gas fam) = gas_gives fam
gives (felts fam) = felts_gives fam
gives (integers fam) = integers_gives fam
gives (data_ fam) = data_gives fam
gives (arrays fam) = arrays_gives fam
gives (dictionaries fam) = dictionaries_gives fam

-- a snapshot of the type may be taken
pub record HasSnapshot (ty : Ty) : Type 0 where
  pub stored : storable ty ≡ true
  pub no_dict : holds_dict ty ≡ false
  pub no_range_check : ty ≢ range_check
  pub no_gas : ty ≢ gas_builtin

-- the types have the abilities that the family asks
abbrev pub IsAble : Fam → Type 0
IsAble (control (controls.dup ty)) = duplicable ty ≡ true
IsAble (control (controls.drop ty)) = droppable ty ≡ true
IsAble (control (controls.store_temp ty)) = storable ty ≡ true
IsAble (control (controls.store_local ty)) = storable ty ≡ true
IsAble (control (controls.alloc_local ty)) = storable ty ≡ true
IsAble (data_ (parts.snapshot_take ty)) = HasSnapshot ty
IsAble _ = Unit {0}

module _ (types : TypesView) where
  -- the tree of the type at this position
  abbrev pub tree : TypeId → Ty
  tree t = tree_of types t.0

  -- the parameters, and the results, of the function at this position
  abbrev pub params_of : ℕ → List Ty
  params_of f = option_map_or (λ g. trees_of types g.params) (slice_get types.functions f) []

  abbrev pub results_of : ℕ → List Ty
  results_of f = option_map_or (λ g. trees_of types g.results) (slice_get types.functions f) []

  -- the family, with its types
  abbrev pub fam_of : Libfunc → Fam
  fam_of libfuncs.BranchAlign = control controls.branch_align
  fam_of libfuncs.Jump = control controls.jump
  fam_of (libfuncs.Rename t) = control (controls.rename (tree t))
  fam_of (libfuncs.Dup t) = control (controls.dup (tree t))
  fam_of (libfuncs.Drop t) = control (controls.drop (tree t))
  fam_of (libfuncs.StoreTemp t) = control (controls.store_temp (tree t))
  fam_of (libfuncs.StoreLocal t) = control (controls.store_local (tree t))
  fam_of (libfuncs.AllocLocal t) = control (controls.alloc_local (tree t))
  fam_of libfuncs.FinalizeLocals = control controls.finalize_locals
  fam_of libfuncs.DisableApTracking = control controls.disable_ap_tracking
  fam_of libfuncs.EnableApTracking = control controls.enable_ap_tracking
  fam_of (libfuncs.FunctionCall f) = gas (gases.function_call f (params_of f) (results_of f))
  fam_of libfuncs.WithdrawGas = gas gases.withdraw_gas
  fam_of (libfuncs.Const num word) = felts (felt.const num word)
  fam_of libfuncs.FeltAdd = felts felt.felt64_add
  fam_of libfuncs.FeltSub = felts felt.felt64_sub
  fam_of libfuncs.FeltMul = felts felt.felt64_mul
  fam_of (libfuncs.IsZero num) = felts (felt.is_zero num)
  fam_of (libfuncs.UnwrapNonZero num) = felts (felt.unwrap_non_zero num)
  fam_of (libfuncs.ToFelt w) = integers (integer.to_felt64 w)
  fam_of (libfuncs.TryFromFelt w) = integers (integer.try_from_felt64 w)
  fam_of (libfuncs.OverflowingAdd w) = integers (integer.overflowing_add w)
  fam_of (libfuncs.OverflowingSub w) = integers (integer.overflowing_sub w)
  fam_of (libfuncs.WideMul w) = integers (integer.wide_mul w)
  fam_of libfuncs.SplitMul = integers integer.split_mul
  fam_of (libfuncs.SafeDivmod w) = integers (integer.safe_divmod w)
  fam_of (libfuncs.WidthEq w) = integers (integer.eq w)
  fam_of (libfuncs.Upcast a b) = integers (integer.upcast a b)
  fam_of (libfuncs.Downcast a b) = integers (integer.downcast a b)
  fam_of (libfuncs.EnumInit t index) = data_ (parts.enum_init (tree t) index)
  fam_of (libfuncs.EnumMatch t) = data_ (parts.enum_match (tree t))
  fam_of (libfuncs.EnumSnapshotMatch t) = data_ (parts.enum_snapshot_match (tree t))
  fam_of (libfuncs.StructConstruct t) = data_ (parts.struct_construct (tree t))
  fam_of (libfuncs.StructDeconstruct t) = data_ (parts.struct_deconstruct (tree t))
  fam_of (libfuncs.StructSnapshotDeconstruct t) = data_ (parts.struct_snapshot_deconstruct (tree t))
  fam_of (libfuncs.SnapshotTake t) = data_ (parts.snapshot_take (tree t))
  fam_of (libfuncs.IntoBox t) = data_ (parts.into_box (tree t))
  fam_of (libfuncs.Unbox t) = data_ (parts.unbox (tree t))
  fam_of (libfuncs.ArrayNew t) = arrays (array.array_new (tree t))
  fam_of (libfuncs.ArrayAppend t) = arrays (array.array_append (tree t))
  fam_of (libfuncs.ArrayLen t) = arrays (array.array_len (tree t))
  fam_of (libfuncs.ArrayGet t) = arrays (array.array_get (tree t))
  fam_of (libfuncs.ArrayPopFront t) = arrays (array.array_pop_front (tree t))
  fam_of (libfuncs.DictNew num) = dictionaries (dictionary.dict_new num)
  fam_of (libfuncs.DictEntryGet num) = dictionaries (dictionary.dict_entry_get num)
  fam_of (libfuncs.DictEntryFinalize num) = dictionaries (dictionary.dict_entry_finalize num)
  fam_of (libfuncs.DictSquash num) = dictionaries (dictionary.dict_squash num)
  fam_of (libfuncs.DictEntries num) = dictionaries (dictionary.dict_entries num)
