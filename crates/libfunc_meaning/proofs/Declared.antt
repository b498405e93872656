-- A family that is declared is proper: its row says what its arguments are.
use Rattle.std.proofs.Common.{ℕ, zero, suc, ◌<◌, ◌≤◌, Bool, true, false, IsTrue, List, [], ◌∷◌, ◌++◌, sym, subst, arith}
use Rattle.std.specs.List.{AllByRecursion, Contains}
use Rattle.std.proofs.lemmas.Bool.Decides.{nat_tests}
use Rattle.type_trees.specs.declared.num.Num.{Num}
use Rattle.type_trees.specs.declared.num.Num.TheVariants as nums
use Rattle.sierra_types.specs.declared.program.Arg.{Arg}
use Rattle.sierra_types.specs.declared.program.LibfuncDecl.{LibfuncDecl}
use Rattle.type_table.specs.declared.type_id.TypeId.{TypeId}
use Rattle.type_table.specs.View.{TypesView, tree_of}
use Rattle.libfunc_registry.specs.declared.libfunc.Libfunc.{Libfunc}
use Rattle.libfunc_registry.specs.declared.libfunc.Libfunc.TheVariants as libfuncs
use Rattle.libfunc_registry.specs.declared.sig.Sig.{Sig}
use Rattle.libfunc_registry.specs.declared.width.Width.{Width}
use Rattle.libfunc_registry.specs.declared.width.Width.TheVariants as widths
use Rattle.libfunc_registry.specs.Arguments.{Form, nothing, a_type, a_number_type, an_enum, a_variant, a_struct, a_function, a_constant, two_widths, Makes, IsWord, bits}
use Rattle.libfunc_registry.specs.Control.{control_rows}
use Rattle.libfunc_registry.specs.Gas.{gas_rows}
use Rattle.libfunc_registry.specs.Felts.{felts_rows}
use Rattle.libfunc_registry.specs.Integers.{u8_rows, u16_rows, u32_rows, cast_rows, integers_rows, is_at_most, is_above}
use Rattle.libfunc_registry.specs.Data.{data_rows, enum_init}
use Rattle.libfunc_registry.specs.Arrays.{arrays_rows}
use Rattle.libfunc_registry.specs.Dictionaries.{dictionaries_rows}
use Rattle.libfunc_registry.specs.Fam.{rows, fam_of}
use Rattle.libfunc_registry.specs.Signature.{HasSignature}
use Rattle.value_trees.specs.Of.{bound}
use Rattle.libfunc_meaning.specs.Proper.{IsProper, IsProperData, IsEnum, IsStruct}

-- what is in lists, one behind the other, and what is in a list
all_both : {X : Type 0} (P : X → Type 0) (xs ys : List X) → AllByRecursion P xs → AllByRecursion P ys → AllByRecursion P (xs ++ ys)
all_both P [] ys h k = k
all_both P (x ∷ xs) ys h k = (h.0, all_both P xs ys h.1 k)

contained : {X : Type 0} (P : X → Type 0) (xs : List X) (x : X) → AllByRecursion P xs → Contains xs x → P x
contained P [] x h (k, within, is) = absurd (omega arith)
contained P (y ∷ xs) x h (zero, within, is) = subst P is h.0
contained P (y ∷ xs) x h (suc k, within, is) = contained P xs x h.1 (k, omega arith, is)

word_below : (num : Num) (negative : Bool) (n word : ℕ) → IsWord num negative n word → word < bound num
word_below nums.Felt64 false n word is = omega arith
word_below nums.U8 false n word is = omega arith
word_below nums.U16 false n word is = omega arith
word_below nums.U32 false n word is = omega arith
word_below nums.Felt64 true n word is = omega arith
word_below nums.U8 true n word is = absurd is
word_below nums.U16 true n word is = absurd is
word_below nums.U32 true n word is = absurd is

module _ (types : TypesView) where
  abbrev Fits : Libfunc → Type 0
  Fits l = IsProper (fam_of types l)

  -- what the form makes is proper
  abbrev Makes_proper : Form → Type 0
  Makes_proper form = (given : List Arg) (l : Libfunc) → Makes types form given l → Fits l

  abbrev Row_proper : List ℕ × Form → Type 0
  Row_proper row = Makes_proper row.1

  by_nothing : (m : Libfunc) → Fits m → Makes_proper (nothing m)
  by_nothing m p given l made = subst Fits (sym made.1) p

  by_type : (make : TypeId → Libfunc) → ((t : TypeId) → Fits (make t)) → Makes_proper (a_type make)
  by_type make p given l (id, t, written, names, is) = subst Fits (sym is) (p t)

  by_number_type : (make : Num → Libfunc) → ((num : Num) → Fits (make num)) → Makes_proper (a_number_type make)
  by_number_type make p given l (id, num, written, names, is) = subst Fits (sym is) (p num)

  by_enum : (make : TypeId → Libfunc) → ((t : TypeId) → IsEnum (tree_of types t.0) → Fits (make t)) → Makes_proper (an_enum make)
  by_enum make p given l (id, t, name, variants, written, names, tree, is) = subst Fits (sym is) (p t (name, variants, tree))

  by_variant : (make : TypeId → ℕ → Libfunc) → ((t : TypeId) (index : ℕ) → IsProperData (enum_init (tree_of types t.0) index) → Fits (make t index)) → Makes_proper (a_variant make)
  by_variant make p given l (id, t, name, variants, index, written, names, tree, within, is) = subst Fits (sym is) (p t index (name, variants, tree, within))

  by_struct : (make : TypeId → Libfunc) → ((t : TypeId) → IsStruct (tree_of types t.0) → Fits (make t)) → Makes_proper (a_struct make)
  by_struct make p given l (id, t, name, members, written, names, tree, is) = subst Fits (sym is) (p t (name, members, tree))

  by_function : (make : ℕ → Libfunc) → ((f : ℕ) → Fits (make f)) → Makes_proper (a_function make)
  by_function make p given l (id, f, written, names, is) = subst Fits (sym is) (p f)

  by_constant : (num : Num) (make : ℕ → Libfunc) → ((word : ℕ) → word < bound num → Fits (make word)) → Makes_proper (a_constant num make)
  by_constant num make p given l (negative, n, word, written, is_word, is) = subst Fits (sym is) (p word (word_below num negative n word is_word))

  by_widths : (may : Width → Width → Bool) (make : Width → Width → Libfunc) → ((a b : Width) → IsTrue (may a b) → Fits (make a b)) → Makes_proper (two_widths may make)
  by_widths may make p given l (from, to, a, b, written, from_is, to_is, may_be, is) = subst Fits (sym is) (p a b may_be)

  control_proper : AllByRecursion Row_proper control_rows
  unfolding control_rows
  control_proper = (
    by_nothing libfuncs.BranchAlign tt,
    (
      by_nothing libfuncs.Jump tt,
      (
        by_type libfuncs.Rename (λ t. tt),
        (
          by_type libfuncs.Dup (λ t. tt),
          (
            by_type libfuncs.Drop (λ t. tt),
            (
              by_type libfuncs.StoreTemp (λ t. tt),
              (
                by_type libfuncs.StoreLocal (λ t. tt),
                (
                  by_type libfuncs.AllocLocal (λ t. tt),
                  (
                    by_nothing libfuncs.FinalizeLocals tt,
                    (
                      by_nothing libfuncs.DisableApTracking tt,
                      (
                        by_nothing libfuncs.EnableApTracking tt,
                        tt,
                      ),
                    ),
                  ),
                ),
              ),
            ),
          ),
        ),
      ),
    ),
  )

  gas_proper : AllByRecursion Row_proper gas_rows
  unfolding gas_rows
  gas_proper = (by_function libfuncs.FunctionCall (λ f. tt), (by_nothing libfuncs.WithdrawGas tt, tt))

  felts_proper : AllByRecursion Row_proper felts_rows
  unfolding felts_rows
  felts_proper = (
    by_constant nums.Felt64 (libfuncs.Const nums.Felt64) (λ word below. below),
    (
      by_constant nums.U8 (libfuncs.Const nums.U8) (λ word below. below),
      (
        by_constant nums.U16 (libfuncs.Const nums.U16) (λ word below. below),
        (
          by_constant nums.U32 (libfuncs.Const nums.U32) (λ word below. below),
          (
            by_nothing libfuncs.FeltAdd tt,
            (
              by_nothing libfuncs.FeltSub tt,
              (
                by_nothing libfuncs.FeltMul tt,
                (
                  by_nothing (libfuncs.IsZero nums.Felt64) tt,
                  (
                    by_nothing (libfuncs.IsZero nums.U8) tt,
                    (
                      by_nothing (libfuncs.IsZero nums.U16) tt,
                      (
                        by_nothing (libfuncs.IsZero nums.U32) tt,
                        (
                          by_number_type libfuncs.UnwrapNonZero (λ num. tt),
                          tt,
                        ),
                      ),
                    ),
                  ),
                ),
              ),
            ),
          ),
        ),
      ),
    ),
  )

  u8_proper : AllByRecursion Row_proper u8_rows
  unfolding u8_rows
  u8_proper = (
    by_nothing (libfuncs.ToFelt widths.W8) tt,
    (
      by_nothing (libfuncs.TryFromFelt widths.W8) tt,
      (
        by_nothing (libfuncs.OverflowingAdd widths.W8) tt,
        (
          by_nothing (libfuncs.OverflowingSub widths.W8) tt,
          (
            by_nothing (libfuncs.WideMul widths.W8) (λ e. cc),
            (
              by_nothing (libfuncs.SafeDivmod widths.W8) tt,
              (
                by_nothing (libfuncs.WidthEq widths.W8) tt,
                tt,
              ),
            ),
          ),
        ),
      ),
    ),
  )

  u16_proper : AllByRecursion Row_proper u16_rows
  unfolding u16_rows
  u16_proper = (
    by_nothing (libfuncs.ToFelt widths.W16) tt,
    (
      by_nothing (libfuncs.TryFromFelt widths.W16) tt,
      (
        by_nothing (libfuncs.OverflowingAdd widths.W16) tt,
        (
          by_nothing (libfuncs.OverflowingSub widths.W16) tt,
          (
            by_nothing (libfuncs.WideMul widths.W16) (λ e. cc),
            (
              by_nothing (libfuncs.SafeDivmod widths.W16) tt,
              (
                by_nothing (libfuncs.WidthEq widths.W16) tt,
                tt,
              ),
            ),
          ),
        ),
      ),
    ),
  )

  u32_proper : AllByRecursion Row_proper u32_rows
  unfolding u32_rows
  u32_proper = (
    by_nothing (libfuncs.ToFelt widths.W32) tt,
    (
      by_nothing (libfuncs.TryFromFelt widths.W32) tt,
      (
        by_nothing (libfuncs.OverflowingAdd widths.W32) tt,
        (
          by_nothing (libfuncs.OverflowingSub widths.W32) tt,
          (
            by_nothing libfuncs.SplitMul tt,
            (
              by_nothing (libfuncs.SafeDivmod widths.W32) tt,
              (
                by_nothing (libfuncs.WidthEq widths.W32) tt,
                tt,
              ),
            ),
          ),
        ),
      ),
    ),
  )

  data_proper : AllByRecursion Row_proper data_rows
  unfolding data_rows
  data_proper = (
    by_variant libfuncs.EnumInit (λ t index h. h),
    (
      by_enum libfuncs.EnumMatch (λ t h. h),
      (
        by_enum libfuncs.EnumSnapshotMatch (λ t h. h),
        (
          by_struct libfuncs.StructConstruct (λ t h. h),
          (
            by_struct libfuncs.StructDeconstruct (λ t h. h),
            (
              by_struct libfuncs.StructSnapshotDeconstruct (λ t h. h),
              (
                by_type libfuncs.SnapshotTake (λ t. tt),
                (
                  by_type libfuncs.IntoBox (λ t. tt),
                  (
                    by_type libfuncs.Unbox (λ t. tt),
                    tt,
                  ),
                ),
              ),
            ),
          ),
        ),
      ),
    ),
  )

  arrays_proper : AllByRecursion Row_proper arrays_rows
  unfolding arrays_rows
  arrays_proper = (
    by_type libfuncs.ArrayNew (λ t. tt),
    (
      by_type libfuncs.ArrayAppend (λ t. tt),
      (
        by_type libfuncs.ArrayLen (λ t. tt),
        (
          by_type libfuncs.ArrayGet (λ t. tt),
          (
            by_type libfuncs.ArrayPopFront (λ t. tt),
            tt,
          ),
        ),
      ),
    ),
  )

  dictionaries_proper : AllByRecursion Row_proper dictionaries_rows
  unfolding dictionaries_rows
  dictionaries_proper = (
    by_number_type libfuncs.DictNew (λ num. tt),
    (
      by_number_type libfuncs.DictEntryGet (λ num. tt),
      (
        by_number_type libfuncs.DictEntryFinalize (λ num. tt),
        (
          by_number_type libfuncs.DictSquash (λ num. tt),
          (
            by_number_type libfuncs.DictEntries (λ num. tt),
            tt,
          ),
        ),
      ),
    ),
  )

  wide : (a b : Width) → IsTrue (is_at_most a b) → bits a ≤ bits b
  wide a b h = grind (arith, nat_tests)

  cast_proper : AllByRecursion Row_proper cast_rows
  unfolding cast_rows
  cast_proper = (
    by_widths is_at_most libfuncs.Upcast wide,
    (
      by_widths is_above libfuncs.Downcast (λ a b h. tt),
      tt,
    ),
  )

  all_proper : AllByRecursion Row_proper rows
  all_proper =
      all_both Row_proper control_rows _ control_proper
      (all_both Row_proper gas_rows _ gas_proper
      (all_both Row_proper felts_rows _ felts_proper
      (all_both Row_proper integers_rows _
      (all_both Row_proper u8_rows _ u8_proper (all_both Row_proper u16_rows _ u16_proper (all_both Row_proper u32_rows cast_rows u32_proper cast_proper)))
      (all_both Row_proper data_rows _ data_proper
      (all_both Row_proper arrays_rows dictionaries_rows arrays_proper dictionaries_proper)))))

pub declared_is_proper : (types : TypesView) (decl : LibfuncDecl) (sig : Sig) → HasSignature types decl sig → IsProper (fam_of types sig.libfunc)
declared_is_proper types decl sig has =
    let found = has.written in
    contained (Row_proper types) rows (decl.generic, found.0) (all_proper types) found.1 decl.args sig.libfunc found.2
