-- What arguments are read as, by their form, and what they make: each libfunc that is read is made, and back.
use Rattle.std.proofs.Common.{◌≡◌, ℕ, ◌-◌, ◌<◌, ◌&&◌, Bool, true, false, IsTrue, List, [], ◌∷◌, length, Option, Some, None, refl, sym, ap, subst, ◌∙◌, option_and_then, nat_lt, arith}
use Rattle.std.specs.Option.{option_map}
use Rattle.std.proofs.lemmas.Bool.Decides.{nat_tests}
use Rattle.felt64.specs.Field.{modulus}
use Rattle.type_trees.specs.Ty.{Ty, Tys, number, struct, enum}
use Rattle.type_trees.specs.declared.num.Num.{Num}
use Rattle.type_trees.specs.declared.num.Num.TheVariants as nums
use Rattle.sierra_types.specs.declared.program.Arg.{Arg}
use Rattle.sierra_types.specs.declared.program.Arg.TheVariants as args
use Rattle.type_table.specs.declared.type_id.TypeId.{TypeId}
use Rattle.type_table.specs.Trees.{parts, listed}
use Rattle.type_table.specs.View.{TypesView, tree_of, IsTable}
use Rattle.libfunc_registry.specs.declared.width.Width.{Width}
use Rattle.libfunc_registry.specs.declared.libfunc.Libfunc.{Libfunc}
use Rattle.libfunc_registry.specs.Arguments.{Form, nothing, a_type, a_number_type, an_enum, a_variant, a_struct, a_function, a_constant, two_widths, Makes, IsWord, range_of, num_of}
use Rattle.libfunc_registry.specs.Reading.{made, only_type, type_named, number_named, enum_named, struct_named, function_named, width_named, checked, type_in, number_in, enum_in, struct_in, variant_in, function_in, constant_in, widths_in, word_of}
use Rattle.libfunc_registry.proofs.Named.{none_some, option_map_some, and_then_some, checked_some, type_named-names, names-type_named, function_named-names, names-function_named, number_named-names, names-number_named, enum_named-names, names-enum_named, struct_named-names, names-struct_named, width_named-names, names-width_named, enum_of_kind, struct_of_kind}

pub only_type-is : (given : List Arg) (id : List ℕ) → only_type given ≡ Some id → given ≡ args.OfType id ∷ []
only_type-is [] id e = absurd (none_some id e)
only_type-is (args.OfType x ∷ []) id e = let same : x ≡ id = cc in ap (λ y. args.OfType y ∷ []) same
only_type-is (args.OfType x ∷ arg ∷ more) id e = absurd (none_some id e)
only_type-is (args.User x ∷ more) id e = absurd (none_some id e)
only_type-is (args.Callee x ∷ more) id e = absurd (none_some id e)
only_type-is (args.Number negative n ∷ more) id e = absurd (none_some id e)

word_of-is : (num : Num) (negative : Bool) (n word : ℕ) → word_of num negative n ≡ Some word → IsWord num negative n word
word_of-is nums.Felt64 false n word e = grind (arith, nat_tests, checked_some (nat_lt n (range_of nums.Felt64)) n word e)
word_of-is nums.U8 false n word e = grind (arith, nat_tests, checked_some (nat_lt n (range_of nums.U8)) n word e)
word_of-is nums.U16 false n word e = grind (arith, nat_tests, checked_some (nat_lt n (range_of nums.U16)) n word e)
word_of-is nums.U32 false n word e = grind (arith, nat_tests, checked_some (nat_lt n (range_of nums.U32)) n word e)
word_of-is nums.Felt64 true n word e = grind (arith, nat_tests, checked_some (nat_lt 0 n && nat_lt n modulus) (modulus - n) word e)
word_of-is nums.U8 true n word e = absurd (none_some word e)
word_of-is nums.U16 true n word e = absurd (none_some word e)
word_of-is nums.U32 true n word e = absurd (none_some word e)

-- what is read is made
pub made-makes : (types : TypesView) (form : Form) (given : List Arg) (l : Libfunc) → made types form given ≡ Some l → Makes types form given l
made-makes types (nothing m) [] l e = (refl, (let same : m ≡ l = cc in sym same))
made-makes types (nothing m) (arg ∷ given) l e = absurd (none_some l e)
made-makes types (a_type make) given l e =
    let found = option_map_some make (type_in types given) l e in
    let read = and_then_some (type_named types) (only_type given) found.0 found.1 in
    (read.0, found.0, only_type-is given read.0 read.1, type_named-names types read.0 found.0 read.2, found.2)
made-makes types (a_number_type make) given l e =
    let found = option_map_some make (number_in types given) l e in
    let read = and_then_some (number_named types) (only_type given) found.0 found.1 in
    (read.0, found.0, only_type-is given read.0 read.1, number_named-names types read.0 found.0 read.2, found.2)
made-makes types (an_enum make) given l e =
    let found = option_map_some make (enum_in types given) l e in
    let read = and_then_some (enum_named types) (only_type given) found.0 found.1 in
    let named = enum_named-names types read.0 found.0 read.2 in
    let shape = enum_of_kind (tree_of types found.0.0) named.1 in
    (read.0, found.0, shape.0, shape.1, only_type-is given read.0 read.1, named.0, shape.2, found.2)
made-makes types (a_variant make) given l e =
    let found = option_map_some (λ (p : TypeId × ℕ). make p.0 p.1) (variant_in types given) l e in
    variant given found.0 found.1 found.2
  where
    variant : (given : List Arg) (p : TypeId × ℕ) → variant_in types given ≡ Some p → l ≡ make p.0 p.1 → Makes types (a_variant make) given l
    variant [] p e is = absurd (none_some p e)
    variant (args.User x ∷ more) p e is = absurd (none_some p e)
    variant (args.Callee x ∷ more) p e is = absurd (none_some p e)
    variant (args.Number negative n ∷ more) p e is = absurd (none_some p e)
    variant (args.OfType id ∷ []) p e is = absurd (none_some p e)
    variant (args.OfType id ∷ args.OfType x ∷ more) p e is = absurd (none_some p e)
    variant (args.OfType id ∷ args.User x ∷ more) p e is = absurd (none_some p e)
    variant (args.OfType id ∷ args.Callee x ∷ more) p e is = absurd (none_some p e)
    variant (args.OfType id ∷ args.Number true n ∷ more) p e is = absurd (none_some p e)
    variant (args.OfType id ∷ args.Number false n ∷ arg ∷ more) p e is = absurd (none_some p e)
    variant (args.OfType id ∷ args.Number false n ∷ []) p e is =
        let read = and_then_some (λ (t : TypeId). checked (nat_lt n (length (parts (tree_of types t.0)))) (t, n)) (enum_named types id) p e in
        let passed = checked_some (nat_lt n (length (parts (tree_of types read.0.0)))) (read.0, n) p read.2 in
        let named = enum_named-names types id read.0 read.1 in
        let shape = enum_of_kind (tree_of types read.0.0) named.1 in
        let within : n < length (parts (tree_of types read.0.0)) = grind (arith, nat_tests, passed.0) in
        (id, read.0, shape.0, shape.1, n, refl, named.0, shape.2, subst (λ ty. n < length (parts ty)) shape.2 within, is ∙ ap (λ (q : TypeId × ℕ). make q.0 q.1) (sym passed.1))
made-makes types (a_struct make) given l e =
    let found = option_map_some make (struct_in types given) l e in
    let read = and_then_some (struct_named types) (only_type given) found.0 found.1 in
    let named = struct_named-names types read.0 found.0 read.2 in
    let shape = struct_of_kind (tree_of types found.0.0) named.1 in
    (read.0, found.0, shape.0, shape.1, only_type-is given read.0 read.1, named.0, shape.2, found.2)
made-makes types (a_function make) given l e =
    let found = option_map_some make (function_in types given) l e in
    callee given found.0 found.1 found.2
  where
    callee : (given : List Arg) (f : ℕ) → function_in types given ≡ Some f → l ≡ make f → Makes types (a_function make) given l
    callee [] f e is = absurd (none_some f e)
    callee (args.OfType x ∷ more) f e is = absurd (none_some f e)
    callee (args.User x ∷ more) f e is = absurd (none_some f e)
    callee (args.Number negative n ∷ more) f e is = absurd (none_some f e)
    callee (args.Callee id ∷ arg ∷ more) f e is = absurd (none_some f e)
    callee (args.Callee id ∷ []) f e is = (id, f, refl, function_named-names types id f e, is)
made-makes types (a_constant num make) given l e =
    let found = option_map_some make (constant_in num given) l e in
    constant given found.0 found.1 found.2
  where
    constant : (given : List Arg) (word : ℕ) → constant_in num given ≡ Some word → l ≡ make word → Makes types (a_constant num make) given l
    constant [] word e is = absurd (none_some word e)
    constant (args.OfType x ∷ more) word e is = absurd (none_some word e)
    constant (args.User x ∷ more) word e is = absurd (none_some word e)
    constant (args.Callee x ∷ more) word e is = absurd (none_some word e)
    constant (args.Number negative n ∷ arg ∷ more) word e is = absurd (none_some word e)
    constant (args.Number negative n ∷ []) word e is = (negative, n, word, refl, word_of-is num negative n word e, is)
made-makes types (two_widths may make) given l e =
    let found = and_then_some (λ (p : Width × Width). checked (may p.0 p.1) (make p.0 p.1)) (widths_in types given) l e in
    let passed = checked_some (may found.0.0 found.0.1) (make found.0.0 found.0.1) l found.2 in
    widths given found.0 found.1 passed.0 (sym passed.1)
  where
    widths : (given : List Arg) (p : Width × Width) → widths_in types given ≡ Some p → may p.0 p.1 ≡ true → l ≡ make p.0 p.1 → Makes types (two_widths may make) given l
    widths [] p e may_be is = absurd (none_some p e)
    widths (args.User x ∷ more) p e may_be is = absurd (none_some p e)
    widths (args.Callee x ∷ more) p e may_be is = absurd (none_some p e)
    widths (args.Number negative n ∷ more) p e may_be is = absurd (none_some p e)
    widths (args.OfType from ∷ []) p e may_be is = absurd (none_some p e)
    widths (args.OfType from ∷ args.User x ∷ more) p e may_be is = absurd (none_some p e)
    widths (args.OfType from ∷ args.Callee x ∷ more) p e may_be is = absurd (none_some p e)
    widths (args.OfType from ∷ args.Number negative n ∷ more) p e may_be is = absurd (none_some p e)
    widths (args.OfType from ∷ args.OfType to ∷ arg ∷ more) p e may_be is = absurd (none_some p e)
    widths (args.OfType from ∷ args.OfType to ∷ []) p e may_be is =
        let first = and_then_some (λ (a : Width). option_map (λ (b : Width). (a, b)) (width_named types to)) (width_named types from) p e in
        let second = option_map_some (λ (b : Width). (first.0, b)) (width_named types to) p first.2 in
        let pair : p ≡ (first.0, second.0) = second.2 in (
          from,
          to,
          first.0,
          second.0,
          refl,
          width_named-names types from first.0 first.1,
          width_named-names types to second.0 second.1,
          subst (λ (q : Width × Width). may q.0 q.1 ≡ true) pair may_be,
          is ∙ ap (λ (q : Width × Width). make q.0 q.1) pair,
        )

is_word-of : (num : Num) (negative : Bool) (n word : ℕ) → IsWord num negative n word → word_of num negative n ≡ Some word
is_word-of nums.Felt64 false n word is = grind (arith, nat_tests)
is_word-of nums.U8 false n word is = grind (arith, nat_tests)
is_word-of nums.U16 false n word is = grind (arith, nat_tests)
is_word-of nums.U32 false n word is = grind (arith, nat_tests)
is_word-of nums.Felt64 true n word is = grind (arith, nat_tests)
is_word-of nums.U8 true n word is = absurd is
is_word-of nums.U16 true n word is = absurd is
is_word-of nums.U32 true n word is = absurd is

-- what is made is read
pub makes-made : (types : TypesView) → IsTable types → (form : Form) (given : List Arg) (l : Libfunc) → Makes types form given l → made types form given ≡ Some l
makes-made types kept (nothing m) given l (none, is) = ap (made types (nothing m)) none ∙ ap Some (sym is)
makes-made types kept (a_type make) given l (id, t, written, names, is) =
    ap (made types (a_type make)) written ∙ ap (option_map make) (names-type_named types kept id t names) ∙ ap Some (sym is)
makes-made types kept (a_number_type make) given l (id, num, written, names, is) =
    ap (made types (a_number_type make)) written ∙ ap (option_map make) (names-number_named types kept id num names) ∙ ap Some (sym is)
makes-made types kept (an_enum make) given l (id, t, name, variants, written, names, tree, is) =
    ap (made types (an_enum make)) written ∙ ap (option_map make) (names-enum_named types kept id t name variants names tree) ∙ ap Some (sym is)
makes-made types kept (a_variant make) given l (id, t, name, variants, index, written, names, tree, within, is) =
    let within' : index < length (parts (tree_of types t.0)) = subst (λ ty. index < length (parts ty)) (sym tree) within in
    let passed : nat_lt index (length (parts (tree_of types t.0))) ≡ true = grind (arith, nat_tests) in
    ap (made types (a_variant make)) written
    ∙ ap (λ o. option_map (λ (p : TypeId × ℕ). make p.0 p.1) (option_and_then (λ (u : TypeId). checked (nat_lt index (length (parts (tree_of types u.0)))) (u, index)) o)) (names-enum_named types kept id t name variants names tree)
    ∙ ap (λ b. option_map (λ (p : TypeId × ℕ). make p.0 p.1) (checked b (t, index))) passed ∙ ap Some (sym is)
makes-made types kept (a_struct make) given l (id, t, name, members, written, names, tree, is) =
    ap (made types (a_struct make)) written ∙ ap (option_map make) (names-struct_named types kept id t name members names tree) ∙ ap Some (sym is)
makes-made types kept (a_function make) given l (id, f, written, names, is) =
    ap (made types (a_function make)) written ∙ ap (option_map make) (names-function_named types kept id f names) ∙ ap Some (sym is)
makes-made types kept (a_constant num make) given l (negative, n, word, written, is_word, is) =
    ap (made types (a_constant num make)) written ∙ ap (option_map make) (is_word-of num negative n word is_word) ∙ ap Some (sym is)
makes-made types kept (two_widths may make) given l (from, to, a, b, written, from_is, to_is, may_be, is) =
    ap (made types (two_widths may make)) written
    ∙ ap (λ o. option_and_then (λ (p : Width × Width). checked (may p.0 p.1) (make p.0 p.1)) (option_and_then (λ (c : Width). option_map (λ (d : Width). (c, d)) (width_named types to)) o)) (names-width_named types kept from a from_is)
    ∙ ap (λ o. option_and_then (λ (p : Width × Width). checked (may p.0 p.1) (make p.0 p.1)) (option_map (λ (d : Width). (a, d)) o)) (names-width_named types kept to b to_is)
    ∙ ap (λ c. checked c (make a b)) may_be ∙ ap Some (sym is)
