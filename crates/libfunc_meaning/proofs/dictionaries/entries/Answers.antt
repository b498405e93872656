use Rattle.std.proofs.Common.{[], ◌∷◌, map, refl, sym, subst, ap, ◌∙◌}
use Rattle.std.specs.FinMap.{entries}
use Rattle.type_trees.specs.Ty.{squashed_dict}
use Rattle.type_trees.specs.declared.num.Num.{Num}
use Rattle.libfunc_registry.specs.Dictionaries.{dict_entries}
use Rattle.value_trees.specs.Of.{AreWords}
use Rattle.value_trees.specs.Parts.{squashed_of}
use Rattle.value_trees.specs.Val.{Plain, WordMap, vals_of}
use Rattle.value_trees.specs.Val as val
use Rattle.libfunc_meaning.specs.Dictionaries.{entry_of}
use Rattle.libfunc_meaning.specs.Mapped.{mapped_does}
use Rattle.libfunc_meaning.proofs.Shapes.{one_is, finish, known, same_known}
use Rattle.libfunc_meaning.proofs.dictionaries.entries.Goals as goal

abbrev left : Num → WordMap → Plain
left k m = val.array (vals_of (map (entry_of k) (entries m)))

pub unwrap-words-requires : goal.unwrap-words-requires
unwrap-words-requires c =
    let s = one_is (squashed_dict c.args.num) _ c.requires in
    let t = c.take_last.ensures [] s.v s.is in
    known c.into_squashed.result s.typed.0 (c.into_squashed.ensures ∙ ap squashed_of (t.1 ∙ s.typed.1))

pub listed-requires : goal.listed-requires
listed-requires c =
    let s = one_is (squashed_dict c.args.num) _ c.requires in
    let t = c.take_last.ensures [] s.v s.is in
    let same = same_known c.into_squashed.result s.typed.0 c.unwrap-words.result (c.into_squashed.ensures ∙ ap squashed_of (t.1 ∙ s.typed.1)) c.unwrap-words.ensures in
    subst (AreWords c.args.num) (sym same) s.typed.2

pub returns : goal.returns
returns c =
    let s = one_is (squashed_dict c.args.num) _ c.requires in
    let t = c.take_last.ensures [] s.v s.is in
    let same = same_known c.into_squashed.result s.typed.0 c.unwrap-words.result (c.into_squashed.ensures ∙ ap squashed_of (t.1 ∙ s.typed.1)) c.unwrap-words.ensures in
    finish (mapped_does (dict_entries c.args.num)) _ (val.squashed_dict s.typed.0 ∷ []) 0 (left c.args.num s.typed.0 ∷ []) _ (s.is ∙ ap (λ v. v ∷ []) s.typed.1) refl
    (c.in_ok-behind.ensures ∙ ap (λ v. v ∷ []) (c.in_ok-made.ensures ∙ ap (left c.args.num) same))
