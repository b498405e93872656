use Rattle.std.proofs.Common.{[], ◌∷◌, refl, ap, ◌∙◌}
use Rattle.std.specs.FinMap.{insert}
use Rattle.type_trees.specs.Ty.{dict_entry, number}
use Rattle.libfunc_registry.specs.Dictionaries.{dict_entry_finalize}
use Rattle.value_trees.specs.Meant.{opened}
use Rattle.value_trees.specs.Parts.{entry_of, number_of}
use Rattle.value_trees.specs.Val as val
use Rattle.value_trees.proofs.Variants.{meant_dict}
use Rattle.libfunc_meaning.specs.Mapped.{mapped_does}
use Rattle.libfunc_meaning.proofs.Shapes.{two_are, finish, known, same_known, mapped_known, mapped_same}
use Rattle.libfunc_meaning.proofs.dictionaries.entry_finalize.Goals as goal

pub take_last-requires : goal.take_last-requires
take_last-requires c =
    let s = two_are (dict_entry c.args.num) (number c.args.num) _ c.requires in
    (s.v ∷ [], s.u, s.is)

pub unwrap-word-requires : goal.unwrap-word-requires
unwrap-word-requires c =
    let s = two_are (dict_entry c.args.num) (number c.args.num) _ c.requires in
    let t = c.take_last.ensures (s.v ∷ []) s.u s.is in
    known c.as_number.result s.second.0 (c.as_number.ensures ∙ ap number_of (t.1 ∙ s.second.1))

pub take_last-requires-2 : goal.take_last-requires-2
take_last-requires-2 c =
    let s = two_are (dict_entry c.args.num) (number c.args.num) _ c.requires in
    let t = c.take_last.ensures (s.v ∷ []) s.u s.is in
    ([], s.v, t.0)

pub unwrap-dict-requires : goal.unwrap-dict-requires
unwrap-dict-requires c =
    let s = two_are (dict_entry c.args.num) (number c.args.num) _ c.requires in
    let t = c.take_last.ensures (s.v ∷ []) s.u s.is in
    let r = c.take_last-2.ensures [] s.v t.0 in
    mapped_known opened c.into_entry.result s.first.0 (c.into_entry.ensures ∙ ap entry_of (r.1 ∙ s.first.1))

pub returns : goal.returns
returns c =
    let s = two_are (dict_entry c.args.num) (number c.args.num) _ c.requires in
    let t = c.take_last.ensures (s.v ∷ []) s.u s.is in
    let r = c.take_last-2.ensures [] s.v t.0 in
    let same_word = same_known c.as_number.result s.second.0 c.unwrap-word.result (c.as_number.ensures ∙ ap number_of (t.1 ∙ s.second.1)) c.unwrap-word.ensures in
    let same_entry = mapped_same opened c.into_entry.result c.unwrap-dict.result s.first.0 (c.into_entry.ensures ∙ ap entry_of (r.1 ∙ s.first.1)) c.unwrap-dict.ensures in
    finish (mapped_does (dict_entry_finalize c.args.num)) _ (val.dict_entry s.first.0 ∷ val.number c.args.num s.second.0 ∷ []) 0
    (val.dict (insert s.first.0.map s.first.0.key s.second.0) ∷ []) _
    (s.is ∙ ap (λ v. v ∷ s.u ∷ []) s.first.1 ∙ ap (λ u. val.dict_entry s.first.0 ∷ u ∷ []) s.second.1) refl
    (c.in_ok-behind.ensures ∙ ap (λ v. v ∷ []) (meant_dict c.insert.new.self ∙ ap (λ m. val.dict m)
    (c.in_ok-insert.ensures.ok ∙ ap (λ e. insert e.map c.value.result c.unwrap-word.result) same_entry
    ∙ ap (λ k. insert s.first.0.map k c.unwrap-word.result) (c.value.ensures.value ∙ ap (λ e. e.key) same_entry)
    ∙ ap (λ w. insert s.first.0.map s.first.0.key w) same_word)))
