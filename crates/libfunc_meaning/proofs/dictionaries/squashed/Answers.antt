use Rattle.std.proofs.Common.{[], ◌∷◌, refl, ap, ◌∙◌}
use Rattle.type_trees.specs.Ty.{range_check, dict}
use Rattle.libfunc_registry.specs.Dictionaries.{dict_squash}
use Rattle.value_trees.specs.Parts.{dict_of}
use Rattle.value_trees.specs.Val as val
use Rattle.value_trees.proofs.Variants.{meant_squashed}
use Rattle.libfunc_meaning.specs.Mapped.{mapped_does}
use Rattle.libfunc_meaning.proofs.Shapes.{two_are, finish, known, same_known, behind_one}
use Rattle.libfunc_meaning.proofs.dictionaries.squashed.Goals as goal

pub take_last-requires : goal.take_last-requires
take_last-requires c =
    let s = two_are range_check (dict c.args.num) _ c.requires in
    (s.v ∷ [], s.u, s.is)

pub unwrap-dict-requires : goal.unwrap-dict-requires
unwrap-dict-requires c =
    let s = two_are range_check (dict c.args.num) _ c.requires in
    let t = c.take_last.ensures (s.v ∷ []) s.u s.is in
    known c.into_dict.result s.second.0 (c.into_dict.ensures ∙ ap dict_of (t.1 ∙ s.second.1))

pub returns : goal.returns
returns c =
    let s = two_are range_check (dict c.args.num) _ c.requires in
    let t = c.take_last.ensures (s.v ∷ []) s.u s.is in
    let same = same_known c.into_dict.result s.second.0 c.unwrap-dict.result (c.into_dict.ensures ∙ ap dict_of (t.1 ∙ s.second.1)) c.unwrap-dict.ensures in
    finish (mapped_does (dict_squash c.args.num)) _ (s.v ∷ val.dict s.second.0 ∷ []) 0 (s.v ∷ val.squashed_dict s.second.0 ∷ []) _ (s.is ∙ ap (λ u. s.v ∷ u ∷ []) s.second.1) refl
    (behind_one _ _ s.v _ c.in_ok-behind.ensures t.0 ∙ ap (λ w. s.v ∷ w ∷ []) (meant_squashed c.unwrap-dict.result ∙ ap (λ w. val.squashed_dict w) same))
