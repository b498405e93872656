use Rattle.std.proofs.Common.{[], ◌∷◌, map, refl, ap, ◌∙◌}
use Rattle.type_trees.specs.Ty.{struct}
use Rattle.value_trees.specs.Meant.{meant}
use Rattle.value_trees.specs.Parts.{members_of}
use Rattle.value_trees.specs.Val.{Plain, vals_of, list_of}
use Rattle.value_trees.specs.Val as val
use Rattle.libfunc_meaning.specs.Answers.{gives, of_one, with_members}
use Rattle.libfunc_meaning.proofs.Shapes.{one_is, finish, mapped_known, mapped_same}
use Rattle.libfunc_meaning.proofs.data.deconstructed.Goals as goal

pub unwrap-requires : goal.unwrap-requires
unwrap-requires c =
    let s = one_is (struct c.requires.0 c.requires.1) _ c.requires.2 in
    let t = c.take_last.ensures [] s.v s.is in
    mapped_known (λ vs. map meant vs.items) c.into_members.result (list_of (vals_of s.typed.0)) (c.into_members.ensures ∙ ap members_of (t.1 ∙ s.typed.1))

pub returns : goal.returns
returns c =
    let s = one_is (struct c.requires.0 c.requires.1) _ c.requires.2 in
    let t = c.take_last.ensures [] s.v s.is in
    let members = mapped_same (λ vs. map meant vs.items) c.into_members.result c.unwrap.result (list_of (vals_of s.typed.0)) (c.into_members.ensures ∙ ap members_of (t.1 ∙ s.typed.1)) c.unwrap.ensures in
    finish (λ vs. of_one vs (λ v. with_members v (λ ws. gives ws))) _ (val.struct (vals_of s.typed.0) ∷ []) 0 (list_of (vals_of s.typed.0)) _ (s.is ∙ ap (λ v. v ∷ []) s.typed.1) refl members
