use Rattle.std.proofs.Common.{ℕ, List, [], ◌∷◌, map, refl, sym, ap, ◌∙◌}
use Rattle.type_trees.specs.Ty.{enum}
use Rattle.value_trees.specs.Meant.{meant}
use Rattle.value_trees.specs.Parts.{variant_of}
use Rattle.value_trees.specs.Val.{Plain}
use Rattle.value_trees.specs.Val as val
use Rattle.value_trees.specs.declared.value.Value.{Value}
use Rattle.libfunc_meaning.specs.Answers.{branch, of_one, with_variant}
use Rattle.libfunc_meaning.proofs.Shapes.{one_is, finish, mapped_known, mapped_same}
use Rattle.libfunc_meaning.proofs.data.matched.Goals as goal

pub unwrap-index-requires : goal.unwrap-index-requires
unwrap-index-requires c =
    let s = one_is (enum c.requires.0 c.requires.1) _ c.requires.2 in
    let t = c.take_last.ensures [] s.v s.is in
    let want : ℕ × Plain = (s.typed.0, s.typed.1) in
    let parts = λ (p : ℕ × Value). let q : ℕ × Plain = (p.0, meant p.1) in q in
    mapped_known parts c.into_variant.result want (c.into_variant.ensures ∙ ap variant_of (t.1 ∙ s.typed.2))

pub returns : goal.returns
returns c =
    let s = one_is (enum c.requires.0 c.requires.1) _ c.requires.2 in
    let t = c.take_last.ensures [] s.v s.is in
    let want : ℕ × Plain = (s.typed.0, s.typed.1) in
    let parts = λ (p : ℕ × Value). let q : ℕ × Plain = (p.0, meant p.1) in q in
    let same = mapped_same parts c.into_variant.result c.unwrap-index.result want (c.into_variant.ensures ∙ ap variant_of (t.1 ∙ s.typed.2)) c.unwrap-index.ensures in
    let shown : List Plain = map meant c.in_ok-behind.field-0.items in
    finish (λ vs. of_one vs (λ v. with_variant v (λ index payload. branch index (payload ∷ [])))) _ (val.enum s.typed.0 s.typed.1 ∷ []) s.typed.0 (s.typed.1 ∷ []) shown
    (s.is ∙ ap (λ v. v ∷ []) s.typed.2) refl (c.in_ok-behind.ensures ∙ ap (λ v. v ∷ []) (ap (λ (q : ℕ × Plain). q.1) same))
    ∙ ap (λ (k : ℕ). branch k shown) (sym (ap (λ (q : ℕ × Plain). q.0) same))
