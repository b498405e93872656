use Rattle.std.proofs.Common.{ℕ, ◌<◌, [], ◌∷◌, refl, sym, subst, ap, ◌∙◌}
use Rattle.std.specs.FinMap.{get}
use Rattle.std.specs.Option.{unwrap_or}
use Rattle.felt64.specs.Field.{modulus}
use Rattle.type_trees.specs.Ty.{range_check, dict}
use Rattle.libfunc_registry.specs.Dictionaries.{dict_entry_get, felt}
use Rattle.type_trees.specs.declared.num.Num.TheVariants as nums
use Rattle.value_trees.specs.Meant.{meant}
use Rattle.value_trees.specs.Of.{AreWords}
use Rattle.value_trees.specs.Parts.{dict_of, number_of}
use Rattle.value_trees.specs.Val.{OpenMap}
use Rattle.value_trees.specs.Val as val
use Rattle.libfunc_meaning.specs.Mapped.{mapped_does}
use Rattle.libfunc_meaning.proofs.Shapes.{three_are, finish, known, same_known, behind_one, behind_two}
use Rattle.libfunc_meaning.proofs.dictionaries.entry_get.Goals as goal

pub take_last-requires : goal.take_last-requires
take_last-requires c =
    let s = three_are range_check (dict c.args.num) felt _ c.requires in
    (s.v ∷ s.u ∷ [], s.w, s.is)

pub unwrap-key-requires : goal.unwrap-key-requires
unwrap-key-requires c =
    let s = three_are range_check (dict c.args.num) felt _ c.requires in
    let t = c.take_last.ensures (s.v ∷ s.u ∷ []) s.w s.is in
    known c.as_number.result s.third.0 (c.as_number.ensures ∙ ap number_of (t.1 ∙ s.third.1))

pub take_last-requires-2 : goal.take_last-requires-2
take_last-requires-2 c =
    let s = three_are range_check (dict c.args.num) felt _ c.requires in
    let t = c.take_last.ensures (s.v ∷ s.u ∷ []) s.w s.is in
    (s.v ∷ [], s.u, t.0)

pub unwrap-dict-requires : goal.unwrap-dict-requires
unwrap-dict-requires c =
    let s = three_are range_check (dict c.args.num) felt _ c.requires in
    let t = c.take_last.ensures (s.v ∷ s.u ∷ []) s.w s.is in
    let r = c.take_last-2.ensures (s.v ∷ []) s.u t.0 in
    known c.into_dict.result s.second.0 (c.into_dict.ensures ∙ ap dict_of (r.1 ∙ s.second.1))

pub word_at-word-requires : goal.word_at-word-requires
word_at-word-requires c =
    let s = three_are range_check (dict c.args.num) felt _ c.requires in
    let t = c.take_last.ensures (s.v ∷ s.u ∷ []) s.w s.is in
    let r = c.take_last-2.ensures (s.v ∷ []) s.u t.0 in
    let same = same_known c.into_dict.result s.second.0 c.unwrap-dict.result (c.into_dict.ensures ∙ ap dict_of (r.1 ∙ s.second.1)) c.unwrap-dict.ensures in
    subst (AreWords c.args.num) (sym same) s.second.2

pub opened_at-requires : goal.opened_at-requires
opened_at-requires c =
    let s = three_are range_check (dict c.args.num) felt _ c.requires in
    let t = c.take_last.ensures (s.v ∷ s.u ∷ []) s.w s.is in
    let same = same_known c.as_number.result s.third.0 c.unwrap-key.result (c.as_number.ensures ∙ ap number_of (t.1 ∙ s.third.1)) c.unwrap-key.ensures in
    subst (λ (n : ℕ). n < modulus) (sym same) s.third.2

pub returns : goal.returns
returns c =
    let s = three_are range_check (dict c.args.num) felt _ c.requires in
    let t = c.take_last.ensures (s.v ∷ s.u ∷ []) s.w s.is in
    let r = c.take_last-2.ensures (s.v ∷ []) s.u t.0 in
    let same_m = same_known c.into_dict.result s.second.0 c.unwrap-dict.result (c.into_dict.ensures ∙ ap dict_of (r.1 ∙ s.second.1)) c.unwrap-dict.ensures in
    let same_k = same_known c.as_number.result s.third.0 c.unwrap-key.result (c.as_number.ensures ∙ ap number_of (t.1 ∙ s.third.1)) c.unwrap-key.ensures in
    let one = behind_one _ _ s.v _ c.in_ok-values.ensures r.0 in
    let two = behind_two _ _ s.v _ _ c.in_ok-behind.ensures one in
    let e : OpenMap = record { map = c.unwrap-dict.result; key = c.unwrap-key.result } in
    finish (mapped_does (dict_entry_get c.args.num)) _ (s.v ∷ val.dict c.unwrap-dict.result ∷ val.number nums.Felt64 c.unwrap-key.result ∷ []) 0
    (s.v ∷ val.dict_entry e ∷ val.number c.args.num (unwrap_or (get c.unwrap-dict.result c.unwrap-key.result) 0) ∷ []) _
    (s.is ∙ ap (λ u. s.v ∷ u ∷ s.w ∷ []) (s.second.1 ∙ ap (λ m. val.dict m) (sym same_m)) ∙ ap (λ w. s.v ∷ val.dict c.unwrap-dict.result ∷ w ∷ []) (s.third.1 ∙ ap (λ n. val.number nums.Felt64 n) (sym same_k)))
    refl
    (two ∙ ap (λ v. s.v ∷ v ∷ meant c.word_at-word.result ∷ []) c.opened_at.ensures ∙ ap (λ v. s.v ∷ val.dict_entry e ∷ v ∷ []) c.word_at-word.ensures)
