use Rattle.std.proofs.Common.{◌≡◌, ℕ, List, [], ◌∷◌, ◌++◌, map, take, sym, ap, ◌∙◌}
use Rattle.std.proofs.lemmas.List.{map-append, take-map}
use Rattle.value_trees.specs.Meant.{meant}
use Rattle.value_trees.specs.declared.value.Value.{Value}
use Rattle.libfunc_meaning.proofs.taking.behind.Goals as goal

pushed : (xs ys zs : List Value) (kept : ℕ) (v : Value) → ys ≡ take kept xs → zs ≡ ys ++ v ∷ [] → map meant zs ≡ take kept (map meant xs) ++ meant v ∷ []
pushed xs ys zs kept v taken pushed_on =
    ap (map meant) (pushed_on ∙ ap (λ us. us ++ v ∷ []) taken) ∙ map-append meant (take kept xs) (v ∷ [])
    ∙ ap (λ (us : List _). us ++ meant v ∷ []) (sym (take-map meant kept xs))

pub returns : goal.returns
returns c = pushed _ _ _ c.args.kept c.args.last c.truncate.ensures.items c.in_ok-push.ensures.items
