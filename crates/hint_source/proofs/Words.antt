-- The entries of an ordered map as a finite map of taught words.
use Rattle.std.proofs.Common.{◌≡◌, ℕ, cond, List, [], ◌∷◌, Option, Some, None, is_some, false, refl, sym, ap, ◌∙◌}
use Rattle.std.proofs.lemmas.Bool.{true≢false}
use Rattle.std.specs.Option.{option_or}
use Rattle.std.specs.Ordering.{nat_cmp, eq_by_cmp}
use Rattle.std.specs.Cmp.{nat_cmp_total, eq_by_cmp_equiv}
use Rattle.std.specs.Map.{lookup}
use Rattle.std.specs.BTreeMap.{is_at}
use Rattle.std.specs.FinMap.{get, insert, find, from_entries, get-insert, get-from_entries, same_map, nat_cmp-IsAntisymmetric}
use Rattle.hint_source.specs.declared.source.Query.{Query}
use Rattle.hint_source.specs.View.{Taught, answer_of}
use Rattle.hint_source.specs.Remembered.{overlay_view}

find-lookup : (es : List (ℕ × ℕ)) (q : ℕ) → find nat_cmp q es ≡ lookup (is_at (nat_cmp q)) es
find-lookup [] q = refl
find-lookup (e ∷ es) q = ap (cond (eq_by_cmp nat_cmp q e.0) (Some e.1)) (find-lookup es q)

-- an overlay answers what it was taught, and nothing else
pub answer_of-overlay : (words : Taught) (q : Query) → answer_of (overlay_view words) q ≡ get words q.number
answer_of-overlay words q = elim (get words q.number) as (λ o. option_or o None ≡ o) [ None ↦ refl | Some w ↦ refl ]

pub none_from_false : (o : Option ℕ) → is_some o ≡ false → o ≡ None
none_from_false None is = refl
none_from_false (Some n) is = absurd (true≢false is)

-- a look-up in the ordered map is one in the finite map
pub get-words : (es : List (ℕ × ℕ)) (q : ℕ) → get (from_entries {R = nat_cmp} es) q ≡ lookup (is_at (nat_cmp q)) es
get-words es q = get-from_entries nat_cmp_total es q ∙ find-lookup es q

-- an insertion into the ordered map is one into the finite map
pub from_entries-insert : (old new : List (ℕ × ℕ)) (k v : ℕ)
    → ((q : ℕ) → lookup (is_at (nat_cmp q)) new ≡ cond (is_at (nat_cmp k) q) (Some v) (lookup (is_at (nat_cmp q)) old))
    → from_entries {R = nat_cmp} new ≡ insert (from_entries {R = nat_cmp} old) k v
from_entries-insert old new k v updates = same_map nat_cmp_total nat_cmp-IsAntisymmetric _ _ (λ q.
    get-words new q
    ∙ updates q
    ∙ ap (λ b. cond b (Some v) (lookup (is_at (nat_cmp q)) old)) ((eq_by_cmp_equiv nat_cmp_total).symm k q)
    ∙ ap (cond (eq_by_cmp nat_cmp q k) (Some v)) (sym (get-words old q))
    ∙ sym (get-insert nat_cmp_total (from_entries old) k v q))
