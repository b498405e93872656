use Rattle.std.proofs.Common.{ℕ, length, Result, Ok, Err, MatchResult, rules}
use Rattle.std.specs.Ordering.{nat_cmp}
use Rattle.std.specs.List.Sorted.{IsBinarySearchResult, IsSearchInRange}
use Rattle.std.proofs.lemmas.List.Sorted.{answers_always}
use Rattle.held_list.specs.Held.{Held, RisesFrom}
use Rattle.held_list.specs.Places.{IsAt, IsGap}
use Rattle.held_list.proofs.Placing.{at_found, gap_found, answers_rise}
use Rattle.held_list.proofs.held.place_of.Goals as goal

found : {A : Type 0} (held : Held A) (v : ℕ) (r : Result ℕ ℕ) → RisesFrom 0 held → IsSearchInRange r (length held) → IsBinarySearchResult (λ (x : ℕ × A). nat_cmp x.0 v) held r → MatchResult r (IsAt v held) (IsGap v held)
found held v (Ok at) rises bound is = at_found held 0 v at rises bound is
found held v (Err at) rises bound is = gap_found held v at bound (is (answers_rise held 0 v rises))

pub returns : goal.returns
returns g c = found c.args.pairs.now c.args.variable c.binary_search_by_key.result c.requires c.binary_search_by_key.ensures.bound (c.binary_search_by_key.ensures.position (λ x. x.0) (answers_always _ _ _ (λ f a r next called. search rules)))
