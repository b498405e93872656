-- From each good state there is a run that ends, by recursion on a number above the measure; and where a statement has one action
-- there is only one run.
use Rattle.std.proofs.Common.{◌≡◌, inr, ℕ, zero, suc, ◌+◌, ◌<◌, ◌≤◌, List, Ok, refl, sym, ap, subst, ◌∙◌, arith}
use Rattle.std.specs.List.{sum_by, zip}
use Rattle.held_list.specs.Held.{Held, total}
use Rattle.held_list.specs.Editing.{add_all}
use Rattle.sierra_meaning.specs.Mean.{Action, returns, goes, calls, Mean, ends, goes_on, calls_and_goes_on, charged}
use Rattle.sierra_meaning.specs.Facts.{Running, funds, measure, IsGood, CallsWell, Facts, Moves, ActsOnce, Spent}
use Rattle.sierra_meaning.proofs.Amounts.{falls, falls_behind}
use Rattle.sierra_meaning.proofs.HeldValues.{ok_same, add_all_total}
use Rattle.sierra_meaning.proofs.Spending.{behind, good_next, good_callee, good_behind, spent}

module _ {V : Type 0} (r : Running V) where
  -- there is a run

  -- some number of statements, and results
  abbrev pub Ends : ℕ → Held V → Type 0
  Ends s env = (n : ℕ) × (results : List V) × Mean r.Acts r.entry n s env results

  ends_by_call : (s : ℕ) (env : Held V) (g : ℕ) (args rest : Held V) (names : List ℕ) (next a b : ℕ) (given : List V) (more : Held V) (results : List V)
      → r.Acts s env (calls g args rest names next) → Mean r.Acts r.entry a (r.entry g) args given → add_all (zip names given) rest ≡ Ok more
      → Mean r.Acts r.entry b next more results → Ends s env
  ends_by_call s env g args rest names next a b given more results acts callee added later =
      (suc (a + b), results, calls_and_goes_on (suc (a + b)) s env results g args rest names a b next given more acts callee added later refl)

  -- behind a call the measure is lower
  lower_behind : (f s : ℕ) (env : Held V) (g : ℕ) (args rest : Held V) (names : List ℕ) (next n charge : ℕ) (given : List V) (more : Held V)
      → CallsWell r f s env g args rest names next → Spent r g n (r.entry g) args given charge → add_all (zip names given) rest ≡ Ok more → measure r next more < measure r s env
  lower_behind f s env g args rest names next n charge given more well spent added =
      let gas = add_all_total r.gas names given rest more added in
      let paid = well.paid in
      let no_more = well.no_more_gas in
      let lower = falls_behind r.size n (sum_by r.gas given) (funds r (r.entry g) args) (total r.gas rest + r.worth next) (funds r next more) (funds r s env) s (r.entry g) next well.inside
      (omega arith) (omega arith) spent.light in
      omega arith

  -- in a call it is lower too
  lower_in_call : (f s : ℕ) (env : Held V) (g : ℕ) (args rest : Held V) (names : List ℕ) (next : ℕ) → IsGood r f s env → CallsWell r f s env g args rest names next
      → measure r (r.entry g) args < measure r s env
  lower_in_call f s env g args rest names next good well =
      let paid = well.paid in
      let no_more = well.no_more_gas in
      falls r.size (funds r (r.entry g) args) (funds r s env) 100 s (r.entry g) good.inside well.begins (omega arith) (inr (omega arith))

  pub all_end : Facts r → Moves r → (m f s : ℕ) (env : Held V) → IsGood r f s env → measure r s env < m → Ends s env
  all_end facts moves zero f s env good within = absurd (omega arith)
  all_end facts moves (suc m) f s env good within =
      let move = moves f s env good in
      by_action move.0 move.1 (all_end facts moves m)
    where
      by_action : (action : Action V) → r.Acts s env action → ((f s : ℕ) (env : Held V) → IsGood r f s env → measure r s env < m → Ends s env) → Ends s env
      by_action (returns results) acts on = (1, results, ends 1 s env results acts refl)
      by_action (goes cost next more) acts on =
          let well = facts.on_goes f s env cost next more good acts in
          let lower = falls r.size (funds r next more) (funds r s env) cost s next good.inside well.inside well.paid well.free in
          let later = on f next more (good_next r f s env cost next more good well) (omega arith) in
          (suc later.0, later.1, goes_on (suc later.0) s env later.1 later.0 cost next more acts later.2 refl)
      by_action (calls g args rest names next) acts on =
          let well = facts.on_call f s env g args rest names next good acts in
          let good_there = good_callee r f s env g args rest names next good well in
          let first = lower_in_call f s env g args rest names next good well in
          let callee = on g (r.entry g) args good_there (omega arith) in
          let charge = charged callee.0 (r.entry g) args callee.1 callee.2 in
          let pays = spent r facts g callee.0 (r.entry g) args callee.1 callee.2 good_there in
          let bound = well.goes_on callee.1 pays.typed in
          let after = behind r f s env g args rest names next callee.0 charge callee.1 bound.0 well pays bound.1 in
          let second = lower_behind f s env g args rest names next callee.0 charge callee.1 bound.0 well pays bound.1 in
          let later = on f next bound.0 (good_behind r f s env g args rest names next bound.0 good well after) (omega arith) in
          ends_by_call s env g args rest names next callee.0 later.0 callee.1 bound.0 later.1 acts callee.2 bound.1 later.2

  -- the number of statements is at most the measure
  pub within_measure : Facts r → (f n s : ℕ) (env : Held V) (results : List V) → Mean r.Acts r.entry n s env results → IsGood r f s env → n ≤ measure r s env
  within_measure facts f n s env results run good = let light = (spent r facts f n s env results run good).light in omega arith

  -- there is one run

  -- how a run goes on by this action
  abbrev By : Action V → ℕ → List V → Type 0
  By (returns results) n other = (n ≡ 1) × (other ≡ results)
  By (goes cost next more) n other = (m : ℕ) × Mean r.Acts r.entry m next more other × (n ≡ suc m)
  By (calls g args rest names next) n other =
      (a : ℕ) × (b : ℕ) × (given : List V) × (more : Held V) × Mean r.Acts r.entry a (r.entry g) args given × (add_all (zip names given) rest ≡ Ok more)
      × Mean r.Acts r.entry b next more other × (n ≡ suc (a + b))

  by_action : ActsOnce r → (n s : ℕ) (env : Held V) (other : List V) (action : Action V) → r.Acts s env action → Mean r.Acts r.entry n s env other → By action n other
  by_action once n s env other action acts (ends _ _ _ _ acts' is) = subst (λ x. By x n other) (once s env (returns other) action acts' acts) (is, refl)
  by_action once n s env other action acts (goes_on _ _ _ _ m cost next more acts' later is) =
      subst (λ x. By x n other) (once s env (goes cost next more) action acts' acts) (m, later, is)
  by_action once n s env other action acts (calls_and_goes_on _ _ _ _ g args rest names a b next given more acts' callee added later is) =
      subst (λ x. By x n other) (once s env (calls g args rest names next) action acts' acts) (a, b, given, more, callee, added, later, is)

  pub mean_once : ActsOnce r → (n m s : ℕ) (env : Held V) (one other : List V) → Mean r.Acts r.entry n s env one → Mean r.Acts r.entry m s env other → (n ≡ m) × (one ≡ other)
  mean_once once n m s env one other (ends _ _ _ _ acts is) run =
      let found = by_action once m s env other (returns one) acts run in
      (is ∙ sym found.0, sym found.1)
  mean_once once n m s env one other (goes_on _ _ _ _ k cost next more acts later is) run =
      let found = by_action once m s env other (goes cost next more) acts run in
      let same = mean_once once k found.0 next more one other later found.1 in
      (is ∙ ap (λ j. suc j) same.0 ∙ sym found.2, same.1)
  mean_once once n m s env one other (calls_and_goes_on _ _ _ _ g args rest names a b next given more acts callee added later is) run =
      let found = by_action once m s env other (calls g args rest names next) acts run in
      let first = mean_once once a found.0 (r.entry g) args given found.2 callee found.4 in
      let bound : more ≡ found.3 = ok_same more found.3 (sym added ∙ ap (λ vs. add_all (zip names vs) rest) first.1 ∙ found.5) in
      let second = mean_once once b found.1 next more one other later (subst (λ env. Mean r.Acts r.entry found.1 next env other) (sym bound) found.6) in
      (omega (arith, is, found.7, first.0, second.0), second.1)
