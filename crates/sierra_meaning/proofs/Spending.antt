-- What a run of statements spends, by recursion on it; and that there is one from each good state, by recursion on a number above
-- the measure.
use Rattle.std.proofs.Common.{◌≡◌, ℕ, suc, ◌+◌, ◌*◌, ◌≤◌, List, Ok, sym, subst, ◌∙◌, arith}
use Rattle.std.specs.List.{sum_by, zip}
use Rattle.held_list.specs.Held.{Held, total, greatest}
use Rattle.held_list.specs.Editing.{add_all}
use Rattle.sierra_meaning.specs.Mean.{Mean, ends, goes_on, calls_and_goes_on, charged}
use Rattle.sierra_meaning.specs.Facts.{Running, funds, IsGood, ReturnsWell, GoesWell, CallsWell, Facts, Spent}
use Rattle.sierra_meaning.proofs.Amounts.{pays, falls, falls_behind}
use Rattle.sierra_meaning.proofs.HeldValues.{ok_same, add_all_total, add_all_greatest}

module _ {V : Type 0} (r : Running V) where
  -- good states

  pub good_next : (f s : ℕ) (env : Held V) (cost next : ℕ) (more : Held V) → IsGood r f s env → GoesWell r f s env cost next more → IsGood r f next more
  good_next f s env cost next more good well = record {
    inside = well.inside;
    typed = well.typed;
    small = let a = well.paid in let b = good.small in omega arith;
    short = let a = well.paid in let b = well.grown in let d = good.short in omega arith;
  }

  pub good_callee : (f s : ℕ) (env : Held V) (g : ℕ) (args rest : Held V) (names : List ℕ) (next : ℕ) → IsGood r f s env → CallsWell r f s env g args rest names next
      → IsGood r g (r.entry g) args
  good_callee f s env g args rest names next good well = record {
    inside = well.begins;
    typed = well.typed;
    small = let a = well.paid in let b = well.no_more_gas in let d = good.small in omega arith;
    short = let a = well.paid in let b = well.no_more_gas in let d = well.args_no_longer in let e = good.short in omega arith;
  }

  -- what is true behind a call
  pub record Behind (f s : ℕ) (env : Held V) (next : ℕ) (more : Held V) : Type 0 where
    pub typed : r.IsTyped f next more
    pub paid : 100 + funds r next more ≤ funds r s env
    pub short : 100 * greatest r.long more + funds r next more ≤ 100 * greatest r.long env + funds r s env

  pub behind : (f s : ℕ) (env : Held V) (g : ℕ) (args rest : Held V) (names : List ℕ) (next n charge : ℕ) (given : List V) (more : Held V)
      → CallsWell r f s env g args rest names next → Spent r g n (r.entry g) args given charge → add_all (zip names given) rest ≡ Ok more → Behind f s env next more
  behind f s env g args rest names next n charge given more well spent added =
      let goes_on = well.goes_on given spent.typed in
      let same : goes_on.0 ≡ more = ok_same goes_on.0 more (sym goes_on.1 ∙ added) in
      let gas = add_all_total r.gas names given rest more added in
      let long = add_all_greatest r.long names given rest more added in
      let paid = well.paid in
      let no_more = well.no_more_gas in
      let a = well.args_no_longer in
      let b = well.rest_no_longer in
      let callee_paid = spent.paid in
      let callee_small = spent.small in
      record {
        typed = subst (r.IsTyped f next) same goes_on.2;
        paid = omega arith;
        short = omega arith;
      }

  pub good_behind : (f s : ℕ) (env : Held V) (g : ℕ) (args rest : Held V) (names : List ℕ) (next : ℕ) (more : Held V) → IsGood r f s env
      → CallsWell r f s env g args rest names next → Behind f s env next more → IsGood r f next more
  good_behind f s env g args rest names next more good well after = record {
    inside = well.inside;
    typed = after.typed;
    small = let a = after.paid in let b = good.small in omega arith;
    short = let a = after.short in let b = good.short in omega arith;
  }

  -- what is spent

  spent_end : (f s : ℕ) (env : Held V) (results : List V) (n : ℕ) → IsGood r f s env → ReturnsWell r f s env results → n ≡ 1 → Spent r f n s env results 100
  spent_end f s env results n good well is =
      let paid = well.paid in
      let no_more = well.no_more_gas in
      let long = well.no_longer in
      let times = pays (r.size + 1) r.size (sum_by r.gas results) (funds r s env) (omega arith) (omega arith) in
      record { typed = well.typed; paid = omega arith; small = omega arith; light = omega arith }

  spent_next : (f s : ℕ) (env : Held V) (results : List V) (n m cost next : ℕ) (more : Held V) (charge : ℕ) → IsGood r f s env → GoesWell r f s env cost next more
      → Spent r f m next more results charge → n ≡ suc m → Spent r f n s env results (cost + charge)
  spent_next f s env results n m cost next more charge good well later is =
      let paid = well.paid in
      let grown = well.grown in
      let later_paid = later.paid in
      let later_small = later.small in
      let later_light = later.light in
      let lower = falls r.size (funds r next more) (funds r s env) cost s next good.inside well.inside well.paid well.free in
      record { typed = later.typed; paid = omega arith; small = omega arith; light = omega arith }

  spent_call : (f s : ℕ) (env : Held V) (results : List V) (g : ℕ) (args rest : Held V) (names : List ℕ) (n a b next : ℕ) (given : List V) (more : Held V) (one other : ℕ)
      → CallsWell r f s env g args rest names next → Spent r g a (r.entry g) args given one → add_all (zip names given) rest ≡ Ok more → Spent r f b next more results other
      → n ≡ suc (a + b) → Spent r f n s env results (100 + (one + other))
  spent_call f s env results g args rest names n a b next given more one other well callee added later is =
      let gas = add_all_total r.gas names given rest more added in
      let paid = well.paid in
      let no_more = well.no_more_gas in
      let after = behind f s env g args rest names next a one given more well callee added in
      let after_short = after.short in
      let callee_paid = callee.paid in
      let callee_light = callee.light in
      let later_paid = later.paid in
      let later_small = later.small in
      let later_light = later.light in
      let lower = falls_behind r.size a (sum_by r.gas given) (funds r (r.entry g) args) (total r.gas rest + r.worth next) (funds r next more) (funds r s env) s (r.entry g) next well.inside
      (omega arith) (omega arith) callee.light in
      record { typed = later.typed; paid = omega arith; small = omega arith; light = omega arith }

  pub spent : Facts r → (f n s : ℕ) (env : Held V) (results : List V) (run : Mean r.Acts r.entry n s env results) → IsGood r f s env
      → Spent r f n s env results (charged n s env results run)
  spent facts f n s env results (ends _ _ _ _ acts is) good = spent_end f s env results n good (facts.on_return f s env results good acts) is
  spent facts f n s env results (goes_on _ _ _ _ m cost next more acts later is) good =
      let well = facts.on_goes f s env cost next more good acts in
      spent_next f s env results n m cost next more (charged m next more results later) good well
      (spent facts f m next more results later (good_next f s env cost next more good well)) is
  spent facts f n s env results (calls_and_goes_on _ _ _ _ g args rest names a b next given more acts callee added later is) good =
      let well = facts.on_call f s env g args rest names next good acts in
      let one = spent facts g a (r.entry g) args given callee (good_callee f s env g args rest names next good well) in
      let after = behind f s env g args rest names next a (charged a (r.entry g) args given callee) given more well one added in
      let other = spent facts f b next more results later (good_behind f s env g args rest names next more good well after) in
      spent_call f s env results g args rest names n a b next given more (charged a (r.entry g) args given callee) (charged b next more results later) well one added other is
