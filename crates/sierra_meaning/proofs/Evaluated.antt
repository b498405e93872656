-- Each statement of a run with its callers in a list goes on as it should: what comes after it is what came after before, what is
-- kept true stays true, and the measure falls.
use Rattle.std.proofs.Common.{◌≡◌, ℕ, suc, ◌+◌, ◌<◌, List, [], ◌∷◌, Ok, refl, subst, arith}
use Rattle.std.specs.List.{sum_by, zip}
use Rattle.held_list.specs.Held.{Held, total}
use Rattle.held_list.specs.Editing.{add_all}
use Rattle.sierra_meaning.specs.Evaluating.{Caller, EndsWith, After, measure_all, IsStacked, IsTurn}
use Rattle.sierra_meaning.specs.Facts.{Running, funds, IsGood, ReturnsWell, GoesWell, CallsWell, Facts}
use Rattle.sierra_meaning.specs.Mean.{returns, goes, calls, ends, goes_on, calls_and_goes_on}
use Rattle.sierra_meaning.proofs.Amounts.{falls, call_falls, return_falls}
use Rattle.sierra_meaning.proofs.HeldValues.{add_all_total, add_all_greatest}

module _ {V : Type 0} (r : Running V) where
  -- what comes after

  pub begun : (s : ℕ) (env : Held V) (results : List V) → After r s env [] results → EndsWith r s env results
  begun s env results (given, gives, same) = subst (EndsWith r s env) same gives

  pub after_goes : (s : ℕ) (env : Held V) (cost next : ℕ) (more : Held V) (callers : List (Caller V)) (results : List V) → r.Acts s env (goes cost next more) → After r next more callers results → After r s env callers results
  after_goes s env cost next more callers results acts (given, (n, run), back) = (given, (suc n, goes_on (suc n) s env given n cost next more acts run refl), back)

  pub after_call : (s : ℕ) (env : Held V) (g : ℕ) (args rest : Held V) (names : List ℕ) (next : ℕ) (callers : List (Caller V)) (results : List V) → r.Acts s env (calls g args rest names next)
      → After r (r.entry g) args (record { rest = rest; names = names; next = next } ∷ callers) results → After r s env callers results
  after_call s env g args rest names next callers results acts (given, (a, run), (more, ys, added, (b, later), back)) =
      (ys, (suc (a + b), calls_and_goes_on (suc (a + b)) s env ys g args rest names a b next given more acts run added later refl), back)

  pub after_return : (s : ℕ) (env : Held V) (given : List V) (c : Caller V) (more : Held V) (callers : List (Caller V)) (results : List V) → r.Acts s env (returns given) → add_all (zip c.names given) c.rest ≡ Ok more
      → After r c.next more callers results → After r s env (c ∷ callers) results
  after_return s env given c more callers results acts added (ys, gives, back) = (given, (1, ends 1 s env given acts refl), (more, ys, added, gives, back))

  pub after_end : (s : ℕ) (env : Held V) (results : List V) → r.Acts s env (returns results) → After r s env [] results
  after_end s env results acts = (results, (1, ends 1 s env results acts refl), refl)

  -- what is kept

  pub good_here : (first f s : ℕ) (env : Held V) (callers : List (Caller V)) → IsStacked r first f s env callers → IsGood r f s env
  good_here first f s env callers stacked = record {
    inside = stacked.inside;
    typed = stacked.typed;
    small = let a = stacked.small in omega arith;
    short = let a = stacked.short in omega arith;
  }

  pub stacked_goes : (first f s : ℕ) (env : Held V) (callers : List (Caller V)) (cost next : ℕ) (more : Held V) → IsStacked r first f s env callers → GoesWell r f s env cost next more → IsStacked r first f next more callers
  stacked_goes first f s env callers cost next more stacked well = record {
    inside = well.inside;
    typed = well.typed;
    callers_wait = stacked.callers_wait;
    small = let a = well.paid in let b = stacked.small in omega arith;
    short = let a = well.paid in let b = well.grown in let d = stacked.short in omega arith;
  }

  pub stacked_call : (first f s : ℕ) (env : Held V) (callers : List (Caller V)) (g : ℕ) (args rest : Held V) (names : List ℕ) (next : ℕ) → IsStacked r first f s env callers → CallsWell r f s env g args rest names next
      → IsStacked r first g (r.entry g) args (record { rest = rest; names = names; next = next } ∷ callers)
  stacked_call first f s env callers g args rest names next stacked well = record {
    inside = well.begins;
    typed = well.typed;
    callers_wait = (f, well.inside, well.goes_on, stacked.callers_wait);
    small = let a = well.paid in let b = well.no_more_gas in let d = stacked.small in omega arith;
    short = let a = well.paid in let b = well.no_more_gas in let d = stacked.short in let e = well.args_no_longer in let f = well.rest_no_longer in omega arith;
  }

  -- the caller goes on with these values
  pub record GoesBack (first : ℕ) (given : List V) (c : Caller V) (callers : List (Caller V)) : Type 0 where
    pub f : ℕ
    pub more : Held V
    pub added : add_all (zip c.names given) c.rest ≡ Ok more
    pub stacked : IsStacked r first f c.next more callers

  pub goes_back : (first f s : ℕ) (env : Held V) (given : List V) (c : Caller V) (callers : List (Caller V)) → IsStacked r first f s env (c ∷ callers) → ReturnsWell r f s env given → GoesBack first given c callers
  goes_back first f s env given c callers stacked well =
      let wait = stacked.callers_wait in
      let bound = wait.2 given well.typed in
      let gas = add_all_total r.gas c.names given c.rest bound.0 bound.1 in
      let long = add_all_greatest r.long c.names given c.rest bound.0 bound.1 in
      let a = well.no_more_gas in
      let b = well.no_longer in
      let d = stacked.small in
      let e = stacked.short in
      record {
        f = wait.0;
        more = bound.0;
        added = bound.1;
        stacked = record { inside = wait.1; typed = bound.2; callers_wait = wait.3; small = omega arith; short = omega arith };
      }

  -- the measure falls

  pub falls_goes : (f s : ℕ) (env : Held V) (callers : List (Caller V)) (cost next : ℕ) (more : Held V) → IsGood r f s env → GoesWell r f s env cost next more → measure_all r next more callers < measure_all r s env callers
  falls_goes f s env callers cost next more good well =
      let lower = falls r.size (funds r next more) (funds r s env) cost s next good.inside well.inside well.paid well.free in
      omega arith

  pub falls_call : (f s : ℕ) (env : Held V) (callers : List (Caller V)) (g : ℕ) (args rest : Held V) (names : List ℕ) (next : ℕ) → CallsWell r f s env g args rest names next
      → measure_all r (r.entry g) args (record { rest = rest; names = names; next = next } ∷ callers) < measure_all r s env callers
  falls_call f s env callers g args rest names next well =
      let a = well.paid in
      let b = well.no_more_gas in
      let lower = call_falls r.size (funds r (r.entry g) args) (total r.gas rest + r.worth next) (funds r s env) s (r.entry g) next (omega arith) in
      omega arith

  pub falls_return : (f s : ℕ) (env : Held V) (given : List V) (c : Caller V) (more : Held V) (callers : List (Caller V)) → ReturnsWell r f s env given → add_all (zip c.names given) c.rest ≡ Ok more
      → measure_all r c.next more callers < measure_all r s env (c ∷ callers)
  falls_return f s env given c more callers well added =
      let gas = add_all_total r.gas c.names given c.rest more added in
      let a = well.no_more_gas in
      let b = well.paid in
      let lower = return_falls r.size (funds r c.next more) (sum_by r.gas given) (total r.gas c.rest + r.worth c.next) (funds r s env) s c.next (omega arith) (omega arith) in
      omega arith

  -- the turns

  pub turn_goes : Facts r → (first f s : ℕ) (env : Held V) (callers : List (Caller V)) (cost next : ℕ) (more : Held V) → IsStacked r first f s env callers → r.Acts s env (goes cost next more)
      → IsStacked r first f next more callers × IsTurn r s env callers next more callers
  turn_goes facts first f s env callers cost next more stacked acts =
      let good = good_here first f s env callers stacked in
      let well = facts.on_goes f s env cost next more good acts in (
        stacked_goes first f s env callers cost next more stacked well,
        record {
          after = λ results. after_goes s env cost next more callers results acts;
          lower = falls_goes f s env callers cost next more good well;
        },
      )

  pub turn_call : Facts r → (first f s : ℕ) (env : Held V) (callers : List (Caller V)) (g : ℕ) (args rest : Held V) (names : List ℕ) (next : ℕ) → IsStacked r first f s env callers → r.Acts s env (calls g args rest names next)
      → IsStacked r first g (r.entry g) args (record { rest = rest; names = names; next = next } ∷ callers)
      × IsTurn r s env callers (r.entry g) args (record { rest = rest; names = names; next = next } ∷ callers)
  turn_call facts first f s env callers g args rest names next stacked acts =
      let well = facts.on_call f s env g args rest names next (good_here first f s env callers stacked) acts in (
        stacked_call first f s env callers g args rest names next stacked well,
        record {
          after = λ results. after_call s env g args rest names next callers results acts;
          lower = falls_call f s env callers g args rest names next well;
        },
      )

  -- a return to a caller, whose function is one that is found
  pub record IsReturn (first s : ℕ) (env : Held V) (given : List V) (c : Caller V) (callers : List (Caller V)) : Type 0 where
    pub f : ℕ
    pub more : Held V
    pub added : add_all (zip c.names given) c.rest ≡ Ok more
    pub stacked : IsStacked r first f c.next more callers
    pub turn : IsTurn r s env (c ∷ callers) c.next more callers

  pub turn_return : Facts r → (first f s : ℕ) (env : Held V) (given : List V) (c : Caller V) (callers : List (Caller V)) → IsStacked r first f s env (c ∷ callers) → r.Acts s env (returns given) → IsReturn first s env given c callers
  turn_return facts first f s env given c callers stacked acts =
      let well = facts.on_return f s env given (good_here first f s env (c ∷ callers) stacked) acts in
      let back = goes_back first f s env given c callers stacked well in
      record {
        f = back.f;
        more = back.more;
        added = back.added;
        stacked = back.stacked;
        turn = record {
          after = λ results. after_return s env given c back.more callers results acts back.added;
          lower = falls_return f s env given c back.more callers well back.added;
        };
      }

  -- it begins without callers
  pub stacked_first : (f s : ℕ) (env : Held V) → IsGood r f s env → IsStacked r f f s env []
  stacked_first f s env good = record {
    inside = good.inside;
    typed = good.typed;
    callers_wait = refl;
    small = let a = good.small in omega arith;
    short = let a = good.short in omega arith;
  }
