use Rattle.std.proofs.Common.{◌≡◌, ℕ, ◌<◌, ◌+◌, ◌-◌, length, drop, take, ap, subst, sym, ◌∙◌, arith}
use Rattle.std.specs.FinMap.{get}
use Rattle.std.proofs.lemmas.List.{drop-drop, length-drop}
use Rattle.std.proofs.lemmas.Option.{slice_get_within}
use Rattle.std.specs.Iterator.Adapters.{enumerate_source, enumerate_count}
use Rattle.std.specs.Slice.Iter.{windows_rest}
use Rattle.ro_machine.specs.declared.machine.State.{State}
use Rattle.first_form.specs.Accepted.{Follows, GoesOn}
use Rattle.first_form.proofs.AcceptedLaws.{window_follows, goes_on_more}
use Rattle.first_form.proofs.accepted.test_states.Goals as goal

pub returns-in-Err-clause-err : goal.returns-in-Err-clause-err
returns-in-Err-clause-err c =
    let states = c.args.states.now in
    let left = windows_rest (enumerate_source c.loop-number.number-iterator) in
    let turn = c.in-Some.ensures.steps in
    let left_is : left ≡ drop c.in-Some.number states = c.loop-number.invariant.left ∙ ap (λ k. drop k states) (sym turn.1) in
    let window_is : c.in-Some.pair.now ≡ take 2 left = turn.0.1.1 ∙ ap (λ k. take k left) c.loop-number.invariant.size in
    let size = c.loop-number.invariant.size in
    let long = turn.0.1.0 in
    let pair : Follows states c.in-Some.number c.index-pair-0.result c.index-pair-1.result =
    window_follows states left c.in-Some.pair.now c.in-Some.number c.index-pair-0.result c.index-pair-1.result left_is (omega arith) window_is c.index-pair-0.is c.index-pair-1.is in (
      c.in-Some.number,
      c.index-pair-0.result,
      c.index-pair-1.result,
      pair,
      c.in-Err.ensures.err,
      λ j s follower before. c.loop-number.invariant.goes j s follower (let here = turn.1 in omega arith),
    )

pub loop-number-preserved : goal.loop-number-preserved
loop-number-preserved c =
    let states = c.args.states.now in
    let left = windows_rest (enumerate_source c.loop-number.number-iterator) in
    let turn = c.in-Some.ensures.steps in
    let left_is : left ≡ drop c.in-Some.number states = c.loop-number.invariant.left ∙ ap (λ k. drop k states) (sym turn.1) in
    let window_is : c.in-Some.pair.now ≡ take 2 left = turn.0.1.1 ∙ ap (λ k. take k left) c.loop-number.invariant.size in
    let size = c.loop-number.invariant.size in
    let long = turn.0.1.0 in
    let pair : Follows states c.in-Some.number c.index-pair-0.result c.index-pair-1.result =
    window_follows states left c.in-Some.pair.now c.in-Some.number c.index-pair-0.result c.index-pair-1.result left_is (omega arith) window_is c.index-pair-0.is c.index-pair-1.is in
    let next_count : enumerate_count c.next.new.self ≡ c.in-Some.number + 1 = turn.2 ∙ ap (λ k. k + 1) (sym turn.1) in
    let before = subst (λ n. (k : ℕ) (s follower : State) → k < n → Follows states k s follower → GoesOn (get c.args.memory.now) s follower) (sym turn.1) c.loop-number.invariant.goes in
    record {
      size = turn.0.0 ∙ size;
      left = turn.0.1.2 ∙ ap (drop 1) left_is ∙ drop-drop 1 c.in-Some.number states ∙ ap (λ k. drop k states) (sym next_count);
      goes = subst (λ n. (k : ℕ) (s follower : State) → k < n → Follows states k s follower → GoesOn (get c.args.memory.now) s follower) (sym next_count)
          (goes_on_more (get c.args.memory.now) states c.in-Some.number c.index-pair-0.result c.index-pair-1.result pair c.in_default.ensures.ok before);
    }

pub returns-clause-ok : goal.returns-clause-ok
returns-clause-ok c = λ i s follower pair.
    let states = c.args.states.now in
    let end = c.in-None.ensures.steps in
    let short = end.0.1.0 in
    let size = c.loop-number.invariant.size in
    let left_length : length (windows_rest (enumerate_source c.loop-number.number-iterator)) ≡ length states - enumerate_count c.loop-number.number-iterator =
    ap length c.loop-number.invariant.left ∙ length-drop (enumerate_count c.loop-number.number-iterator) states in
    c.loop-number.invariant.goes i s follower (let within = slice_get_within states (i + 1) follower pair.after in omega arith) pair
