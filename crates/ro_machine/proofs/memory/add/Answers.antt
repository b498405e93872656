use Rattle.std.proofs.Common.{◌≡◌, ◌<◌, ℕ, refl, arith}
use Rattle.felt64.specs.Field.{modulus}
use Rattle.std.proofs.lemmas.Result.{on_ok_weaker}
use Rattle.ro_machine.proofs.NewCells.{adds_pushed, adds_opened}
use Rattle.ro_machine.proofs.memory.add.Goals as goal

in_field : {n felt : ℕ} → record { value : n ≡ felt; below : n < modulus } → felt < modulus
in_field facts = omega (arith, facts.value, facts.below)

pub returns-then-ends_before-clause-ok : goal.returns-then-ends_before-clause-ok
returns-then-ends_before-clause-ok c =
    on_ok_weaker c.push.result (λ new. adds_pushed _ _ _ _ _ _ _ c.requires.apart c.requires.place c.if-at-gt0.true c.index.ensures c.index_mut.ensures.value (c.if-ends_before.ensures.0 refl) (in_field c.value.ensures) (in_field c.value-2.ensures) new) c.push.ensures.ok

pub returns-else-at-gt0-clause-ok : goal.returns-else-at-gt0-clause-ok
returns-else-at-gt0-clause-ok c =
    on_ok_weaker c.open.result (λ is. adds_opened _ _ _ _ _ _ c.requires.apart c.requires.place c.requires.unlisted (in_field c.value.ensures) (in_field c.value-2.ensures) c.new-segment.ensures is) c.open.ensures.ok
