use Rattle.std.proofs.Common.{◌≡◌, ℕ}
use Rattle.value_trees.specs.Meant.{meant}
use Rattle.typed_values.specs.Kinds.{number_of}
use Rattle.typed_values.specs.Marks.{number_at}
use Rattle.typed_values.proofs.ValueSteps.{passes, number_stop, number_read}
use Rattle.typed_values.proofs.reading.number_of.Goals as goal

pub returns-in_err-n : goal.returns-in_err-n
returns-in_err-n c =
    passes (λ (n : ℕ). n) meant c.in_err-n.field-0.0 c.from_residual.result c.number.new.rest.now (number_at c.bound.result c.args.rest.now.now)
    (number_of c.args.num c.args.rest.now.now) c.from_residual.ensures.1
    (λ why e. number_stop c.args.num c.bound.result c.args.rest.now.now c.number.new.rest.now why c.bound.ensures e) c.in_err-n.ensures.read

pub returns : goal.returns
returns c = number_read c.args.num c.bound.result c.in_ok-n.n (meant c.from_number.result) c.args.rest.now.now c.number.new.rest.now c.bound.ensures c.in_ok-n.ensures.read c.from_number.ensures
