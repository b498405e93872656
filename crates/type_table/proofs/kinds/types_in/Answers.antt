use Rattle.std.proofs.Common.{◌∙◌, ◌+◌, ap, sym, refl, length, take, if◌then◌else◌, arith}
use Rattle.std.proofs.lemmas.Option.{slice_get_read}
use Rattle.type_table.specs.Refusals.{named_type, named_types}
use Rattle.type_table.proofs.Filters.{count_given}
use Rattle.type_table.proofs.kinds.types_in.Goals as goal
use Rattle.type_table.proofs.kinds.types_in.Goals.{then-is_type, else-is_type}

pub loop-arg-preserved : goal.loop-arg-preserved
loop-arg-preserved c =
    let args = c.args.args.now in
    let i = c.loop-arg.arg-index in
    let more = count_given named_type args i c.arg-item.result (slice_get_read args (length args) i c.arg-item.result refl c.loop-arg-test.true c.arg-item.is) in
    elim c.if-is_type.branch [
      | then-is_type w ↦ (
          let one = more ∙ ap (λ b. length (named_types (take i args)) + (if b then 1 else 0)) (sym c.is_type.ensures ∙ w.if-is_type.true) in
          (omega (arith, one, w.types-is, c.loop-arg.invariant.0), omega (arith, w.types-is, c.loop-arg.invariant.1)))
      | else-is_type w ↦ (
          let none = more ∙ ap (λ b. length (named_types (take i args)) + (if b then 1 else 0)) (sym c.is_type.ensures ∙ w.if-is_type.false) in
          (omega (arith, none, w.types-is, c.loop-arg.invariant.0), omega (arith, w.types-is, c.loop-arg.invariant.1)))
    ]
