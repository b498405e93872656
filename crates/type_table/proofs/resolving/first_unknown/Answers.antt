use Rattle.std.proofs.Common.{◌∙◌, ap, sym, refl, length}
use Rattle.std.specs.Option.{option_copied}
use Rattle.std.proofs.lemmas.Option.{slice_get_read}
use Rattle.type_table.specs.Resolving.{unknown_of}
use Rattle.type_table.proofs.Filters.{first_given, none_given}
use Rattle.type_table.proofs.resolving.first_unknown.Goals as goal

pub returns-in-Some : goal.returns-in-Some
returns-in-Some c =
    let xs = c.args.args.now in
    first_given (unknown_of c.args.positions.now) xs c.loop-arg.arg-index c.arg-item.result c.in-Some.id.now
    (slice_get_read xs (length xs) c.loop-arg.arg-index c.arg-item.result refl c.loop-arg-test.true c.arg-item.is)
    c.loop-arg.invariant (sym c.unknown_of.ensures ∙ ap option_copied c.in-Some.is)

pub loop-arg-preserved : goal.loop-arg-preserved
loop-arg-preserved c =
    let xs = c.args.args.now in
    none_given (unknown_of c.args.positions.now) xs c.loop-arg.arg-index c.arg-item.result
    (slice_get_read xs (length xs) c.loop-arg.arg-index c.arg-item.result refl c.loop-arg-test.true c.arg-item.is)
    c.loop-arg.invariant (sym c.unknown_of.ensures ∙ ap option_copied c.in_default.is)
