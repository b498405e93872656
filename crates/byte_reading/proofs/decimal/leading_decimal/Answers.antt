use Rattle.std.proofs.Common.{◌≢◌, [], sym, ◌∙◌, arith}
use Rattle.std.proofs.lemmas.Bool.{eqb-true}
use Rattle.std.proofs.lemmas.List.{nil_from_length}
use Rattle.std.specs.Str.Parse.{digits_value}
use Rattle.byte_reading.proofs.DecimalLaws.{one_leading_number, starts_with_digits, no_digit_starts, no_number_starts}
use Rattle.byte_reading.proofs.decimal.leading_decimal.Goals as goal

pub returns-then-is_empty-clause-too_large : goal.returns-then-is_empty-clause-too_large
returns-then-is_empty-clause-too_large c =
    (λ other. cc, λ found. absurd (no_number_starts c.args.text.now found.0 found.1 (no_digit_starts c.args.text.now c.split_number.result.0.now c.split_number.result.1.now c.split_number.ensures.parts c.split_number.ensures.longest (nil_from_length c.split_number.result.0.now (eqb-true _ _ (sym c.is_empty.ensures ∙ c.if-is_empty.true)))) found.3))

pub returns-in-Some-clause-found : goal.returns-in-Some-clause-found
returns-in-Some-clause-found c =
    let some : c.split_number.result.0.now ≢ [] = λ none. grind (arith, c.is_empty.ensures, c.if-is_empty.false) in
    rw c.in-Some.ensures.1 (c.in-Some.ensures.0, starts_with_digits c.args.text.now c.split_number.result.0.now c.split_number.result.1.now c.split_number.ensures.parts c.split_number.ensures.digits c.split_number.ensures.longest some)

pub returns-in-Some-clause-too_large : goal.returns-in-Some-clause-too_large
returns-in-Some-clause-too_large c =
    let some : c.split_number.result.0.now ≢ [] = λ none. grind (arith, c.is_empty.ensures, c.if-is_empty.false) in
    let starts = starts_with_digits c.args.text.now c.split_number.result.0.now c.split_number.result.1.now c.split_number.ensures.parts c.split_number.ensures.digits c.split_number.ensures.longest some in (
      λ other. cc,
      λ found.
          let same = (one_leading_number c.args.text.now _ _ _ _ found.3 starts).0 in
          absurd (omega (arith, same, c.in-Some.ensures.0, found.2)),
    )

pub returns-in-None-clause-too_large : goal.returns-in-None-clause-too_large
returns-in-None-clause-too_large c =
    let some : c.split_number.result.0.now ≢ [] = λ none. grind (arith, c.is_empty.ensures, c.if-is_empty.false) in
    let starts = starts_with_digits c.args.text.now c.split_number.result.0.now c.split_number.result.1.now c.split_number.ensures.parts c.split_number.ensures.digits c.split_number.ensures.longest some in
    (λ _. (digits_value 10 c.split_number.result.0.now, c.split_number.result.1.now, omega (arith, c.in-None.ensures), starts), λ _. cc)
