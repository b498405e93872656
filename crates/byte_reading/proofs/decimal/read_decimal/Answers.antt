use Rattle.std.proofs.Common.{◌≡◌, arith, ◌∙◌, ap, sym, Ok}
use Rattle.std.specs.Str.Parse.{digits_value}
use Rattle.byte_reading.proofs.DecimalLaws.{not_a_number, not_both, value_is, decimal_text-digits_value}
use Rattle.byte_reading.proofs.decimal.read_decimal.Goals as goal

pub returns-then-not-is_decimal-clause-number : goal.returns-then-not-is_decimal-clause-number
returns-then-not-is_decimal-clause-number c n =
    (λ other. absurd cc, λ is. absurd (not_a_number c.args.text.now n c.if-not-is_decimal.ensures is.1))

pub returns-then-not-is_decimal-clause-too_large : goal.returns-then-not-is_decimal-clause-too_large
returns-then-not-is_decimal-clause-too_large c =
    (λ other. cc, λ found. absurd (not_a_number c.args.text.now found.0 c.if-not-is_decimal.ensures found.2))

pub returns-in-Some-clause-number : goal.returns-in-Some-clause-number
returns-in-Some-clause-number c n =
    let value = c.in-Some.ensures.1 in
    let text = decimal_text-digits_value c.args.text.now c.if-not-is_decimal.ensures in
    (λ same. let is : c.in-Some.value ≡ n = cc in rw (← is, value) (c.in-Some.ensures.0, sym text), λ is. ap Ok (value ∙ value_is c.args.text.now n is.1))

pub returns-in-Some-clause-not_digits : goal.returns-in-Some-clause-not_digits
returns-in-Some-clause-not_digits c =
    (λ other. cc, λ isnt. absurd (not_both c.args.text.now c.if-not-is_decimal.ensures isnt))

pub returns-in-Some-clause-too_large : goal.returns-in-Some-clause-too_large
returns-in-Some-clause-too_large c =
    (λ other. cc, λ found. let number = value_is c.args.text.now found.0 found.2 in absurd (omega (arith, c.in-Some.ensures.0)))

pub returns-in-None-clause-number : goal.returns-in-None-clause-number
returns-in-None-clause-number c n =
    (λ other. absurd cc, λ is. let number = value_is c.args.text.now n is.1 in absurd (c.in-None.ensures (omega (arith, is.0))))

pub returns-in-None-clause-not_digits : goal.returns-in-None-clause-not_digits
returns-in-None-clause-not_digits c =
    (λ other. cc, λ isnt. absurd (not_both c.args.text.now c.if-not-is_decimal.ensures isnt))

pub returns-in-None-clause-too_large : goal.returns-in-None-clause-too_large
returns-in-None-clause-too_large c =
    let text = decimal_text-digits_value c.args.text.now c.if-not-is_decimal.ensures in
    (λ _. (digits_value 10 c.args.text.now, omega (arith, c.in-None.ensures), sym text), λ _. cc)
