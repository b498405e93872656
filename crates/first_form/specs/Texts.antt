-- The text of a verdict.
use Rattle.std.specs.Prelude.{ℕ, List, [], ◌∷◌, ◌++◌, codes, decimal, if◌then◌else◌}
use Rattle.std.specs.List.{concat}
use Rattle.first_form.specs.declared.verdict.Value.{Value}
use Rattle.first_form.specs.declared.verdict.Value.TheVariants as values
use Rattle.first_form.specs.declared.verdict.Verdict.{Verdict}

abbrev pub value_text : Value → List ℕ
value_text (values.Felt n) = decimal n

-- values behind others, each behind a comma and a space
abbrev pub more_values : List Value → List ℕ
more_values [] = []
more_values (value ∷ others) = codes ", " ++ (value_text value ++ more_values others)

abbrev pub values_text : List Value → List ℕ
values_text [] = codes "()"
values_text (value ∷ others) = value_text value ++ more_values others

-- the verdict's four lines
abbrev pub verdict_text : Verdict → List ℕ
verdict_text verdict =
    concat ((if verdict.outcome.panic then codes "panic " else codes "value ") ∷ values_text verdict.outcome.values
    ∷ codes "\ngas used " ∷ decimal verdict.outcome.gas_used
    ∷ codes "\nsteps " ∷ decimal verdict.steps
    ∷ codes "\nchecks " ∷ decimal verdict.checks
    ∷ codes "\n" ∷ [])
