-- The texts of values of plain types, and of answers: decimal numbers, a struct as `(a, b)`, an enum as `i:value` and an array as
-- `[a, b]`. One space follows each comma, and no other blank is there.
use Rattle.std.specs.Prelude.{ℕ, ◌++◌, Bool, List, [], ◌∷◌, codes, if◌then◌else◌}
use Rattle.std.specs.List.{concat}
use Rattle.byte_reading.specs.Decimal.{decimal_text}
use Rattle.value_trees.specs.Val.{Plain, Vals, no_values, values, WordMap, OpenMap, vals_of, number, struct, enum, array}
use Rattle.typed_values.specs.Outcome.{OutcomeView, VerdictView}

-- values of other types have no text
abbrev mutual
  pub value_text : Plain → List ℕ
  value_text (number k n) = decimal_text n
  value_text (struct vs) = concat (codes "(" ∷ values_text vs ∷ codes ")" ∷ [])
  value_text (enum index payload) = concat (decimal_text index ∷ codes ":" ∷ value_text payload ∷ [])
  value_text (array vs) = concat (codes "[" ∷ values_text vs ∷ codes "]" ∷ [])
  value_text _ = []

  -- with commas between
  pub values_text : Vals WordMap OpenMap → List ℕ
  values_text no_values = []
  values_text (values v no_values) = value_text v
  values_text (values v (values w vs)) = concat (value_text v ∷ codes ", " ∷ values_text (values w vs) ∷ [])

-- what was computed: some values with commas between, or `()` where there is none
abbrev pub results_text : List Plain → List ℕ
results_text [] = codes "()"
results_text (v ∷ vs) = values_text (vals_of (v ∷ vs))

abbrev pub kind_of : Bool → List ℕ
kind_of panic = if panic then codes "panic " else codes "value "

abbrev pub outcome_text : OutcomeView → List ℕ
outcome_text o = concat (kind_of o.panic ∷ results_text o.values ∷ codes "\ngas used " ∷ decimal_text o.gas_used ∷ codes "\n" ∷ [])

abbrev pub verdict_text : VerdictView → List ℕ
verdict_text v = concat (outcome_text v.outcome ∷ codes "steps " ∷ decimal_text v.steps ∷ codes "\nchecks " ∷ decimal_text v.checks ∷ codes "\n" ∷ [])
