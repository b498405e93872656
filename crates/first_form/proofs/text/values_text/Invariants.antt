use Rattle.std.proofs.Common.{◌≡◌, ◌++◌, drop}
use Rattle.std.specs.Prelude.{string_bytes}
use Rattle.first_form.specs.Texts.{more_values}
use Rattle.first_form.proofs.text.values_text.Given as goal

-- the text so far, and that of the values that are left, is the first value and that of all others
abbrev pub invariant-loop-value : goal.invariant-loop-value
invariant-loop-value l = string_bytes l.text ++ more_values (drop l.value-index l.others) ≡ string_bytes l.initial.text ++ more_values l.others
