-- What stands behind a prefix: a number, or a libfunc's name.
use Rattle.std.specs.Prelude.{ℕ, ◌≡◌, ◌≤◌, List, ◌++◌}
use Rattle.byte_reading.specs.Decimal.{StartsWithNumber}
use Rattle.first_form.specs.declared.operation.Operation.{Operation}
use Rattle.first_form.specs.Forms.{libfunc_name}

-- the text is the prefix, then a number up to this one, and then the rest
pub record HasNumber (text before : List ℕ) (greatest n : ℕ) (rest : List ℕ) : Type 0 where
  pub behind : List ℕ
  pub text_is : text ≡ before ++ behind
  pub number : StartsWithNumber behind n rest
  pub below : n ≤ greatest

-- the text is the prefix, then the name of the operation's libfunc, and then the rest
pub record HasName (text before : List ℕ) (operation : Operation) (rest : List ℕ) : Type 0 where
  pub text_is : text ≡ before ++ (libfunc_name operation ++ rest)
