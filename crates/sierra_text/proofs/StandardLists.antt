-- An item of each list takes a byte at least.
use Rattle.std.proofs.Common.{List}
use Rattle.text_reading.specs.Reading.{done}
use Rattle.text_reading.proofs.WholeTexts.{Moves}
use Rattle.sierra_types.specs.declared.program.Branch.{Branch}
use Rattle.sierra_text.specs.Text.{standard, unlimited}
use Rattle.sierra_text.specs.Reading.{TakeBytes, one_more_at, id_at, var_at, param_at, arg_at, branch_at}
use Rattle.sierra_text.proofs.LimitedLists.{comma_more_moves}
use Rattle.sierra_text.proofs.LimitedForms.{id_limited, var_limited, param_limited, arg_limited, more_branches_move}

pub var_moves : TakeBytes (var_at standard)
var_moves = record { shorter = λ close. comma_more_moves close (var_at standard) (var_at unlimited) (var_limited standard).limited }

pub param_moves : TakeBytes (param_at standard)
param_moves = record { shorter = λ close. comma_more_moves close (param_at standard) (param_at unlimited) (param_limited standard).limited }

pub id_moves : TakeBytes (id_at standard)
id_moves = record { shorter = λ close. comma_more_moves close (id_at standard) (id_at unlimited) (id_limited standard) }

pub arg_moves : TakeBytes (arg_at standard)
arg_moves = record { shorter = λ close. comma_more_moves close (arg_at standard) (arg_at unlimited) (arg_limited standard) }

pub branch_moves : (xs : List Branch) → Moves (one_more_at (done tt) 125 (branch_at standard) xs)
branch_moves = more_branches_move standard
