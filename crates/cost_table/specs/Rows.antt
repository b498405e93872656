-- Rows: what a branch of a libfunc takes, apart from holes and from a share of what comes later.
use Rattle.std.specs.Prelude.{ℕ, ◌+◌, ◌*◌, ◌-◌, ◌==◌, min, if◌then◌else◌, nat_le}
use Rattle.cost_table.specs.declared.costs.ApChange.TheVariants as changes
use Rattle.cost_table.specs.declared.row.Row.{Row}

-- so many steps and range checks, and ap moves by so many cells
abbrev pub row : ℕ → ℕ → ℕ → Row
row steps checks n = record { steps = steps; checks = checks; ap = changes.Known n }

-- so many steps and range checks, and nobody knows how far ap moves
abbrev pub row_unknown : ℕ → ℕ → Row
row_unknown steps checks = record { steps = steps; checks = checks; ap = changes.Unknown }

-- a branch that takes nothing
abbrev pub free : Row
free = row 0 0 0

-- what is said of branch 0, and of branch 1, of a family with two branches
abbrev pub by_branch : {A : Type 0} → ℕ → A → A → A
by_branch branch a b = if branch == 0 then a else b

-- a branch of the match of an enum with so many variants
abbrev pub match_row : (variants branch : ℕ) → Row
match_row variants branch =
    if nat_le variants 1 then free else row (2 + 2 * min branch (variants - 2)) 0 (min branch (variants - 2))
