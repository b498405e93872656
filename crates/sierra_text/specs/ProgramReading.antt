-- Reading a program: declarations up to the end of the text, each by its head and by the part that the last one
-- belongs to.
use Rattle.std.specs.Prelude.{ℕ, List, [], ◌∷◌, ◌++◌, Bool, true, false, cond, codes}
use Rattle.std.specs.Str.{bytes_eq}
use Rattle.text_reading.specs.Reading.{done, ◌>>=◌, branch}
use Rattle.text_reading.specs.TokenReading.{blanks_at, token}
use Rattle.text_reading.specs.Repeating.{is_end, finish_at, repeat_at}
use Rattle.sierra_types.specs.declared.program.Program.{Program}
use Rattle.sierra_text.specs.declared.part.Part.{Part}
use Rattle.sierra_text.specs.declared.part.Part.TheVariants as parts
use Rattle.sierra_text.specs.declared.declaration.Head.{Head}
use Rattle.sierra_text.specs.declared.declaration.Head.TheVariants as heads
use Rattle.sierra_text.specs.declared.declaration.Declaration.{Declaration}
use Rattle.sierra_text.specs.declared.declaration.Declaration.TheVariants as declarations
use Rattle.sierra_text.specs.Text.{Limits}
use Rattle.sierra_text.specs.LabelReading.{Sierra, label_at}
use Rattle.sierra_text.specs.Reading.{numbered_at, type_at, libfunc_at, invoke_at, return_at, function_at}

-- a reserved word, or an id
abbrev pub head_of : List ℕ → Head
head_of label =
    cond (bytes_eq label (codes "type")) heads.TypeWord (cond (bytes_eq label (codes "libfunc")) heads.LibfuncWord (cond (bytes_eq label (codes "return")) heads.ReturnWord (heads.Id label)))

-- whether a statement may follow
abbrev pub has_statements : Part → Bool
has_statements parts.Types = true
has_statements parts.Libfuncs = true
has_statements parts.Statements = true
has_statements parts.Functions = false

-- what has been read: a program, and the part that its last declaration belongs to
pub record Progress : Type 0 where
  pub part : Part
  pub program : Program

abbrev pub no_program : Program
no_program = record { types = []; libfuncs = []; statements = []; functions = [] }

abbrev pub at_start : Progress
at_start = record { part = parts.Types; program = no_program }

-- with one declaration more
abbrev pub added : Progress → Declaration → Progress
added so_far (declarations.OfType decl) = record { part = parts.Types; program = record so_far.program { types = so_far.program.types ++ decl ∷ [] } }
added so_far (declarations.OfLibfunc decl) = record { part = parts.Libfuncs; program = record so_far.program { libfuncs = so_far.program.libfuncs ++ decl ∷ [] } }
added so_far (declarations.OfStatement statement) = record { part = parts.Statements; program = record so_far.program { statements = so_far.program.statements ++ statement ∷ [] } }
added so_far (declarations.OfFunction function) = record { part = parts.Functions; program = record so_far.program { functions = so_far.program.functions ++ function ∷ [] } }

module _ (limits : Limits) where
  unfoldable pub head_at : Part → Sierra Head
  head_at part = branch 91 (numbered_at limits >>= λ name. done (heads.Id name)) (token (label_at part) >>= λ label. done (head_of label))

  unfoldable pub function_declared_at : List ℕ → Sierra Declaration
  function_declared_at id = function_at limits id >>= λ function. done (declarations.OfFunction function)

  unfoldable pub statement_declared_at : List ℕ → Sierra Declaration
  statement_declared_at id = invoke_at limits id >>= λ statement. done (declarations.OfStatement statement)

  unfoldable pub behind_head_at : Part → Head → Sierra Declaration
  behind_head_at part heads.TypeWord = type_at limits >>= λ decl. done (declarations.OfType decl)
  behind_head_at part heads.LibfuncWord = libfunc_at limits >>= λ decl. done (declarations.OfLibfunc decl)
  behind_head_at part heads.ReturnWord = return_at limits >>= λ statement. done (declarations.OfStatement statement)
  behind_head_at part (heads.Id id) = cond (has_statements part) (branch 40 (statement_declared_at id) (function_declared_at id)) (function_declared_at id)

  unfoldable pub declaration_at : Part → Sierra Declaration
  declaration_at part = head_at part >>= λ head. behind_head_at part head

  -- one declaration more
  unfoldable pub next_at : Progress → Sierra Progress
  next_at so_far = declaration_at so_far.part >>= λ declaration. done (added so_far declaration)

  -- all declarations
  unfoldable pub declarations_at : Progress → Sierra Program
  declarations_at = repeat_at is_end (λ so_far. finish_at so_far.program) next_at

  unfoldable pub program_at : Sierra Program
  program_at = blanks_at >>= λ _. declarations_at at_start
