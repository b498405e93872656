-- The plain layout of a program: each declaration on a line of its own, one space behind a comma, one `fallthrough`
-- branch as `->`, and an empty line between parts that aren't empty.
use Rattle.std.specs.Prelude.{ℕ, List, [], ◌∷◌, ◌++◌, Bool, true, false, Option, None, Some, codes, flat_map}
use Rattle.std.specs.List.{join_by}
use Rattle.byte_reading.specs.Decimal.{decimal_text}
use Rattle.sierra_types.specs.declared.program.Program.{Program}
use Rattle.sierra_types.specs.declared.program.TypeDecl.{TypeDecl}
use Rattle.sierra_types.specs.declared.program.LibfuncDecl.{LibfuncDecl}
use Rattle.sierra_types.specs.declared.program.Arg.{Arg}
use Rattle.sierra_types.specs.declared.program.Arg.TheVariants as args
use Rattle.sierra_types.specs.declared.program.Info.{Info}
use Rattle.sierra_types.specs.declared.program.Statement.{Statement}
use Rattle.sierra_types.specs.declared.program.Statement.TheVariants as statements
use Rattle.sierra_types.specs.declared.program.Branch.{Branch}
use Rattle.sierra_types.specs.declared.program.Target.{Target}
use Rattle.sierra_types.specs.declared.program.Target.TheVariants as targets
use Rattle.sierra_types.specs.declared.program.Function.{Function}

-- items in `(` and `)`, with `, ` between them
abbrev pub in_parentheses : {A : Type 0} → (A → List ℕ) → List A → List ℕ
in_parentheses item xs = codes "(" ++ (join_by item (codes ", ") xs ++ codes ")")

abbrev pub bool_text : Bool → List ℕ
bool_text true = codes "true"
bool_text false = codes "false"

abbrev pub arg_text : Arg → List ℕ
arg_text (args.OfType name) = name
arg_text (args.User name) = codes "ut@" ++ name
arg_text (args.Callee name) = codes "user@" ++ name
arg_text (args.Number false n) = decimal_text n
arg_text (args.Number true n) = codes "-" ++ decimal_text n

abbrev pub args_text : List Arg → List ℕ
args_text [] = []
args_text (arg ∷ more) = codes "<" ++ (join_by arg_text (codes ", ") (arg ∷ more) ++ codes ">")

-- the name of an ability with what stands before it and behind it, and whether the type has it
unfoldable pub ability_text : List ℕ → Bool → List ℕ
ability_text name value = name ++ bool_text value

-- one space and the abilities
abbrev pub abilities_text : Info → List ℕ
abilities_text info =
    ability_text (codes " [storable: ") info.storable ++ (ability_text (codes ", drop: ") info.drop ++ (ability_text (codes ", dup: ") info.dup
    ++ (ability_text (codes ", zero_sized: ") info.zero_sized ++ codes "]")))

abbrev pub info_text : Option Info → List ℕ
info_text None = []
info_text (Some info) = abilities_text info

-- `id = word<args>`
abbrev pub declared_text : List ℕ → List ℕ → List Arg → List ℕ
declared_text id generic args = id ++ (codes " = " ++ (generic ++ args_text args))

abbrev pub type_line : TypeDecl → List ℕ
type_line decl = codes "type " ++ (declared_text decl.id decl.generic decl.args ++ (info_text decl.info ++ codes ";\n"))

abbrev pub libfunc_line : LibfuncDecl → List ℕ
libfunc_line decl = codes "libfunc " ++ (declared_text decl.id decl.generic decl.args ++ codes ";\n")

abbrev pub var_text : ℕ → List ℕ
var_text n = codes "[" ++ (decimal_text n ++ codes "]")

abbrev pub target_text : Target → List ℕ
target_text targets.Fallthrough = codes "fallthrough"
target_text (targets.To statement) = decimal_text statement

abbrev pub branch_text : Branch → List ℕ
branch_text branch = target_text branch.target ++ in_parentheses var_text branch.results

-- branches in `{` and `}`
abbrev pub in_braces : List Branch → List ℕ
in_braces branches = codes " { " ++ (join_by branch_text (codes " ") branches ++ codes " }")

abbrev pub one_branch : Target → List ℕ → List ℕ
one_branch targets.Fallthrough results = codes " -> " ++ in_parentheses var_text results
one_branch (targets.To statement) results = in_braces (record { target = targets.To statement; results = results } ∷ [])

abbrev pub branches_text : List Branch → List ℕ
branches_text [] = in_braces []
branches_text (branch ∷ []) = one_branch branch.target branch.results
branches_text (branch ∷ other ∷ more) = in_braces (branch ∷ other ∷ more)

abbrev pub statement_line : Statement → List ℕ
statement_line (statements.Invoke libfunc args branches) = libfunc ++ (in_parentheses var_text args ++ (branches_text branches ++ codes ";\n"))
statement_line (statements.Return args) = codes "return" ++ (in_parentheses var_text args ++ codes ";\n")

abbrev pub param_text : ℕ × List ℕ → List ℕ
param_text param = var_text param.0 ++ (codes ": " ++ param.1)

abbrev pub function_line : Function → List ℕ
function_line function =
    function.id ++ (codes "@" ++ (decimal_text function.entry ++ (in_parentheses param_text function.params
    ++ (codes " -> " ++ (in_parentheses (λ name. name) function.results ++ codes ";\n")))))

-- a part behind those before it, with an empty line between them where neither is empty
abbrev pub next_part : {A : Type 0} → (A → List ℕ) → List ℕ → List A → List ℕ
next_part line before [] = before
next_part line [] (x ∷ xs) = flat_map line (x ∷ xs)
next_part line (byte ∷ before) (x ∷ xs) = (byte ∷ before) ++ (10 ∷ flat_map line (x ∷ xs))

-- the plain layout
abbrev pub layout : Program → List ℕ
layout program =
    next_part function_line (next_part statement_line (next_part libfunc_line (next_part type_line [] program.types) program.libfuncs) program.statements)
    program.functions
