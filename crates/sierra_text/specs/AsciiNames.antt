-- Trees whose names are ASCII, as those of every text are.
use Rattle.std.specs.Prelude.{ℕ, List}
use Rattle.std.specs.List.{All}
use Rattle.std.specs.Str.{IsAscii}
use Rattle.sierra_types.specs.declared.program.Program.{Program}
use Rattle.sierra_types.specs.declared.program.TypeDecl.{TypeDecl}
use Rattle.sierra_types.specs.declared.program.LibfuncDecl.{LibfuncDecl}
use Rattle.sierra_types.specs.declared.program.Arg.{Arg}
use Rattle.sierra_types.specs.declared.program.Arg.TheVariants as args
use Rattle.sierra_types.specs.declared.program.Statement.{Statement}
use Rattle.sierra_types.specs.declared.program.Statement.TheVariants as statements
use Rattle.sierra_types.specs.declared.program.Function.{Function}

abbrev pub IsAsciiArg : Arg → Type 0
IsAsciiArg (args.OfType name) = IsAscii name
IsAsciiArg (args.User name) = IsAscii name
IsAsciiArg (args.Callee name) = IsAscii name
IsAsciiArg (args.Number negative n) = Unit {0}

pub record IsAsciiType (decl : TypeDecl) : Type 0 where
  pub id : IsAscii decl.id
  pub generic : IsAscii decl.generic
  pub args : All IsAsciiArg decl.args

pub record IsAsciiLibfunc (decl : LibfuncDecl) : Type 0 where
  pub id : IsAscii decl.id
  pub generic : IsAscii decl.generic
  pub args : All IsAsciiArg decl.args

abbrev pub IsAsciiStatement : Statement → Type 0
IsAsciiStatement (statements.Invoke libfunc args branches) = IsAscii libfunc
IsAsciiStatement (statements.Return args) = Unit {0}

abbrev pub IsAsciiParam : ℕ × List ℕ → Type 0
IsAsciiParam param = IsAscii param.1

pub record IsAsciiFunction (function : Function) : Type 0 where
  pub id : IsAscii function.id
  pub params : All IsAsciiParam function.params
  pub results : All IsAscii function.results

-- each byte of the program's names is ASCII
pub record HasAsciiNames (program : Program) : Type 0 where
  pub types : All IsAsciiType program.types
  pub libfuncs : All IsAsciiLibfunc program.libfuncs
  pub statements : All IsAsciiStatement program.statements
  pub functions : All IsAsciiFunction program.functions
