-- The entry of a program: its function main, with parameters that a run can be given and results that it can show.
use Rattle.std.specs.Prelude.{ℕ, ◌+◌, Bool, true, ◌||◌, not, eqb, List, length, Option, Some, None, option_map, slice_get, Result, Ok, Err, codes}
use Rattle.std.specs.List.{ends_with, position}
use Rattle.std.specs.Option.{option_and_then}
use Rattle.std.specs.Str.{bytes_eq}
use Rattle.sierra_types.specs.declared.program.Program.{Program}
use Rattle.sierra_types.specs.declared.program.Function.{Function}
use Rattle.type_trees.specs.Ty.{Ty, range_check, gas_builtin, is_plain}
use Rattle.type_table.specs.View.{TypesView, FunctionView, trees_of}
use Rattle.entry_check.specs.declared.fault.EntryFault.{EntryFault}
use Rattle.entry_check.specs.declared.fault.EntryFault.TheVariants.{EntryType, NoMain}

-- the name is `main`, or ends in `::main`
abbrev pub is_main_name : List ℕ → Bool
is_main_name name = bytes_eq name (codes "main") || ends_with eqb name (codes "::main")

-- main is the first function with such a name
abbrev pub main_of : Program → Option ℕ
main_of p = position (λ (f : Function). is_main_name f.id) p.functions

-- the type is plain or a builtin
abbrev pub is_entry_type : Ty → Bool
is_entry_type range_check = true
is_entry_type gas_builtin = true
is_entry_type ty = is_plain ty

-- the first of these types that is neither plain nor a builtin
abbrev pub first_other : List Ty → Option ℕ
first_other tys = position (λ ty. not (is_entry_type ty)) tys

-- the one among the first, or else the one behind so many
abbrev pub first_of : Option ℕ → ℕ → Option ℕ → Option ℕ
first_of (Some k) n behind = Some k
first_of None n behind = option_map (λ k. n + k) behind

-- the first such type of a function, of its parameters and then its results
abbrev pub other_type : TypesView → FunctionView → Option ℕ
other_type t f = first_of (first_other (trees_of t f.params)) (length f.params) (first_other (trees_of t f.results))

-- main, unless a type is none of an entry
abbrev pub unless_other : Option ℕ → ℕ → Result ℕ EntryFault
unless_other None main = Ok main
unless_other (Some k) main = Err (EntryType k)

abbrev pub entry_at : TypesView → Option ℕ → Result ℕ EntryFault
entry_at t None = Err NoMain
entry_at t (Some main) = unless_other (option_and_then (other_type t) (slice_get t.functions main)) main

-- the position of main, or why it is no entry
abbrev pub entry_of : Program → TypesView → Result ℕ EntryFault
entry_of p t = entry_at t (main_of p)
