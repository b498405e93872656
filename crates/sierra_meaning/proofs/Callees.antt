-- What is a call, what is withdrawn, and what a statement pays.
use Rattle.std.proofs.Common.{◌≡◌, ℕ, ◌+◌, ◌≤◌, Some, None, sym, arith}
use Rattle.std.proofs.lemmas.Option.{none-some, same_Some}
use Rattle.sierra_types.specs.declared.program.Program.{Program}
use Rattle.type_table.specs.View.{TypesView}
use Rattle.libfunc_registry.specs.declared.libfunc.Libfunc.{Libfunc}
use Rattle.libfunc_registry.specs.declared.libfunc.Libfunc.TheVariants as libfuncs
use Rattle.libfunc_registry.specs.Fam.{fam_of}
use Rattle.gas_solver.specs.Paying.{PaysFor}
use Rattle.libfunc_meaning.specs.Proper.{IsNoCall}
use Rattle.sierra_meaning.specs.Acts.{callee_of}
use Rattle.sierra_meaning.specs.Weighing.{withdrawn}

-- a libfunc that calls a function is `function_call`
pub is_call : (libfunc : Libfunc) (f : ℕ) → callee_of libfunc ≡ Some f → libfunc ≡ libfuncs.FunctionCall f
is_call (libfuncs.FunctionCall g) f is = let same : g ≡ f = same_Some g f is in cc
is_call _ f is = absurd (none-some f is)

-- one that calls none has a line of its own
pub is_no_call : (types : TypesView) (libfunc : Libfunc) → callee_of libfunc ≡ None → IsNoCall (fam_of types libfunc)
is_no_call types (libfuncs.FunctionCall f) is = absurd (none-some f (sym is))
is_no_call types _ is = tt

pub paid_by : (p : Program) (worth : ℕ → ℕ) (libfunc : Libfunc) (charged k s amount t : ℕ) → callee_of libfunc ≡ None → PaysFor p worth libfunc charged k s amount t
    → charged + worth t ≤ worth s + withdrawn libfunc k amount
paid_by p worth (libfuncs.FunctionCall f) charged k s amount t is pays = absurd (none-some f (sym is))
paid_by p worth libfuncs.WithdrawGas charged k s amount t is pays = pays
paid_by p worth _ charged k s amount t is pays = omega arith
