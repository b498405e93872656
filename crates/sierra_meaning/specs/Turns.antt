-- Where the evaluator stands, seen as what its values mean, and what a turn of it does.
use Rattle.std.specs.Prelude.{◌≡◌, ℕ, List, ◌∷◌, [], ◌++◌, map, reverse, Ok, Some, slice_get, zip}
use Rattle.std.specs.Option.{unwrap_or}
use Rattle.sierra_types.specs.declared.program.Statement.{Statement}
use Rattle.sierra_types.specs.declared.program.Statement.TheVariants.{Invoke, Return}
use Rattle.sierra_types.specs.declared.program.Branch.{Branch}
use Rattle.type_table.specs.Lookups.{found}
use Rattle.libfunc_registry.specs.declared.sig.Sig.{Sig}
use Rattle.libfunc_registry.specs.Fam.{fam_of, takes}
use Rattle.held_list.specs.Held.{Held}
use Rattle.held_list.specs.Editing.{add_all}
use Rattle.linear_check.specs.Statements.{declared}
use Rattle.gas_solver.specs.Accepting.{AcceptedView, IsAccepted}
use Rattle.value_trees.specs.Meant.{meant}
use Rattle.value_trees.specs.Val.{Plain}
use Rattle.value_trees.specs.declared.value.Value.{Value}
use Rattle.libfunc_meaning.specs.Applying.{IsSignature, AreShort}
use Rattle.libfunc_meaning.specs.Dictionaries.{mapped}
use Rattle.libfunc_meaning.specs.Do.{Do}
use Rattle.libfunc_meaning.specs.Placed.{ArePlain}
use Rattle.libfunc_meaning.specs.Proper.{IsNoCall}
use Rattle.sierra_meaning.specs.Acts.{Goes, Calls, amount_at, begins_at}
use Rattle.sierra_meaning.specs.Evaluating.{Caller, mapped_held, After, IsStacked, IsTurn}
use Rattle.sierra_meaning.specs.Measured.{running_of}
use Rattle.sierra_meaning.specs.declared.turns.Caller as code
use Rattle.sierra_meaning.specs.declared.turns.Run.{Run}
use Rattle.sierra_meaning.specs.Weighing.{PlanPays}

-- the position at which a statement's libfunc is found, and 0 of a return
abbrev pub position_in : List (List ℕ × ℕ) → Statement → ℕ
position_in positions (Invoke id args branches) = unwrap_or (found positions id) 0
position_in positions (Return args) = 0

-- at the place of each statement that invokes a libfunc there is the position of its signature
abbrev pub AreResolved : AcceptedView → List ℕ → Type 0
AreResolved a positions =
    (s : ℕ) (id args : List ℕ) (branches : List Branch) (sig : Sig) → slice_get a.program.statements s ≡ Some (Invoke id args branches)
    → declared a.program a.sigs id ≡ Some sig → (at : ℕ) × (slice_get positions s ≡ Some at) × (slice_get a.sigs at ≡ Some sig)

-- all that a turn asks of the program
pub record IsReady (a : AcceptedView) (positions : List ℕ) : Type 0 where
  pub accepted : IsAccepted a
  pub pays : PlanPays a
  pub resolved : AreResolved a positions

-- a caller's values as what they mean
abbrev pub meant_caller : Caller Value → Caller Plain
meant_caller c = record { rest = mapped_held meant c.rest; names = c.names; next = c.next }

-- callers in a list with the last one at its end, as what their values mean
abbrev pub meant_callers : List (Caller Value) → List (Caller Plain)
meant_callers cs = reverse (map meant_caller cs)

-- What is asked where a libfunc that is no call is done at statement s with these arguments: whatever branch is taken, its
-- results can be added to the rest.
pub record CanGo (a : AcceptedView) (s : ℕ) (sig : Sig) (branches : List Branch) (vs : List Plain) (rest : Held Plain) : Type 0 where
  pub signature : IsSignature a.types sig
  pub no_call : IsNoCall (fam_of a.types sig.libfunc)
  pub typed : ArePlain (takes (fam_of a.types sig.libfunc)) vs
  pub short : AreShort vs
  pub leads : (k : ℕ) (outs : List Plain) → Do mapped (fam_of a.types sig.libfunc) vs (amount_at a s) k outs
      → (branch : Branch) × (slice_get branches k ≡ Some branch) × (more : Held Plain) × (add_all (zip branch.results outs) rest ≡ Ok more)

-- a statement, what its function holds, and the callers, the last one at the end
pub record Place : Type 0 where
  pub at : ℕ
  pub env : Held Value
  pub callers : List (Caller Value)

module _ (a : AcceptedView) where
  -- it stands as a run of main does
  abbrev pub Stands : Place → Type 0
  Stands p = (f : ℕ) × IsStacked (running_of a) a.main f p.at (mapped_held meant p.env) (meant_callers p.callers)

  -- one statement later it stands so, and what comes after it now came after it before
  pub record Turns (p q : Place) : Type 0 where
    pub stands : Stands q
    pub turn : IsTurn (running_of a) p.at (mapped_held meant p.env) (meant_callers p.callers) q.at (mapped_held meant q.env) (meant_callers q.callers)

  -- main's results are these
  abbrev pub Ends : Place → List Plain → Type 0
  Ends p results = After (running_of a) p.at (mapped_held meant p.env) (meant_callers p.callers) results

-- a caller of the code
abbrev pub caller_of : code.Caller → Caller Value
caller_of c = record { rest = c.rest; names = c.names.now; next = c.next }

-- a run of the code as its place
abbrev pub place_of : Run → Place
place_of r = record { at = r.at; env = r.env; callers = map caller_of r.callers.items }

-- a libfunc that is no call was done
pub record Went (a : AcceptedView) (sig : Sig) (branches : List Branch) (old new : Run) : Type 0 where
  pub cost : ℕ
  pub goes : Goes mapped a (fam_of a.types sig.libfunc) old.at (map meant old.values.items) (mapped_held meant old.env) branches cost new.at (mapped_held meant new.env)

-- a function was called, and its caller waits
pub record Called (a : AcceptedView) (callee : ℕ) (branches : List Branch) (old new : Run) : Type 0 where
  pub names : List ℕ
  pub next : ℕ
  pub calls : Calls a callee old.at (map meant old.values.items) branches (mapped_held meant new.env) names next
  pub waits : map caller_of new.callers.items ≡ map caller_of old.callers.items ++ record { rest = old.env; names = names; next = next } ∷ []
  pub begins : new.at ≡ begins_at a callee
