-- Where a statement of a typed program has several branches, each has a target of its own.
use Rattle.std.proofs.Common.{◌≡◌, ℕ, zero, suc, ◌<◌, ◌≤◌, List, [], ◌∷◌, length, Some, refl, subst, arith}
use Rattle.std.specs.List.{slice_get, AllByRecursion}
use Rattle.std.proofs.Math.ListN.{length-map}
use Rattle.std.proofs.lemmas.Option.{none-some, same_Some, slice_get_within}
use Rattle.sierra_types.specs.declared.program.Program.{Program}
use Rattle.sierra_types.specs.declared.program.Statement.TheVariants.{Invoke}
use Rattle.sierra_types.specs.declared.program.Branch.{Branch}
use Rattle.type_table.specs.View.{TypesView}
use Rattle.type_table.specs.declared.type_id.TypeId.{TypeId}
use Rattle.libfunc_registry.specs.declared.sig.Sig.{Sig}
use Rattle.statement_walk.proofs.Arrivals.{inside}
use Rattle.linear_check.specs.Branching.{HasBranches, IsOnlyWayIn}
use Rattle.linear_check.specs.Statements.{target_of, targets_of, predecessors}
use Rattle.linear_check.specs.Typed.{TypedList, IsAligned, Invokes, Typed}
use Rattle.linear_check.proofs.OnlyWays.{only_way, distinct_short}

all_at : {A : Type 0} (P : A → Type 0) (xs : List A) (k : ℕ) (x : A) → AllByRecursion P xs → slice_get xs k ≡ Some x → P x
all_at P [] k x all is = absurd (none-some x is)
all_at P (y ∷ ys) zero x all is = subst P (same_Some y x is) all.0
all_at P (y ∷ ys) (suc k) x all is = all_at P ys k x all.1 is

-- what the list says of a statement with branches
invoked : (p : Program) (t : TypesView) (sigs : List Sig) (a : TypedList) → Typed p t sigs a → (s : ℕ) (branches : List Branch) → (b : HasBranches p s branches)
    → (x : ℕ × List (ℕ × TypeId)) × Invokes p sigs a x.0 s x.1 b.id b.args branches
invoked p t sigs a typed s branches b =
    let lt = slice_get_within p.statements s (Invoke b.id b.args branches) b.here in
    let there = inside a s (omega (arith, typed.long)) in
    (there.0, typed.statements s there.0.0 there.0.1 (Invoke b.id b.args branches) b.here there.1)

-- the branch of a target
branch_of : (s : ℕ) (branches : List Branch) (k u : ℕ) → slice_get (targets_of s branches) k ≡ Some u → (b : Branch) × (slice_get branches k ≡ Some b) × (target_of s b.target ≡ u)
branch_of s [] k u is = absurd (none-some u is)
branch_of s (b ∷ branches) zero u is = (b, refl, same_Some (target_of s b.target) u is)
branch_of s (b ∷ branches) (suc k) u is = branch_of s branches k u is

pub alone : (p : Program) (t : TypesView) (sigs : List Sig) (a : TypedList) → Typed p t sigs a → (s : ℕ) (branches : List Branch) → HasBranches p s branches → (k u : ℕ) → slice_get (targets_of s branches) k ≡ Some u → IsOnlyWayIn p s k u
alone p t sigs a typed s branches b k u lead =
    let is = (invoked p t sigs a typed s branches b).1 in
    let branch = branch_of s branches k u lead in
    let aligned = all_at (IsAligned p sigs s) branches k branch.0 (is.aligned b.several) branch.1 in
    only_way p s k u (Invoke b.id b.args branches) b.here lead (subst (λ v. predecessors p v ≡ 1) branch.2 aligned.1)

pub few : (p : Program) (t : TypesView) (sigs : List Sig) (a : TypedList) → Typed p t sigs a → (s : ℕ) (branches : List Branch) → HasBranches p s branches → length branches ≤ length p.statements
few p t sigs a typed s branches b =
    let is = (invoked p t sigs a typed s branches b).1 in
    let once = λ (j k u : ℕ) (here : slice_get (targets_of s branches) j ≡ Some u) (there : slice_get (targets_of s branches) k ≡ Some u).
    ((alone p t sigs a typed s branches b k u there).one_branch s j (Invoke b.id b.args branches) b.here here).1 in
    let below = λ (k u : ℕ) (lead : slice_get (targets_of s branches) k ≡ Some u).
    (let branch = branch_of s branches k u lead in
    subst (λ v. v < length p.statements) branch.2 (all_at (λ (c : Branch). target_of s c.target < length p.statements) branches k branch.0 is.shaped.inside branch.1)) in
    let short = distinct_short (targets_of s branches) (length p.statements) once below in
    (let long : length (targets_of s branches) ≡ length branches = simp length-map in omega (arith, short, long))
