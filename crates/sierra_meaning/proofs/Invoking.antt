-- What is known of a statement of an accepted program that invokes a libfunc.
use Rattle.std.proofs.Common.{◌≡◌, ℕ, zero, suc, ◌<◌, List, [], ◌∷◌, length, Some, Ok, refl, sym, ap, subst, ◌∙◌, arith}
use Rattle.std.specs.List.{slice_get, zip, AllZip}
use Rattle.std.proofs.lemmas.Option.{none-some, same_Some, slice_get_within}
use Rattle.sierra_types.specs.declared.program.Statement.TheVariants.{Invoke}
use Rattle.sierra_types.specs.declared.program.Branch.{Branch}
use Rattle.type_trees.specs.Ty.{Ty}
use Rattle.type_table.specs.declared.type_id.TypeId.{TypeId}
use Rattle.type_table.specs.View.{trees_of}
use Rattle.libfunc_registry.specs.declared.sig.Sig.{Sig}
use Rattle.libfunc_registry.specs.Fam.{fam_of, takes, gives}
use Rattle.libfunc_registry.specs.Signature.{AreTrees}
use Rattle.cost_table.proofs.Signatures.{trees_are}
use Rattle.held_list.specs.Held.{Held}
use Rattle.held_list.specs.Editing.{add_all}
use Rattle.linear_check.specs.Statements.{declared, target_of}
use Rattle.linear_check.specs.Typed.{Takes, Adds, Gives}
use Rattle.linear_check.specs.Typed as linear
use Rattle.gas_solver.specs.Accepting.{AcceptedView, IsAccepted}
use Rattle.value_trees.specs.Val.{Plain}
use Rattle.libfunc_meaning.specs.Applying.{IsSignature}
use Rattle.libfunc_meaning.specs.Placed.{ArePlain}
use Rattle.sierra_meaning.specs.Measured.{AreHeldAt}
use Rattle.sierra_meaning.proofs.Known.{signature_of}
use Rattle.sierra_meaning.proofs.Typing.{Taken, taken_values, added_values}

-- what stands beside the item at a place
pub zip_left : {A B : Type 0} (Q : A → B → Type 0) (xs : List A) (ys : List B) (k : ℕ) (y : B) → AllZip Q xs ys → slice_get ys k ≡ Some y → (x : A) × (slice_get xs k ≡ Some x) × Q x y
zip_left Q [] [] k y all is = absurd (none-some y is)
zip_left Q [] (z ∷ ys) k y all is = absurd all
zip_left Q (x ∷ xs) [] k y all is = absurd all
zip_left Q (x ∷ xs) (z ∷ ys) zero y all is = (x, refl, subst (Q x) (same_Some z y is) all.0)
zip_left Q (x ∷ xs) (z ∷ ys) (suc k) y all is = zip_left Q xs ys k y all.1 is

pub zip_right : {A B : Type 0} (Q : A → B → Type 0) (xs : List A) (ys : List B) (k : ℕ) (x : A) → AllZip Q xs ys → slice_get xs k ≡ Some x → (y : B) × (slice_get ys k ≡ Some y) × Q x y
zip_right Q [] ys k x all is = absurd (none-some x is)
zip_right Q (z ∷ xs) [] k x all is = absurd all
zip_right Q (z ∷ xs) (y ∷ ys) zero x all is = (y, refl, subst (λ w. Q w y) (same_Some z x is) all.0)
zip_right Q (z ∷ xs) (y ∷ ys) (suc k) x all is = zip_right Q xs ys k x all.1 is

module _ (a : AcceptedView) (ok : IsAccepted a) where
  -- a statement that invokes a libfunc of this signature, with these types held and these values
  pub record Invoked (f s : ℕ) (args : List ℕ) (branches : List Branch) (sig : Sig) (env : Held Plain) : Type 0 where
    pub signature : IsSignature a.types sig
    pub rest : Held TypeId
    pub taken : Taken a.types args sig.params rest env
    pub typed : ArePlain (takes (fam_of a.types sig.libfunc)) taken.vs
    pub gives : AllZip (Gives a.envs f s rest) branches sig.branches

  pub invoked : (f s : ℕ) (id args : List ℕ) (branches : List Branch) (sig : Sig) (env : Held Plain) → slice_get a.program.statements s ≡ Some (Invoke id args branches) → declared a.program a.sigs id ≡ Some sig → AreHeldAt a f s env
      → Invoked f s args branches sig env
  invoked f s id args branches sig env here named (held, at, alike) =
      let known : linear.Invokes a.program a.sigs a.envs f s held id args branches = ok.typed.statements s f held (Invoke id args branches) here at in
      let same : known.sig ≡ sig = same_Some known.sig sig (sym known.declared_as ∙ named) in
      let signature = signature_of a.program a.types a.sigs id sig ok.signatures named in
      let takes_them : Takes args sig.params held known.rest = subst (λ (x : Sig). Takes args x.params held known.rest) same known.takes in
      let taken = taken_values a.types args sig.params held known.rest env takes_them alike in
      record {
        signature = signature;
        rest = known.rest;
        taken = taken;
        typed = subst (λ tys. ArePlain tys taken.vs) (trees_are a.types sig.params (takes (fam_of a.types sig.libfunc)) signature.1.params) taken.typed;
        gives = subst (λ (x : Sig). AllZip (Gives a.envs f s known.rest) branches x.branches) same known.gives;
      }

  -- where a branch leads with results of its types
  pub record Leads (f s : ℕ) (branch : Branch) (results : List Plain) (left : Held Plain) : Type 0 where
    pub more : Held Plain
    pub adds : add_all (zip branch.results results) left ≡ Ok more
    pub typed : AreHeldAt a f (target_of s branch.target) more

  pub leads : (f s : ℕ) (args : List ℕ) (branches : List Branch) (sig : Sig) (env : Held Plain) (known : Invoked f s args branches sig env) (k : ℕ) (branch : Branch) (tys : List Ty) (results : List Plain)
      → slice_get branches k ≡ Some branch → slice_get (gives (fam_of a.types sig.libfunc)) k ≡ Some tys → ArePlain tys results → Leads f s branch results known.taken.left
  leads f s args branches sig env known k branch tys results at given typed =
      let flow = zip_right (Gives a.envs f s known.rest) branches sig.branches k branch known.gives at in
      let tree = zip_left (AreTrees a.types) sig.branches (gives (fam_of a.types sig.libfunc)) k tys known.signature.1.branches given in
      let same : tree.0 ≡ flow.0 = same_Some tree.0 flow.0 (sym tree.1 ∙ flow.1) in
      let trees : trees_of a.types flow.0 ≡ tys = ap (trees_of a.types) (sym same) ∙ trees_are a.types tree.0 tys tree.2 in
      let added = added_values a.types branch.results flow.0 known.rest flow.2.0 known.taken.left results flow.2.1 known.taken.alike (subst (λ x. ArePlain x results) (sym trees) typed) in
      record { more = added.more; adds = added.adds; typed = (flow.2.0, flow.2.2, added.alike) }

  pub target_inside : (f s : ℕ) (args : List ℕ) (branches : List Branch) (sig : Sig) (env : Held Plain) → Invoked f s args branches sig env → (k : ℕ) (branch : Branch) → slice_get branches k ≡ Some branch
      → target_of s branch.target < length a.program.statements
  target_inside f s args branches sig env known k branch at =
      let flow = zip_right (Gives a.envs f s known.rest) branches sig.branches k branch known.gives at in
      let within = slice_get_within a.envs (target_of s branch.target) (f, flow.2.0) flow.2.2 in
      omega (arith, within, ok.typed.long)

  -- there is such a branch
  pub branch_there : (f s : ℕ) (args : List ℕ) (branches : List Branch) (sig : Sig) (env : Held Plain) (known : Invoked f s args branches sig env) (k : ℕ) (tys : List Ty) → slice_get (gives (fam_of a.types sig.libfunc)) k ≡ Some tys
      → (branch : Branch) × (slice_get branches k ≡ Some branch)
  branch_there f s args branches sig env known k tys given =
      let tree = zip_left (AreTrees a.types) sig.branches (gives (fam_of a.types sig.libfunc)) k tys known.signature.1.branches given in
      let flow = zip_left (Gives a.envs f s known.rest) branches sig.branches k tree.0 known.gives tree.1 in
      (flow.0, flow.1)
