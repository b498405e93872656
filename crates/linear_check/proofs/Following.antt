-- A statement's flow follows a list if and only if the statement is typed with it.
use Rattle.std.proofs.Common.{◌≡◌, ℕ, ◌≤◌, Bool, true, List, [], ◌∷◌, length, Option, Some, Result, Ok, Err, refl, sym, ap, subst, ◌∙◌}
use Rattle.std.specs.List.{slice_get, AllByRecursion, AllZip}
use Rattle.std.proofs.lemmas.Bool.{leb-true, le-leb, eqb-true, eq-eqb}
use Rattle.sierra_types.specs.declared.program.Program.{Program}
use Rattle.sierra_types.specs.declared.program.Statement.{Statement}
use Rattle.sierra_types.specs.declared.program.Statement.TheVariants.{Invoke, Return}
use Rattle.sierra_types.specs.declared.program.Branch.{Branch}
use Rattle.type_table.specs.View.{TypesView}
use Rattle.type_table.specs.declared.type_id.TypeId.{TypeId}
use Rattle.libfunc_registry.specs.declared.sig.Sig.{Sig}
use Rattle.held_list.specs.Held.{Held}
use Rattle.held_list.specs.Editing.{or_stop}
use Rattle.statement_walk.specs.Walk.{and_then}
use Rattle.statement_walk.specs.Annotates.{Follows}
use Rattle.statement_walk.proofs.Arrivals.{same_Ok}
use Rattle.statement_walk.proofs.Deliveries.{and_then_ok}
use Rattle.linear_check.specs.declared.fault.LinearFault.{LinearFault}
use Rattle.linear_check.specs.declared.fault.LinearFault.TheVariants.{Shape}
use Rattle.linear_check.specs.Statements.{target_of, result_types}
use Rattle.linear_check.specs.Typed.{TypedList, Takes, Adds, Gives, IsAligned, Invokes, IsTypedAt}
use Rattle.linear_check.specs.Flow.{or_fault, taken, nothing_left, added, aligned, shaped, branch_part, branch_parts, spread, several, return_parts, invoke_parts, statement_flow}
use Rattle.linear_check.proofs.Lawfulness.{return_ok, invoke_ok}
use Rattle.linear_check.proofs.Passing.{takes_long, takes_taken, taken_takes, left_nothing, adds_added, added_adds, shape_is, is_shape, passes_aligned, aligned_passes}

-- parts that follow a list are there

follows_one : {E F : Type 0} (at : ℕ → Option (ℕ × E)) (f : ℕ) (o : Result (ℕ × E) F) (parts : List (Result (ℕ × E) F)) → Follows at f (o ∷ parts) → (x : ℕ × E) × (o ≡ Ok x) × (at x.0 ≡ Some (f, x.1)) × Follows at f parts
follows_one at f (Ok x) parts is = (x, refl, is.0, is.1)
follows_one at f (Err y) parts is = absurd is

one_follows : {E F : Type 0} (at : ℕ → Option (ℕ × E)) (f : ℕ) (o : Result (ℕ × E) F) (parts : List (Result (ℕ × E) F)) (x : ℕ × E) → o ≡ Ok x → at x.0 ≡ Some (f, x.1) → Follows at f parts → Follows at f (o ∷ parts)
one_follows at f o parts x is here later = subst (λ r. Follows at f (r ∷ parts)) (sym is) (here, later)

follows_spread : {E F : Type 0} (at : ℕ → Option (ℕ × E)) (f : ℕ) (o : Result (List (Result (ℕ × E) F)) F) → Follows at f (spread o) → (parts : List (Result (ℕ × E) F)) × (o ≡ Ok parts) × Follows at f parts
follows_spread at f (Ok parts) is = (parts, refl, is)
follows_spread at f (Err y) is = absurd is

-- branches

part_gives : (p : Program) (sigs : List Sig) (s : ℕ) (more : Bool) (rest : Held TypeId) (b : Branch) (ts : List TypeId) (x : ℕ × Held TypeId) → length b.results ≡ length ts → branch_part p sigs s more rest b ts ≡ Ok x
    → (x.0 ≡ target_of s b.target) × Adds b.results ts rest x.1 × (more ≡ true → IsAligned p sigs s b)
part_gives p sigs s more rest b ts x long is =
    let t = target_of s b.target in
    let held = and_then_ok (added s b.results ts rest) (λ held. and_then (aligned p sigs s more t) (λ _. Ok (t, held))) x is in
    let passed = and_then_ok (aligned p sigs s more t) (λ _. Ok (t, held.0)) x held.2 in
    let same = same_Ok {F = LinearFault} (t, held.0) x passed.2 in
    let adds = subst (Adds b.results ts rest) (ap (λ (y : ℕ × Held TypeId). y.1) same) (added_adds s b.results ts rest held.0 long held.1) in
    (ap (λ (y : ℕ × Held TypeId). y.0) (sym same), adds, λ are. passes_aligned p sigs s b passed.0 (subst (λ m. aligned p sigs s m t ≡ Ok passed.0) are passed.1))

abbrev ok_part : ℕ × Held TypeId → Result (ℕ × Held TypeId) LinearFault
ok_part x = Ok x

gives_part : (p : Program) (sigs : List Sig) (s : ℕ) (more : Bool) (rest : Held TypeId) (b : Branch) (ts : List TypeId) (held : Held TypeId) → Adds b.results ts rest held → (more ≡ true → IsAligned p sigs s b)
    → branch_part p sigs s more rest b ts ≡ Ok (target_of s b.target, held)
gives_part p sigs s more rest b ts held adds are =
    let t = target_of s b.target in
    let next = λ (h : Held TypeId). and_then (aligned p sigs s more t) (λ _. ok_part (t, h)) in
    ap (λ o. and_then o next) (adds_added s b.results ts rest held adds) ∙ ap (λ o. and_then o (λ _. Ok (t, held))) (aligned_passes p sigs s more b are)

branches_give : (p : Program) (sigs : List Sig) (a : TypedList) (f s : ℕ) (more : Bool) (rest : Held TypeId) (bs : List Branch) (types : List (List TypeId)) → AllZip (λ (b : Branch) (ts : List TypeId). length b.results ≡ length ts) bs types
    → Follows (slice_get a) f (branch_parts p sigs s more rest bs types) → AllZip (Gives a f s rest) bs types × (more ≡ true → AllByRecursion (IsAligned p sigs s) bs)
branches_give p sigs a f s more rest [] [] long follows = (tt, λ _. tt)
branches_give p sigs a f s more rest [] (ts ∷ types) long follows = absurd long
branches_give p sigs a f s more rest (b ∷ bs) [] long follows = absurd long
branches_give p sigs a f s more rest (b ∷ bs) (ts ∷ types) long follows =
    let first = follows_one (slice_get a) f (branch_part p sigs s more rest b ts) (branch_parts p sigs s more rest bs types) follows in
    let gives = part_gives p sigs s more rest b ts first.0 long.0 first.1 in
    let later = branches_give p sigs a f s more rest bs types long.1 first.3 in
    let there : slice_get a (target_of s b.target) ≡ Some (f, first.0.1) = ap (slice_get a) (sym gives.0) ∙ first.2 in
    (((first.0.1, gives.1, there), later.0), λ are. (gives.2 are, later.1 are))

give_branches : (p : Program) (sigs : List Sig) (a : TypedList) (f s : ℕ) (more : Bool) (rest : Held TypeId) (bs : List Branch) (types : List (List TypeId)) → AllZip (Gives a f s rest) bs types → (more ≡ true → AllByRecursion (IsAligned p sigs s) bs)
    → Follows (slice_get a) f (branch_parts p sigs s more rest bs types)
give_branches p sigs a f s more rest [] [] gives are = tt
give_branches p sigs a f s more rest [] (ts ∷ types) gives are = absurd gives
give_branches p sigs a f s more rest (b ∷ bs) [] gives are = absurd gives
give_branches p sigs a f s more rest (b ∷ bs) (ts ∷ types) gives are =
    let first = gives.0 in
    let part = gives_part p sigs s more rest b ts first.0 first.1 (λ is. (are is).0) in
    one_follows (slice_get a) f (branch_part p sigs s more rest b ts) (branch_parts p sigs s more rest bs types) (target_of s b.target, first.0) part first.2
    (give_branches p sigs a f s more rest bs types gives.1 (λ is. (are is).1))

-- statements

abbrev all_parts : List (Result (ℕ × Held TypeId) LinearFault) → Result (List (Result (ℕ × Held TypeId) LinearFault)) LinearFault
all_parts parts = Ok parts

abbrev no_parts : Result (List (Result (ℕ × Held TypeId) LinearFault)) LinearFault
no_parts = Ok []

return_typed : (p : Program) (t : TypesView) (sigs : List Sig) (a : TypedList) (s f : ℕ) (held : Held TypeId) (args : List ℕ) → Follows (slice_get a) f (statement_flow p t sigs f s held (Some (Return args))) → Takes args (result_types t f) held []
return_typed p t sigs a s f held args follows =
    let passed = follows_spread (slice_get a) f (return_parts s args (result_types t f) held) follows in
    let ok = return_ok s args (result_types t f) held passed.0 passed.1 in
    let rest = ok.1.0 in
    let empty = left_nothing s rest ok.1.2 ok.1.3 in
    taken_takes s args (result_types t f) held [] (eqb-true (length args) (length (result_types t f)) ok.0) (ok.1.1 ∙ ap Ok empty)

typed_return : (p : Program) (t : TypesView) (sigs : List Sig) (a : TypedList) (s f : ℕ) (held : Held TypeId) (args : List ℕ) → Takes args (result_types t f) held [] → Follows (slice_get a) f (statement_flow p t sigs f s held (Some (Return args)))
typed_return p t sigs a s f held args takes =
    let types = result_types t f in
    let ends = λ (rest : Held TypeId). and_then (nothing_left s rest) (λ _. no_parts) in
    let long = ap (λ b. and_then (or_fault b (Shape s)) (λ _. and_then (taken s args types held) ends)) (eq-eqb (length args) (length types) (takes_long args types held [] takes)) in
    let passes : return_parts s args types held ≡ no_parts = long ∙ ap (λ o. and_then o ends) (takes_taken s args types held [] takes) in
    subst (λ o. Follows (slice_get a) f (spread o)) (sym passes) tt

several_from : (bs : List Branch) → 2 ≤ length bs → several bs ≡ true
several_from bs more = le-leb 2 (length bs) more

several_is : (bs : List Branch) → several bs ≡ true → 2 ≤ length bs
several_is bs is = leb-true 2 (length bs) is

invoke_typed : (p : Program) (t : TypesView) (sigs : List Sig) (a : TypedList) (s f : ℕ) (held : Held TypeId) (id args : List ℕ) (bs : List Branch) → Follows (slice_get a) f (statement_flow p t sigs f s held (Some (Invoke id args bs))) → Invokes p sigs a f s held id args bs
invoke_typed p t sigs a s f held id args bs follows =
    let passed = follows_spread (slice_get a) f (invoke_parts p sigs s id args bs held) follows in
    let ok = invoke_ok p sigs s id args bs held passed.0 passed.1 in
    let sig = ok.0 in
    let rest = ok.3 in
    let is = shape_is (length p.statements) s sig args bs ok.2 in
    let parts : Follows (slice_get a) f (branch_parts p sigs s (several bs) rest bs sig.branches) = subst (Follows (slice_get a) f) (sym ok.5) passed.2 in
    let gives = branches_give p sigs a f s (several bs) rest bs sig.branches is.results parts in
    record {
      sig = sig;
      declared_as = ok.1;
      shaped = is;
      rest = rest;
      takes = taken_takes s args sig.params held rest is.arguments ok.4;
      gives = gives.0;
      aligned = λ more. gives.1 (several_from bs more);
    }

typed_invoke : (p : Program) (t : TypesView) (sigs : List Sig) (a : TypedList) (s f : ℕ) (held : Held TypeId) (id args : List ℕ) (bs : List Branch) → Invokes p sigs a f s held id args bs → Follows (slice_get a) f (statement_flow p t sigs f s held (Some (Invoke id args bs)))
typed_invoke p t sigs a s f held id args bs is =
    let parts = λ (sig : Sig) (rest : Held TypeId). all_parts (branch_parts p sigs s (several bs) rest bs sig.branches) in
    let behind = λ (sig : Sig). and_then (taken s args sig.params held) (parts sig) in
    let next = λ (sig : Sig). and_then (or_fault (shaped (length p.statements) s sig args bs) (Shape s)) (λ _. behind sig) in
    let known : invoke_parts p sigs s id args bs held ≡ next is.sig = ap (λ o. or_stop o (Shape s) next) is.declared_as in
    let shape = ap (λ b. and_then (or_fault b (Shape s)) (λ _. behind is.sig)) (is_shape (length p.statements) s is.sig args bs is.shaped) in
    let takes = ap (λ o. and_then o (parts is.sig)) (takes_taken s args is.sig.params held is.rest is.takes) in
    let passes : invoke_parts p sigs s id args bs held ≡ parts is.sig is.rest = known ∙ shape ∙ takes in
    subst (λ o. Follows (slice_get a) f (spread o)) (sym passes)
    (give_branches p sigs a f s (several bs) is.rest bs is.sig.branches is.gives (λ more. is.aligned (several_is bs more)))

pub follows_typed : (p : Program) (t : TypesView) (sigs : List Sig) (a : TypedList) (s f : ℕ) (held : Held TypeId) (statement : Statement) → Follows (slice_get a) f (statement_flow p t sigs f s held (Some statement)) → IsTypedAt p t sigs a s f held statement
follows_typed p t sigs a s f held (Return args) follows = return_typed p t sigs a s f held args follows
follows_typed p t sigs a s f held (Invoke id args bs) follows = invoke_typed p t sigs a s f held id args bs follows

pub typed_follows : (p : Program) (t : TypesView) (sigs : List Sig) (a : TypedList) (s f : ℕ) (held : Held TypeId) (statement : Statement) → IsTypedAt p t sigs a s f held statement → Follows (slice_get a) f (statement_flow p t sigs f s held (Some statement))
typed_follows p t sigs a s f held (Return args) typed = typed_return p t sigs a s f held args typed
typed_follows p t sigs a s f held (Invoke id args bs) typed = typed_invoke p t sigs a s f held id args bs typed
