-- What holds of the cells of each variable along a typed program, by its type.
use Rattle.std.proofs.Common.{◌≡◌, ℕ, zero, suc, ◌<◌, List, [], ◌∷◌, length, map, take, drop, Option, Some, None, option_map, refl, sym, ap, subst, ◌∙◌, arith}
use Rattle.std.specs.List.{slice_get, AllZip}
use Rattle.std.specs.Option.{unwrap_or}
use Rattle.std.proofs.Math.ListN.{length-map}
use Rattle.std.proofs.lemmas.Option.{none-some, same_Some, slice_get_within, some_pair_parts}
use Rattle.sierra_types.specs.declared.program.Program.{Program}
use Rattle.sierra_types.specs.declared.program.Function.{Function}
use Rattle.sierra_types.specs.declared.program.Statement.{Statement}
use Rattle.sierra_types.specs.declared.program.Statement.TheVariants.{Invoke, Return}
use Rattle.sierra_types.specs.declared.program.Branch.{Branch}
use Rattle.type_table.specs.Table.{HasTypes}
use Rattle.type_table.specs.View.{TypesView, FunctionView, trees_of}
use Rattle.type_table.specs.declared.type_id.TypeId.{TypeId}
use Rattle.libfunc_registry.specs.declared.sig.Sig.{Sig}
use Rattle.libfunc_registry.specs.Fam.{fam_of}
use Rattle.casm_word.specs.Expressions.{lowered}
use Rattle.cost_table.specs.Fits.{IsSignature}
use Rattle.cost_table.specs.Results.{cells_of, results}
use Rattle.held_list.specs.Held.{Held, Each}
use Rattle.held_list.specs.Editing.{add}
use Rattle.held_list.specs.Editing.{take as take_out}
use Rattle.held_list.proofs.Lifting.{take_lifts, add_lifts}
use Rattle.statement_walk.proofs.Arrivals.{inside}
use Rattle.linear_check.specs.Statements.{declared, target_of, targets_of, leads_of, param_types, variables}
use Rattle.linear_check.specs.Typed.{TypedList, Takes, Adds, Gives, Invokes, IsReached, entry, along, Typed}
use Rattle.linear_check.proofs.Parameters.{params_found}
use Rattle.ap_refs.specs.declared.place.Place.{Place}
use Rattle.ap_refs.specs.Arguments.{Cells, Argument, taken_out, taken, joined}
use Rattle.ap_refs.specs.Locals.{size_of}
use Rattle.ap_refs.specs.Moves.{lowered_all, added_one, added, change, argument_cells}
use Rattle.ap_refs.specs.Placed.{PlacedList, Placed}
use Rattle.ap_refs.specs.Prepared.{IsTypedProgram}
use Rattle.ap_refs.proofs.Lawfulness.{typed_at}
use Rattle.ap_refs.proofs.Ready.{signature_of}

-- what is asked of the cells of a variable, by its type
abbrev pub Asked : Type 1
Asked = TypeId → Cells → Type 0

-- these cells, cut by the sizes of the types, are as is asked
abbrev pub AreParts : Asked → TypesView → List TypeId → Cells → Type 0
AreParts P t [] own = Unit {0}
AreParts P t (ty ∷ tys) own = P ty (take (size_of t ty) own) × AreParts P t tys (drop (size_of t ty) own)

-- a statement has the same function in both lists, and holds the same variables, whose cells are as is asked
abbrev pub IsHeldAs : Asked → TypedList → PlacedList → ℕ → Type 0
IsHeldAs P envs a s = (f : ℕ) (held : Held TypeId) (g : ℕ) (place : Place) → slice_get envs s ≡ Some (f, held) → slice_get a s ≡ Some (g, place) → (f ≡ g) × Each P held place.cells

-- the arguments' cells are as is asked
abbrev pub AreArguments : Asked → List TypeId → List Argument → Type 0
AreArguments P types args = AllZip (λ ty (x : Argument). P ty x.1) types args

-- naming cells anew keeps what is asked
abbrev pub Lowers : Asked → Type 0
Lowers P = (ty : TypeId) (n : ℕ) (cells : Cells) → P ty cells → P ty (map (lowered n) cells)

-- the cells of parameters are as is asked
abbrev pub Begins : Asked → TypesView → Type 0
Begins P t = (f : ℕ) → AreParts P t (param_types t f) (argument_cells (cells_of (trees_of t (param_types t f))))

-- where the arguments' cells are as is asked, those of the results are
abbrev pub HandsOn : Asked → TypesView → Type 0
HandsOn P t = (sig : Sig) → IsSignature t sig → (args : List Argument) → AreArguments P sig.params args → (amount k : ℕ) (types : List TypeId) → slice_get sig.branches k ≡ Some types
    → AreParts P t types (results (joined args) amount (fam_of t sig.libfunc) k)

module _ (P : Asked) where
  out_held : (v : ℕ) (t : TypeId) (held rest : Held TypeId) (cells : Held Cells) → Each P held cells → take_out v held ≡ Some (t, rest) → P t (taken_out v cells).0 × Each P rest (taken_out v cells).1
  out_held v t held rest cells same is =
      let found = take_lifts P held cells v t rest same is in
      subst (λ (o : Option (Cells × Held Cells)). P t (unwrap_or o ([], cells)).0 × Each P rest (unwrap_or o ([], cells)).1) (sym found.2) (found.3, found.4)

  pub taken_held : (vs : List ℕ) (ts : List TypeId) (held rest : Held TypeId) (cells : Held Cells) → Each P held cells → Takes vs ts held rest → AreArguments P ts (taken vs cells).0 × Each P rest (taken vs cells).1
  taken_held [] [] held rest cells same takes = (tt, subst (λ h. Each P h cells) takes same)
  taken_held [] (t ∷ ts) held rest cells same takes = absurd takes
  taken_held (v ∷ vs) [] held rest cells same takes = absurd takes
  taken_held (v ∷ vs) (t ∷ ts) held rest cells same takes =
      let one = out_held v t held takes.0 cells same takes.1 in
      let more = taken_held vs ts takes.0 rest (taken_out v cells).1 one.1 takes.2 in
      ((one.0, more.0), more.1)

  lowered_held : Lowers P → (n : ℕ) (held : Held TypeId) (cells : Held Cells) → Each P held cells → Each P held (lowered_all n cells)
  lowered_held lower n [] [] same = tt
  lowered_held lower n [] (c ∷ cs) same = absurd same
  lowered_held lower n (h ∷ hs) [] same = absurd same
  lowered_held lower n (h ∷ hs) (c ∷ cs) same = (same.0, lower h.1 n c.1 same.1, lowered_held lower n hs cs same.2)

  one_held : (v : ℕ) (t : TypeId) (own : Cells) (held more : Held TypeId) (cells : Held Cells) → Each P held cells → P t own → add v t held ≡ Some more → Each P more (added_one v own cells)
  one_held v t own held more cells same fits is =
      let found = add_lifts P held cells v t own more same fits is in
      subst (λ (o : Option (Held Cells)). Each P more (unwrap_or o cells)) (sym found.1) found.2

  added_held : (t : TypesView) (vs : List ℕ) (ts : List TypeId) (own : Cells) (held more : Held TypeId) (cells : Held Cells) → Each P held cells → AreParts P t ts own → Adds vs ts held more → Each P more (added t vs ts own cells)
  added_held t [] [] own held more cells same parts adds = subst (λ h. Each P h cells) adds same
  added_held t [] (ty ∷ ts) own held more cells same parts adds = absurd adds
  added_held t (v ∷ vs) [] own held more cells same parts adds = absurd adds
  added_held t (v ∷ vs) (ty ∷ ts) own held more cells same parts adds =
      added_held t vs ts (drop (size_of t ty) own) adds.0 more (added_one v (take (size_of t ty) own) cells) (one_held v ty (take (size_of t ty) own) held adds.0 cells same parts.0 adds.1) parts.1 adds.2

  -- two lists that have these at a statement have nothing else there
  held_there : (envs : TypedList) (a : PlacedList) (s f : ℕ) (held : Held TypeId) (place : Place) → slice_get envs s ≡ Some (f, held) → slice_get a s ≡ Some (f, place) → Each P held place.cells → IsHeldAs P envs a s
  held_there envs a s f held place typed placed same g h other x there here =
      let one = some_pair_parts f g held h (sym typed ∙ there) in
      let two = some_pair_parts f other place x (sym placed ∙ here) in
      (sym one.0 ∙ two.0, subst (λ c. Each P h c) (ap (λ (p : Place). p.cells) two.1) (subst (λ d. Each P d place.cells) one.1 same))

function_types : (p : Program) (t : TypesView) → HasTypes p t → (f : ℕ) (g : Function) → slice_get p.functions f ≡ Some g → (types : FunctionView) × (slice_get t.functions f ≡ Some types)
function_types p t has f g is =
    let lt = slice_get_within p.functions f g is in
    let named = ap length has.function_ids in
    let counted : length t.function_ids ≡ length p.functions = simp length-map at named in
    inside t.functions f (omega (arith, has.kept.each_function_named))

branch_at : (s : ℕ) (bs : List Branch) (k u : ℕ) → slice_get (targets_of s bs) k ≡ Some u → (b : Branch) × (slice_get bs k ≡ Some b) × (target_of s b.target ≡ u)
branch_at s [] k u is = absurd (none-some u is)
branch_at s (b ∷ bs) zero u is = (b, refl, same_Some (target_of s b.target) u is)
branch_at s (b ∷ bs) (suc k) u is = branch_at s bs k u is

zipped_at : {A B : Type 0} (R : A → B → Type 0) (xs : List A) (ys : List B) (k : ℕ) (x : A) → AllZip R xs ys → slice_get xs k ≡ Some x → (y : B) × (slice_get ys k ≡ Some y) × R x y
zipped_at R [] ys k x all is = absurd (none-some x is)
zipped_at R (z ∷ xs) [] k x all is = absurd all
zipped_at R (z ∷ xs) (y ∷ ys) zero x all is = (y, refl, subst (λ w. R w y) (same_Some z x is) all.0)
zipped_at R (z ∷ xs) (y ∷ ys) (suc k) x all is = zipped_at R xs ys k x all.1 is

module _ (p : Program) (t : TypesView) (sigs : List Sig) (envs : TypedList) (program : IsTypedProgram p t sigs envs) (a : PlacedList) (placed : Placed p t sigs a) (P : Asked) where
  pub placed_at : (s : ℕ) → s < length p.statements → (x : ℕ × Place) × (slice_get a s ≡ Some x)
  placed_at s lt = inside a s (subst (λ n. s < n) (sym placed.long) lt)

  -- the arguments of a libfunc's statement are as is asked
  pub arguments_held : (s : ℕ) → IsHeldAs P envs a s → (f : ℕ) (place : Place) (id args : List ℕ) (bs : List Branch) (sig : Sig) → slice_get p.statements s ≡ Some (Invoke id args bs) → slice_get a s ≡ Some (f, place)
      → declared p sigs id ≡ Some sig → AreArguments P sig.params (taken args place.cells).0
  arguments_held s held f place id args bs sig is there known =
      let lt = slice_get_within p.statements s (Invoke id args bs) is in
      let env = typed_at p t sigs envs program.typed s lt in
      let both = held env.0.0 env.0.1 f place env.1 there in
      let typed = program.typed.statements s env.0.0 env.0.1 (Invoke id args bs) is env.1 in
      let same : typed.sig ≡ sig = same_Some typed.sig sig (sym typed.declared_as ∙ known) in
      subst (λ (g : Sig). AreArguments P g.params (taken args place.cells).0) same (taken_held P args typed.sig.params env.0.1 typed.rest place.cells both.1 typed.takes).0

  module _ (lower : Lowers P) (begins : Begins P t) (give : HandsOn P t) where
    led : (k s u : ℕ) (statement : Statement) → slice_get p.statements s ≡ Some statement → slice_get (leads_of s statement) k ≡ Some u → IsHeldAs P envs a s → IsHeldAs P envs a u
    led k s u (Return args) is lead held = absurd (none-some u lead)
    led k s u (Invoke id args bs) is lead held =
        let lt = slice_get_within p.statements s (Invoke id args bs) is in
        let env = typed_at p t sigs envs program.typed s lt in
        let at = placed_at s lt in
        let both = held env.0.0 env.0.1 at.0.0 at.0.1 env.1 at.1 in
        let typed = program.typed.statements s env.0.0 env.0.1 (Invoke id args bs) is env.1 in
        let passes = placed.statements s at.0.0 at.0.1 (Invoke id args bs) is at.1 in
        let b = branch_at s bs k u lead in
        let given = zipped_at (Gives envs env.0.0 s typed.rest) bs typed.sig.branches k b.0 typed.gives b.1 in
        let sig : typed.sig ≡ passes.0 = same_Some typed.sig passes.0 (sym typed.declared_as ∙ passes.1) in
        let types = ap (λ (g : Sig). slice_get g.branches k) (sym sig) ∙ given.1 in
        let target = passes.2.gives k b.0 given.0 b.1 types in
        let cut = taken_held P args typed.sig.params env.0.1 typed.rest at.0.1.cells both.1 typed.takes in
        let params = subst (λ (g : Sig). AreArguments P g.params (taken args at.0.1.cells).0) sig cut.0 in
        let signature = signature_of p t sigs program.signatures id passes.0 passes.1 in
        let own = give passes.0 signature (taken args at.0.1.cells).0 params passes.2.amount k given.0 types in
        let moved = unwrap_or (change t passes.0.libfunc passes.2.amount k) 0 in
        let more = added_held P t b.0.results given.0 (results (joined (taken args at.0.1.cells).0) passes.2.amount (fam_of t passes.0.libfunc) k) typed.rest given.2.0 (lowered_all moved (taken args at.0.1.cells).1)
        (lowered_held P lower moved typed.rest (taken args at.0.1.cells).1 cut.1) own given.2.1 in
        subst (IsHeldAs P envs a) b.2
        (held_there P envs a (target_of s b.0.target) at.0.0 given.2.0 _ (given.2.2 ∙ ap (λ n. Some (n, given.2.0)) both.0) target more)

    reached_held : (s : ℕ) → IsReached p s → IsHeldAs P envs a s
    reached_held u (entry f g is) =
        let types = function_types p t program.types f g is in
        let typed = program.typed.entries f g types.0 is types.1 in
        let here = placed.entries f g is in
        held_there P envs a g.entry f typed.0 _ typed.2 here
        (added_held P t (variables g) (param_types t f) (argument_cells (cells_of (trees_of t (param_types t f)))) [] typed.0 [] tt (begins f)
        (subst (λ ts. Adds (variables g) ts [] typed.0) (sym (params_found t f types.0 types.1)) typed.1))
    reached_held u (along k s v statement before is lead) = led k s v statement is lead (reached_held s before)

    -- at each statement
    pub held_at : (s : ℕ) → s < length p.statements → IsHeldAs P envs a s
    held_at s lt = reached_held s (program.typed.reached s lt)
