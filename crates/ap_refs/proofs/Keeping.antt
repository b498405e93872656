-- What is known where statements begin stays bounded, by the number of statements that are done.
use Rattle.std.proofs.Common.{◌≡◌, ℕ, zero, suc, ◌+◌, ◌-◌, ◌*◌, ◌^◌, ◌<◌, ◌≤◌, ℤ, pos, ◌-ℤ◌, ◌≤ℤ◌, List, [], ◌∷◌, length, map, take, drop, Option, Some, None, IfSome, option_map, unwrap_or, Result, Ok, Err, refl, sym, ap, subst, ◌∙◌, arith, inl, inr, ◌⊎◌}
use Rattle.std.specs.List.{slice_get, All, range_with_len}
use Rattle.std.proofs.lemmas.Int.{ints}
use Rattle.std.proofs.lemmas.List.Elements.{All-nil, All-cons, All-head, All-tail, All-take, All-drop}
use Rattle.std.proofs.lemmas.Option.{none-some, same_Some, slice_get_within, some_pair_parts}
use Rattle.sierra_types.specs.declared.program.Program.{Program}
use Rattle.sierra_types.specs.declared.program.Function.{Function}
use Rattle.sierra_types.specs.declared.program.Statement.{Statement}
use Rattle.sierra_types.specs.declared.program.Statement.TheVariants.{Invoke, Return}
use Rattle.sierra_types.specs.declared.program.Branch.{Branch}
use Rattle.type_table.specs.View.{TypesView, FunctionView, trees_of}
use Rattle.type_table.specs.declared.type_id.TypeId.{TypeId}
use Rattle.libfunc_registry.specs.declared.sig.Sig.{Sig}
use Rattle.libfunc_registry.specs.declared.libfunc.Libfunc.{Libfunc}
use Rattle.libfunc_registry.specs.Fam.{fam_of}
use Rattle.casm_word.specs.Offset.{minus}
use Rattle.type_table.specs.View.{IsTable}
use Rattle.libfunc_registry.specs.Wanted.{IsPlaced}
use Rattle.cost_table.specs.Fits.{IsCloseExpr}
use Rattle.casm_word.specs.declared.instr.Reg.{Reg}
use Rattle.casm_word.specs.declared.instr.Reg.TheVariants as reg
use Rattle.casm_word.specs.declared.cell_expr.At.{At}
use Rattle.casm_word.specs.declared.cell_expr.Side.{Side}
use Rattle.casm_word.specs.declared.cell_expr.Side.TheVariants as side
use Rattle.casm_word.specs.declared.cell_expr.CellExpr.{CellExpr}
use Rattle.casm_word.specs.declared.cell_expr.CellExpr.TheVariants as expr
use Rattle.casm_word.specs.Expressions.{lowered_at, lowered_side, lowered}
use Rattle.cost_table.specs.Results.{results, cells_of, moved_by}
use Rattle.held_list.specs.Held.{Held}
use Rattle.held_list.specs.Editing.{add}
use Rattle.held_list.proofs.Steps.{add_cases}
use Rattle.statement_walk.specs.Keeps.{Keeps}
use Rattle.linear_check.specs.Statements.{declared, target_of, param_types, variables}
use Rattle.linear_check.specs.Typed.{TypedList}
use Rattle.ap_refs.specs.declared.fault.RefFault.{RefFault}
use Rattle.ap_refs.specs.declared.place.Locals.{Locals}
use Rattle.ap_refs.specs.declared.place.Locals.TheVariants.{Before, Allocating, Done}
use Rattle.ap_refs.specs.declared.place.Place.{Place}
use Rattle.ap_refs.specs.Arguments.{Cells, Argument, taken, joined}
use Rattle.ap_refs.specs.Bounds.{IsWithinAt, IsWithinSide, IsWithin, AreWithin, IsBounded, IsNearBegin, AreFewLocals, AreFewCells, HasFewCells, most_statements, most_moved, most_cells, reach_of}
use Rattle.ap_refs.specs.Flow.{invoke_fault, return_fault, branch_parts, parts_unless, stepped_parts, step_parts, taken_parts, invoke_parts, statement_flow, entries_from, rules}
use Rattle.ap_refs.specs.Locals.{Step, local_step, size_of}
use Rattle.ap_refs.specs.Moves.{change, further, lowered_all, added_one, added, behind, argument_cell, argument_cells, beginning}
use Rattle.ap_refs.specs.Prepared.{IsTypedProgram, IsValid, widest}
use Rattle.ap_refs.proofs.Bounding.{change_short, amount_few, locals_few, moved_few}
use Rattle.ap_refs.proofs.Closeness.{no_far_fault}
use Rattle.ap_refs.proofs.Entries.{entry_of, entry_at}
use Rattle.ap_refs.proofs.Lawfulness.{invoked, step_none}
use Rattle.ap_refs.proofs.Reaching.{far, results_within}
use Rattle.ap_refs.proofs.Ready.{expr_wider, held_wider, taken_of, placed_of, signature_of, branches_of, short_moves}

-- what is added

add_of : (P : Argument → Type 0) (held : Held Cells) (v : ℕ) (cells : Cells) (more : Held Cells) → P (v, cells) → All P held → add v cells held ≡ Some more → All P more
add_of P [] v cells more new all is = subst (All P) (same_Some ((v, cells) ∷ []) more is) (All-cons P (v, cells) [] new (All-nil P))
add_of P (x ∷ xs) v cells more new all is =
    elim (add_cases x xs v cells more is) [
      | inl first ↦ subst (All P) first.1 (All-cons P (v, cells) (x ∷ xs) new all)
      | inr later ↦ subst (All P) later.1.2 (All-cons P x later.1.0 (All-head P x xs all) (add_of P xs v cells later.1.0 new (All-tail P x xs all) later.1.1))
    ]

one_of : (P : Argument → Type 0) (v : ℕ) (cells : Cells) (held : Held Cells) (o : Option (Held Cells)) → add v cells held ≡ o → P (v, cells) → All P held → All P (added_one v cells held)
one_of P v cells held None is new all = subst (λ (o : Option (Held Cells)). All P (unwrap_or o held)) (sym is) all
one_of P v cells held (Some more) is new all = subst (λ (o : Option (Held Cells)). All P (unwrap_or o held)) (sym is) (add_of P held v cells more new all is)

added_within : (reach : ℕ) (t : TypesView) (vs : List ℕ) (types : List TypeId) (cells : Cells) (held : Held Cells) → All (IsWithin reach) cells → AreWithin reach held → AreWithin reach (added t vs types cells held)
added_within reach t [] types cells held all within = within
added_within reach t (v ∷ vs) [] cells held all within = within
added_within reach t (v ∷ vs) (ty ∷ tys) cells held all within =
    let n = size_of t ty in
    added_within reach t vs tys (drop n cells) (added_one v (take n cells) held) (All-drop (IsWithin reach) n cells all)
    (one_of (λ (x : Argument). All (IsWithin reach) x.1) v (take n cells) held (add v (take n cells) held) refl (All-take (IsWithin reach) n cells all) within)

-- what is named anew

minus_least : (a : ℕ) (off : ℤ) → minus a ≤ℤ off → (pos 0 -ℤ pos a) ≤ℤ off
minus_least zero off is = omega (arith, ints)
minus_least (suc a) off is = omega (arith, ints)

least_minus : (a : ℕ) (off : ℤ) → (pos 0 -ℤ pos a) ≤ℤ off → minus a ≤ℤ off
least_minus zero off is = omega (arith, ints)
least_minus (suc a) off is = omega (arith, ints)

lower_least : (a d : ℕ) (off : ℤ) → (pos 0 -ℤ pos a) ≤ℤ off → (pos 0 -ℤ pos (a + d)) ≤ℤ (off -ℤ pos d)
lower_least a d off is = grind (arith, ints)

lower_most : (a d : ℕ) (off : ℤ) → off ≤ℤ pos a → (off -ℤ pos d) ≤ℤ pos (a + d)
lower_most a d off is = grind (arith, ints)

stay_least : (a d : ℕ) (off : ℤ) → (pos 0 -ℤ pos a) ≤ℤ off → (pos 0 -ℤ pos (a + d)) ≤ℤ off
stay_least a d off is = grind (arith, ints)

stay_most : (a d : ℕ) (off : ℤ) → off ≤ℤ pos a → off ≤ℤ pos (a + d)
stay_most a d off is = grind (arith, ints)

lower_off : (a d : ℕ) (base : Reg) (off : ℤ) → IsWithinAt a (record { base = base; off = off }) → IsWithinAt (a + d) (lowered_at d (record { base = base; off = off }))
lower_off a d reg.Ap off within = record { least = least_minus (a + d) (off -ℤ pos d) (lower_least a d off (minus_least a off within.least)); most = lower_most a d off within.most }
lower_off a d reg.Fp off within = record { least = least_minus (a + d) off (stay_least a d off (minus_least a off within.least)); most = stay_most a d off within.most }

lower_side : (a d : ℕ) (s : Side) → IsWithinSide a s → IsWithinSide (a + d) (lowered_side d s)
lower_side a d (side.Cell at) within = lower_off a d at.base at.off within
lower_side a d (side.Imm n) within = tt

lower_expr : (a d : ℕ) → (e : CellExpr) → IsWithin a e → IsWithin (a + d) (lowered d e)
lower_expr a d (expr.Cell at) within = lower_off a d at.base at.off within
lower_expr a d (expr.DoubleCell at inner) within = lower_off a d at.base at.off within
lower_expr a d (expr.Imm n) within = tt
lower_expr a d (expr.Sum at s) within = (lower_off a d at.base at.off within.0, lower_side a d s within.1)
lower_expr a d (expr.Diff at s) within = (lower_off a d at.base at.off within.0, lower_side a d s within.1)
lower_expr a d (expr.Product at s) within = (lower_off a d at.base at.off within.0, lower_side a d s within.1)

lower_cells : (a d : ℕ) → (cells : Cells) → All (IsWithin a) cells → All (IsWithin (a + d)) (map (lowered d) cells)
lower_cells a d [] all = All-nil (IsWithin (a + d))
lower_cells a d (e ∷ es) all =
    All-cons (IsWithin (a + d)) (lowered d e) (map (lowered d) es) (lower_expr a d e (All-head (IsWithin a) e es all)) (lower_cells a d es (All-tail (IsWithin a) e es all))

lower_held : (a d : ℕ) → (held : Held Cells) → AreWithin a held → AreWithin (a + d) (lowered_all d held)
lower_held a d [] all = All-nil (λ (x : Argument). All (IsWithin (a + d)) x.1)
lower_held a d (x ∷ xs) all =
    All-cons (λ (x : Argument). All (IsWithin (a + d)) x.1) (x.0, map (lowered d) x.1) (lowered_all d xs)
    (lower_cells a d x.1 (All-head (λ (x : Argument). All (IsWithin a) x.1) x xs all)) (lower_held a d xs (All-tail (λ (x : Argument). All (IsWithin a) x.1) x xs all))

-- how far ap is behind a branch

further_near : (n : ℕ) (o moved : Option ℕ) → IsNearBegin n o → IfSome moved (λ d. d ≤ most_moved) → IsNearBegin (n + 1) (further o moved)
further_near n None moved near short = tt
further_near n (Some a) None near short = tt
further_near n (Some a) (Some d) near short = omega (arith, near, short)

-- what is known behind a branch

moved_few_of : (moved : Option ℕ) → IfSome moved (λ d. d ≤ most_moved) → unwrap_or moved 0 ≤ most_moved
moved_few_of None short = omega arith
moved_few_of (Some d) short = short

within_more : (n d : ℕ) (cells : Cells) → n < most_statements → All (IsWithin far) cells → All (IsWithin (reach_of (n + 1))) cells
within_more n d [] lt all = All-nil (IsWithin (reach_of (n + 1)))
within_more n d (e ∷ es) lt all =
    All-cons (IsWithin (reach_of (n + 1))) e es (expr_wider far (reach_of (n + 1)) (omega arith) (omega (arith, lt)) e (All-head (IsWithin far) e es all)) (within_more n d es lt (All-tail (IsWithin far) e es all))

bounded_behind : (t : TypesView) → HasFewCells t → IsTable t → (sig : Sig) → IsPlaced t sig.libfunc → (n s : ℕ) (place : Place) (args : List Argument) (rest : Held Cells) (step : Step) (k : ℕ) (vs : List ℕ) (types : List TypeId)
    → n < most_statements → k ≤ 1048575 → IsBounded n place → AreWithin (reach_of n) rest → All IsCloseExpr (joined args) → local_step t sig.libfunc place.ap place.locals ≡ Some step
    → IsBounded (n + 1) (behind t sig.libfunc place (joined args) rest step.0 step.1 k vs types)
bounded_behind t few table sig placed n s place args rest step k vs types lt short bounded within close local =
    let libfunc = sig.libfunc in
    let moved = change t libfunc step.1 k in
    let small = amount_few t table libfunc placed n place.ap place.locals step bounded.locals local in
    let changes = change_short t table libfunc placed step.1 k short in
    let short_moved = short_moves moved step.1 (omega (arith, small, lt)) changes in
    let by = unwrap_or moved 0 in
    let by_few = moved_few_of moved short_moved in
    let cells = within_more n 0 (results (joined args) step.1 (fam_of t libfunc) k) lt
    (results_within t table libfunc placed (joined args) step.1 k close (omega (arith, small, lt)) (moved_few t table few libfunc placed k short)) in
    let lower = held_wider (reach_of n + by) (reach_of (n + 1)) (omega (arith, by_few)) (omega (arith, lt)) (lowered_all by rest) (lower_held (reach_of n) by rest within) in
    record {
      cells = added_within (reach_of (n + 1)) t vs types (results (joined args) step.1 (fam_of t libfunc) k) (lowered_all by rest) cells lower;
      ap = further_near n place.ap moved bounded.ap short_moved;
      locals = locals_few t table libfunc placed n place.ap place.locals step bounded.locals local moved changes;
    }

-- which branch a part is of

part_of : (t : TypesView) (s : ℕ) (libfunc : Libfunc) (place : Place) (args : Cells) (rest : Held Cells) (locals : Locals) (amount n : ℕ) (bs : List Branch) (types : List (List TypeId)) (k target : ℕ) (given : Place)
    → slice_get (branch_parts t s libfunc place args rest locals amount n bs types) k ≡ Some (Ok (target, given))
    → (vs : List ℕ) × (ts : List TypeId) × (k < length types) × (given ≡ behind t libfunc place args rest locals amount (n + k) vs ts)
part_of t s libfunc place args rest locals amount n [] types k target given is = absurd (none-some _ is)
part_of t s libfunc place args rest locals amount n (b ∷ bs) [] k target given is = absurd (none-some _ is)
part_of t s libfunc place args rest locals amount n (b ∷ bs) (ts ∷ types) zero target given is =
    let same : n ≡ n + 0 = omega arith in
    let whole : ◌≡◌ {A = ℕ × Place} (target, given) (target_of s b.target, behind t libfunc place args rest locals amount n b.results ts) = (let e = same_Some _ _ is in cc) in
    (b.results, ts, omega arith, ap (λ (x : ℕ × Place). x.1) whole ∙ ap (λ m. behind t libfunc place args rest locals amount m b.results ts) same)
part_of t s libfunc place args rest locals amount n (b ∷ bs) (ts ∷ types) (suc k) target given is =
    let later = part_of t s libfunc place args rest locals amount (n + 1) bs types k target given is in
    let same : (n + 1) + k ≡ n + suc k = omega arith in
    (later.0, later.1, (let lt = later.2 in omega (arith, lt)), later.3 ∙ ap (λ m. behind t libfunc place args rest locals amount m later.0 later.1) same)

pub no_fault : (fault : Option RefFault) (parts : List (Result (ℕ × Place) RefFault)) (k target : ℕ) (given : Place) → slice_get (parts_unless fault parts) k ≡ Some (Ok (target, given)) → (fault ≡ None) × (slice_get parts k ≡ Some (Ok (target, given)))
no_fault None parts k target given is = (refl, is)
no_fault (Some x) parts zero target given is = (let bad : ⊥ = cc in absurd bad)
no_fault (Some x) parts (suc k) target given is = absurd (none-some _ is)

pub stepped_of : (t : TypesView) (s : ℕ) (sig : Sig) (place : Place) (args : List Argument) (rest : Held Cells) (bs : List Branch) (o : Option Step) (k target : ℕ) (given : Place) → slice_get (stepped_parts t s sig place args rest bs o) k ≡ Some (Ok (target, given))
    → (step : Step) × (o ≡ Some step) × (vs : List ℕ) × (ts : List TypeId) × (k < length sig.branches) × (given ≡ behind t sig.libfunc place (joined args) rest step.0 step.1 k vs ts)
stepped_of t s sig place args rest bs None k target given is = absurd (none-some _ is)
stepped_of t s sig place args rest bs (Some step) k target given is =
    let part = part_of t s sig.libfunc place (joined args) rest step.0 step.1 0 bs sig.branches k target given is in
    let same : 0 + k ≡ k = omega arith in
    (step, refl, part.0, part.1, part.2, part.3 ∙ ap (λ m. behind t sig.libfunc place (joined args) rest step.0 step.1 m part.0 part.1) same)

flow_bounded : (p : Program) (t : TypesView) (sigs : List Sig) (envs : TypedList) → IsTypedProgram p t sigs envs → HasFewCells t → (k n s target : ℕ) (place given : Place) (o : Option Statement) → slice_get p.statements s ≡ o
    → n < most_statements → IsBounded n place → slice_get (statement_flow p t sigs s place o) k ≡ Some (Ok (target, given)) → IsBounded (n + 1) given
flow_bounded p t sigs envs program few k n s target place given None here lt bounded is = absurd (none-some _ is)
flow_bounded p t sigs envs program few k n s target place given (Some (Return args)) here lt bounded is =
    absurd (none-some _ (no_fault (return_fault s place (taken args place.cells).0) [] k target given is).1)
flow_bounded p t sigs envs program few k n s target place given (Some (Invoke id args bs)) here lt bounded is =
    let inside = slice_get_within p.statements s (Invoke id args bs) here in
    let invokes = (invoked p t sigs envs program.typed s inside id args bs here).2 in
    let sig = invokes.sig in
    let x = taken args place.cells in
    let step = local_step t sig.libfunc place.ap place.locals in
    let known : slice_get (taken_parts t s sig place bs x) k ≡ Some (Ok (target, given)) = ap (λ d. slice_get (invoke_parts t s args bs place d) k) (sym invokes.declared_as) ∙ is in
    let passes = no_fault (invoke_fault s t sig.libfunc x.0 x.1 step) (stepped_parts t s sig place x.0 x.1 bs step) k target given known in
    let tests = step_none s t sig.libfunc x.0 x.1 step passes.0 in
    let part = stepped_of t s sig place x.0 x.1 bs step k target given passes.1 in
    let table = program.types.kept in
    let signature = signature_of p t sigs program.signatures id sig invokes.declared_as in
    let most = branches_of p t sigs envs program s id args bs sig here invokes.declared_as in
    let below = part.4 in
    subst (IsBounded (n + 1)) (sym part.5)
    (bounded_behind t few table sig (placed_of t sig table signature) n s place x.0 x.1 part.0 k part.2 part.3 lt (omega (arith, below, most)) bounded
    (taken_of (λ (y : Argument). All (IsWithin (reach_of n)) y.1) args place.cells bounded.cells) (no_far_fault s x.0 tests.0) part.1)

-- where functions begin

frame_within : (n k m : ℕ) → k + m ≤ n → n < most_cells → All (IsWithin (reach_of 0)) (map (argument_cell n) (range_with_len k m))
frame_within n k zero le small = All-nil (IsWithin (reach_of 0))
frame_within n k (suc m) le small =
    All-cons (IsWithin (reach_of 0)) (argument_cell n k) (map (argument_cell n) (range_with_len (k + 1) m))
    (record { least = omega (arith, ints); most = omega (arith, ints) }) (frame_within n (k + 1) m (omega (arith, le)) small)

params_few : (t : TypesView) → HasFewCells t → (f : ℕ) (o : Option FunctionView) → slice_get t.functions f ≡ o → cells_of (trees_of t (unwrap_or (option_map (λ (g : FunctionView). g.params) o) [])) < most_cells
params_few t few f None is = omega arith
params_few t few f (Some g) is = (few f g is).params

beginning_bounded : (t : TypesView) → HasFewCells t → (vs : List ℕ) (f : ℕ) → IsBounded 0 (beginning t vs (param_types t f))
beginning_bounded t few vs f =
    let n = cells_of (trees_of t (param_types t f)) in
    record {
      cells = added_within (reach_of 0) t vs (param_types t f) (argument_cells n) [] (frame_within n 0 n (omega arith) (params_few t few f (slice_get t.functions f) refl)) (All-nil (λ (x : Argument). All (IsWithin (reach_of 0)) x.1));
      ap = omega arith;
      locals = omega arith;
    }

pub mapped_some : {A B : Type 0} (f : A → B) (o : Option A) (y : B) → option_map f o ≡ Some y → (x : A) × (o ≡ Some x) × (f x ≡ y)
mapped_some f None y is = absurd (none-some y is)
mapped_some f (Some x) y is = (x, refl, same_Some (f x) y is)

pub wider_locals : (n : ℕ) (o : Option ℕ) (locals : Locals) → AreFewLocals n o locals → AreFewLocals (n + 1) o locals
wider_locals n None Before few = tt
wider_locals n (Some a) Before few = omega (arith, few)
wider_locals n o (Allocating start cells) few = omega (arith, few)
wider_locals n o Done few = tt

wider_near : (n : ℕ) (o : Option ℕ) → IsNearBegin n o → IsNearBegin (n + 1) o
wider_near n None near = tt
wider_near n (Some a) near = omega (arith, near)

bounded_more : (n : ℕ) (place : Place) → n < most_statements → IsBounded n place → IsBounded (n + 1) place
bounded_more n place lt bounded = record {
  cells = held_wider (reach_of n) (reach_of (n + 1)) (omega arith) (omega (arith, lt)) place.cells bounded.cells;
  ap = wider_near n place.ap bounded.ap;
  locals = wider_locals n place.ap place.locals bounded.locals;
}

pub keeps : (p : Program) (t : TypesView) (sigs : List Sig) (envs : TypedList) → IsTypedProgram p t sigs envs → HasFewCells t → Keeps (rules p t sigs) IsValid
keeps p t sigs envs program few = record {
  begins = λ i s e is le.
      (let found = mapped_some (entry_of t i) (slice_get p.functions i) (s, e) (sym (entry_at t p.functions 0 i i (omega arith)) ∙ is) in
      let same = ap (λ (x : ℕ × Place). x.1) found.2 in
      subst (IsBounded 0) same (beginning_bounded t few (variables found.0) i));
  flows = λ k n f s target place given inside valid is le.
      flow_bounded p t sigs envs program few k n s target place given (slice_get p.statements s) refl (omega (arith, le)) (valid (omega (arith, le))) is;
  stays = λ n s place valid le. bounded_more n place (omega (arith, le)) (valid (omega (arith, le)));
}
