-- What is known of a libfunc's statement when its turn comes, and when it passes.
use Rattle.std.proofs.Common.{◌≡◌, ℕ, zero, suc, ◌+◌, ◌*◌, ◌^◌, ◌<◌, ◌≤◌, ℤ, ◌≤ℤ◌, get_or, List, [], ◌∷◌, length, map, Option, Some, None, IfSome, refl, sym, ap, subst, ◌∙◌, arith, inl, inr, ◌⊎◌}
use Rattle.std.specs.List.{slice_get, All, AllZip}
use Rattle.std.specs.Option.{option_and_then, unwrap_or}
use Rattle.std.proofs.lemmas.Int.{ints}
use Rattle.std.proofs.lemmas.List.Elements.{All-nil, All-cons, All-head, All-tail, All-weaker}
use Rattle.std.proofs.lemmas.Option.{none-some, same_Some, slice_get_within}
use Rattle.sierra_types.specs.declared.program.Program.{Program}
use Rattle.sierra_types.specs.declared.program.LibfuncDecl.{LibfuncDecl}
use Rattle.sierra_types.specs.declared.program.Statement.TheVariants.{Invoke}
use Rattle.sierra_types.specs.declared.program.Branch.{Branch}
use Rattle.type_table.specs.Naming.{place_of}
use Rattle.type_table.specs.View.{TypesView, IsTable}
use Rattle.type_table.specs.declared.type_id.TypeId.{TypeId}
use Rattle.libfunc_registry.specs.declared.sig.Sig.{Sig}
use Rattle.type_trees.specs.Ty.{Ty}
use Rattle.casm_word.specs.Offset.{minus}
use Rattle.cost_table.specs.Fits.{IsCloseExpr}
use Rattle.libfunc_registry.specs.Signature.{HasSignature, HasSignatures, AreTrees}
use Rattle.libfunc_registry.specs.Wanted.{IsPlaced, IsBelow}
use Rattle.libfunc_registry.specs.Fam.{fam_of, gives}
use Rattle.libfunc_registry.proofs.Placing.{written-placed}
use Rattle.casm_word.specs.declared.cell_expr.At.{At}
use Rattle.casm_word.specs.declared.cell_expr.Side.{Side}
use Rattle.casm_word.specs.declared.cell_expr.Side.TheVariants as side
use Rattle.casm_word.specs.declared.cell_expr.CellExpr.{CellExpr}
use Rattle.casm_word.specs.declared.cell_expr.CellExpr.TheVariants as expr
use Rattle.cost_table.specs.Fits.{IsSignature}
use Rattle.cost_table.proofs.Signatures.{trees_below}
use Rattle.held_list.specs.Held.{Held}
use Rattle.held_list.specs.Editing.{take}
use Rattle.held_list.proofs.Steps.{take_cases}
use Rattle.linear_check.specs.Statements.{declared}
use Rattle.linear_check.specs.Typed.{TypedList, Typed}
use Rattle.linear_check.proofs.OneWayIn.{few}
use Rattle.std.proofs.lemmas.Bool.{cases_order}
use Rattle.ap_refs.specs.declared.place.Locals.{Locals}
use Rattle.ap_refs.specs.declared.place.Place.{Place}
use Rattle.ap_refs.specs.Arguments.{Cells, Argument, taken_out, taken, joined}
use Rattle.ap_refs.specs.Bounds.{IsWithinAt, IsWithinSide, IsWithin, AreWithin, IsBounded, IsNearBegin, most_statements, most_moved, reach_of}
use Rattle.ap_refs.specs.Flow.{far_fault}
use Rattle.ap_refs.specs.Locals.{Step, local_step}
use Rattle.ap_refs.specs.Moves.{change}
use Rattle.ap_refs.specs.Prepared.{IsTypedProgram, IsReady, IsValid, CanBegin, CanStep, widest}
use Rattle.ap_refs.proofs.Bounding.{change_short, amount_few}
use Rattle.ap_refs.proofs.Closeness.{no_far_fault}
use Rattle.ap_refs.proofs.Lawfulness.{invoked}

-- offsets that are within a reach are within a greater one

at_wider : (a b : ℕ) (at : At) → a ≤ b → b < 2 ^ 63 → IsWithinAt a at → IsWithinAt b at
at_wider a b at le small within = let low = within.least in let high = within.most in record { least = lower a b at.off le low; most = omega (arith, ints) }
  where
    lower : (a b : ℕ) (off : ℤ) → a ≤ b → minus a ≤ℤ off → minus b ≤ℤ off
    lower zero zero off le is = is
    lower zero (suc b) off le is = omega (arith, ints)
    lower (suc a) zero off le is = absurd (omega arith)
    lower (suc a) (suc b) off le is = omega (arith, ints)

side_wider : (a b : ℕ) (s : Side) → a ≤ b → b < 2 ^ 63 → IsWithinSide a s → IsWithinSide b s
side_wider a b (side.Cell at) le small within = at_wider a b at le small within
side_wider a b (side.Imm n) le small within = tt

pub expr_wider : (a b : ℕ) → a ≤ b → b < 2 ^ 63 → (e : CellExpr) → IsWithin a e → IsWithin b e
expr_wider a b le small (expr.Cell at) within = at_wider a b at le small within
expr_wider a b le small (expr.DoubleCell at inner) within = at_wider a b at le small within
expr_wider a b le small (expr.Imm n) within = tt
expr_wider a b le small (expr.Sum at s) within = (at_wider a b at le small within.0, side_wider a b s le small within.1)
expr_wider a b le small (expr.Diff at s) within = (at_wider a b at le small within.0, side_wider a b s le small within.1)
expr_wider a b le small (expr.Product at s) within = (at_wider a b at le small within.0, side_wider a b s le small within.1)

pub held_wider : (a b : ℕ) → a ≤ b → b < 2 ^ 63 → (held : Held Cells) → AreWithin a held → AreWithin b held
held_wider a b le small held within =
    All-weaker (λ (x : Argument). All (IsWithin a) x.1) (λ (x : Argument). All (IsWithin b) x.1) (λ x cells. All-weaker (IsWithin a) (IsWithin b) (expr_wider a b le small) x.1 cells) held within

-- what is taken out leaves the others

take_all_of : (P : Argument → Type 0) (held : Held Cells) (v : ℕ) (a : Cells) (rest : Held Cells) → take v held ≡ Some (a, rest) → All P held → All P rest
take_all_of P [] v a rest is all = absurd (none-some _ is)
take_all_of P (x ∷ xs) v a rest is all =
    elim (take_cases x xs v a rest is) [
      | inl here ↦ subst (All P) here.2 (All-tail P x xs all)
      | inr behind ↦ subst (All P) behind.1.2 (All-cons P x behind.1.0 (All-head P x xs all) (take_all_of P xs v a behind.1.0 behind.1.1 (All-tail P x xs all)))
    ]

out_of : (P : Argument → Type 0) (v : ℕ) (held : Held Cells) (o : Option (Cells × Held Cells)) → take v held ≡ o → All P held → All P (taken_out v held).1
out_of P v held None is all = subst (λ (o : Option (Cells × Held Cells)). All P (unwrap_or o ([], held)).1) (sym is) all
out_of P v held (Some x) is all = subst (λ (o : Option (Cells × Held Cells)). All P (unwrap_or o ([], held)).1) (sym is) (take_all_of P held v x.0 x.1 is all)

pub taken_of : (P : Argument → Type 0) (vs : List ℕ) (held : Held Cells) → All P held → All P (taken vs held).1
taken_of P [] held all = all
taken_of P (v ∷ vs) held all = taken_of P vs (taken_out v held).1 (out_of P v held (take v held) refl all)

-- the signature of a declared libfunc

signature_in : (t : TypesView) (decls : List LibfuncDecl) (sigs : List Sig) → HasSignatures t decls sigs → (k : ℕ) (sig : Sig) → slice_get sigs k ≡ Some sig → IsSignature t sig
signature_in t [] [] has k sig is = absurd (none-some sig is)
signature_in t [] (s ∷ sigs) has k sig is = absurd has
signature_in t (d ∷ decls) [] has k sig is = absurd (none-some sig is)
signature_in t (d ∷ decls) (s ∷ sigs) has zero sig is = (d, subst (HasSignature t d) (same_Some s sig is) has.0)
signature_in t (d ∷ decls) (s ∷ sigs) has (suc k) sig is = signature_in t decls sigs has.1 k sig is

at_place : (t : TypesView) (decls : List LibfuncDecl) (sigs : List Sig) → HasSignatures t decls sigs → (o : Option ℕ) (sig : Sig) → option_and_then (slice_get sigs) o ≡ Some sig → IsSignature t sig
at_place t decls sigs has None sig is = absurd (none-some sig is)
at_place t decls sigs has (Some k) sig is = signature_in t decls sigs has k sig is

zip_length : {A B : Type 0} (R : A → B → Type 0) (xs : List A) (ys : List B) → AllZip R xs ys → length xs ≡ length ys
zip_length R [] [] all = refl
zip_length R [] (y ∷ ys) all = absurd all
zip_length R (x ∷ xs) [] all = absurd all
zip_length R (x ∷ xs) (y ∷ ys) all = ap suc (zip_length R xs ys all.1)

pub signature_of : (p : Program) (t : TypesView) (sigs : List Sig) → HasSignatures t p.libfuncs sigs → (id : List ℕ) (sig : Sig) → declared p sigs id ≡ Some sig → IsSignature t sig
signature_of p t sigs has id sig known = at_place t p.libfuncs sigs has (place_of (map (λ (d : LibfuncDecl). d.id) p.libfuncs) id) sig known

-- a statement has as many branches as its libfunc's signature, and no more than there are statements

branches_few : (p : Program) (t : TypesView) (sigs : List Sig) (envs : TypedList) → IsTypedProgram p t sigs envs → (s : ℕ) (id args : List ℕ) (bs : List Branch) → slice_get p.statements s ≡ Some (Invoke id args bs) → length bs ≤ most_statements
branches_few p t sigs envs program s id args bs here =
    elim (cases_order (length bs) 2) [
      | inl two ↦ omega (arith, two)
      | inr (inl below) ↦ omega (arith, below)
      | inr (inr above) ↦ (let most = few p t sigs envs program.typed s bs (record { id = id; args = args; here = here; several = omega (arith, above) }) in omega (arith, most, program.few))
    ]

branches_counted : (p : Program) (t : TypesView) (sigs : List Sig) (envs : TypedList) → IsTypedProgram p t sigs envs → (s : ℕ) (id args : List ℕ) (bs : List Branch) (sig : Sig) → slice_get p.statements s ≡ Some (Invoke id args bs)
    → declared p sigs id ≡ Some sig → length bs ≡ length sig.branches
branches_counted p t sigs envs program s id args bs sig here known =
    let lt = slice_get_within p.statements s (Invoke id args bs) here in
    let invokes = (invoked p t sigs envs program.typed s lt id args bs here).2 in
    let same : invokes.sig ≡ sig = same_Some invokes.sig sig (sym invokes.declared_as ∙ known) in
    zip_length (λ (b : Branch) (ts : List TypeId). length b.results ≡ length ts) bs invokes.sig.branches invokes.shaped.results ∙ ap (λ (g : Sig). length g.branches) same

pub branches_of : (p : Program) (t : TypesView) (sigs : List Sig) (envs : TypedList) → IsTypedProgram p t sigs envs → (s : ℕ) (id args : List ℕ) (bs : List Branch) (sig : Sig) → slice_get p.statements s ≡ Some (Invoke id args bs)
    → declared p sigs id ≡ Some sig → length sig.branches ≤ most_statements
branches_of p t sigs envs program s id args bs sig here known =
    let most = branches_few p t sigs envs program s id args bs here in
    let counted = branches_counted p t sigs envs program s id args bs sig here known in
    omega (arith, most, counted)

pub can_begin : (p : Program) (t : TypesView) (sigs : List Sig) (libfuncs : List (List ℕ × ℕ)) → IsReady p t sigs libfuncs → (s : ℕ) (id args : List ℕ) (bs : List Branch) (place : Place) (sig : Sig) (rest : Held Cells)
    → slice_get p.statements s ≡ Some (Invoke id args bs) → declared p sigs id ≡ Some sig → ((n : ℕ) × (n < length p.statements) × IsValid n s place) → rest ≡ (taken args place.cells).1 → CanBegin t sig bs place rest
can_begin p t sigs libfuncs ready s id args bs place sig rest here known valid left =
    let small = ready.program.few in
    let n = valid.0 in
    let below = valid.1 in
    let bounded = valid.2 (omega (arith, below, small)) in
    record {
      table = ready.program.types.kept;
      signature = signature_of p t sigs ready.program.signatures id sig known;
      counted = branches_counted p t sigs ready.envs ready.program s id args bs sig here known;
      few_branches = branches_of p t sigs ready.envs ready.program s id args bs sig here known;
      done = n;
      not_all = omega (arith, below, small);
      bounded = bounded;
      within = subst (AreWithin widest) (sym left) (taken_of (λ (x : Argument). All (IsWithin widest) x.1) args place.cells (held_wider (reach_of n) widest (omega (arith, below, small)) (omega arith) place.cells bounded.cells));
    }

pub placed_of : (t : TypesView) (sig : Sig) → IsTable t → IsSignature t sig → IsPlaced t sig.libfunc
placed_of t sig kept signature = written-placed t kept signature.0.generic signature.0.args sig.libfunc signature.1.written

begin_near : (n : ℕ) (o : Option ℕ) → n < most_statements → IsNearBegin n o → IfSome o (λ a. a < 2 ^ 62)
begin_near n None lt near = tt
begin_near n (Some a) lt near = omega (arith, near, lt)

-- by fewer than 2 ^ 20 or by the amount is by at most 2 ^ 40
pub short_moves : (moved : Option ℕ) (amount : ℕ) → amount < most_moved → IfSome moved (λ n. (n ≤ 1048575) ⊎ (n ≡ amount)) → IfSome moved (λ n. n ≤ most_moved)
short_moves None amount few short = tt
short_moves (Some n) amount few (inl short) = omega (arith, short)
short_moves (Some n) amount few (inr same) = omega (arith, same, few)

pub can_step : (t : TypesView) (s : ℕ) (sig : Sig) (bs : List Branch) (place : Place) (args : List Argument) (cells : Cells) (rest : Held Cells) (locals : Locals) (amount : ℕ) → CanBegin t sig bs place rest → cells ≡ joined args
    → far_fault s args ≡ None → local_step t sig.libfunc place.ap place.locals ≡ Some (locals, amount) → CanStep t sig place.ap cells rest amount
can_step t s sig bs place args cells rest locals amount begin are close local =
    let placed = placed_of t sig begin.table begin.signature in
    let most = amount_few t begin.table sig.libfunc placed begin.done place.ap place.locals (locals, amount) begin.bounded.locals local in
    let few : amount < most_moved = omega (arith, most, begin.not_all) in
    record {
      signature = begin.signature;
      close = subst (All IsCloseExpr) (sym are) (no_far_fault s args close);
      few = few;
      moves = λ k lt. short_moves (change t sig.libfunc amount k) amount few (change_short t begin.table sig.libfunc placed amount k (omega (arith, lt, begin.few_branches)));
      within = begin.within;
      begin = begin_near begin.done place.ap begin.not_all begin.bounded.ap;
    }

-- the types of each branch are types of the table
pub kinds_below : (t : TypesView) (sig : Sig) → IsSignature t sig → (k : ℕ) (d : List TypeId) → k < length sig.branches → All (IsBelow t) (get_or sig.branches k d)
kinds_below t sig signature k d lt = all_below t sig.branches (gives (fam_of t sig.libfunc)) signature.1.branches k d lt
  where
    all_below : (t : TypesView) (tss : List (List TypeId)) (tyss : List (List Ty)) → AllZip (AreTrees t) tss tyss → (k : ℕ) (d : List TypeId) → k < length tss → All (IsBelow t) (get_or tss k d)
    all_below t [] tyss are k d lt = absurd (omega arith)
    all_below t (ts ∷ tss) [] are k d lt = absurd are
    all_below t (ts ∷ tss) (tys ∷ tyss) are zero d lt = trees_below t ts tys are.0
    all_below t (ts ∷ tss) (tys ∷ tyss) are (suc k) d lt = all_below t tss tyss are.1 k d (omega arith)
