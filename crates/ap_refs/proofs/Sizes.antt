-- What is held has the cells of its type, and the arguments of a libfunc's statement fit its signature.
use Rattle.std.proofs.Common.{◌≡◌, ℕ, zero, suc, ◌+◌, ◌-◌, ◌<◌, ◌≤◌, Bool, true, false, IsTrue, IsFalse, List, [], ◌∷◌, ◌++◌, length, map, take, drop, get_or, Option, Some, None, option_map, unwrap_or, refl, sym, ap, subst, ◌∙◌, arith}
use Rattle.std.specs.List.{slice_get, All, AllZip, sum_by, range_with_len}
use Rattle.std.proofs.lemmas.Bool.{false≢true}
use Rattle.std.proofs.lemmas.List.{length-map, length-append, length-take-le, length-drop}
use Rattle.std.proofs.lemmas.List.Elements.{All-nil, All-cons, All-head, All-tail, All-take, All-drop, All-append}
use Rattle.std.proofs.lemmas.List.Sums.{sum_by-cons}
use Rattle.std.proofs.lemmas.Option.{none-some, same_Some, slice_get_within}
use Rattle.type_trees.specs.Ty.{Ty, size}
use Rattle.sierra_types.specs.declared.program.Program.{Program}
use Rattle.sierra_types.specs.declared.program.Statement.TheVariants.{Invoke}
use Rattle.type_table.specs.View.{TypesView, IsTable, HasTree, tree_of, trees_of}
use Rattle.type_table.specs.declared.type_id.TypeId.{TypeId}
use Rattle.libfunc_registry.specs.declared.sig.Sig.{Sig}
use Rattle.libfunc_registry.specs.declared.libfunc.Libfunc.{Libfunc}
use Rattle.libfunc_registry.specs.declared.libfunc.Libfunc.TheVariants as libfuncs
use Rattle.libfunc_registry.specs.Signature.{AreTrees}
use Rattle.libfunc_registry.specs.Fam.{fam_of, takes, gives}
use Rattle.casm_word.specs.declared.cell_expr.Side.{Side}
use Rattle.casm_word.specs.declared.cell_expr.Side.TheVariants as side
use Rattle.casm_word.specs.declared.cell_expr.CellExpr.{CellExpr}
use Rattle.casm_word.specs.declared.cell_expr.CellExpr.TheVariants as expr
use Rattle.casm_word.specs.Expressions.{lowered_side, lowered, IsSideInField, IsExprInField}
use Rattle.cost_table.specs.declared.mark.Mark.{Mark}
use Rattle.cost_table.specs.Marks.{meets_mark, MeetMarks}
use Rattle.cost_table.specs.Fits.{IsSignature, IsLocalInCells, Fit, marks_of}
use Rattle.cost_table.specs.Results.{branch_types, cells_of, results}
use Rattle.cost_table.proofs.Numbers.{results_are_in_field}
use Rattle.cost_table.proofs.ResultCounts.{results_many}
use Rattle.cost_table.proofs.Signatures.{trees_are}
use Rattle.linear_check.specs.Typed.{TypedList}
use Rattle.linear_check.specs.Statements.{param_types}
use Rattle.ap_refs.specs.declared.place.Place.{Place}
use Rattle.ap_refs.specs.Arguments.{Cells, Argument, taken, joined}
use Rattle.ap_refs.specs.Flow.{is_call}
use Rattle.ap_refs.specs.Locals.{size_of}
use Rattle.ap_refs.specs.Moves.{argument_cell, argument_cells}
use Rattle.ap_refs.specs.Placed.{PlacedList, Placed, AreMarked, AreFormed}
use Rattle.ap_refs.specs.Prepared.{IsTypedProgram}
use Rattle.ap_refs.specs.Sized.{IsSized, AreSized, IsStep}
use Rattle.ap_refs.proofs.Ready.{signature_of}
use Rattle.ap_refs.proofs.Holding.{AreParts, AreArguments, Lowers, Begins, HandsOn, held_at, arguments_held}

-- naming cells anew

side_lowers : (n : ℕ) (s : Side) → IsSideInField s → IsSideInField (lowered_side n s)
side_lowers n (side.Cell at) is = tt
side_lowers n (side.Imm word) is = is

expr_lowers : (n : ℕ) (e : CellExpr) → IsExprInField e → IsExprInField (lowered n e)
expr_lowers n (expr.Cell at) is = tt
expr_lowers n (expr.DoubleCell at inner) is = tt
expr_lowers n (expr.Imm word) is = is
expr_lowers n (expr.Sum at s) is = side_lowers n s is
expr_lowers n (expr.Diff at s) is = side_lowers n s is
expr_lowers n (expr.Product at s) is = side_lowers n s is

cells_lower : (n : ℕ) (cells : Cells) → All IsExprInField cells → All IsExprInField (map (lowered n) cells)
cells_lower n [] all = All-nil IsExprInField
cells_lower n (e ∷ es) all =
    All-cons IsExprInField (lowered n e) (map (lowered n) es) (expr_lowers n e (All-head IsExprInField e es all)) (cells_lower n es (All-tail IsExprInField e es all))

sized_lowers : (t : TypesView) → Lowers (IsSized t)
sized_lowers t ty n cells is = record { many = length-map cells (lowered n) ∙ is.many; in_field = cells_lower n cells is.in_field }

-- cells that are as many as the types say are cut into those of each

parts_of : (t : TypesView) (types : List TypeId) (own : Cells) → cells_of (trees_of t types) ≤ length own → All IsExprInField own → AreParts (IsSized t) t types own
parts_of t [] own many all = tt
parts_of t (ty ∷ tys) own many all =
    let n = size_of t ty in
    let sum = sum_by-cons size (tree_of t ty.0) (trees_of t tys) in (
      record { many = length-take-le n own (omega (arith, sum, many)); in_field = All-take IsExprInField n own all },
      parts_of t tys (drop n own) (omega (arith, sum, many, length-drop n own)) (All-drop IsExprInField n own all),
    )

-- argument cells are cells

frame_in_field : (n k m : ℕ) → All IsExprInField (map (argument_cell n) (range_with_len k m))
frame_in_field n k zero = All-nil IsExprInField
frame_in_field n k (suc m) = All-cons IsExprInField (argument_cell n k) (map (argument_cell n) (range_with_len (k + 1) m)) tt (frame_in_field n (k + 1) m)

frame_many : (n k m : ℕ) → length (map (argument_cell n) (range_with_len k m)) ≡ m
frame_many n k zero = refl
frame_many n k (suc m) = ap suc (frame_many n (k + 1) m)

sized_begins : (t : TypesView) → Begins (IsSized t) t
sized_begins t f =
    let n = cells_of (trees_of t (param_types t f)) in
    parts_of t (param_types t f) (argument_cells n) (let many = frame_many n 0 n in omega (arith, many)) (frame_in_field n 0 n)

-- the cells of arguments

joined_in_field : (t : TypesView) (types : List TypeId) (args : List Argument) → AreArguments (IsSized t) types args → All IsExprInField (joined args)
joined_in_field t [] [] are = All-nil IsExprInField
joined_in_field t [] (x ∷ xs) are = absurd are
joined_in_field t (ty ∷ tys) [] are = absurd are
joined_in_field t (ty ∷ tys) (x ∷ xs) are = All-append IsExprInField x.1 (joined xs) are.0.in_field (joined_in_field t tys xs are.1)

joined_many : (t : TypesView) (types : List TypeId) (args : List Argument) → AreArguments (IsSized t) types args → length (joined args) ≡ cells_of (trees_of t types)
joined_many t [] [] are = refl
joined_many t [] (x ∷ xs) are = absurd are
joined_many t (ty ∷ tys) [] are = absurd are
joined_many t (ty ∷ tys) (x ∷ xs) are =
    let sum = sum_by-cons size (tree_of t ty.0) (trees_of t tys) in
    let one = are.0.many in
    let more = joined_many t tys xs are.1 in
    length-append x.1 (joined xs) ∙ omega (arith, sum, one, more)

-- the cells of a branch's results

branch_at : (t : TypesView) (tss : List (List TypeId)) (tyss : List (List Ty)) (k : ℕ) (types : List TypeId) → AllZip (AreTrees t) tss tyss → slice_get tss k ≡ Some types → (k < length tss) × (trees_of t types ≡ get_or tyss k [])
branch_at t [] tyss k types are is = absurd (none-some types is)
branch_at t (ts ∷ tss) [] k types are is = absurd are
branch_at t (ts ∷ tss) (tys ∷ tyss) zero types are is = (omega arith, ap (trees_of t) (sym (same_Some ts types is)) ∙ trees_are t ts tys are.0)
branch_at t (ts ∷ tss) (tys ∷ tyss) (suc k) types are is =
    let later = branch_at t tss tyss k types are.1 is in
    let lt = later.0 in
    (omega (arith, lt), later.1)

sized_results : (t : TypesView) → IsTable t → HandsOn (IsSized t) t
sized_results t table sig signature args are amount k types is =
    let at = branch_at t sig.branches (gives (fam_of t sig.libfunc)) k types signature.1.branches is in
    let many : length (results (joined args) amount (fam_of t sig.libfunc) k) ≡ cells_of (trees_of t types) = results_many t sig (joined args) amount k signature at.0 ∙ ap cells_of (sym at.1) in
    parts_of t types (results (joined args) amount (fam_of t sig.libfunc) k) (omega (arith, many)) (results_are_in_field t sig (joined args) amount k table signature (joined_in_field t sig.params args are))

-- the marks of the arguments are those of their cells, cut by their sizes

front : (xs ys : Cells) (n : ℕ) → length xs ≡ n → (take n (xs ++ ys) ≡ xs) × (drop n (xs ++ ys) ≡ ys)
front [] ys zero is = (refl, refl)
front [] ys (suc n) is = absurd (omega (arith, is))
front (x ∷ xs) ys zero is = absurd (omega (arith, is))
front (x ∷ xs) ys (suc n) is = let later = front xs ys n (omega (arith, is)) in (ap (λ l. x ∷ l) later.0, later.1)

marks_meet : (t : TypesView) (marks : List Mark) (types : List TypeId) (args : List Argument) → AreArguments (IsSized t) types args → AreMarked marks args → MeetMarks marks (trees_of t types) (joined args)
marks_meet t [] types args are marked = tt
marks_meet t (mark ∷ marks) [] args are marked = tt
marks_meet t (mark ∷ marks) (ty ∷ tys) [] are marked = absurd are
marks_meet t (mark ∷ marks) (ty ∷ tys) (x ∷ xs) are marked =
    let cut = front x.1 (joined xs) (size_of t ty) are.0.many in (
      subst (λ cells. IsTrue (meets_mark mark cells)) (sym cut.0) marked.0,
      subst (MeetMarks marks (trees_of t tys)) (sym cut.1) (marks_meet t marks tys xs are.1 marked.1),
    )

-- a call asks nothing
call_marks : (t : TypesView) (libfunc : Libfunc) → IsTrue (is_call libfunc) → marks_of (fam_of t libfunc) ≡ []
call_marks t (libfuncs.FunctionCall f) call = refl
call_marks t _ call = absurd (false≢true call)

form_cases : (t : TypesView) (libfunc : Libfunc) (args : List Argument) (b : Bool) → is_call libfunc ≡ b → AreFormed t libfunc args → AreMarked (marks_of (fam_of t libfunc)) args
form_cases t libfunc args true is formed = subst (λ marks. AreMarked marks args) (sym (call_marks t libfunc is)) tt
form_cases t libfunc args false is formed = formed.marked is

module _ (p : Program) (t : TypesView) (sigs : List Sig) (envs : TypedList) (program : IsTypedProgram p t sigs envs) (a : PlacedList) (placed : Placed p t sigs a) where
  pub sized : (s : ℕ) → s < length p.statements → AreSized t envs a s
  sized s lt f held g place there here =
      (held_at p t sigs envs program a placed (IsSized t) (sized_lowers t) (sized_begins t) (sized_results t program.types.kept) s lt f held g place there here).1

  pub arguments_sized : (s : ℕ) (args : List ℕ) (sig : Sig) (place : Place) → IsStep p sigs a s args sig place → AreArguments (IsSized t) sig.params (taken args place.cells).0
  arguments_sized s args sig place step =
      let lt = slice_get_within p.statements s _ step.here in
      let held = held_at p t sigs envs program a placed (IsSized t) (sized_lowers t) (sized_begins t) (sized_results t program.types.kept) s lt in
      arguments_held p t sigs envs program a placed (IsSized t) s held step.function place step.id args step.branches sig step.here step.place_at step.signature

  -- the arguments of a libfunc's statement fit its signature
  pub arguments_fit : (s : ℕ) (args : List ℕ) (sig : Sig) (place : Place) → IsStep p sigs a s args sig place → IsLocalInCells (fam_of t sig.libfunc) (joined (taken args place.cells).0)
      → Fit (fam_of t sig.libfunc) (joined (taken args place.cells).0)
  arguments_fit s args sig place step local =
      let cells = (taken args place.cells).0 in
      let are = arguments_sized s args sig place step in
      let signature = signature_of p t sigs program.signatures step.id sig step.signature in
      let trees = trees_are t sig.params (takes (fam_of t sig.libfunc)) signature.1.params in
      let passes = placed.statements s step.function place (Invoke step.id args step.branches) step.here step.place_at in
      let same : passes.0 ≡ sig = same_Some passes.0 sig (sym passes.1 ∙ step.signature) in
      let formed : AreFormed t sig.libfunc cells = subst (λ (g : Sig). AreFormed t g.libfunc cells) same passes.2.formed in
      record {
        many = joined_many t sig.params cells are ∙ ap cells_of trees;
        marked = subst (λ tys. MeetMarks (marks_of (fam_of t sig.libfunc)) tys (joined cells)) trees
            (marks_meet t (marks_of (fam_of t sig.libfunc)) sig.params cells are (form_cases t sig.libfunc cells (is_call sig.libfunc) refl formed));
        local = local;
        close = passes.2.close;
        in_field = joined_in_field t sig.params cells are;
      }
