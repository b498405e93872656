-- Control and places meet the lowering contract.
use Rattle.std.proofs.Common.{◌≡◌, ℕ, ◌+◌, ◌≤◌, ◌^◌, false, Option, Some, List, [], ◌∷◌, ◌++◌, map, drop, length, refl, sym, ap, ◌∙◌, subst, arith, length-drop}
use Rattle.std.proofs.lemmas.List.{take_all, map-append}
use Rattle.std.proofs.lemmas.List.Elements.{All-head}
use Rattle.type_trees.specs.Ty.{Ty, size, uninitialized}
use Rattle.casm_word.specs.declared.cell_expr.CellExpr.{CellExpr}
use Rattle.ro_machine.specs.Readings.{cells_at}
use Rattle.casm_steps.specs.Reading.{readings}
use Rattle.frag_code.specs.Evaluation.{Tally, Evaluation, nothing}
use Rattle.cell_terms.specs.declared.term.Term.TheVariants as terms
use Rattle.frag_plan.specs.Plan.{Plan, reserve, line, exit, fragment}
use Rattle.libfunc_registry.specs.Control.{ControlFam}
use Rattle.libfunc_registry.specs.Control as controls
use Rattle.libfunc_registry.specs.Fam.{Fam, control, takes}
use Rattle.value_trees.specs.Logs.{Log, OpenLog, Logged}
use Rattle.value_trees.specs.Val as val
use Rattle.libfunc_meaning.specs.Control.{control_does}
use Rattle.libfunc_meaning.specs.Dictionaries.{Dictionary}
use Rattle.libfunc_meaning.specs.Do.{does}
use Rattle.cost_table.specs.Costs.{row_of}
use Rattle.cost_table.specs.Results.{branch_types, moved_by, result_terms}
use Rattle.cost_table.specs.Terms.{kept}
use Rattle.cell_forms.specs.Standing.{Padding, AllLoggedStand}
use Rattle.frag_plan.specs.AtBegin.{at_begin}
use Rattle.lower_kit.specs.Fitting.{IsSmallType, Takes}
use Rattle.lower_kit.specs.Counting.{Counts, change_by}
use Rattle.lower_kit.specs.Lowers.{Shows, Lowers}
use Rattle.felt64.specs.Field.{sum}
use Rattle.lower_kit.specs.Counting.{TokensAre}
use Rattle.lower_kit.proofs.AtOnce.{IsStill, Moves, Hands, at_once}
use Rattle.lower_kit.proofs.Completed.{Sound}
use Rattle.lower_kit.proofs.Tokens.{token_kept, one_stays, both_stay, no_token}
use Rattle.lower_core.proofs.Stored.{temp_token, temp_whole, local_token, local_whole, locals_whole}
use Rattle.lower_kit.proofs.Lists.{readings_long, kept_read, laid_read, framed_read, run_long, cells_long}
use Rattle.lower_kit.proofs.Near.{formed, hints_fine, lays_small, sames_small, kept_small, kept_small_at}
use Rattle.lower_kit.proofs.Shown.{quiet_counts, results_read, long, none_stand, one_stood, one_stands, both_stood, two_stand, whole_read, all_kept_read}
use Rattle.lower_kit.proofs.Ways.{Way, arguments_at, way_of, lays, sames, lays_no_jump, sames_no_jump, lays_met, sames_met, all_cells, arguments_read}
use Rattle.lower_kit.specs.Rows.{lay_each, same_each}
use Rattle.lower_core.specs.Control.{control_plan}

module _ (d : Dictionary Log OpenLog) (args : List CellExpr) (amount : ℕ) where
  rename_moves : (ty : Ty) → Moves d (control (controls.rename ty)) args amount
  rename_moves ty padding m ap_ fp vs in_field stand =
      let one = one_stands padding m ty (readings m ap_ fp args) vs stand in (
        one.0 ∷ [],
        ap (λ us. control_does (controls.rename ty) us) one.1,
        subst (λ c. AllLoggedStand padding m (ty ∷ []) c (one.0 ∷ [])) (sym (whole_read padding m ap_ fp args ty one.0 one.2)) (one_stood padding m ty (readings m ap_ fp args) one.0 one.2),
      )

  dup_moves : (ty : Ty) → Moves d (control (controls.dup ty)) args amount
  dup_moves ty padding m ap_ fp vs in_field stand =
      let one = one_stands padding m ty (readings m ap_ fp args) vs stand in
      let whole = whole_read padding m ap_ fp args ty one.0 one.2 in (
        one.0 ∷ one.0 ∷ [],
        ap (λ us. control_does (controls.dup ty) us) one.1,
        subst (λ c. AllLoggedStand padding m (ty ∷ ty ∷ []) c (one.0 ∷ one.0 ∷ []))
            (sym (map-append (at_begin m ap_ fp args) (kept 0 (size ty)) (kept 0 (size ty)) ∙ ap (λ c. c ++ map (at_begin m ap_ fp args) (kept 0 (size ty))) whole ∙ ap (λ c. readings m ap_ fp args ++ c) whole))
            (both_stood padding m ty ty (readings m ap_ fp args) (readings m ap_ fp args) one.0 one.0 one.2 one.2),
      )

  drop_moves : (ty : Ty) → Moves d (control (controls.drop ty)) args amount
  drop_moves ty padding m ap_ fp vs in_field stand =
      let one = one_stands padding m ty (readings m ap_ fp args) vs stand in
      ([], ap (λ us. control_does (controls.drop ty) us) one.1, none_stand padding m)

  alloc_moves : (ty : Ty) → Moves d (control (controls.alloc_local ty)) args amount
  alloc_moves ty padding m ap_ fp vs in_field stand = (
    val.empty ∷ [],
    ap (λ us. control_does (controls.alloc_local ty) us) stand.1,
    subst (λ c. AllLoggedStand padding m (uninitialized ty ∷ []) c (val.empty ∷ [])) (sym (framed_read m ap_ fp args amount (size ty)))
        (one_stood padding m (uninitialized ty) (cells_at m fp amount (size ty)) val.empty (refl, cells_long m fp amount (size ty))),
  )

  -- no value, and nothing done
  nothing_moves : (fam : ControlFam) → takes (control fam) ≡ [] → branch_types (control fam) 0 ≡ [] → result_terms args amount (control fam) 0 ≡ []
      → does {D = Log} {E = OpenLog} (control fam) [] amount ≡ Some (0, []) → Moves d (control fam) args amount
  nothing_moves fam none gives_none no_terms nothing padding m ap_ fp vs in_field stand =
      let empty = subst (λ tys. AllLoggedStand padding m tys (readings m ap_ fp args) vs) none stand in (
        [],
        ap (λ us. control_does fam us) empty.1 ∙ nothing,
        subst (λ tys. AllLoggedStand padding m tys (map (at_begin m ap_ fp args) (result_terms args amount (control fam) 0)) []) (sym gives_none)
            (subst (λ ts. AllLoggedStand padding m [] (map (at_begin m ap_ fp args) ts) []) (sym no_terms) (none_stand padding m)),
      )

  -- all of the argument's cells, as they are
  whole_many : (ty : Ty) → length args ≡ 0 + size ty → length args ≡ size ty
  whole_many ty many = omega (arith, many)

  rename_hands : (ty : Ty) → Takes (control (controls.rename ty)) args amount → Hands d (control (controls.rename ty)) args amount
  rename_hands ty taken m ap_ fp w small is =
      let cells = readings m ap_ fp args in
      let many = whole_many ty taken.fit.many in
      let whole : length cells ≡ size ty = readings_long m ap_ fp args ∙ many in
      subst (λ c. TokensAre (sum w 0) (ty ∷ []) c) (sym (all_kept_read m ap_ fp args (size ty) many)) (one_stays (sum w 0) ty cells whole (token_kept w ty cells small whole is))

  dup_hands : (ty : Ty) → Takes (control (controls.dup ty)) args amount → Hands d (control (controls.dup ty)) args amount
  dup_hands ty taken m ap_ fp w small is =
      let cells = readings m ap_ fp args in
      let many = whole_many ty taken.fit.many in
      let whole : length cells ≡ size ty = readings_long m ap_ fp args ∙ many in
      let read = all_kept_read m ap_ fp args (size ty) many in
      let token = token_kept w ty cells small whole is in
      subst (λ c. TokensAre (sum w 0) (ty ∷ ty ∷ []) c)
      (sym (map-append (at_begin m ap_ fp args) (kept 0 (size ty)) (kept 0 (size ty)) ∙ ap (λ c. c ++ map (at_begin m ap_ fp args) (kept 0 (size ty))) read ∙ ap (λ c. cells ++ c) read))
      (both_stay (sum w 0) ty ty cells cells whole whole token token)

  module _ (ty : Ty) where
    temp : Plan
    temp = lay_each (kept 0 (size ty)) (exit 0)

    temp_ends : (m : ℕ → Option ℕ) (ap_ fp k : ℕ) (end : Tally) → Evaluation (fragment args temp) m ap_ fp k end
        → (k ≡ 0) × (end.steps ≡ size ty) × (end.change ≡ size ty) × (end.named ≡ []) × (cells_at m ap_ 0 (size ty) ≡ map (at_begin m ap_ fp args) (kept 0 (size ty)))
    unfolding temp
    temp_ends m ap_ fp k end evaluation =
        let many : length (kept 0 (size ty)) ≡ size ty = run_long (terms.Whole 0) (size ty) in
        let none = lays_no_jump args (kept 0 (size ty)) (exit 0) (λ d i. refl) 0 0 in
        let way = subst (λ jumps. Way m ap_ fp args jumps temp nothing k end) none (way_of m ap_ fp args temp k end evaluation) in
        let laid_ = lays m ap_ fp args false (kept 0 (size ty)) (exit 0) nothing k end way in
        let last = laid_.way in (
          last.0,
          ap (λ u. u.steps) last.1 ∙ omega (arith, laid_.steps, many),
          ap (λ u. u.change) last.1 ∙ omega (arith, laid_.change, many),
          ap (λ u. u.named) last.1 ∙ laid_.named,
          ap (λ n. cells_at m ap_ 0 n) (sym many) ∙ laid_.read,
        )

    temp_lowers : Takes (control (controls.store_temp ty)) args amount → Lowers d (control (controls.store_temp ty)) args amount (fragment args temp)
    unfolding temp
    temp_lowers taken =
        let few : size ty ≤ 2 ^ 14 = All-head IsSmallType ty [] taken.declared.small in
        let many : length (kept 0 (size ty)) ≡ size ty = run_long (terms.Whole 0) (size ty) in
        let met = lays_met (kept 0 (size ty)) (exit 0) refl in
        let small = lays_small 0 (kept 0 (size ty)) (exit 0) (omega (arith, few, many)) (kept_small 0 (size ty)) tt in
        record {
          form = formed args taken.fit.close taken.inner temp met small;
          hints = hints_fine args taken.fit.close taken.inner temp met;
          counts = λ m ap_ fp k end evaluation. temp_counts m ap_ fp k end (temp_ends m ap_ fp k end evaluation);
          sound = temp_sound;
          token = λ m ap_ fp k pointer end evaluation pointer_small is.
              let ends = temp_ends m ap_ fp k end evaluation in temp_token d args amount ty taken few m ap_ fp k pointer end ends.0 ends.2 ends.4 pointer_small is;
          whole = λ r m ap_ fp k vs outs in_field stand room does free knows fresh. temp_whole d args amount ty taken temp_sound r m ap_ fp k vs outs in_field stand room does free;
        } where
          temp_counts : (m : ℕ → Option ℕ) (ap_ fp k : ℕ) (end : Tally)
              → (k ≡ 0) × (end.steps ≡ size ty) × (end.change ≡ size ty) × (end.named ≡ []) × (cells_at m ap_ 0 (size ty) ≡ map (at_begin m ap_ fp args) (kept 0 (size ty)))
              → Counts m ap_ fp (control (controls.store_temp ty)) args amount k end
          temp_counts m ap_ fp k end ends =
              subst (λ j. Counts m ap_ fp (control (controls.store_temp ty)) args amount j end) (sym ends.0)
              (quiet_counts m ap_ fp (control (controls.store_temp ty)) args amount 0 end (omega (arith, ends.1)) ends.2 ends.3 refl)

          temp_shows : size ty ≤ 2 ^ 14 → Takes (control (controls.store_temp ty)) args amount → (padding : Padding) (m : ℕ → Option ℕ) (ap_ fp k : ℕ) (end : Tally) (vs : List Logged)
              → AllLoggedStand padding m (ty ∷ []) (readings m ap_ fp args) vs
              → (k ≡ 0) × (end.steps ≡ size ty) × (end.change ≡ size ty) × (end.named ≡ []) × (cells_at m ap_ 0 (size ty) ≡ map (at_begin m ap_ fp args) (kept 0 (size ty)))
              → Shows d padding m ap_ fp (control (controls.store_temp ty)) args amount vs k end
          temp_shows few taken padding m ap_ fp k end vs stand ends =
              let one = one_stands padding m ty (readings m ap_ fp args) vs stand in
              let read = results_read m ap_ fp (control (controls.store_temp ty)) args amount 0 end ends.2 (omega (arith, few)) taken.fit.close in
              let same = read ∙ laid_read m ap_ fp args (size ty) ∙ ends.4 ∙ whole_read padding m ap_ fp args ty one.0 one.2 in
              subst (λ j. Shows d padding m ap_ fp (control (controls.store_temp ty)) args amount vs j end) (sym ends.0) record {
                outs = one.0 ∷ [];
                means = ap (λ us. control_does (controls.store_temp ty) us) one.1;
                stand = subst (λ c. AllLoggedStand padding m (ty ∷ []) c (one.0 ∷ [])) (sym same) (one_stood padding m ty (readings m ap_ fp args) one.0 one.2);
              }

          temp_sound : Sound d (control (controls.store_temp ty)) args amount (fragment args temp)
          temp_sound padding m ap_ fp k end vs in_field stand room evaluation checked =
              let few : size ty ≤ 2 ^ 14 = All-head IsSmallType ty [] taken.declared.small in
              temp_shows few taken padding m ap_ fp k end vs stand (temp_ends m ap_ fp k end evaluation)

    abbrev store_fam : Fam
    store_fam = control (controls.store_local ty)

    local : Plan
    local = same_each 0 (kept (size ty) (size ty)) (exit 0)

    -- what an evaluation of a local's store comes to
    record LocalEnds (m : ℕ → Option ℕ) (ap_ fp k : ℕ) (end : Tally) : Type 0 where
      branch : k ≡ 0
      steps : end.steps ≡ size ty
      change : end.change ≡ 0
      named : end.named ≡ []
      read : arguments_at m ap_ fp args 0 (size ty) ≡ map (at_begin m ap_ fp args) (kept (size ty) (size ty))

    local_ends : (m : ℕ → Option ℕ) (ap_ fp k : ℕ) (end : Tally) → Evaluation (fragment args local) m ap_ fp k end → LocalEnds m ap_ fp k end
    unfolding local
    local_ends m ap_ fp k end evaluation =
        let many : length (kept (size ty) (size ty)) ≡ size ty = run_long (terms.Whole (size ty)) (size ty) in
        let none = sames_no_jump args 0 (kept (size ty) (size ty)) (exit 0) (λ d i. refl) 0 0 in
        let way = subst (λ jumps. Way m ap_ fp args jumps local nothing k end) none (way_of m ap_ fp args local k end evaluation) in
        let held = sames m ap_ fp args false 0 (kept (size ty) (size ty)) (exit 0) nothing k end way in
        let last = held.way in
        record {
          branch = last.0;
          steps = ap (λ u. u.steps) last.1 ∙ omega (arith, held.steps, many);
          change = ap (λ u. u.change) last.1 ∙ held.change;
          named = ap (λ u. u.named) last.1 ∙ held.named;
          read = ap (λ n. arguments_at m ap_ fp args 0 n) (sym many) ∙ held.read;
        }

    local_counts : (m : ℕ → Option ℕ) (ap_ fp k : ℕ) (end : Tally) → LocalEnds m ap_ fp k end → Counts m ap_ fp store_fam args amount k end
    local_counts m ap_ fp k end ends =
        let steps = ends.steps in
        subst (λ j. Counts m ap_ fp store_fam args amount j end) (sym ends.branch)
        (quiet_counts m ap_ fp store_fam args amount 0 end (omega (arith, steps)) ends.change ends.named refl)

    local_shows : Takes store_fam args amount → (padding : Padding) (m : ℕ → Option ℕ) (ap_ fp k : ℕ) (end : Tally) (vs : List Logged)
        → AllLoggedStand padding m (uninitialized ty ∷ ty ∷ []) (readings m ap_ fp args) vs → LocalEnds m ap_ fp k end → Shows d padding m ap_ fp store_fam args amount vs k end
    local_shows taken padding m ap_ fp k end vs stand ends =
        let cells = readings m ap_ fp args in
        let n = size ty in
        let two = two_stand padding m (uninitialized ty) ty cells vs stand in
        let value_long = long padding m ty (drop n cells) two.1 two.4 in
        let listed = readings_long m ap_ fp args in
        let room : n + n ≤ length args = omega (arith, value_long, listed, length-drop n cells, taken.fit.many) in
        let read = results_read m ap_ fp store_fam args amount 0 end ends.change (omega arith) taken.fit.close in
        let kept_here = kept_read m ap_ fp args 0 n (omega (arith, room)) in
        let value = kept_read m ap_ fp args n n room ∙ take_all n (drop n cells) (omega (arith, value_long)) in
        let local_cells = arguments_read m ap_ fp args 0 n (omega (arith, room))
        (λ j low high. all_cells n args taken.fit.local j (omega (arith, high)) (omega (arith, high, room))) in
        let same = read ∙ kept_here ∙ sym local_cells ∙ ends.read ∙ value in
        subst (λ j. Shows d padding m ap_ fp store_fam args amount vs j end) (sym ends.branch) record {
          outs = two.1 ∷ [];
          means = ap (λ us. control_does (controls.store_local ty) us) two.2;
          stand = subst (λ c. AllLoggedStand padding m (ty ∷ []) c (two.1 ∷ [])) (sym same) (one_stood padding m ty (drop n cells) two.1 two.4);
        }

    local_lowers : Takes store_fam args amount → Lowers d store_fam args amount (fragment args local)
    unfolding local
    local_lowers taken =
        let met = sames_met 0 (kept (size ty) (size ty)) (exit 0) refl in
        let small = sames_small 0 0 (kept (size ty) (size ty)) (exit 0) (omega arith) (kept_small_at 0 (size ty) (size ty) (omega arith)) tt in
        record {
          form = formed args taken.fit.close taken.inner local met small;
          hints = hints_fine args taken.fit.close taken.inner local met;
          counts = λ m ap_ fp k end evaluation. local_counts m ap_ fp k end (local_ends m ap_ fp k end evaluation);
          sound = local_sound;
          token = λ m ap_ fp k pointer end evaluation pointer_small is.
              let ends = local_ends m ap_ fp k end evaluation in local_token d args amount ty taken m ap_ fp k pointer end ends.branch ends.change ends.read pointer_small is;
          whole = λ r m ap_ fp k vs outs in_field stand room does free knows fresh. local_whole d args amount ty taken local_sound r m ap_ fp k vs outs in_field stand room does free;
        } where
          local_sound : Sound d store_fam args amount (fragment args local)
          local_sound padding m ap_ fp k end vs in_field stand room evaluation checked = local_shows taken padding m ap_ fp k end vs stand (local_ends m ap_ fp k end evaluation)

  abbrev finalize_fam : Fam
  finalize_fam = control controls.finalize_locals

  locals : Plan
  locals = line (reserve amount) (exit 0)

  locals_ends : (m : ℕ → Option ℕ) (ap_ fp k : ℕ) (end : Tally) → Evaluation (fragment args locals) m ap_ fp k end → (k ≡ 0) × (end ≡ record { steps = 0 + 1; change = 0 + amount; named = [] })
  unfolding locals
  locals_ends m ap_ fp k end evaluation = (way_of m ap_ fp args locals k end evaluation).1

  locals_counts : (m : ℕ → Option ℕ) (ap_ fp k : ℕ) (end : Tally) → (k ≡ 0) × (end ≡ record { steps = 0 + 1; change = 0 + amount; named = [] }) → Counts m ap_ fp finalize_fam args amount k end
  locals_counts m ap_ fp k end ends =
      let steps : end.steps ≡ 0 + 1 = ap (λ u. u.steps) ends.1 in
      let change : end.change ≡ 0 + amount = ap (λ u. u.change) ends.1 in
      subst (λ j. Counts m ap_ fp finalize_fam args amount j end) (sym ends.0)
      (quiet_counts m ap_ fp finalize_fam args amount 0 end (omega (arith, steps)) (omega (arith, change)) (ap (λ u. u.named) ends.1) refl)

  locals_shows : (padding : Padding) (m : ℕ → Option ℕ) (ap_ fp k : ℕ) (end : Tally) (vs : List Logged) → AllLoggedStand padding m [] (readings m ap_ fp args) vs
      → k ≡ 0 → Shows d padding m ap_ fp finalize_fam args amount vs k end
  locals_shows padding m ap_ fp k end vs stand branch =
      subst (λ j. Shows d padding m ap_ fp finalize_fam args amount vs j end) (sym branch) record {
        outs = [];
        means = ap (λ us. control_does controls.finalize_locals us) stand.1;
        stand = none_stand padding m;
      }

  locals_lowers : Takes finalize_fam args amount → Lowers d finalize_fam args amount (fragment args locals)
  unfolding locals
  locals_lowers taken = record {
    form = formed args taken.fit.close taken.inner locals refl (tt, tt);
    hints = hints_fine args taken.fit.close taken.inner locals refl;
    counts = λ m ap_ fp k end evaluation. locals_counts m ap_ fp k end (locals_ends m ap_ fp k end evaluation);
    sound = locals_sound;
    token = λ m ap_ fp k pointer end evaluation small is. absurd (no_token pointer is);
    whole = λ r m ap_ fp k vs outs in_field stand room does free knows fresh. locals_whole d args amount locals_sound r m ap_ fp k vs outs in_field stand room does;
  } where
    locals_sound : Sound d finalize_fam args amount (fragment args locals)
    locals_sound padding m ap_ fp k end vs in_field stand room evaluation checked = locals_shows padding m ap_ fp k end vs stand (locals_ends m ap_ fp k end evaluation).0

  still : (fam : ControlFam) → change_by amount (control fam) 0 ≡ 0 → moved_by (control fam) 0 ≡ 0 → (row_of (control fam) 0).checks ≡ 0
      → IsStill d (control fam) args amount
  still fam change moved checks = record { unlogged = tt; begins = λ r cells. tt; change = change; moved = moved; checks = checks }

  pub control_lowers : (fam : ControlFam) → Takes (control fam) args amount → Lowers d (control fam) args amount (fragment args (control_plan amount fam))
  unfolding temp local locals
  control_lowers controls.branch_align taken =
      at_once d (control controls.branch_align) args amount taken (still controls.branch_align refl refl refl) (nothing_moves controls.branch_align refl refl refl refl) (λ m ap_ fp w small is. tt)
  control_lowers controls.jump taken = at_once d (control controls.jump) args amount taken (still controls.jump refl refl refl) (nothing_moves controls.jump refl refl refl refl) (λ m ap_ fp w small is. tt)
  control_lowers (controls.rename ty) taken = at_once d (control (controls.rename ty)) args amount taken (still (controls.rename ty) refl refl refl) (rename_moves ty) (rename_hands ty taken)
  control_lowers (controls.dup ty) taken = at_once d (control (controls.dup ty)) args amount taken (still (controls.dup ty) refl refl refl) (dup_moves ty) (dup_hands ty taken)
  control_lowers (controls.drop ty) taken = at_once d (control (controls.drop ty)) args amount taken (still (controls.drop ty) refl refl refl) (drop_moves ty) (λ m ap_ fp w small is. tt)
  control_lowers (controls.store_temp ty) taken = temp_lowers ty taken
  control_lowers (controls.store_local ty) taken = local_lowers ty taken
  control_lowers (controls.alloc_local ty) taken = at_once d (control (controls.alloc_local ty)) args amount taken (still (controls.alloc_local ty) refl refl refl) (alloc_moves ty) (λ m ap_ fp w small is. (tt, tt))
  control_lowers controls.finalize_locals taken = locals_lowers taken
  control_lowers controls.disable_ap_tracking taken =
      at_once d (control controls.disable_ap_tracking) args amount taken (still controls.disable_ap_tracking refl refl refl) (nothing_moves controls.disable_ap_tracking refl refl refl refl) (λ m ap_ fp w small is. tt)
  control_lowers controls.enable_ap_tracking taken =
      at_once d (control controls.enable_ap_tracking) args amount taken (still controls.enable_ap_tracking refl refl refl) (nothing_moves controls.enable_ap_tracking refl refl refl refl) (λ m ap_ fp w small is. tt)
