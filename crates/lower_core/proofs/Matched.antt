-- Matches of enums, and of snapshots of enums, meet the lowering contract.
use Rattle.std.proofs.Common.{◌≡◌, ℕ, zero, suc, ◌+◌, ◌-◌, ◌<◌, ◌≤◌, ◌^◌, min, true, Option, Some, List, [], ◌∷◌, map, take, drop, length, refl, sym, ap, ◌∙◌, subst, arith, length-drop, drop-drop}
use Rattle.std.specs.List.{slice_index_or}
use Rattle.std.proofs.lemmas.List.{take_all, length-map}
use Rattle.felt64.specs.Field.{sum}
use Rattle.type_trees.specs.Ty.{Ty, Tys, size, enum, snap, range_check, greatest_size}
use Rattle.type_table.specs.Trees.{listed}
use Rattle.casm_word.specs.declared.cell_expr.CellExpr.{CellExpr}
use Rattle.ro_machine.specs.Memory.{IsMemory}
use Rattle.ro_machine.specs.Readings.{Readings}
use Rattle.casm_steps.specs.Reading.{reading, readings}
use Rattle.frag_code.specs.Evaluation.{Tally}
use Rattle.cell_terms.specs.declared.term.Slot.TheVariants as slots
use Rattle.cell_terms.specs.Resolving.{argument}
use Rattle.frag_plan.specs.Plan.{fragment}
use Rattle.frag_plan.specs.Scene.{slot_address}
use Rattle.libfunc_registry.specs.Data.{DataFam, enum_match, enum_snapshot_match, part_at}
use Rattle.libfunc_registry.specs.Fam.{data_, gives}
use Rattle.value_trees.specs.Logs.{Log, OpenLog, Logged}
use Rattle.libfunc_meaning.specs.Data.{data_does}
use Rattle.libfunc_meaning.specs.Dictionaries.{Dictionary}
use Rattle.cost_table.specs.Costs.{row_of}
use Rattle.cost_table.specs.Marks.{is_cell}
use Rattle.cost_table.specs.Results.{cells_of, branch_types, moved, moved_by, results}
use Rattle.cost_table.specs.Rows.{match_row}
use Rattle.cost_table.specs.Terms.{kept, known_change}
use Rattle.cost_table.proofs.Counts.{part_fits}
use Rattle.cell_forms.specs.LogStands.{LogStands, OpenLogStands}
use Rattle.cell_forms.specs.Standing.{Padding, listed as listed_, Asked, LoggedStands, AllLoggedStand}
use Rattle.cell_forms.proofs.Snapshots.{snap_size, to_type}
use Rattle.frag_plan.specs.AtBegin.{at_begin}
use Rattle.std.specs.FinMap.{get}
use Rattle.std.specs.List.{Contains}
use Rattle.std.proofs.lemmas.List.Elements.{Contains-append_left}
use Rattle.felt64.specs.Field.{modulus}
use Rattle.ro_machine.specs.Cells.{Cells}
use Rattle.hint_source.specs.Remembered.{Remembered}
use Rattle.frag_plan.specs.AtBegin.{slot_at}
use Rattle.libfunc_registry.specs.Fam.{takes}
use Rattle.libfunc_meaning.specs.Do.{Do}
use Rattle.lower_kit.specs.Completing.{IsFree, free_cells, cells_from, BeginsFresh}
use Rattle.lower_kit.specs.Logged.{honest}
use Rattle.lower_kit.proofs.Completed.{one_branch, Sound, quietly, unasked}
use Rattle.lower_kit.proofs.Free.{free_front, grown_within}
use Rattle.lower_kit.proofs.Tokens.{no_token, none_in_snap}
use Rattle.lower_core.proofs.MatchFilled.{match_cells, matching}
use Rattle.lower_kit.specs.Fitting.{Takes}
use Rattle.lower_kit.specs.Counting.{Counts, change_by}
use Rattle.lower_kit.specs.Lowers.{HasRoom, Completes, Shows, Lowers}
use Rattle.lower_kit.proofs.Lists.{readings_long, kept_read}
use Rattle.lower_kit.proofs.Members.{Variant, snapped, variant_within, variant_taken}
use Rattle.lower_kit.proofs.Near.{formed, hints_fine}
use Rattle.lower_kit.proofs.Shown.{quiet_counts, results_read, one_stood, one_stands}
use Rattle.lower_kit.proofs.Ways.{is_read}
use Rattle.lower_core.specs.Data.{match_plan}
use Rattle.lower_core.proofs.Matches.{match_least, MatchEnds, match_ends, match_met, match_small, match_checks, match_moves, match_moved}

-- what is given on each branch is one value, of the variant as f has it
given_at : (f : Ty → Ty) (tys : List Ty) (k : ℕ) → k < length tys → slice_index_or (map (λ variant. f variant ∷ []) tys) k [] ≡ f (slice_index_or tys k range_check) ∷ []
given_at f [] k within = absurd (omega (arith, within))
given_at f (ty ∷ tys) zero within = refl
given_at f (ty ∷ tys) (suc k) within = given_at f tys k (omega (arith, within))

first_cell : (args : List CellExpr) (n z : ℕ) → n ≡ suc z → n ≤ length args → is_cell (argument (take n args) 0) ≡ true → is_cell (argument args 0) ≡ true
first_cell [] n z some few cell = absurd (omega (arith, some, few))
first_cell (e ∷ args) n z some few cell = subst (λ i. is_cell (argument (take i (e ∷ args)) 0) ≡ true) some cell

first_word : (m : ℕ → Option ℕ) (ap_ fp index : ℕ) (args : List CellExpr) → take 1 (readings m ap_ fp args) ≡ Some index ∷ [] → reading m ap_ fp (argument args 0) ≡ Some index
first_word m ap_ fp index [] is = cc
first_word m ap_ fp index (e ∷ args) is = ap (λ cells. head_or cells) is where
  head_or : Readings → Option ℕ
  head_or [] = Some index
  head_or (o ∷ cells) = o

module _ (d : Dictionary Log OpenLog) (args : List CellExpr) (amount : ℕ) (name : List ℕ) (tys : Tys) where
  abbrev of : Ty
  of = enum name tys

  abbrev many : ℕ
  many = length (listed tys)

  -- the payload's cells are the last ones
  payload_here : (padding : Padding) (m : ℕ → Option ℕ) (ap_ fp k : ℕ) (v : Logged) → length (readings m ap_ fp args) ≡ 1 + greatest_size tys → k < many
      → Variant padding m tys k (drop 1 (readings m ap_ fp args)) v
      → LoggedStands padding m (part_at of k) (map (at_begin m ap_ fp args) (kept (size of - size (part_at of k)) (size (part_at of k)))) v
  payload_here padding m ap_ fp k v whole within h =
      let cells = readings m ap_ fp args in
      let part = part_at of k in
      let fits : size part ≤ greatest_size tys = part_fits tys k within in
      let listed_ = readings_long m ap_ fp args in
      let behind = length-drop 1 cells in
      let room : (size of - size part) + size part ≤ length args = omega (arith, fits, listed_, whole) in
      let front : 1 + (length (drop 1 cells) - size part) ≡ size of - size part = omega (arith, behind, whole, fits) in
      let taken = variant_taken padding m tys k (drop 1 cells) v h in
      let dropped : drop (length (drop 1 cells) - size part) (drop 1 cells) ≡ drop (size of - size part) cells =
      drop-drop (length (drop 1 cells) - size part) 1 cells ∙ ap (λ n. drop n cells) front in
      let rest_long : length (drop (size of - size part) cells) ≡ size part = omega (arith, length-drop (size of - size part) cells, whole, fits) in
      let read = kept_read m ap_ fp args (size of - size part) (size part) room ∙ take_all (size part) (drop (size of - size part) cells) (omega (arith, rest_long)) in
      subst (λ c. LoggedStands padding m part c v) (sym read) (subst (λ c. LoggedStands padding m part c v) dropped taken)

  -- the branch of a match is the variant of the value
  branch_is : (padding : Padding) (m : ℕ → Option ℕ) (ap_ fp k : ℕ) (end : Tally) (v : Logged) → IsMemory m → is_cell (argument args 0) ≡ true → MatchEnds m ap_ fp args many k end
      → (h : LoggedStands padding m of (readings m ap_ fp args) v) → k ≡ h.0
  branch_is padding m ap_ fp k end v in_field cell ends h =
      let here = is_read m ap_ fp args (argument args 0) cell ∙ first_word m ap_ fp h.0 args h.4 in
      let small = (in_field (slot_address ap_ fp args (slots.Arg 0)) h.0 here).1 in
      ends.right h.0 here small (variant_within padding m tys h.0 (drop 1 (readings m ap_ fp args)) h.1 h.5)

  module _ (fam : DataFam) (known : (k : ℕ) → row_of (data_ fam) k ≡ match_row many k) (change_known : (k : ℕ) → change_by amount (data_ fam) k ≡ moved_by (data_ fam) k) where
    match_change : (k : ℕ) → known_change (match_row many k).ap ≡ moved_by (data_ fam) k
    match_change k =
        let cells = cells_of (branch_types (data_ fam) k) in
        sym (match_moved many k cells) ∙ ap (λ r. moved r.ap cells) (sym (known k))

    match_counts : (m : ℕ → Option ℕ) (ap_ fp k : ℕ) (end : Tally) → MatchEnds m ap_ fp args many k end → Counts m ap_ fp (data_ fam) args amount k end
    match_counts m ap_ fp k end ends =
        let steps : end.steps ≡ (row_of (data_ fam) k).steps = ends.steps ∙ ap (λ r. r.steps) (sym (known k)) in
        quiet_counts m ap_ fp (data_ fam) args amount k end (omega (arith, steps)) (ends.change ∙ match_change k ∙ sym (change_known k)) ends.named
        (ap (λ r. r.checks) (known k) ∙ match_checks many k)

    match_few : length (gives (data_ fam)) ≤ 2 ^ 24 → length (gives (data_ fam)) ≡ many → (k : ℕ) → moved_by (data_ fam) k < 2 ^ 62
    match_few few same k =
        let moves = match_moves many k in
        let change = match_change k in
        omega (arith, moves, change, few, same)

  match_shows : Takes (data_ (enum_match of)) args amount → (padding : Padding) (m : ℕ → Option ℕ) (ap_ fp k : ℕ) (end : Tally) (vs : List Logged) → IsMemory m
      → AllLoggedStand padding m (of ∷ []) (readings m ap_ fp args) vs → MatchEnds m ap_ fp args many k end → Shows d padding m ap_ fp (data_ (enum_match of)) args amount vs k end
  match_shows taken padding m ap_ fp k end vs in_field stand ends =
      let cells = readings m ap_ fp args in
      let one = one_stands padding m of cells vs stand in
      let h = one.2 in
      let listed_ = readings_long m ap_ fp args in
      let whole : length args ≡ 1 + greatest_size tys = omega (arith, listed_, h.3) in
      let suc_ : 1 + greatest_size tys ≡ suc (greatest_size tys) = omega arith in
      let cell = first_cell args (size of) (greatest_size tys) suc_ (omega (arith, whole)) taken.fit.marked.0 in
      let branch = branch_is padding m ap_ fp k end one.0 in_field cell ends h in
      let within : k < many = let low = variant_within padding m tys h.0 (drop 1 cells) h.1 h.5 in omega (arith, branch, low) in
      let payload = payload_here padding m ap_ fp k h.1 h.3 within (subst (λ i. Variant padding m tys i (drop 1 cells) h.1) (sym branch) h.5) in
      let change = ends.change ∙ match_change (enum_match of) (λ k. refl) (λ k. refl) k in
      let few = match_few (enum_match of) (λ k. refl) (λ k. refl) taken.declared.few_branches (length-map (listed tys) (λ variant. variant ∷ [])) k in
      let read = results_read m ap_ fp (data_ (enum_match of)) args amount k end change few taken.fit.close in
      record {
        outs = h.1 ∷ [];
        means = ap (λ us. data_does (enum_match of) us) (one.1 ∙ ap (λ v. v ∷ []) h.2) ∙ ap (λ i. Some (i, h.1 ∷ [])) (sym branch);
        stand = subst (λ ts. AllLoggedStand padding m ts (readings m (sum ap_ end.change) fp (results args amount (data_ (enum_match of)) k)) (h.1 ∷ [])) (sym (given_at (λ variant. variant) (listed tys) k within))
            (subst (λ c. AllLoggedStand padding m (part_at of k ∷ []) c (h.1 ∷ [])) (sym read) (one_stood padding m (part_at of k) _ h.1 payload));
      }

  snapshot_match_shows : Takes (data_ (enum_snapshot_match of)) args amount → (padding : Padding) (m : ℕ → Option ℕ) (ap_ fp k : ℕ) (end : Tally) (vs : List Logged) → IsMemory m
      → AllLoggedStand padding m (snap of ∷ []) (readings m ap_ fp args) vs → MatchEnds m ap_ fp args many k end → Shows d padding m ap_ fp (data_ (enum_snapshot_match of)) args amount vs k end
  snapshot_match_shows taken padding m ap_ fp k end vs in_field stand ends =
      let cells = readings m ap_ fp args in
      let one = one_stands padding m (snap of) cells vs stand in
      let h = to_type (Asked padding) (LogStands m) (OpenLogStands m) m of cells one.0 one.2 in
      let listed_ = readings_long m ap_ fp args in
      let whole : length args ≡ 1 + greatest_size tys = omega (arith, listed_, h.3) in
      let suc_ : size (snap of) ≡ suc (greatest_size tys) = snap_size of ∙ omega arith in
      let cell = first_cell args (size (snap of)) (greatest_size tys) suc_ (omega (arith, whole, suc_)) taken.fit.marked.0 in
      let branch = branch_is padding m ap_ fp k end one.0 in_field cell ends h in
      let within : k < many = let low = variant_within padding m tys h.0 (drop 1 cells) h.1 h.5 in omega (arith, branch, low) in
      let payload = payload_here padding m ap_ fp k h.1 h.3 within (subst (λ i. Variant padding m tys i (drop 1 cells) h.1) (sym branch) h.5) in
      let change = ends.change ∙ match_change (enum_snapshot_match of) (λ k. refl) (λ k. refl) k in
      let few = match_few (enum_snapshot_match of) (λ k. refl) (λ k. refl) taken.declared.few_branches (length-map (listed tys) (λ variant. snap variant ∷ [])) k in
      let read = results_read m ap_ fp (data_ (enum_snapshot_match of)) args amount k end change few taken.fit.close in
      record {
        outs = h.1 ∷ [];
        means = ap (λ us. data_does (enum_snapshot_match of) us) (one.1 ∙ ap (λ v. v ∷ []) h.2) ∙ ap (λ i. Some (i, h.1 ∷ [])) (sym branch);
        stand = subst (λ ts. AllLoggedStand padding m ts (readings m (sum ap_ end.change) fp (results args amount (data_ (enum_snapshot_match of)) k)) (h.1 ∷ [])) (sym (given_at snap (listed tys) k within))
            (subst (λ c. AllLoggedStand padding m (snap (part_at of k) ∷ []) c (h.1 ∷ [])) (sym read) (one_stood padding m (snap (part_at of k)) _ h.1 (snapped padding m (part_at of k) _ h.1 payload)));
      }

  -- the cells that a match fills are free where those of its branch are
  cells_free : (fam : DataFam) → ((k : ℕ) → row_of (data_ fam) k ≡ match_row many k) → ((k : ℕ) → change_by amount (data_ fam) k ≡ moved_by (data_ fam) k) → (k : ℕ) → change_by amount (data_ fam) k ≡ known_change (match_row many k).ap
  cells_free fam known change_known k = change_known k ∙ sym (match_change fam known change_known k)

  -- an honest run through a match of this family, whose argument holds this variant
  matched_whole : (fam : DataFam) (vs outs : List Logged) → ((s : Remembered) (cells : Readings) → BeginsFresh s (data_ fam) cells) → ((k : ℕ) → change_by amount (data_ fam) k ≡ known_change (match_row many k).ap) → Sound d (data_ fam) args amount (fragment args (match_plan many))
      → (r : Remembered) (m : Cells) (ap_ fp index : ℕ) → IsMemory (get m) → AllLoggedStand listed_ (get m) (takes (data_ fam)) (readings (get m) ap_ fp args) vs → HasRoom (data_ fam) vs
      → Do honest (data_ fam) vs amount index outs → slot_at (get m) ap_ fp args (slots.Arg 0) ≡ Some index → index < modulus → index < many → IsFree (get m) (free_cells r (get m) ap_ fp args (data_ fam) amount index)
      → Completes d r m ap_ fp (data_ fam) args amount index outs (fragment args (match_plan many))
  matched_whole fam vs outs begins change sound r m ap_ fp index in_field stand room does here small within free =
      let cells = match_cells ap_ fp args many index in
      let moves : change_by amount (data_ fam) index ≡ min index (many - 2) = change index ∙ match_least many index within in
      let front = free_front (get m) (cells_from ap_ (change_by amount (data_ fam) index)) _ free in
      let found = matching ap_ fp args many index r m here small within (subst (λ n. IsFree (get m) (cells_from ap_ n)) moves front) in
      let grown = grown_within m found.z.cells cells (free_cells r (get m) ap_ fp args (data_ fam) amount index)
      (λ a h. Contains-append_left (cells_from ap_ (change_by amount (data_ fam) index)) _ a (subst (λ n. Contains (cells_from ap_ n) a) (sym moves) h)) found.grown in
      let told = unasked d (data_ fam) args amount (fragment args (match_plan many)) r found.z found.remembers in
      quietly d (data_ fam) args amount (fragment args (match_plan many)) sound tt begins r m ap_ fp index vs outs in_field stand room does found.z found.goes grown found.named told.0 told.1

  enum_match_whole : Takes (data_ (enum_match of)) args amount → Sound d (data_ (enum_match of)) args amount (fragment args (match_plan many)) → (r : Remembered) (m : Cells) (ap_ fp k : ℕ) (vs outs : List Logged)
      → IsMemory (get m) → AllLoggedStand listed_ (get m) (of ∷ []) (readings (get m) ap_ fp args) vs → HasRoom (data_ (enum_match of)) vs → Do honest (data_ (enum_match of)) vs amount k outs
      → IsFree (get m) (free_cells r (get m) ap_ fp args (data_ (enum_match of)) amount k) → Completes d r m ap_ fp (data_ (enum_match of)) args amount k outs (fragment args (match_plan many))
  enum_match_whole taken sound r m ap_ fp k vs outs in_field stand room does free =
      let cells = readings (get m) ap_ fp args in
      let one = one_stands listed_ (get m) of cells vs stand in
      let h = one.2 in
      let whole : length args ≡ 1 + greatest_size tys = omega (arith, readings_long (get m) ap_ fp args, h.3) in
      let suc_ : 1 + greatest_size tys ≡ suc (greatest_size tys) = omega arith in
      let cell = first_cell args (size of) (greatest_size tys) suc_ (omega (arith, whole)) taken.fit.marked.0 in
      let here = is_read (get m) ap_ fp args (argument args 0) cell ∙ first_word (get m) ap_ fp h.0 args h.4 in
      let small = (in_field (slot_address ap_ fp args (slots.Arg 0)) h.0 here).1 in
      let within = variant_within listed_ (get m) tys h.0 (drop 1 cells) h.1 h.5 in
      let branch = one_branch d honest (data_ (enum_match of)) vs amount h.0 k (h.1 ∷ []) outs tt (ap (λ us. data_does (enum_match of) us) (one.1 ∙ ap (λ v. v ∷ []) h.2)) does in
      subst (λ j. Completes d r m ap_ fp (data_ (enum_match of)) args amount j outs (fragment args (match_plan many))) branch
      (matched_whole (enum_match of) vs outs (λ s cells. tt) (cells_free (enum_match of) (λ k. refl) (λ k. refl)) sound r m ap_ fp h.0 in_field stand room (subst (λ j. Do honest (data_ (enum_match of)) vs amount j outs) (sym branch) does) here small within
      (subst (λ j. IsFree (get m) (free_cells r (get m) ap_ fp args (data_ (enum_match of)) amount j)) (sym branch) free))

  enum_snapshot_match_whole : Takes (data_ (enum_snapshot_match of)) args amount → Sound d (data_ (enum_snapshot_match of)) args amount (fragment args (match_plan many)) → (r : Remembered) (m : Cells) (ap_ fp k : ℕ)
      (vs outs : List Logged) → IsMemory (get m) → AllLoggedStand listed_ (get m) (snap of ∷ []) (readings (get m) ap_ fp args) vs → HasRoom (data_ (enum_snapshot_match of)) vs
      → Do honest (data_ (enum_snapshot_match of)) vs amount k outs → IsFree (get m) (free_cells r (get m) ap_ fp args (data_ (enum_snapshot_match of)) amount k)
      → Completes d r m ap_ fp (data_ (enum_snapshot_match of)) args amount k outs (fragment args (match_plan many))
  enum_snapshot_match_whole taken sound r m ap_ fp k vs outs in_field stand room does free =
      let cells = readings (get m) ap_ fp args in
      let one = one_stands listed_ (get m) (snap of) cells vs stand in
      let h = to_type (Asked listed_) (LogStands (get m)) (OpenLogStands (get m)) (get m) of cells one.0 one.2 in
      let whole : length args ≡ 1 + greatest_size tys = omega (arith, readings_long (get m) ap_ fp args, h.3) in
      let suc_ : size (snap of) ≡ suc (greatest_size tys) = snap_size of ∙ omega arith in
      let cell = first_cell args (size (snap of)) (greatest_size tys) suc_ (omega (arith, whole, suc_)) taken.fit.marked.0 in
      let here = is_read (get m) ap_ fp args (argument args 0) cell ∙ first_word (get m) ap_ fp h.0 args h.4 in
      let small = (in_field (slot_address ap_ fp args (slots.Arg 0)) h.0 here).1 in
      let within = variant_within listed_ (get m) tys h.0 (drop 1 cells) h.1 h.5 in
      let branch = one_branch d honest (data_ (enum_snapshot_match of)) vs amount h.0 k (h.1 ∷ []) outs tt (ap (λ us. data_does (enum_snapshot_match of) us) (one.1 ∙ ap (λ v. v ∷ []) h.2)) does in
      subst (λ j. Completes d r m ap_ fp (data_ (enum_snapshot_match of)) args amount j outs (fragment args (match_plan many))) branch
      (matched_whole (enum_snapshot_match of) vs outs (λ s cells. tt) (cells_free (enum_snapshot_match of) (λ k. refl) (λ k. refl)) sound r m ap_ fp h.0 in_field stand room (subst (λ j. Do honest (data_ (enum_snapshot_match of)) vs amount j outs) (sym branch) does) here small within
      (subst (λ j. IsFree (get m) (free_cells r (get m) ap_ fp args (data_ (enum_snapshot_match of)) amount j)) (sym branch) free))

  pub match_lowers : Takes (data_ (enum_match of)) args amount → Lowers d (data_ (enum_match of)) args amount (fragment args (match_plan many))
  match_lowers taken = record {
    form = formed args taken.fit.close taken.inner (match_plan many) (match_met many) (match_small many);
    hints = hints_fine args taken.fit.close taken.inner (match_plan many) (match_met many);
    counts = λ m ap_ fp k end evaluation. match_counts (enum_match of) (λ k. refl) (λ k. refl) m ap_ fp k end (match_ends m ap_ fp args many k end evaluation);
    sound = match_lowers_sound;
    token = λ m ap_ fp k pointer end evaluation small is. absurd (no_token pointer is);
    whole = λ r m ap_ fp k vs outs in_field stand room does free knows fresh. enum_match_whole taken match_lowers_sound r m ap_ fp k vs outs in_field stand room does free;
  } where
    match_lowers_sound : Sound d (data_ (enum_match of)) args amount (fragment args (match_plan many))
    match_lowers_sound padding m ap_ fp k end vs in_field stand room evaluation checked = match_shows taken padding m ap_ fp k end vs in_field stand (match_ends m ap_ fp args many k end evaluation)

  pub snapshot_match_lowers : Takes (data_ (enum_snapshot_match of)) args amount → Lowers d (data_ (enum_snapshot_match of)) args amount (fragment args (match_plan many))
  snapshot_match_lowers taken = record {
    form = formed args taken.fit.close taken.inner (match_plan many) (match_met many) (match_small many);
    hints = hints_fine args taken.fit.close taken.inner (match_plan many) (match_met many);
    counts = λ m ap_ fp k end evaluation. match_counts (enum_snapshot_match of) (λ k. refl) (λ k. refl) m ap_ fp k end (match_ends m ap_ fp args many k end evaluation);
    sound = snapshot_match_lowers_sound;
    token = λ m ap_ fp k pointer end evaluation small is. absurd (no_token pointer (sym (none_in_snap of (readings m ap_ fp args) refl) ∙ is));
    whole = λ r m ap_ fp k vs outs in_field stand room does free knows fresh. enum_snapshot_match_whole taken snapshot_match_lowers_sound r m ap_ fp k vs outs in_field stand room does free;
  } where
    snapshot_match_lowers_sound : Sound d (data_ (enum_snapshot_match of)) args amount (fragment args (match_plan many))
    snapshot_match_lowers_sound padding m ap_ fp k end vs in_field stand room evaluation checked = snapshot_match_shows taken padding m ap_ fp k end vs in_field stand (match_ends m ap_ fp args many k end evaluation)
