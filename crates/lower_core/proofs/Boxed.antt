-- A value that is put into a box.
use Rattle.std.proofs.Common.{◌≡◌, ℕ, zero, suc, ◌+◌, ◌-◌, ◌*◌, ◌<◌, ◌≤◌, ◌^◌, Bool, true, false, nat_lt, if◌then◌else◌, Option, None, IsSome, Some, List, [], ◌∷◌, map, length, refl, sym, ap, ◌∙◌, subst, arith}
use Rattle.std.specs.List.{All}
use Rattle.std.proofs.lemmas.List.{take_all}
use Rattle.std.proofs.lemmas.List.Elements.{All-head}
use Rattle.type_trees.specs.Ty.{Ty, size, box}
use Rattle.type_table.specs.Trees.{IsAllowed}
use Rattle.casm_word.specs.declared.cell_expr.CellExpr.{CellExpr}
use Rattle.ro_machine.specs.Readings.{cells_at}
use Rattle.casm_steps.specs.Reading.{readings}
use Rattle.frag_code.specs.Evaluation.{Tally, Evaluation, nothing, step_by}
use Rattle.cell_terms.specs.declared.term.Slot.TheVariants as slots
use Rattle.cell_terms.specs.declared.term.Term.{Term}
use Rattle.cell_terms.specs.declared.term.Term.TheVariants as terms
use Rattle.frag_plan.specs.Plan.{exit, fragment}
use Rattle.libfunc_registry.specs.Data.{into_box}
use Rattle.libfunc_registry.specs.Fam.{Fam, data_}
use Rattle.value_trees.specs.Logs.{Log, OpenLog, Logged}
use Rattle.value_trees.specs.Val as val
use Rattle.libfunc_meaning.specs.Data.{data_does}
use Rattle.libfunc_meaning.specs.Dictionaries.{Dictionary}
use Rattle.cost_table.specs.Terms.{run}
use Rattle.cell_forms.specs.Standing.{Padding, LoggedStands, AllLoggedStand}
use Rattle.frag_plan.specs.AtBegin.{slot_at, at_begin}
use Rattle.lower_kit.specs.Fitting.{IsSmallType, Takes}
use Rattle.lower_kit.specs.Counting.{Counts}
use Rattle.lower_kit.specs.Lowers.{Shows, Lowers}
use Rattle.lower_kit.specs.Rows.{same_each}
use Rattle.lower_kit.proofs.Lists.{readings_long, behind_read, run_long}
use Rattle.lower_kit.proofs.Near.{formed, hints_fine, sames_small, behind_small}
use Rattle.lower_kit.proofs.Shown.{quiet_counts, results_read, long, one_stood, one_stands}
use Rattle.lower_kit.proofs.Ways.{scene, Way, arguments_at, way_of, sames, sames_no_jump, sames_met, all_cells, arguments_read}
use Rattle.std.specs.FinMap.{get, insert}
use Rattle.std.specs.Option.{unwrap_or}
use Rattle.std.specs.List.{AllByRecursion, range_with_len}
use Rattle.std.proofs.lemmas.Bool.Decides.{nat_tests}
use Rattle.felt64.specs.Field.{modulus, sum}
use Rattle.felt64.proofs.FieldLaws.{sum_below}
use Rattle.cell_terms.specs.Resolving.{argument}
use Rattle.ro_machine.specs.Cells.{Cells}
use Rattle.ro_machine.specs.Memory.{IsMemory}
use Rattle.hint_source.specs.declared.kind.Kind.TheVariants as kind
use Rattle.hint_source.specs.Honest.{fresh_answer}
use Rattle.hint_source.specs.Remembered.{Remembered}
use Rattle.frag_fills.specs.Filling.{Answers, Filled}
use Rattle.frag_fills.specs.Lines.{PlanFills}
use Rattle.frag_fills.proofs.Lines.{got, gets_extends, plan_filling}
use Rattle.libfunc_meaning.specs.Do.{Do}
use Rattle.cost_table.specs.Costs.{row_of}
use Rattle.cost_table.specs.Marks.{is_cell}
use Rattle.cost_table.specs.Results.{branch_types, results}
use Rattle.cell_forms.specs.Standing.{listed}
use Rattle.lower_kit.specs.Completing.{IsFree, free_cells}
use Rattle.lower_kit.specs.Counting.{TokensAre}
use Rattle.lower_kit.specs.Logged.{honest}
use Rattle.lower_kit.specs.Lowers.{HasRoom, Completes}
use Rattle.lower_kit.proofs.Completed.{one_branch, Sound, quietly}
use Rattle.lower_kit.proofs.Free.{first_free, free_next, grown_by_one, grown_on, grown_within, contains_first, contains_behind}
use Rattle.lower_kit.proofs.RowsFilled.{given, AreListed, behind_filled}
use Rattle.lower_kit.proofs.Ways.{is_read}
use Rattle.lower_kit.proofs.Worded.{IsWord, words}
use Rattle.lower_core.proofs.Stored.{word_from}
use Rattle.lower_core.specs.Data.{box_plan}

answered : (o : Option ℕ) → IsSome o → o ≡ Some (unwrap_or o 0)
answered None some = cc
answered (Some n) some = refl

-- the first address of a segment is one of the field
fresh_small : (n b : ℕ) → fresh_answer n ≡ Some b → b < modulus
fresh_small n b is = by_cases (nat_lt (3 + n) (2 ^ 32 - 1)) refl is where
  by_cases : (c : Bool) → nat_lt (3 + n) (2 ^ 32 - 1) ≡ c → (if c then Some ((3 + n) * 2 ^ 32) else None) ≡ Some b → b < modulus
  by_cases true few at =
      let same : (3 + n) * 2 ^ 32 ≡ b = cc in
      let low : 3 + n < 2 ^ 32 - 1 = grind (arith, nat_tests, few) in
      omega (arith, same, low)
  by_cases false few at = cc

module _ (d : Dictionary Log OpenLog) (args : List CellExpr) (amount : ℕ) (ty : Ty) where
  abbrev box_fam : Fam
  box_fam = data_ (into_box ty)

  abbrev contents : List Term
  contents = run (terms.Behind (slots.Own 0) 0) (size ty)

  -- where some cells were said to lie behind a cell, the cell is listed
  pointer_listed : (m : ℕ → Option ℕ) (ap_ fp z : ℕ) (t : Tally) (k : ℕ) (end : Tally) → 1 ≤ z
      → Way m ap_ fp args false (same_each 0 (run (terms.Behind (slots.Own 0) 0) z) (exit 0)) t k end → slot_at m ap_ fp args (slots.Own 0) ≡ Some ((scene m ap_ fp args).w (slots.Own 0))
  pointer_listed m ap_ fp zero t k end some way = absurd (omega (arith, some))
  pointer_listed m ap_ fp (suc z) t k end some way = way.0.0.1.0

  record BoxEnds (m : ℕ → Option ℕ) (ap_ fp k : ℕ) (end : Tally) : Type 0 where
    branch : k ≡ 0
    steps : end.steps ≡ 1 + size ty
    change : end.change ≡ 1
    named : end.named ≡ []
    a : ℕ
    pointer : 1 ≤ size ty → slot_at m ap_ fp args (slots.Own 0) ≡ Some a
    read : arguments_at m ap_ fp args 0 (size ty) ≡ map (at_begin m ap_ fp args) contents

  box_ends : (m : ℕ → Option ℕ) (ap_ fp k : ℕ) (end : Tally) → Evaluation (fragment args (box_plan (size ty))) m ap_ fp k end → BoxEnds m ap_ fp k end
  box_ends m ap_ fp k end evaluation =
      let many : length contents ≡ size ty = run_long (terms.Behind (slots.Own 0) 0) (size ty) in
      let none = sames_no_jump args 0 contents (exit 0) (λ d i. refl) (0 + 1) (0 + 1 + 1) in
      let way = subst (λ jumps. Way m ap_ fp args jumps (box_plan (size ty)) nothing k end) none (way_of m ap_ fp args (box_plan (size ty)) k end evaluation) in
      let held = sames m ap_ fp args false 0 contents (exit 0) (step_by 1 nothing) k end way.1.1 in
      let last = held.way in
      record {
        branch = last.0;
        steps = ap (λ u. u.steps) last.1 ∙ omega (arith, held.steps, many);
        change = ap (λ u. u.change) last.1 ∙ held.change;
        named = ap (λ u. u.named) last.1 ∙ held.named;
        a = (scene m ap_ fp args).w (slots.Own 0);
        pointer = λ some. pointer_listed m ap_ fp (size ty) (step_by 1 nothing) k end some way.1.1;
        read = ap (λ n. arguments_at m ap_ fp args 0 n) (sym many) ∙ held.read;
      }

  box_counts : (m : ℕ → Option ℕ) (ap_ fp k : ℕ) (end : Tally) → BoxEnds m ap_ fp k end → Counts m ap_ fp box_fam args amount k end
  box_counts m ap_ fp k end ends =
      let steps = ends.steps in
      quiet_counts m ap_ fp box_fam args amount k end (omega (arith, steps)) ends.change ends.named refl

  box_shows : Takes box_fam args amount → (padding : Padding) (m : ℕ → Option ℕ) (ap_ fp k : ℕ) (end : Tally) (vs : List Logged)
      → AllLoggedStand padding m (ty ∷ []) (readings m ap_ fp args) vs → BoxEnds m ap_ fp k end → Shows d padding m ap_ fp box_fam args amount vs k end
  box_shows taken padding m ap_ fp k end vs stand ends =
      let cells = readings m ap_ fp args in
      let one = one_stands padding m ty cells vs stand in
      let many = long padding m ty cells one.0 one.2 in
      let listed = readings_long m ap_ fp args in
      let some : 1 ≤ size ty = (All-head IsAllowed (box ty) [] (All-head (All IsAllowed) (box ty ∷ []) [] taken.declared.allowed_results)).takes_cells in
      let room : 0 + size ty ≤ length args = omega (arith, many, listed) in
      let marked = all_cells (size ty) args taken.fit.marked.0 in
      let here = arguments_read m ap_ fp args 0 (size ty) room (λ j low high. marked j (omega (arith, high)) (omega (arith, high, room))) ∙ take_all (size ty) cells (omega (arith, many)) in
      let inside : cells_at m ends.a 0 (size ty) ≡ cells = sym (behind_read m ap_ fp args (slots.Own 0) ends.a (size ty) (ends.pointer some)) ∙ sym ends.read ∙ here in
      let read = results_read m ap_ fp box_fam args amount 0 end ends.change (omega arith) taken.fit.close ∙ ap (λ o. o ∷ []) (ends.pointer some) in
      subst (λ j. Shows d padding m ap_ fp box_fam args amount vs j end) (sym ends.branch) record {
        outs = val.boxed one.0 ∷ [];
        means = ap (λ us. data_does (into_box ty) us) one.1;
        stand = subst (λ c. AllLoggedStand padding m (box ty ∷ []) c (val.boxed one.0 ∷ [])) (sym read)
            (one_stood padding m (box ty) (Some ends.a ∷ []) (val.boxed one.0) (one.0, refl, (ends.a, refl, subst (λ c. LoggedStands padding m ty c one.0) (sym inside) one.2)));
      }

  -- the arguments' cells have words of the field
  listed_from : (m : Cells) (ap_ fp : ℕ) (i n : ℕ) → IsMemory (get m) → i + n ≤ length args → ((j : ℕ) → j < i + n → is_cell (argument args j) ≡ true)
      → AllByRecursion IsWord (readings (get m) ap_ fp args) → AreListed ap_ fp args false m i n
  listed_from m ap_ fp i zero in_field room cells all = tt
  listed_from m ap_ fp i (suc n) in_field room cells all =
      let word = word_from (get m) ap_ fp args 0 all i (omega arith) (omega (arith, room)) in
      let here = is_read (get m) ap_ fp args (argument args i) (cells i (omega arith)) ∙ word.1 in
      ((word.0, here, (in_field _ word.0 here).1), listed_from m ap_ fp (i + 1) n in_field (omega (arith, room)) (λ j low. cells j (omega (arith, low))) all)

  box_whole : Takes box_fam args amount → Sound d box_fam args amount (fragment args (box_plan (size ty))) → (r : Remembered) (m : Cells) (ap_ fp k : ℕ) (vs outs : List Logged) → IsMemory (get m)
      → AllLoggedStand listed (get m) (ty ∷ []) (readings (get m) ap_ fp args) vs → HasRoom box_fam vs → Do honest box_fam vs amount k outs
      → IsFree (get m) (free_cells r (get m) ap_ fp args box_fam amount k) → IsSome (fresh_answer r.fresh) → Completes d r m ap_ fp box_fam args amount k outs (fragment args (box_plan (size ty)))
  box_whole taken sound r m ap_ fp k vs outs in_field stand room does free fresh =
      let z_ = size ty in
      let b = unwrap_or (fresh_answer r.fresh) 0 in
      let answer : fresh_answer r.fresh ≡ Some b = answered (fresh_answer r.fresh) fresh in
      let one = one_stands listed (get m) ty (readings (get m) ap_ fp args) vs stand in
      let all = words (get m) ty (readings (get m) ap_ fp args) one.0 taken.declared.stored one.2 in
      let many : length args ≡ 0 + z_ = taken.fit.many in
      let marked = all_cells z_ args taken.fit.marked.0 in
      let a = sum ap_ 0 in
      let behind_ = map (sum b) (range_with_len 0 z_) in
      let small = fresh_small r.fresh b answer in
      let gets = given m a b small (first_free (get m) a behind_ free) in
      let m' = insert m a b in
      let s = record r { fresh = r.fresh + 1 } in
      let onward = gets_extends m m' a b gets in
      let points : slot_at (get m') ap_ fp args (slots.Own 0) ≡ Some b = got m m' a b gets in
      let listed_ = listed_from m ap_ fp 0 z_ in_field (omega (arith, many)) (λ j low. marked j (omega (arith, low)) (omega (arith, low, many))) all in
      let row = behind_filled ap_ fp args false (slots.Own 0) b 0 0 z_ (exit 0) (step_by 1 nothing) s m m' onward listed_ points (free_next m m' a b behind_ free gets) in
      let z : Filled = record { end = row.then_; remembered = s; cells = row.more } in
      let none = sames_no_jump args 0 contents (exit 0) (λ d i. refl) (0 + 1) (0 + 1 + 1) in
      let asks : Answers (Some kind.Fresh) a r m s m' = record { asked = kind.Fresh; word = b; asks = refl; answer = answer; small = small; open_ = gets.open_; added = refl; remembers = refl } in
      let filling = plan_filling args (box_plan z_) ap_ fp 0 r m z
      (subst (λ jumps. PlanFills ap_ fp args jumps (box_plan z_) nothing r m 0 z) (sym none)
      (nothing, s, m', (asks, refl), (step_by 1 nothing, s, m', (refl, refl, refl), row.on 0 z (refl, refl)))) in
      let branch = one_branch d honest box_fam vs amount 0 k (val.boxed one.0 ∷ []) outs tt (ap (λ us. data_does (into_box ty) us) one.1) does in
      let grown = grown_on m m' row.more (free_cells r (get m) ap_ fp args box_fam amount 0) (grown_by_one m m' a b _ gets (sum_below ap_ 0) (contains_first a behind_))
      (grown_within m' row.more behind_ _ (λ x h. contains_behind a x behind_ h) row.grown) in
      subst (λ j. Completes d r m ap_ fp box_fam args amount j outs (fragment args (box_plan z_))) branch
      (quietly d box_fam args amount (fragment args (box_plan z_)) sound tt (λ s cells. tt) r m ap_ fp 0 vs outs in_field stand room (subst (λ j. Do honest box_fam vs amount j outs) (sym branch) does) z filling grown row.named refl
      (let steps : 0 + 1 ≤ row.then_.steps = row.steps in omega (arith, steps)))

  pub box_lowers : Takes box_fam args amount → Lowers d box_fam args amount (fragment args (box_plan (size ty)))
  box_lowers taken =
      let few : size ty ≤ 2 ^ 14 = All-head IsSmallType ty [] taken.declared.small in
      let met = sames_met 0 contents (exit 0) refl in
      let small = sames_small 1 0 contents (exit 0) (omega arith) (behind_small 1 (slots.Own 0) (size ty) (omega arith, omega arith) few) tt in
      record {
        form = formed args taken.fit.close taken.inner (box_plan (size ty)) met ((omega arith, omega arith), (tt, small));
        hints = hints_fine args taken.fit.close taken.inner (box_plan (size ty)) met;
        counts = λ m ap_ fp k end evaluation. box_counts m ap_ fp k end (box_ends m ap_ fp k end evaluation);
        sound = box_sound;
        token = λ m ap_ fp k pointer end evaluation pointer_small is.
            subst (λ j. TokensAre (sum pointer (row_of box_fam j).checks) (branch_types box_fam j) (readings m (sum ap_ end.change) fp (results args amount box_fam j))) (sym (box_ends m ap_ fp k end evaluation).branch)
            (tt, tt);
        whole = λ r m ap_ fp k vs outs in_field stand room does free knows fresh. box_whole taken box_sound r m ap_ fp k vs outs in_field stand room does free fresh;
      } where
        box_sound : Sound d box_fam args amount (fragment args (box_plan (size ty)))
        box_sound padding m ap_ fp k end vs in_field stand room evaluation checked = box_shows taken padding m ap_ fp k end vs stand (box_ends m ap_ fp k end evaluation)
