-- What is stored in new cells or in a local: tokens keep their word, and an honest run comes through.
use Rattle.std.proofs.Common.{◌≡◌, ℕ, zero, suc, ◌+◌, ◌<◌, ◌≤◌, ◌^◌, false, Option, Some, List, [], ◌∷◌, map, drop, length, refl, sym, ap, ◌∙◌, subst, arith, length-drop}
use Rattle.std.specs.FinMap.{get}
use Rattle.std.specs.List.{All, AllByRecursion, Contains, range_with_len}
use Rattle.std.proofs.lemmas.List.{take_all}
use Rattle.std.proofs.lemmas.List.Elements.{All-head, All-tail, Contains-append_left}
use Rattle.felt64.specs.Field.{modulus, sum}
use Rattle.type_trees.specs.Ty.{Ty, size, uninitialized}
use Rattle.casm_word.specs.declared.cell_expr.CellExpr.{CellExpr}
use Rattle.casm_word.specs.Expressions.{IsExprInField}
use Rattle.ro_machine.specs.Cells.{Cells}
use Rattle.ro_machine.specs.Memory.{IsMemory}
use Rattle.ro_machine.specs.Readings.{cells_at}
use Rattle.ro_machine.proofs.ExtendLaws.{extends_itself}
use Rattle.casm_steps.specs.Reading.{reading, readings}
use Rattle.cell_terms.specs.Resolving.{argument}
use Rattle.cell_terms.specs.declared.term.Term.TheVariants as terms
use Rattle.hint_source.specs.Remembered.{Remembered}
use Rattle.frag_code.specs.Evaluation.{Tally, nothing, step_by}
use Rattle.frag_plan.specs.AtBegin.{at_begin}
use Rattle.frag_plan.specs.Plan.{Plan, reserve, line, exit, fragment}
use Rattle.frag_fills.specs.Filling.{Filled}
use Rattle.frag_fills.specs.Lines.{PlanFills}
use Rattle.frag_fills.proofs.Lines.{plan_filling}
use Rattle.libfunc_registry.specs.Control as controls
use Rattle.libfunc_registry.specs.Fam.{Fam, control}
use Rattle.value_trees.specs.Logs.{Log, OpenLog, Logged}
use Rattle.libfunc_meaning.specs.Control.{control_does}
use Rattle.libfunc_meaning.specs.Dictionaries.{Dictionary}
use Rattle.libfunc_meaning.specs.Do.{Do}
use Rattle.cost_table.specs.Costs.{row_of}
use Rattle.cost_table.specs.Results.{branch_types, results}
use Rattle.cost_table.specs.Terms.{further, kept}
use Rattle.cell_forms.specs.Standing.{listed, AllLoggedStand}
use Rattle.lower_kit.specs.Completing.{IsFree, free_cells}
use Rattle.lower_kit.specs.Counting.{token_in, TokensAre}
use Rattle.lower_kit.specs.Fitting.{Takes}
use Rattle.lower_kit.specs.Logged.{honest}
use Rattle.lower_kit.specs.Lowers.{HasRoom, Completes}
use Rattle.lower_kit.specs.Rows.{lay_each, same_each}
use Rattle.lower_kit.proofs.Completed.{one_branch, Sound, quietly}
use Rattle.lower_kit.proofs.Free.{grown_within, free_front, not_grown, reading_small}
use Rattle.lower_kit.proofs.Lists.{readings_long, laid_read, kept_read, run_long}
use Rattle.lower_kit.proofs.RowsFilled.{Reads, lays_filled, sames_filled, argument_cells}
use Rattle.lower_kit.proofs.Shown.{results_read, one_stands, two_stand, all_kept_read}
use Rattle.lower_kit.proofs.Tokens.{token_kept, one_stays}
use Rattle.lower_kit.proofs.Ways.{lays_no_jump, sames_no_jump, all_cells, arguments_at, arguments_read}
use Rattle.lower_kit.proofs.Worded.{IsWord, words}

-- an argument's word, from one argument on
pub word_from : (m : ℕ → Option ℕ) (ap_ fp : ℕ) (args : List CellExpr) (n : ℕ) → AllByRecursion IsWord (drop n (readings m ap_ fp args)) → (i : ℕ) → n ≤ i → i < length args
    → IsWord (reading m ap_ fp (argument args i))
word_from m ap_ fp [] n all i low few = absurd (omega (arith, few))
word_from m ap_ fp (e ∷ args) zero all zero low few = all.0
word_from m ap_ fp (e ∷ args) zero all (suc i) low few = word_from m ap_ fp args zero all.1 i (omega arith) (omega (arith, few))
word_from m ap_ fp (e ∷ args) (suc n) all zero low few = absurd (omega (arith, low))
word_from m ap_ fp (e ∷ args) (suc n) all (suc i) low few = word_from m ap_ fp args n all i (omega (arith, low)) (omega (arith, few))

pub argument_in_field : (args : List CellExpr) (i : ℕ) → i < length args → All IsExprInField args → IsExprInField (argument args i)
argument_in_field [] i few all = absurd (omega (arith, few))
argument_in_field (e ∷ args) zero few all = All-head IsExprInField e args all
argument_in_field (e ∷ args) (suc i) few all = argument_in_field args i (omega (arith, few)) (All-tail IsExprInField e args all)

-- arguments as they are read words of the field
kept_reads : (m : Cells) (ap_ fp : ℕ) (args : List CellExpr) (from k n : ℕ) → IsMemory (get m) → All IsExprInField args → from + k + n ≤ length args
    → AllByRecursion IsWord (drop from (readings (get m) ap_ fp args)) → AllByRecursion (Reads ap_ fp args false m) (map (further (terms.Whole from)) (range_with_len k n))
kept_reads m ap_ fp args from k zero in_field small few all = tt
kept_reads m ap_ fp args from k (suc n) in_field small few all =
    let within : from + k < length args = omega (arith, few) in
    let word = word_from (get m) ap_ fp args from all (from + k) (omega arith) within in (
      (word.0, word.1, reading_small (get m) ap_ fp word.0 (argument args (from + k)) in_field (argument_in_field args (from + k) within small) word.1),
      kept_reads m ap_ fp args from (k + 1) n in_field small (omega (arith, few)) all,
    )

module _ (d : Dictionary Log OpenLog) (args : List CellExpr) (amount : ℕ) (ty : Ty) where
  abbrev temp_fam : Fam
  temp_fam = control (controls.store_temp ty)

  abbrev temp_plan : Plan
  temp_plan = lay_each (kept 0 (size ty)) (exit 0)

  pub temp_token : Takes temp_fam args amount → size ty ≤ 2 ^ 14 → (m : ℕ → Option ℕ) (ap_ fp k pointer : ℕ) (end : Tally) → k ≡ 0 → end.change ≡ size ty
      → cells_at m ap_ 0 (size ty) ≡ map (at_begin m ap_ fp args) (kept 0 (size ty)) → pointer < modulus → token_in (ty ∷ []) (readings m ap_ fp args) ≡ Some pointer
      → TokensAre (sum pointer (row_of temp_fam k).checks) (branch_types temp_fam k) (readings m (sum ap_ end.change) fp (results args amount temp_fam k))
  temp_token taken few m ap_ fp k pointer end branch change laid small is =
      let many : length args ≡ 0 + size ty = taken.fit.many in
      let cells = readings m ap_ fp args in
      let whole : length cells ≡ size ty = omega (arith, many, readings_long m ap_ fp args) in
      let read = results_read m ap_ fp temp_fam args amount 0 end change (omega (arith, few)) taken.fit.close in
      let same = read ∙ laid_read m ap_ fp args (size ty) ∙ laid ∙ all_kept_read m ap_ fp args (size ty) (omega (arith, many)) in
      subst (λ j. TokensAre (sum pointer (row_of temp_fam j).checks) (branch_types temp_fam j) (readings m (sum ap_ end.change) fp (results args amount temp_fam j))) (sym branch)
      (subst (λ c. TokensAre (sum pointer 0) (ty ∷ []) c) (sym same) (one_stays (sum pointer 0) ty cells whole (token_kept pointer ty cells small whole is)))

  pub temp_whole : Takes temp_fam args amount → Sound d temp_fam args amount (fragment args temp_plan) → (r : Remembered) (m : Cells) (ap_ fp k : ℕ) (vs outs : List Logged) → IsMemory (get m)
      → AllLoggedStand listed (get m) (ty ∷ []) (readings (get m) ap_ fp args) vs → HasRoom temp_fam vs → Do honest temp_fam vs amount k outs
      → IsFree (get m) (free_cells r (get m) ap_ fp args temp_fam amount k) → Completes d r m ap_ fp temp_fam args amount k outs (fragment args temp_plan)
  temp_whole taken sound r m ap_ fp k vs outs in_field stand room does free =
      let n = size ty in
      let many : length (kept 0 n) ≡ n = run_long (terms.Whole 0) n in
      let one = one_stands listed (get m) ty (readings (get m) ap_ fp args) vs stand in
      let all = words (get m) ty (readings (get m) ap_ fp args) one.0 taken.declared.stored one.2 in
      let whole : length args ≡ 0 + n = taken.fit.many in
      let reads = kept_reads m ap_ fp args 0 0 n in_field taken.fit.in_field (omega (arith, whole)) all in
      let front = free_front (get m) (map (sum ap_) (range_with_len 0 n)) _ free in
      let filled = lays_filled ap_ fp args false (kept 0 n) (exit 0) nothing r m m (extends_itself (get m)) reads (subst (λ i. IsFree (get m) (map (sum ap_) (range_with_len 0 i))) (sym many) front) in
      let z : Filled = record { end = filled.then_; remembered = r; cells = filled.more } in
      let none = lays_no_jump args (kept 0 n) (exit 0) (λ d i. refl) 0 0 in
      let filling = plan_filling args temp_plan ap_ fp 0 r m z (subst (λ jumps. PlanFills ap_ fp args jumps temp_plan nothing r m 0 z) (sym none) (filled.on 0 z (refl, refl))) in
      let branch = one_branch d honest temp_fam vs amount 0 k (one.0 ∷ []) outs tt (ap (λ us. control_does (controls.store_temp ty) us) one.1) does in
      let grown = grown_within m filled.more _ (free_cells r (get m) ap_ fp args temp_fam amount 0)
      (λ a h. Contains-append_left (map (sum ap_) (range_with_len 0 n)) _ a (subst (λ i. Contains (map (sum ap_) (range_with_len 0 i)) a) many h)) filled.grown in
      subst (λ j. Completes d r m ap_ fp temp_fam args amount j outs (fragment args temp_plan)) branch
      (quietly d temp_fam args amount (fragment args temp_plan) sound tt (λ s cells. tt) r m ap_ fp 0 vs outs in_field stand room (subst (λ j. Do honest temp_fam vs amount j outs) (sym branch) does) z filling grown filled.named refl (omega arith))

  abbrev local_fam : Fam
  local_fam = control (controls.store_local ty)

  abbrev local_plan : Plan
  local_plan = same_each 0 (kept (size ty) (size ty)) (exit 0)

  pub local_token : Takes local_fam args amount → (m : ℕ → Option ℕ) (ap_ fp k pointer : ℕ) (end : Tally) → k ≡ 0 → end.change ≡ 0
      → arguments_at m ap_ fp args 0 (size ty) ≡ map (at_begin m ap_ fp args) (kept (size ty) (size ty)) → pointer < modulus
      → token_in (uninitialized ty ∷ ty ∷ []) (readings m ap_ fp args) ≡ Some pointer
      → TokensAre (sum pointer (row_of local_fam k).checks) (branch_types local_fam k) (readings m (sum ap_ end.change) fp (results args amount local_fam k))
  local_token taken m ap_ fp k pointer end branch change held small is =
      let n = size ty in
      let cells = readings m ap_ fp args in
      let many : length args ≡ 0 + n + n = taken.fit.many in
      let listed_ = readings_long m ap_ fp args in
      let room : n + n ≤ length args = omega (arith, many) in
      let rest : length (drop n cells) ≡ n = omega (arith, many, listed_, length-drop n cells) in
      let read = results_read m ap_ fp local_fam args amount 0 end change (omega arith) taken.fit.close in
      let value = kept_read m ap_ fp args n n room ∙ take_all n (drop n cells) (omega (arith, rest)) in
      let local_cells = arguments_read m ap_ fp args 0 n (omega (arith, room)) (λ j low high. all_cells n args taken.fit.local j (omega (arith, high)) (omega (arith, high, room))) in
      let same = read ∙ kept_read m ap_ fp args 0 n (omega (arith, room)) ∙ sym local_cells ∙ held ∙ value in
      subst (λ j. TokensAre (sum pointer (row_of local_fam j).checks) (branch_types local_fam j) (readings m (sum ap_ end.change) fp (results args amount local_fam j))) (sym branch)
      (subst (λ c. TokensAre (sum pointer 0) (ty ∷ []) c) (sym same) (one_stays (sum pointer 0) ty (drop n cells) rest (token_kept pointer ty (drop n cells) small rest is)))

  pub local_whole : Takes local_fam args amount → Sound d local_fam args amount (fragment args local_plan) → (r : Remembered) (m : Cells) (ap_ fp k : ℕ) (vs outs : List Logged) → IsMemory (get m)
      → AllLoggedStand listed (get m) (uninitialized ty ∷ ty ∷ []) (readings (get m) ap_ fp args) vs → HasRoom local_fam vs → Do honest local_fam vs amount k outs
      → IsFree (get m) (free_cells r (get m) ap_ fp args local_fam amount k) → Completes d r m ap_ fp local_fam args amount k outs (fragment args local_plan)
  local_whole taken sound r m ap_ fp k vs outs in_field stand room does free =
      let n = size ty in
      let many : length (kept n n) ≡ n = run_long (terms.Whole n) n in
      let two = two_stand listed (get m) (uninitialized ty) ty (readings (get m) ap_ fp args) vs stand in
      let all = words (get m) ty (drop n (readings (get m) ap_ fp args)) two.1 taken.declared.stored two.4 in
      let whole : length args ≡ 0 + n + n = taken.fit.many in
      let reads = kept_reads m ap_ fp args n 0 n in_field taken.fit.in_field (omega (arith, whole)) all in
      let filled = sames_filled ap_ fp args false 0 (kept n n) (exit 0) nothing r m m (extends_itself (get m)) reads (subst (λ i. IsFree (get m) (argument_cells ap_ fp args false 0 i)) (sym many) free) in
      let z : Filled = record { end = filled.then_; remembered = r; cells = filled.more } in
      let none = sames_no_jump args 0 (kept n n) (exit 0) (λ d i. refl) 0 0 in
      let filling = plan_filling args local_plan ap_ fp 0 r m z (subst (λ jumps. PlanFills ap_ fp args jumps local_plan nothing r m 0 z) (sym none) (filled.on 0 z (refl, refl))) in
      let branch = one_branch d honest local_fam vs amount 0 k (two.1 ∷ []) outs tt (ap (λ us. control_does (controls.store_local ty) us) two.2) does in
      let grown = grown_within m filled.more _ (free_cells r (get m) ap_ fp args local_fam amount 0)
      (λ a h. subst (λ i. Contains (argument_cells ap_ fp args false 0 i) a) many h) filled.grown in
      subst (λ j. Completes d r m ap_ fp local_fam args amount j outs (fragment args local_plan)) branch
      (quietly d local_fam args amount (fragment args local_plan) sound tt (λ s cells. tt) r m ap_ fp 0 vs outs in_field stand room (subst (λ j. Do honest local_fam vs amount j outs) (sym branch) does) z filling grown filled.named refl (omega arith))

module _ (d : Dictionary Log OpenLog) (args : List CellExpr) (amount : ℕ) where
  abbrev locals_fam : Fam
  locals_fam = control controls.finalize_locals

  abbrev locals_plan : Plan
  locals_plan = line (reserve amount) (exit 0)

  pub locals_whole : Sound d locals_fam args amount (fragment args locals_plan) → (r : Remembered) (m : Cells) (ap_ fp k : ℕ) (vs outs : List Logged) → IsMemory (get m)
      → AllLoggedStand listed (get m) [] (readings (get m) ap_ fp args) vs → HasRoom locals_fam vs → Do honest locals_fam vs amount k outs
      → Completes d r m ap_ fp locals_fam args amount k outs (fragment args locals_plan)
  locals_whole sound r m ap_ fp k vs outs in_field stand room does =
      let z : Filled = record { end = step_by amount nothing; remembered = r; cells = m } in
      let filling = plan_filling args locals_plan ap_ fp 0 r m z (step_by amount nothing, r, m, (refl, refl, refl), (refl, refl)) in
      let branch = one_branch d honest locals_fam vs amount 0 k [] outs tt (ap (λ us. control_does controls.finalize_locals us) stand.1) does in
      subst (λ j. Completes d r m ap_ fp locals_fam args amount j outs (fragment args locals_plan)) branch
      (quietly d locals_fam args amount (fragment args locals_plan) sound tt (λ s cells. tt) r m ap_ fp 0 vs outs in_field stand room (subst (λ j. Do honest locals_fam vs amount j outs) (sym branch) does) z filling (not_grown m _) refl refl (omega arith))
