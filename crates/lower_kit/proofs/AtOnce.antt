-- Libfuncs without code: their fragment is one exit.
use Rattle.std.proofs.Common.{◌≡◌, ℕ, ◌<◌, ◌^◌, Option, Some, List, map, refl, sym, ap, ◌∙◌, subst, arith}
use Rattle.felt64.specs.Field.{modulus, sum}
use Rattle.std.specs.FinMap.{get}
use Rattle.casm_word.specs.declared.cell_expr.CellExpr.{CellExpr}
use Rattle.ro_machine.specs.Cells.{Cells}
use Rattle.hint_source.specs.Remembered.{Remembered}
use Rattle.frag_fills.specs.Filling.{Filled, Filling}
use Rattle.frag_fills.proofs.Lines.{plan_filling}
use Rattle.ro_machine.specs.Memory.{IsMemory}
use Rattle.casm_steps.specs.Reading.{readings}
use Rattle.frag_code.specs.Evaluation.{Tally, Evaluation, nothing}
use Rattle.frag_plan.specs.Plan.{exit, fragment}
use Rattle.libfunc_registry.specs.Fam.{Fam, takes}
use Rattle.value_trees.specs.Logs.{Log, OpenLog, Logged}
use Rattle.libfunc_meaning.specs.Dictionaries.{Dictionary}
use Rattle.libfunc_meaning.specs.Do.{Do}
use Rattle.cost_table.specs.Costs.{row_of}
use Rattle.cost_table.specs.Results.{branch_types, moved_by, result_terms, results}
use Rattle.cell_forms.specs.Standing.{Padding, listed, AllLoggedStand}
use Rattle.frag_plan.specs.AtBegin.{at_begin}
use Rattle.lower_kit.specs.Fitting.{Takes}
use Rattle.lower_kit.specs.Counting.{Counts, change_by, token_in, TokensAre}
use Rattle.lower_kit.specs.Lowers.{Shows, Completes, Lowers}
use Rattle.lower_kit.proofs.Completed.{IsUnlogged, one_branch, quietly, unasked}
use Rattle.ro_machine.specs.Readings.{Readings}
use Rattle.lower_kit.specs.Completing.{BeginsFresh}
use Rattle.lower_kit.specs.Logged.{honest}
use Rattle.lower_kit.proofs.Free.{not_grown}
use Rattle.lower_kit.proofs.Near.{formed, hints_fine}
use Rattle.lower_kit.proofs.Shown.{quiet_counts, results_read}
use Rattle.lower_kit.proofs.Ways.{way_of}

module _ (d : Dictionary Log OpenLog) (fam : Fam) (args : List CellExpr) (amount : ℕ) where
  -- what the family does with the values of its arguments stands where its result terms read, on branch 0
  abbrev pub Moves : Type 0
  Moves = (padding : Padding) (m : ℕ → Option ℕ) (ap_ fp : ℕ) (vs : List Logged) → IsMemory m → AllLoggedStand padding m (takes fam) (readings m ap_ fp args) vs
      → (outs : List Logged) × Do d fam vs amount 0 outs × AllLoggedStand padding m (branch_types fam 0) (map (at_begin m ap_ fp args) (result_terms args amount fam 0)) outs

  -- a range-check token among the results has the word of the one among the arguments
  abbrev pub Hands : Type 0
  Hands = (m : ℕ → Option ℕ) (ap_ fp pointer : ℕ) → pointer < modulus → token_in (takes fam) (readings m ap_ fp args) ≡ Some pointer
      → TokensAre (sum pointer 0) (branch_types fam 0) (map (at_begin m ap_ fp args) (result_terms args amount fam 0))

  -- what is told of the family's one branch: it moves ap by nothing and checks nothing; and the family opens no dictionary
  pub record IsStill : Type 0 where
    pub unlogged : IsUnlogged fam
    pub begins : (r : Remembered) (cells : Readings) → BeginsFresh r fam cells
    pub change : change_by amount fam 0 ≡ 0
    pub moved : moved_by fam 0 ≡ 0
    pub checks : (row_of fam 0).checks ≡ 0

  ends : (m : ℕ → Option ℕ) (ap_ fp k : ℕ) (end : Tally) → Evaluation (fragment args (exit 0)) m ap_ fp k end → (k ≡ 0) × (end ≡ nothing)
  ends m ap_ fp k end evaluation = way_of m ap_ fp args (exit 0) k end evaluation

  counted : IsStill → (m : ℕ → Option ℕ) (ap_ fp k : ℕ) (end : Tally) → Evaluation (fragment args (exit 0)) m ap_ fp k end → Counts m ap_ fp fam args amount k end
  counted still m ap_ fp k end evaluation =
      let at_end = ends m ap_ fp k end evaluation in
      subst (λ j. Counts m ap_ fp fam args amount j end) (sym at_end.0)
      (subst (λ u. Counts m ap_ fp fam args amount 0 u) (sym at_end.1)
      (quiet_counts m ap_ fp fam args amount 0 nothing (omega arith) (sym still.change) refl still.checks))

  shown : Takes fam args amount → IsStill → Moves → (padding : Padding) (m : ℕ → Option ℕ) (ap_ fp k : ℕ) (end : Tally) (vs : List Logged) → IsMemory m
      → AllLoggedStand padding m (takes fam) (readings m ap_ fp args) vs → Evaluation (fragment args (exit 0)) m ap_ fp k end → Shows d padding m ap_ fp fam args amount vs k end
  shown taken still moves padding m ap_ fp k end vs in_field stand evaluation =
      let at_end = ends m ap_ fp k end evaluation in
      let here = moves padding m ap_ fp vs in_field stand in
      let change : end.change ≡ moved_by fam 0 = ap (λ u. u.change) at_end.1 ∙ sym still.moved in
      let few : moved_by fam 0 < 2 ^ 62 = omega (arith, still.moved) in
      subst (λ j. Shows d padding m ap_ fp fam args amount vs j end) (sym at_end.0) record {
        outs = here.0;
        means = here.1;
        stand = subst (λ c. AllLoggedStand padding m (branch_types fam 0) c here.0) (sym (results_read m ap_ fp fam args amount 0 end change few taken.fit.close)) here.2;
      }

  -- the fragment evaluates
  filled : (r : Remembered) (m : Cells) (ap_ fp : ℕ) → Filling (fragment args (exit 0)) ap_ fp r m 0 (record { end = nothing; remembered = r; cells = m })
  filled r m ap_ fp = plan_filling args (exit 0) ap_ fp 0 r m (record { end = nothing; remembered = r; cells = m }) (refl, refl)

  handed : Takes fam args amount → IsStill → Hands → (m : ℕ → Option ℕ) (ap_ fp k pointer : ℕ) (end : Tally) → Evaluation (fragment args (exit 0)) m ap_ fp k end → pointer < modulus
      → token_in (takes fam) (readings m ap_ fp args) ≡ Some pointer → TokensAre (sum pointer (row_of fam k).checks) (branch_types fam k) (readings m (sum ap_ end.change) fp (results args amount fam k))
  handed taken still hands m ap_ fp k pointer end evaluation small is =
      let at_end = ends m ap_ fp k end evaluation in
      let change : end.change ≡ moved_by fam 0 = ap (λ u. u.change) at_end.1 ∙ sym still.moved in
      let few : moved_by fam 0 < 2 ^ 62 = omega (arith, still.moved) in
      subst (λ j. TokensAre (sum pointer (row_of fam j).checks) (branch_types fam j) (readings m (sum ap_ end.change) fp (results args amount fam j))) (sym at_end.0)
      (subst (λ n. TokensAre (sum pointer n) (branch_types fam 0) (readings m (sum ap_ end.change) fp (results args amount fam 0))) (sym still.checks)
      (subst (λ c. TokensAre (sum pointer 0) (branch_types fam 0) c) (sym (results_read m ap_ fp fam args amount 0 end change few taken.fit.close)) (hands m ap_ fp pointer small is)))

  pub at_once : Takes fam args amount → IsStill → Moves → Hands → Lowers d fam args amount (fragment args (exit 0))
  at_once taken still moves hands = record {
    form = formed args taken.fit.close taken.inner (exit 0) refl tt;
    hints = hints_fine args taken.fit.close taken.inner (exit 0) refl;
    counts = counted still;
    sound = λ padding m ap_ fp k end vs in_field stand room evaluation small. shown taken still moves padding m ap_ fp k end vs in_field stand evaluation;
    token = λ m ap_ fp k pointer end evaluation small is. handed taken still hands m ap_ fp k pointer end evaluation small is;
    whole = λ r m ap_ fp k vs outs in_field stand room does free knows fresh.
        let branch = one_branch d honest fam vs amount 0 k _ outs still.unlogged (moves listed (get m) ap_ fp vs in_field stand).1 does in
        let does' = subst (λ j. Do honest fam vs amount j outs) (sym branch) does in
        let z : Filled = record { end = nothing; remembered = r; cells = m } in
        let told = unasked d fam args amount (fragment args (exit 0)) r z refl in
        subst (λ j. Completes d r m ap_ fp fam args amount j outs (fragment args (exit 0))) branch
        (quietly d fam args amount (fragment args (exit 0)) (λ padding m ap_ fp k end vs in_field stand room evaluation small. shown taken still moves padding m ap_ fp k end vs in_field stand evaluation)
        still.unlogged still.begins r m ap_ fp 0 vs outs in_field stand room does' z (filled r m ap_ fp) (not_grown m _) refl told.0 told.1);
  }
