-- Felts and constants meet the lowering contract.
use Rattle.std.proofs.Common.{◌≡◌, ◌≢◌, ◌⊎◌, ℕ, ◌+◌, ◌-◌, ◌*◌, ◌<◌, true, if◌then◌else◌, Option, Some, List, [], ◌∷◌, length, refl, sym, ap, ◌∙◌, subst, inl, inr, arith, ne_eqb}
use Rattle.std.proofs.Math.Nat.{mod-lt}
use Rattle.felt64.specs.Field.{modulus, sum, difference, product}
use Rattle.type_trees.specs.Ty.{number, nonzero}
use Rattle.type_trees.specs.declared.num.Num.{Num}
use Rattle.type_trees.specs.declared.num.Num.TheVariants as nums
use Rattle.casm_word.specs.declared.cell_expr.CellExpr.{CellExpr}
use Rattle.casm_word.specs.declared.cell_expr.CellExpr.TheVariants as expr
use Rattle.casm_steps.specs.Reading.{address, reading, readings}
use Rattle.casm_steps.proofs.Readings.{both_is}
use Rattle.frag_code.specs.Evaluation.{Tally, Evaluation, nothing, step_on}
use Rattle.cell_terms.specs.declared.term.Slot.TheVariants as slots
use Rattle.cell_terms.specs.Resolving.{at_of, argument}
use Rattle.frag_plan.specs.Plan.{Plan, test, exit, fragment}
use Rattle.libfunc_registry.specs.Felts.{FeltsFam, const, felt64_add, felt64_sub, felt64_mul, is_zero, unwrap_non_zero}
use Rattle.libfunc_registry.specs.Fam.{Fam, felts}
use Rattle.value_trees.specs.Logs.{Log, OpenLog, Logged}
use Rattle.value_trees.specs.Of.{bound}
use Rattle.value_trees.specs.Val as val
use Rattle.libfunc_meaning.specs.Dictionaries.{Dictionary}
use Rattle.libfunc_meaning.specs.Felts.{felts_does}
use Rattle.cost_table.specs.declared.mark.Mark.TheVariants as marks
use Rattle.cost_table.specs.Marks.{is_cell, is_cell_or_number, MeetMarks}
use Rattle.cost_table.specs.Terms.{operand, operand_of}
use Rattle.std.specs.FinMap.{get}
use Rattle.std.proofs.lemmas.Bool.{cases_eq}
use Rattle.ro_machine.specs.Cells.{Cells}
use Rattle.ro_machine.specs.Memory.{IsMemory}
use Rattle.hint_source.specs.Remembered.{Remembered}
use Rattle.frag_fills.specs.Filling.{Filled}
use Rattle.frag_fills.proofs.Lines.{plan_filling}
use Rattle.libfunc_meaning.specs.Do.{Do}
use Rattle.lower_kit.specs.Logged.{honest}
use Rattle.lower_kit.proofs.Completed.{one_branch, Sound, quietly}
use Rattle.lower_kit.proofs.Free.{not_grown}
use Rattle.lower_kit.proofs.Tokens.{no_token}
use Rattle.cell_forms.proofs.Once.{both_true}
use Rattle.cell_forms.specs.Standing.{Padding, listed, AllLoggedStand}
use Rattle.frag_plan.specs.AtBegin.{slot_at, second_at}
use Rattle.lower_kit.specs.Fitting.{Takes}
use Rattle.lower_kit.specs.Counting.{Counts}
use Rattle.lower_kit.specs.Lowers.{HasRoom, Completes, Shows, Lowers}
use Rattle.lower_kit.proofs.AtOnce.{Moves, at_once}
use Rattle.lower_kit.proofs.Near.{formed, hints_fine}
use Rattle.lower_kit.proofs.Shown.{quiet_counts, results_read, none_stand, one_stood, one_stands, two_stand, first_read}
use Rattle.lower_kit.proofs.Ways.{one_word, way_of, is_read, all_cells}
use Rattle.lower_core.specs.Felts.{felts_plan}

abbrev felt : Num
felt = nums.Felt64

module _ (d : Dictionary Log OpenLog) (amount : ℕ) where
  const_moves : (args : List CellExpr) (k : Num) (n : ℕ) → n < bound k → Moves d (felts (const k n)) args amount
  const_moves args k n few padding m ap_ fp vs in_field stand =
      (val.number k n ∷ [], ap (λ us. felts_does (const k n) us) stand.1, one_stood padding m (number k) (Some n ∷ []) (val.number k n) (n, refl, (refl, few)))

  unwrap_moves : (args : List CellExpr) (k : Num) → Moves d (felts (unwrap_non_zero k)) args amount
  unwrap_moves args k padding m ap_ fp vs in_field stand =
      let one = one_stands padding m (nonzero k) (readings m ap_ fp args) vs stand in
      let n = one.2.0 in
      let here : reading m ap_ fp (argument args 0) ≡ Some n = first_read m ap_ fp n args one.2.1 in (
        one.0 ∷ [],
        ap (λ us. felts_does (unwrap_non_zero k) us) one.1,
        subst (λ o. AllLoggedStand padding m (number k ∷ []) (o ∷ []) (one.0 ∷ [])) (sym here) (one_stood padding m (number k) (Some n ∷ []) one.0 (n, refl, (one.2.2.0, one.2.2.1))),
      )

  operand_read : (m : ℕ → Option ℕ) (ap_ fp i : ℕ) (args : List CellExpr) (e : CellExpr) → argument args i ≡ e → is_cell_or_number e ≡ true
      → second_at m ap_ fp args (operand_of i e) ≡ reading m ap_ fp e
  operand_read m ap_ fp i args (expr.Cell at) is form = ap (λ e. m (address ap_ fp (at_of e))) is
  operand_read m ap_ fp i args (expr.DoubleCell at inner) is form = cc
  operand_read m ap_ fp i args (expr.Imm n) is form = refl
  operand_read m ap_ fp i args (expr.Sum at s) is form = cc
  operand_read m ap_ fp i args (expr.Diff at s) is form = cc
  operand_read m ap_ fp i args (expr.Product at s) is form = cc

  -- the operands of an operation on two numbers of the field
  record Operands (m : ℕ → Option ℕ) (ap_ fp : ℕ) (args : List CellExpr) (vs : List Logged) : Type 0 where
    a : ℕ
    b : ℕ
    values : vs ≡ val.number felt a ∷ val.number felt b ∷ []
    first : slot_at m ap_ fp args (slots.Arg 0) ≡ Some a
    second : second_at m ap_ fp args (operand args 1) ≡ Some b

  operands : (padding : Padding) (m : ℕ → Option ℕ) (ap_ fp : ℕ) (args : List CellExpr) (vs : List Logged) → length args ≡ 2
      → MeetMarks (marks.Cells ∷ marks.CellOrNumber ∷ []) (number felt ∷ number felt ∷ []) args
      → AllLoggedStand padding m (number felt ∷ number felt ∷ []) (readings m ap_ fp args) vs → Operands m ap_ fp args vs
  operands padding m ap_ fp [] vs many marked stand = absurd (omega (arith, many))
  operands padding m ap_ fp (e ∷ []) vs many marked stand = absurd (omega (arith, many))
  operands padding m ap_ fp (e ∷ e' ∷ x ∷ args) vs many marked stand = absurd (omega (arith, many))
  operands padding m ap_ fp (e ∷ e' ∷ []) vs many marked stand =
      let two = two_stand padding m (number felt) (number felt) (readings m ap_ fp (e ∷ e' ∷ [])) vs stand in
      let cell : is_cell e ≡ true = (both_true (is_cell e) true marked.0).0 in
      let other : is_cell_or_number e' ≡ true = (both_true (is_cell_or_number e') true marked.1.0).0 in
      record {
        a = two.3.0;
        b = two.4.0;
        values = two.2 ∙ ap (λ v. v ∷ two.1 ∷ []) two.3.2.0 ∙ ap (λ w. val.number felt two.3.0 ∷ w ∷ []) two.4.2.0;
        first = is_read m ap_ fp (e ∷ e' ∷ []) e cell ∙ first_read m ap_ fp two.3.0 (e ∷ []) two.3.1;
        second = operand_read m ap_ fp 1 (e ∷ e' ∷ []) e' refl other ∙ first_read m ap_ fp two.4.0 (e' ∷ []) two.4.1;
      }

  -- a result whose one cell reads a number of the field
  number_stood : (padding : Padding) (m : ℕ → Option ℕ) (o : Option ℕ) (n : ℕ) → o ≡ Some n → n < modulus → AllLoggedStand padding m (number felt ∷ []) (o ∷ []) (val.number felt n ∷ [])
  number_stood padding m o n is small = one_stood padding m (number felt) (o ∷ []) (val.number felt n) (n, ap (λ x. x ∷ []) is, (refl, small))

  add_moves : (args : List CellExpr) → Takes (felts felt64_add) args amount → Moves d (felts felt64_add) args amount
  add_moves args taken padding m ap_ fp vs in_field stand =
      let r = operands padding m ap_ fp args vs taken.fit.many taken.fit.marked stand in (
        val.number felt (sum r.a r.b) ∷ [],
        ap (λ us. felts_does felt64_add us) r.values,
        number_stood padding m _ (sum r.a r.b) (both_is sum (slot_at m ap_ fp args (slots.Arg 0)) (second_at m ap_ fp args (operand args 1)) r.a r.b r.first r.second) (mod-lt (r.a + r.b) (omega arith)),
      )

  sub_moves : (args : List CellExpr) → Takes (felts felt64_sub) args amount → Moves d (felts felt64_sub) args amount
  sub_moves args taken padding m ap_ fp vs in_field stand =
      let r = operands padding m ap_ fp args vs taken.fit.many taken.fit.marked stand in (
        val.number felt (difference r.a r.b) ∷ [],
        ap (λ us. felts_does felt64_sub us) r.values,
        number_stood padding m _ (difference r.a r.b) (both_is difference (slot_at m ap_ fp args (slots.Arg 0)) (second_at m ap_ fp args (operand args 1)) r.a r.b r.first r.second)
            (mod-lt (r.a + (modulus - r.b)) (omega arith)),
      )

  mul_moves : (args : List CellExpr) → Takes (felts felt64_mul) args amount → Moves d (felts felt64_mul) args amount
  mul_moves args taken padding m ap_ fp vs in_field stand =
      let r = operands padding m ap_ fp args vs taken.fit.many taken.fit.marked stand in (
        val.number felt (product r.a r.b) ∷ [],
        ap (λ us. felts_does felt64_mul us) r.values,
        number_stood padding m _ (product r.a r.b) (both_is product (slot_at m ap_ fp args (slots.Arg 0)) (second_at m ap_ fp args (operand args 1)) r.a r.b r.first r.second) (mod-lt (r.a * r.b) (omega arith)),
      )

  module _ (args : List CellExpr) (num : Num) where
    abbrev zero_fam : Fam
    zero_fam = felts (is_zero num)

    zero_plan : Plan
    zero_plan = test (slots.Arg 0) (exit 0) (exit 1)

    -- an evaluation of the test: its branch is that of the word
    record ZeroEnds (m : ℕ → Option ℕ) (ap_ fp k : ℕ) (end : Tally) : Type 0 where
      w : ℕ
      word : slot_at m ap_ fp args (slots.Arg 0) ≡ Some w
      branch : ((w ≡ 0) × (k ≡ 0)) ⊎ ((w ≢ 0) × (k ≡ 1))
      tally : end ≡ record { steps = 0 + 1 + 1; change = 0; named = [] }

    zero_ends : (m : ℕ → Option ℕ) (ap_ fp k : ℕ) (end : Tally) → Evaluation (fragment args zero_plan) m ap_ fp k end → ZeroEnds m ap_ fp k end
    unfolding zero_plan
    zero_ends m ap_ fp k end evaluation =
        let way = way_of m ap_ fp args zero_plan k end evaluation in
        elim way.1 [
          | inl none ↦ record { w = _; word = way.0; branch = inl (none.0, none.1.0); tally = none.1.1 }
          | inr other ↦ record { w = _; word = way.0; branch = inr (other.0, other.1.0); tally = other.1.1 }
        ]

    zero_counts : (m : ℕ → Option ℕ) (ap_ fp k : ℕ) (end : Tally) → ZeroEnds m ap_ fp k end → Counts m ap_ fp zero_fam args amount k end
    zero_counts m ap_ fp k end ends =
        let steps : end.steps ≡ 0 + 1 + 1 = ap (λ u. u.steps) ends.tally in
        let change : end.change ≡ 0 = ap (λ u. u.change) ends.tally in
        let named : end.named ≡ [] = ap (λ u. u.named) ends.tally in
        quiet_counts m ap_ fp zero_fam args amount k end (omega (arith, steps)) change named refl

    zero_shows : Takes zero_fam args amount → (padding : Padding) (m : ℕ → Option ℕ) (ap_ fp k : ℕ) (end : Tally) (vs : List Logged)
        → AllLoggedStand padding m (number num ∷ []) (readings m ap_ fp args) vs → ZeroEnds m ap_ fp k end → Shows d padding m ap_ fp zero_fam args amount vs k end
    zero_shows taken padding m ap_ fp k end vs stand ends =
        let one = one_stands padding m (number num) (readings m ap_ fp args) vs stand in
        let n = one.2.0 in
        let here : reading m ap_ fp (argument args 0) ≡ Some n = first_read m ap_ fp n args one.2.1 in
        let change : end.change ≡ 0 = ap (λ u. u.change) ends.tally in
        let many : length args ≡ 1 = taken.fit.many in
        let cell = all_cells 1 args taken.fit.marked.0 0 (omega arith) (omega (arith, many)) in
        let same : n ≡ ends.w = one_word (slot_at m ap_ fp args (slots.Arg 0)) n ends.w (is_read m ap_ fp args (argument args 0) cell ∙ here) ends.word in
        let value : vs ≡ val.number num n ∷ [] = one.1 ∙ ap (λ v. v ∷ []) one.2.2.0 in
        elim ends.branch [
          | inl none ↦ subst (λ j. Shows d padding m ap_ fp zero_fam args amount vs j end) (sym none.1) record {
            outs = [];
            means = ap (λ us. felts_does (is_zero num) us) value ∙ ap (λ i. felts_does {D = Log} {E = OpenLog} (is_zero num) (val.number num i ∷ [])) (same ∙ none.0);
            stand = none_stand padding m;
          }
          | inr other ↦
              let some : n ≢ 0 = λ is. other.0 (sym same ∙ is) in
              subst (λ j. Shows d padding m ap_ fp zero_fam args amount vs j end) (sym other.1) record {
                outs = val.number num n ∷ [];
                means = ap (λ us. felts_does (is_zero num) us) value ∙ ap (λ b. if b then Some (0, []) else Some (1, val.number num n ∷ [])) (ne_eqb n 0 some);
                stand = subst (λ c. AllLoggedStand padding m (nonzero num ∷ []) c (val.number num n ∷ []))
                    (sym (results_read m ap_ fp zero_fam args amount 1 end change (omega arith) taken.fit.close ∙ ap (λ o. o ∷ []) here))
                    (one_stood padding m (nonzero num) (Some n ∷ []) (val.number num n) (n, refl, (refl, one.2.2.1, some)));
              }
        ]

    zero_whole : Takes zero_fam args amount → Sound d zero_fam args amount (fragment args zero_plan) → (r : Remembered) (m : Cells) (ap_ fp k : ℕ) (vs outs : List Logged) → IsMemory (get m)
        → AllLoggedStand listed (get m) (number num ∷ []) (readings (get m) ap_ fp args) vs → HasRoom zero_fam vs → Do honest zero_fam vs amount k outs
        → Completes d r m ap_ fp zero_fam args amount k outs (fragment args zero_plan)
    unfolding zero_plan
    zero_whole taken sound r m ap_ fp k vs outs in_field stand room does =
        let one = one_stands listed (get m) (number num) (readings (get m) ap_ fp args) vs stand in
        let n = one.2.0 in
        let read : reading (get m) ap_ fp (argument args 0) ≡ Some n = first_read (get m) ap_ fp n args one.2.1 in
        let many : length args ≡ 1 = taken.fit.many in
        let cell = all_cells 1 args taken.fit.marked.0 0 (omega arith) (omega (arith, many)) in
        let here : slot_at (get m) ap_ fp args (slots.Arg 0) ≡ Some n = is_read (get m) ap_ fp args (argument args 0) cell ∙ read in
        let value : vs ≡ val.number num n ∷ [] = one.1 ∙ ap (λ v. v ∷ []) one.2.2.0 in
        let z : Filled = record { end = step_on (step_on nothing); remembered = r; cells = m } in
        elim (cases_eq n 0) [
          | inl none ↦
              let branch = one_branch d honest zero_fam vs amount 0 k [] outs tt (ap (λ us. felts_does (is_zero num) us) value ∙ ap (λ i. felts_does {D = Log} {E = OpenLog} (is_zero num) (val.number num i ∷ [])) none) does in
              let filling = plan_filling args zero_plan ap_ fp 0 r m z (n, here, inl (none, (refl, refl))) in
              subst (λ j. Completes d r m ap_ fp zero_fam args amount j outs (fragment args zero_plan)) branch
              (quietly d zero_fam args amount (fragment args zero_plan) sound tt (λ s cells. tt) r m ap_ fp 0 vs outs in_field stand room (subst (λ j. Do honest zero_fam vs amount j outs) (sym branch) does) z filling (not_grown m _) refl refl (omega arith))
          | inr some ↦
              let branch = one_branch d honest zero_fam vs amount 1 k (val.number num n ∷ []) outs tt (ap (λ us. felts_does (is_zero num) us) value ∙ ap (λ b. if b then Some (0, []) else Some (1, val.number num n ∷ [])) (ne_eqb n 0 some)) does in
              let filling = plan_filling args zero_plan ap_ fp 1 r m z (n, here, inr (some, (refl, refl))) in
              subst (λ j. Completes d r m ap_ fp zero_fam args amount j outs (fragment args zero_plan)) branch
              (quietly d zero_fam args amount (fragment args zero_plan) sound tt (λ s cells. tt) r m ap_ fp 1 vs outs in_field stand room (subst (λ j. Do honest zero_fam vs amount j outs) (sym branch) does) z filling (not_grown m _) refl refl (omega arith))
        ]

    zero_lowers : Takes zero_fam args amount → Lowers d zero_fam args amount (fragment args zero_plan)
    unfolding zero_plan
    zero_lowers taken = record {
      form = formed args taken.fit.close taken.inner zero_plan refl (omega arith, tt, tt);
      hints = hints_fine args taken.fit.close taken.inner zero_plan refl;
      counts = λ m ap_ fp k end evaluation. zero_counts m ap_ fp k end (zero_ends m ap_ fp k end evaluation);
      sound = zero_sound;
      token = λ m ap_ fp k pointer end evaluation small is. absurd (no_token pointer is);
      whole = λ r m ap_ fp k vs outs in_field stand room does free knows fresh. zero_whole taken zero_sound r m ap_ fp k vs outs in_field stand room does;
    } where
      zero_sound : Sound d zero_fam args amount (fragment args zero_plan)
      zero_sound padding m ap_ fp k end vs in_field stand room evaluation checked = zero_shows taken padding m ap_ fp k end vs stand (zero_ends m ap_ fp k end evaluation)

  pub felts_lowers : (args : List CellExpr) (fam : FeltsFam) → Takes (felts fam) args amount → Lowers d (felts fam) args amount (fragment args (felts_plan fam))
  unfolding zero_plan
  felts_lowers args (const k n) taken =
      at_once d (felts (const k n)) args amount taken (record { unlogged = tt; begins = λ r cells. tt; change = refl; moved = refl; checks = refl }) (const_moves args k n taken.declared.proper) (λ m ap_ fp w small is. (tt, tt))
  felts_lowers args felt64_add taken = at_once d (felts felt64_add) args amount taken (record { unlogged = tt; begins = λ r cells. tt; change = refl; moved = refl; checks = refl }) (add_moves args taken) (λ m ap_ fp w small is. (tt, tt))
  felts_lowers args felt64_sub taken = at_once d (felts felt64_sub) args amount taken (record { unlogged = tt; begins = λ r cells. tt; change = refl; moved = refl; checks = refl }) (sub_moves args taken) (λ m ap_ fp w small is. (tt, tt))
  felts_lowers args felt64_mul taken = at_once d (felts felt64_mul) args amount taken (record { unlogged = tt; begins = λ r cells. tt; change = refl; moved = refl; checks = refl }) (mul_moves args taken) (λ m ap_ fp w small is. (tt, tt))
  felts_lowers args (is_zero k) taken = zero_lowers args k taken
  felts_lowers args (unwrap_non_zero k) taken =
      at_once d (felts (unwrap_non_zero k)) args amount taken (record { unlogged = tt; begins = λ r cells. tt; change = refl; moved = refl; checks = refl }) (unwrap_moves args k) (λ m ap_ fp w small is. (tt, tt))
