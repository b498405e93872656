-- What stands in the cells of results, and counts of plans that check no range.
use Rattle.std.proofs.Common.{◌≡◌, ℕ, ◌<◌, ◌≤◌, ◌^◌, Option, Some, List, [], ◌∷◌, ◌++◌, map, take, drop, length, refl, sym, ap, ◌∙◌, subst, arith, take-append-drop, append-nil}
use Rattle.std.specs.List.{All, range_with_len}
use Rattle.std.proofs.lemmas.List.{take_all, drop_all}
use Rattle.felt64.specs.Field.{sum}
use Rattle.casm_word.specs.declared.cell_expr.CellExpr.{CellExpr}
use Rattle.ro_machine.specs.Readings.{Readings}
use Rattle.casm_steps.specs.Reading.{reading, readings}
use Rattle.cell_terms.specs.Resolving.{argument}
use Rattle.frag_code.specs.Evaluation.{Tally}
use Rattle.type_trees.specs.Ty.{Ty, size}
use Rattle.libfunc_registry.specs.Fam.{Fam}
use Rattle.value_trees.specs.Logs.{Logged}
use Rattle.cost_table.specs.Costs.{row_of}
use Rattle.cost_table.specs.Fits.{IsCloseExpr}
use Rattle.cost_table.specs.Terms.{kept}
use Rattle.cost_table.specs.Results.{moved_by, result_terms, results}
use Rattle.cell_forms.specs.LogStands.{LogStands, OpenLogStands}
use Rattle.cell_forms.specs.Standing.{Padding, Asked, LoggedStands, AllLoggedStand}
use Rattle.cell_forms.proofs.Logs.{log_long, open_log_long}
use Rattle.cell_forms.proofs.Sides.{all_of_both}
use Rattle.cell_forms.proofs.Sizes.{stands_long}
use Rattle.frag_plan.specs.AtBegin.{at_begin}
use Rattle.lower_kit.specs.Counting.{Counts, change_by}
use Rattle.lower_kit.proofs.Lists.{readings_long, kept_read}
use Rattle.lower_kit.proofs.Named.{terms_read}

-- what the results' expressions read is what their terms read at the begin
pub results_read : (m : ℕ → Option ℕ) (ap_ fp : ℕ) (fam : Fam) (args : List CellExpr) (amount k : ℕ) (end : Tally) → end.change ≡ moved_by fam k → moved_by fam k < 2 ^ 62
    → All IsCloseExpr args → readings m (sum ap_ end.change) fp (results args amount fam k) ≡ map (at_begin m ap_ fp args) (result_terms args amount fam k)
results_read m ap_ fp fam args amount k end change few close =
    ap (λ n. readings m (sum ap_ n) fp (results args amount fam k)) change ∙ terms_read m ap_ fp (moved_by fam k) few args close (result_terms args amount fam k)

-- what the one argument's one expression reads
pub first_read : (m : ℕ → Option ℕ) (ap_ fp n : ℕ) (args : List CellExpr) → readings m ap_ fp args ≡ Some n ∷ [] → reading m ap_ fp (argument args 0) ≡ Some n
first_read m ap_ fp n [] is = cc
first_read m ap_ fp n (e ∷ args) is = ap (λ cells. head_or cells) is where
  head_or : Readings → Option ℕ
  head_or [] = Some n
  head_or (o ∷ cells) = o

-- all of the arguments' expressions, as they are
pub all_kept_read : (m : ℕ → Option ℕ) (ap_ fp : ℕ) (args : List CellExpr) (n : ℕ) → length args ≡ n → map (at_begin m ap_ fp args) (kept 0 n) ≡ readings m ap_ fp args
all_kept_read m ap_ fp args n many =
    kept_read m ap_ fp args 0 n (omega (arith, many)) ∙ take_all n (readings m ap_ fp args) (omega (arith, many, readings_long m ap_ fp args))

-- the counts of an evaluation that names no range-check cell
pub quiet_counts : (m : ℕ → Option ℕ) (ap_ fp : ℕ) (fam : Fam) (args : List CellExpr) (amount k : ℕ) (end : Tally) → end.steps ≤ (row_of fam k).steps
    → end.change ≡ change_by amount fam k → end.named ≡ [] → (row_of fam k).checks ≡ 0 → Counts m ap_ fp fam args amount k end
quiet_counts m ap_ fp fam args amount k end steps change named none = record {
  steps = steps;
  change = change;
  checks = ap length named ∙ sym none;
  in_order = λ pointer is. ap (map (λ cell. cell.0)) named ∙ ap (λ n. map (sum pointer) (range_with_len 0 n)) (sym none);
  paid = omega (arith, none);
}

module _ (padding : Padding) (m : ℕ → Option ℕ) where
  pub long : (ty : Ty) (cells : Readings) (v : Logged) → LoggedStands padding m ty cells v → length cells ≡ size ty
  long ty cells v h = stands_long (Asked padding) (LogStands m) (OpenLogStands m) m (log_long m) (open_log_long m) ty cells v h

  pub none_stand : AllLoggedStand padding m [] [] []
  none_stand = (refl, refl)

  -- one value, in all the cells
  pub one_stood : (ty : Ty) (cells : Readings) (v : Logged) → LoggedStands padding m ty cells v → AllLoggedStand padding m (ty ∷ []) cells (v ∷ [])
  one_stood ty cells v h =
      let many = long ty cells v h in
      (v, [], refl, subst (λ c. LoggedStands padding m ty c v) (sym (take_all (size ty) cells (omega (arith, many)))) h, (drop_all (size ty) cells (omega (arith, many)), refl))

  pub one_stands : (ty : Ty) (cells : Readings) (vs : List Logged) → AllLoggedStand padding m (ty ∷ []) cells vs → (v : Logged) × (vs ≡ v ∷ []) × LoggedStands padding m ty cells v
  one_stands ty cells vs h =
      let whole : take (size ty) cells ≡ cells = sym (append-nil (take (size ty) cells)) ∙ ap (λ more. take (size ty) cells ++ more) (sym h.4.0) ∙ take-append-drop (size ty) cells in
      (h.0, h.2 ∙ ap (λ rest. h.0 ∷ rest) h.4.1, subst (λ c. LoggedStands padding m ty c h.0) whole h.3)

  -- two values side by side
  pub both_stood : (ty tz : Ty) (cells more : Readings) (v w : Logged) → LoggedStands padding m ty cells v → LoggedStands padding m tz more w
      → AllLoggedStand padding m (ty ∷ tz ∷ []) (cells ++ more) (v ∷ w ∷ [])
  both_stood ty tz cells more v w h k =
      all_of_both (Asked padding) (LogStands m) (OpenLogStands m) m (log_long m) (open_log_long m) (ty ∷ []) (tz ∷ []) cells more (v ∷ []) (w ∷ []) (one_stood ty cells v h) (one_stood tz more w k)

  pub two_stand : (ty tz : Ty) (cells : Readings) (vs : List Logged) → AllLoggedStand padding m (ty ∷ tz ∷ []) cells vs
      → (v w : Logged) × (vs ≡ v ∷ w ∷ []) × LoggedStands padding m ty (take (size ty) cells) v × LoggedStands padding m tz (drop (size ty) cells) w
  two_stand ty tz cells vs h =
      let second = one_stands tz (drop (size ty) cells) h.1 h.4 in
      (h.0, second.0, h.2 ∙ ap (λ rest. h.0 ∷ rest) second.1, h.3, second.2)

  -- the arguments' expressions, as they are, read what they read
  pub whole_read : (ap_ fp : ℕ) (args : List CellExpr) (ty : Ty) (v : Logged) → LoggedStands padding m ty (readings m ap_ fp args) v
      → map (at_begin m ap_ fp args) (kept 0 (size ty)) ≡ readings m ap_ fp args
  whole_read ap_ fp args ty v h = all_kept_read m ap_ fp args (size ty) (omega (arith, long ty (readings m ap_ fp args) v h, readings_long m ap_ fp args))
