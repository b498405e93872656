-- Enums, structs, snapshots and boxes meet the lowering contract.
use Rattle.std.proofs.Common.{◌≡◌, ℕ, ◌+◌, List, [], ◌∷◌, ◌++◌, map, length, refl, sym, ap, ◌∙◌, subst, arith}
use Rattle.std.proofs.lemmas.List.{map-append}
use Rattle.felt64.specs.Field.{sum}
use Rattle.type_trees.specs.Ty.{Ty, size, snap, struct}
use Rattle.casm_steps.specs.Reading.{readings}
use Rattle.frag_plan.specs.AtBegin.{at_begin}
use Rattle.cost_table.specs.Terms.{kept}
use Rattle.cell_forms.proofs.Snapshots.{snap_size}
use Rattle.lower_kit.specs.Counting.{TokensAre}
use Rattle.lower_kit.proofs.Lists.{readings_long}
use Rattle.lower_kit.proofs.Shown.{all_kept_read}
use Rattle.lower_kit.proofs.Tokens.{token_kept, token_snapped, both_stay, none_in_snap, no_token}
use Rattle.type_table.specs.Trees.{parts}
use Rattle.casm_word.specs.declared.cell_expr.CellExpr.{CellExpr}
use Rattle.frag_plan.specs.Plan.{fragment}
use Rattle.libfunc_registry.specs.Data.{DataFam, enum_init, enum_match, enum_snapshot_match, struct_construct, struct_deconstruct, struct_snapshot_deconstruct, snapshot_take, into_box, unbox}
use Rattle.libfunc_registry.specs.Fam.{data_}
use Rattle.value_trees.specs.Logs.{Log, OpenLog}
use Rattle.libfunc_meaning.specs.Dictionaries.{Dictionary}
use Rattle.cost_table.specs.Results.{cells_of}
use Rattle.cost_table.proofs.Counts.{together_size}
use Rattle.lower_kit.specs.Fitting.{Takes}
use Rattle.lower_kit.specs.Lowers.{Lowers}
use Rattle.lower_kit.proofs.AtOnce.{Moves, Hands, at_once}
use Rattle.lower_core.specs.Data.{data_plan}
use Rattle.lower_core.proofs.Boxed.{box_lowers}
use Rattle.lower_core.proofs.Matched.{match_lowers, snapshot_match_lowers}
use Rattle.lower_core.proofs.Moved.{init_moves, construct_moves, deconstruct_moves, snapshot_deconstruct_moves, snapshot_moves, unbox_moves}

module _ (d : Dictionary Log OpenLog) (args : List CellExpr) (amount : ℕ) where
  abbrev Meets : DataFam → Type 0
  Meets fam = Takes (data_ fam) args amount → Lowers d (data_ fam) args amount (fragment args (data_plan fam))

  snapshot_hands : (ty : Ty) → Takes (data_ (snapshot_take ty)) args amount → Hands d (data_ (snapshot_take ty)) args amount
  snapshot_hands ty taken m ap_ fp w small is =
      let cells = readings m ap_ fp args in
      let given : length args ≡ 0 + size ty = taken.fit.many in
      let many : length args ≡ size ty = omega (arith, given) in
      let whole : length cells ≡ size ty = readings_long m ap_ fp args ∙ many in
      let read = all_kept_read m ap_ fp args (size ty) many in
      let token = token_kept w ty cells small whole is in
      subst (λ c. TokensAre (sum w 0) (ty ∷ snap ty ∷ []) c)
      (sym (map-append (at_begin m ap_ fp args) (kept 0 (size ty)) (kept 0 (size ty)) ∙ ap (λ c. c ++ map (at_begin m ap_ fp args) (kept 0 (size ty))) read ∙ ap (λ c. cells ++ c) read))
      (both_stay (sum w 0) ty (snap ty) cells cells whole (whole ∙ sym (snap_size ty)) token (token_snapped (sum w 0) ty cells token))

  pub data_lowers : (fam : DataFam) → Meets fam
  data_lowers (enum_init ty index) taken =
      let proper = taken.declared.proper in
      at_once d (data_ (enum_init ty index)) args amount taken (record { unlogged = tt; begins = λ r cells. tt; change = refl; moved = refl; checks = refl })
      (subst (λ t. Moves d (data_ (enum_init t index)) args amount) (sym proper.2) (init_moves d args amount proper.0 proper.1 index proper.3))
      (subst (λ t. Hands d (data_ (enum_init t index)) args amount) (sym proper.2) (λ m ap_ fp w small is. (tt, tt)))
  data_lowers (enum_match ty) taken =
      let proper = taken.declared.proper in
      subst (λ t. Meets (enum_match t)) (sym proper.2) (match_lowers d args amount proper.0 proper.1) taken
  data_lowers (enum_snapshot_match ty) taken =
      let proper = taken.declared.proper in
      subst (λ t. Meets (enum_snapshot_match t)) (sym proper.2) (snapshot_match_lowers d args amount proper.0 proper.1) taken
  data_lowers (struct_construct ty) taken =
      let proper = taken.declared.proper in
      let many = taken.fit.many ∙ ap (λ t. cells_of (parts t)) proper.2 ∙ sym (together_size proper.1) in
      at_once d (data_ (struct_construct ty)) args amount taken (record { unlogged = tt; begins = λ r cells. tt; change = refl; moved = refl; checks = refl })
      (subst (λ t. Moves d (data_ (struct_construct t)) args amount) (sym proper.2) (construct_moves d args amount proper.0 proper.1 many))
      (subst (λ t. Hands d (data_ (struct_construct t)) args amount) (sym proper.2) (λ m ap_ fp w small is. (tt, tt)))
  data_lowers (struct_deconstruct ty) taken =
      let proper = taken.declared.proper in
      at_once d (data_ (struct_deconstruct ty)) args amount taken (record { unlogged = tt; begins = λ r cells. tt; change = refl; moved = refl; checks = refl })
      (subst (λ t. Moves d (data_ (struct_deconstruct t)) args amount) (sym proper.2) (deconstruct_moves d args amount proper.0 proper.1))
      (subst (λ t. Hands d (data_ (struct_deconstruct t)) args amount) (sym proper.2) (λ m ap_ fp w small is. absurd (no_token w is)))
  data_lowers (struct_snapshot_deconstruct ty) taken =
      let proper = taken.declared.proper in
      at_once d (data_ (struct_snapshot_deconstruct ty)) args amount taken (record { unlogged = tt; begins = λ r cells. tt; change = refl; moved = refl; checks = refl })
      (subst (λ t. Moves d (data_ (struct_snapshot_deconstruct t)) args amount) (sym proper.2) (snapshot_deconstruct_moves d args amount proper.0 proper.1))
      (subst (λ t. Hands d (data_ (struct_snapshot_deconstruct t)) args amount) (sym proper.2)
      (λ m ap_ fp w small is. absurd (no_token w (sym (none_in_snap (struct proper.0 proper.1) (readings m ap_ fp args) refl) ∙ is))))
  data_lowers (snapshot_take ty) taken =
      at_once d (data_ (snapshot_take ty)) args amount taken (record { unlogged = tt; begins = λ r cells. tt; change = refl; moved = refl; checks = refl }) (snapshot_moves d args amount ty) (snapshot_hands ty taken)
  data_lowers (into_box ty) taken = box_lowers d args amount ty taken
  data_lowers (unbox ty) taken =
      at_once d (data_ (unbox ty)) args amount taken (record { unlogged = tt; begins = λ r cells. tt; change = refl; moved = refl; checks = refl }) (unbox_moves d args amount ty taken) (λ m ap_ fp w small is. absurd (no_token w is))
