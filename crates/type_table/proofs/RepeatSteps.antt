-- Declarations taken one after another: which are written as one before.
use Rattle.std.proofs.Common.{◌≡◌, ◌↔◌, ◌⊎◌, inl, inr, ℕ, ◌+◌, ◌<◌, ◌≤◌, Bool, true, false, true≢false, ◌||◌, if◌then◌else◌, List, [], ◌∷◌, ◌++◌, length, get_or, Some, Result, Ok, Err, slice_get, refl, ap, sym, subst, ◌∙◌, arith}
use Rattle.std.proofs.lemmas.List.{get_or_append_left, get_or_push, length_push}
use Rattle.std.proofs.lemmas.Bool.{cases_lt}
use Rattle.std.proofs.lemmas.Option.{slice_get_within}
use Rattle.sierra_types.specs.declared.program.TypeDecl.{TypeDecl}
use Rattle.type_table.specs.declared.kind.TypeKind.{TypeKind}
use Rattle.type_table.specs.declared.rules.TypeRule.{TypeRule}
use Rattle.type_table.specs.Written.{WrittenView, same_written, has_written}
use Rattle.type_table.specs.Repeats.{written_of, again_of, after, IsWrittenAt, IsWrittenBefore, AreRepeatsTold}
use Rattle.type_table.proofs.Plain.{some_is, err-ok, ok_is}
use Rattle.type_table.proofs.WrittenLaws.{written_is}

pub record AreTold (ds : List TypeDecl) (kinds : List (Result TypeKind TypeRule)) (graph : List (List ℕ)) (ids_repeated : List Bool) (i : ℕ) (ws : List WrittenView) (flags : List Bool) : Type 0 where
  pub each : length flags ≡ i
  pub set : (w : WrittenView) → (has_written ws w ≡ true) ↔ IsWrittenBefore ds kinds graph i w
  pub right : (k : ℕ) (w : WrittenView) → k < i → IsWrittenAt ds kinds graph k w → (get_or flags k false ≡ true) ↔ ((get_or ids_repeated k false ≡ true) ⊎ IsWrittenBefore ds kinds graph k w)

or_true : (a b : Bool) → (a || b ≡ true) ↔ ((a ≡ true) ⊎ (b ≡ true))
or_true true b = ((λ e. inl refl), λ e. refl)
or_true false b = ((λ e. inr e), elim [ inl e ↦ absurd (true≢false (sym e)) | inr e ↦ e ])

has_push : (ws : List WrittenView) (x w : WrittenView) → (has_written (ws ++ x ∷ []) w ≡ true) ↔ ((has_written ws w ≡ true) ⊎ (w ≡ x))
has_push [] x w = (to, from)
  where
    to : same_written w x || false ≡ true → (false ≡ true) ⊎ (w ≡ x)
    to e = by ((or_true (same_written w x) false).0 e)
      where
        by : (same_written w x ≡ true) ⊎ (false ≡ true) → (false ≡ true) ⊎ (w ≡ x)
        by (inl told) = inr ((written_is w x).0 told)
        by (inr no_way) = inl no_way

    from : (false ≡ true) ⊎ (w ≡ x) → same_written w x || false ≡ true
    from (inl no_way) = absurd (true≢false (sym no_way))
    from (inr same) = (or_true (same_written w x) false).1 (inl ((written_is w x).1 same))
has_push (y ∷ ws) x w = (to (has_push ws x w), from (has_push ws x w))
  where
    to : (has_written (ws ++ x ∷ []) w ≡ true) ↔ ((has_written ws w ≡ true) ⊎ (w ≡ x)) → same_written w y || has_written (ws ++ x ∷ []) w ≡ true → (same_written w y || has_written ws w ≡ true) ⊎ (w ≡ x)
    to rest e = by ((or_true (same_written w y) (has_written (ws ++ x ∷ []) w)).0 e)
      where
        by : (same_written w y ≡ true) ⊎ (has_written (ws ++ x ∷ []) w ≡ true) → (same_written w y || has_written ws w ≡ true) ⊎ (w ≡ x)
        by (inl told) = inl ((or_true (same_written w y) (has_written ws w)).1 (inl told))
        by (inr more) = further (rest.0 more)
          where
            further : (has_written ws w ≡ true) ⊎ (w ≡ x) → (same_written w y || has_written ws w ≡ true) ⊎ (w ≡ x)
            further (inl there) = inl ((or_true (same_written w y) (has_written ws w)).1 (inr there))
            further (inr last) = inr last

    from : (has_written (ws ++ x ∷ []) w ≡ true) ↔ ((has_written ws w ≡ true) ⊎ (w ≡ x)) → (same_written w y || has_written ws w ≡ true) ⊎ (w ≡ x) → same_written w y || has_written (ws ++ x ∷ []) w ≡ true
    from rest (inl e) = by ((or_true (same_written w y) (has_written ws w)).0 e)
      where
        by : (same_written w y ≡ true) ⊎ (has_written ws w ≡ true) → same_written w y || has_written (ws ++ x ∷ []) w ≡ true
        by (inl told) = (or_true (same_written w y) (has_written (ws ++ x ∷ []) w)).1 (inl told)
        by (inr more) = (or_true (same_written w y) (has_written (ws ++ x ∷ []) w)).1 (inr (rest.1 (inl more)))
    from rest (inr last) = (or_true (same_written w y) (has_written (ws ++ x ∷ []) w)).1 (inr (rest.1 (inr last)))

module _ (ds : List TypeDecl) (kinds : List (Result TypeKind TypeRule)) (graph : List (List ℕ)) (ids_repeated : List Bool) where
  pub none_told : AreTold ds kinds graph ids_repeated 0 [] []
  none_told = record {
    each = refl;
    set = λ w. ((λ e. absurd (true≢false (sym e))), λ (j, less, at). absurd (omega (arith, less)));
    right = λ k w less _. absurd (omega (arith, less));
  }

  module _ (i : ℕ) (ws : List WrittenView) (flags : List Bool) (told : AreTold ds kinds graph ids_repeated i ws flags)
      (d : TypeDecl) (kind : Result TypeKind TypeRule) (here : slice_get ds i ≡ Some d) (kind_here : slice_get kinds i ≡ Some kind) where
    abbrev ts : List ℕ
    ts = get_or graph i []

    -- what stands at i
    only_here : (w : WrittenView) → IsWrittenAt ds kinds graph i w → (k : TypeKind) × (kind ≡ Ok k) × (w ≡ written_of k d.args ts)
    only_here w (e, k, at, is, same) =
        (k, some_is kind (Ok k) (sym kind_here ∙ is), same ∙ ap (λ x. written_of k x.args ts) (some_is e d (sym at ∙ here)))

    before_next : (w : WrittenView) → IsWrittenBefore ds kinds graph (i + 1) w → IsWrittenBefore ds kinds graph i w ⊎ IsWrittenAt ds kinds graph i w
    before_next w (j, less, at) = by (cases_lt j i)
      where
        by : (j < i) ⊎ (i ≤ j) → IsWrittenBefore ds kinds graph i w ⊎ IsWrittenAt ds kinds graph i w
        by (inl before) = inl (j, before, at)
        by (inr last) = inr (subst (λ n. IsWrittenAt ds kinds graph n w) (omega (arith, less, last)) at)

    next_before : (w : WrittenView) → IsWrittenBefore ds kinds graph i w → IsWrittenBefore ds kinds graph (i + 1) w
    next_before w (j, less, at) = (j, omega (arith, less), at)

    set_after : (w : WrittenView) → (has_written (after ws kind d.args ts) w ≡ true) ↔ IsWrittenBefore ds kinds graph (i + 1) w
    set_after w = by kind refl
      where
        by : (k : Result TypeKind TypeRule) → kind ≡ k → (has_written (after ws k d.args ts) w ≡ true) ↔ IsWrittenBefore ds kinds graph (i + 1) w
        by (Err rule) is = ((λ e. next_before w ((told.set w).0 e)), λ before. from (before_next w before))
          where
            from : IsWrittenBefore ds kinds graph i w ⊎ IsWrittenAt ds kinds graph i w → has_written ws w ≡ true
            from (inl before) = (told.set w).1 before
            from (inr last) = let o = only_here w last in absurd (err-ok rule o.0 (sym is ∙ o.1))
        by (Ok k) is = cases (has_written ws (written_of k d.args ts)) refl
          where
            at_i : (v : WrittenView) → v ≡ written_of k d.args ts → IsWrittenAt ds kinds graph i v
            at_i v same = (d, k, here, kind_here ∙ ap Some is, same)

            is_this : (v : WrittenView) → IsWrittenAt ds kinds graph i v → v ≡ written_of k d.args ts
            is_this v last = let o = only_here v last in o.2 ∙ ap (λ x. written_of x d.args ts) (ok_is o.0 k (sym o.1 ∙ is))

            cases : (b : Bool) → has_written ws (written_of k d.args ts) ≡ b
                → (has_written (if b then ws else ws ++ written_of k d.args ts ∷ []) w ≡ true) ↔ IsWrittenBefore ds kinds graph (i + 1) w
            cases true there = ((λ e. next_before w ((told.set w).0 e)), λ before. from (before_next w before))
              where
                from : IsWrittenBefore ds kinds graph i w ⊎ IsWrittenAt ds kinds graph i w → has_written ws w ≡ true
                from (inl before) = (told.set w).1 before
                from (inr last) = subst (λ v. has_written ws v ≡ true) (sym (is_this w last)) there
            cases false there = (to, λ before. from (before_next w before))
              where
                to : has_written (ws ++ written_of k d.args ts ∷ []) w ≡ true → IsWrittenBefore ds kinds graph (i + 1) w
                to e = split ((has_push ws (written_of k d.args ts) w).0 e)
                  where
                    split : (has_written ws w ≡ true) ⊎ (w ≡ written_of k d.args ts) → IsWrittenBefore ds kinds graph (i + 1) w
                    split (inl old) = next_before w ((told.set w).0 old)
                    split (inr new) = (i, omega arith, at_i w new)

                from : IsWrittenBefore ds kinds graph i w ⊎ IsWrittenAt ds kinds graph i w → has_written (ws ++ written_of k d.args ts ∷ []) w ≡ true
                from (inl before) = (has_push ws (written_of k d.args ts) w).1 (inl ((told.set w).1 before))
                from (inr last) = (has_push ws (written_of k d.args ts) w).1 (inr (is_this w last))

    pub told_more : (again : Bool) → again ≡ again_of ws kind d.args ts → (id_repeated : Bool) → id_repeated ≡ get_or ids_repeated i false
        → AreTold ds kinds graph ids_repeated (i + 1) (after ws kind d.args ts) (flags ++ (id_repeated || again) ∷ [])
    told_more again again_is id_repeated id_is = record { each = length_push flags (id_repeated || again) ∙ ap (λ n. n + 1) told.each; set = set_after; right = right }
      where
        told_here : (w : WrittenView) → IsWrittenAt ds kinds graph i w → again ≡ has_written ws w
        told_here w at = let o = only_here w at in again_is ∙ ap (λ k. again_of ws k d.args ts) o.1 ∙ ap (has_written ws) (sym o.2)

        right : (k : ℕ) (w : WrittenView) → k < i + 1 → IsWrittenAt ds kinds graph k w
            → (get_or (flags ++ (id_repeated || again) ∷ []) k false ≡ true) ↔ ((get_or ids_repeated k false ≡ true) ⊎ IsWrittenBefore ds kinds graph k w)
        right k w less at = by (cases_lt k i)
          where
            by : (k < i) ⊎ (i ≤ k) → (get_or (flags ++ (id_repeated || again) ∷ []) k false ≡ true) ↔ ((get_or ids_repeated k false ≡ true) ⊎ IsWrittenBefore ds kinds graph k w)
            by (inl before) = subst (λ b. (b ≡ true) ↔ ((get_or ids_repeated k false ≡ true) ⊎ IsWrittenBefore ds kinds graph k w))
                (sym (get_or_append_left flags ((id_repeated || again) ∷ []) false k (omega (arith, before, told.each)))) (told.right k w before at)
            by (inr last) =
                let same : i ≡ k = omega (arith, less, last) in
                let flag : get_or (flags ++ (id_repeated || again) ∷ []) k false ≡ (id_repeated || again) = get_or_push flags (id_repeated || again) false k (told.each ∙ same) in
                let here_at = subst (λ n. IsWrittenAt ds kinds graph n w) (sym same) at in
                subst (λ n. (get_or (flags ++ (id_repeated || again) ∷ []) k false ≡ true) ↔ ((get_or ids_repeated n false ≡ true) ⊎ IsWrittenBefore ds kinds graph n w)) same (
                  (λ e. to ((or_true id_repeated again).0 (sym flag ∙ e))),
                  λ either. flag ∙ (or_true id_repeated again).1 (from here_at either),
                )
              where
                to : (id_repeated ≡ true) ⊎ (again ≡ true) → (get_or ids_repeated i false ≡ true) ⊎ IsWrittenBefore ds kinds graph i w
                to (inl e) = inl (sym id_is ∙ e)
                to (inr e) = inr ((told.set w).0 (sym (told_here w (subst (λ n. IsWrittenAt ds kinds graph n w) (omega (arith, less, last)) at)) ∙ e))

                from : IsWrittenAt ds kinds graph i w → (get_or ids_repeated i false ≡ true) ⊎ IsWrittenBefore ds kinds graph i w → (id_repeated ≡ true) ⊎ (again ≡ true)
                from here_at (inl e) = inl (id_is ∙ e)
                from here_at (inr before) = inr (told_here w here_at ∙ (told.set w).1 before)

  pub told_all : (i : ℕ) (ws : List WrittenView) (flags : List Bool) → AreTold ds kinds graph ids_repeated i ws flags → i ≤ length ds → length ds ≤ i → AreRepeatsTold ds kinds graph ids_repeated flags
  told_all i ws flags told few many = record {
    each = told.each ∙ same;
    right = λ k w (d, kind, here, is, wrote). told.right k w (omega (arith, slice_get_within ds k d here, many)) (d, kind, here, is, wrote);
  }
    where
      same : i ≡ length ds
      same = omega (arith, few, many)

  pub told_as : (i : ℕ) {ws us : List WrittenView} {flags marks : List Bool} → AreTold ds kinds graph ids_repeated i ws flags → us ≡ ws → marks ≡ flags → AreTold ds kinds graph ids_repeated i us marks
  told_as i {ws} {us} {flags} {marks} told same equal =
      subst (λ l. AreTold ds kinds graph ids_repeated i l marks) (sym same) (subst (AreTold ds kinds graph ids_repeated i ws) (sym equal) told)
