-- What is found of a declaration is right: of its type, of the first rule that it breaks, or that it reaches a refused type.
use Rattle.std.proofs.Common.{◌≡◌, ◌↔◌, inl, inr, ℕ, zero, suc, ◌+◌, ◌<◌, ◌≤◌, min, Bool, true, false, true≢false, not, ◌&&◌, if◌then◌else◌, List, [], ◌∷◌, map, length, get_or, Option, Some, None, option_map, slice_get, refl, ap, sym, subst, ◌∙◌, arith}
use Rattle.std.specs.Prelude.{nat_lt, nat_le, ◌==◌}
use Rattle.std.specs.List.{AllZip, Contains}
use Rattle.std.proofs.lemmas.Bool.{and_parts}
use Rattle.graph_cycles.specs.Graph.{OnCycle}
use Rattle.type_trees.specs.Ty.{Ty, size, depth, storable, droppable, duplicable}
use Rattle.sierra_types.specs.declared.program.TypeDecl.{TypeDecl}
use Rattle.sierra_types.specs.declared.program.Info.{Info}
use Rattle.type_table.specs.declared.fault.TypeFault.{TypeFault}
use Rattle.type_table.specs.declared.fault.TypeFault.TheVariants as faults
use Rattle.type_table.specs.declared.generic.Generic.{Generic}
use Rattle.type_table.specs.declared.kind.TypeKind.{TypeKind}
use Rattle.type_table.specs.declared.facts.Facts.{Facts}
use Rattle.type_table.specs.declared.forms.Form.{Form}
use Rattle.type_table.specs.declared.outcome.Known.{Known}
use Rattle.type_table.specs.declared.outcome.Outcome.TheVariants as outcomes
use Rattle.type_table.specs.declared.rules.TypeRule.{TypeRule}
use Rattle.type_table.specs.declared.rules.TypeRule.TheVariants as rules
use Rattle.type_table.specs.Naming.{IsDeclared}
use Rattle.type_table.specs.Generics.{IsGeneric, Fits, FitsGeneric}
use Rattle.type_table.specs.Named.{generic_named}
use Rattle.type_table.specs.Trees.{kind_of, user_of, parts, IsAllowed}
use Rattle.type_table.specs.IsType.{most_cells, most_arguments, most_depth, InfoFits, IsWithin, IsRepeated, HasArgs, IsType}
use Rattle.type_table.specs.Refusals.{named_types, IsUnknownName, arguments, BreaksType, type_answer}
use Rattle.type_table.specs.Resolving.{user_in}
use Rattle.type_table.specs.Rows.{IsTypeAt, targets}
use Rattle.type_table.specs.Facts.{facts_of, capped}
use Rattle.type_table.specs.Forms.{IsForm, given_of, kind_given}
use Rattle.type_table.specs.Judging.{facts_given, is_allowed, info_fits, same}
use Rattle.type_table.specs.Outcomes.{is_within, weighed, once, found_of, with_first, parts_at}
use Rattle.type_table.specs.Found.{IsRightAt, BreaksFirst, BreaksNone, IsFoundOf}
use Rattle.type_table.proofs.Plain.{none-some, some_is}
use Rattle.type_table.proofs.NamedLaws.{named-name, named_right}
use Rattle.type_table.proofs.Places.{place_declared, names_place}
use Rattle.type_table.proofs.Trees.{arguments_of}
use Rattle.type_table.proofs.Unique.{one_type, named_types-written}
use Rattle.type_table.proofs.Acyclic as acyclic
use Rattle.type_table.proofs.Acyclic.{no_cycle, no_cycle_through}
use Rattle.type_table.specs.Resolved.{AreKnown, all_generics, IsClear}
use Rattle.type_table.proofs.GivenLaws.{given_right, kind_fits, fits_kind}
use Rattle.type_table.proofs.MadeLaws.{Takes, made, kind_of-made, facts-made, allowed-made}
use Rattle.type_table.proofs.KindLaws.{clear_takes, clear_makes}

-- ---- tests

same_right : (a b : Bool) → (same a b ≡ true) ↔ (a ≡ b)
same_right true b = ((λ e. sym e), λ e. sym e)
same_right false true = ((λ e. e), λ e. e)
same_right false false = ((λ e. refl), λ e. refl)

zero_capped : (limit n : ℕ) → (capped limit n == 0) ≡ (n == 0)
zero_capped limit zero = let none : min 0 (limit + 1) ≡ 0 = omega arith in ap (λ n. n == 0) none
zero_capped limit (suc n) = grind arith

info_right : (info : Option Info) (ty : Ty) → (info_fits info (facts_of ty) ≡ true) ↔ InfoFits info ty
info_right None ty = ((λ e. tt), λ u. refl)
info_right (Some info) ty = (to, from)
  where
    size_told : (capped most_cells (size ty) == 0) ≡ (size ty == 0)
    size_told = zero_capped most_cells (size ty)

    to : info_fits (Some info) (facts_of ty) ≡ true → InfoFits (Some info) ty
    to told =
        let a = and_parts (same info.storable (storable ty)) _ told in
        let b = and_parts (same info.drop (droppable ty)) _ a.1 in
        let c = and_parts (same info.dup (duplicable ty)) _ b.1 in
        let s = (same_right info.storable (storable ty)).0 a.0 in
        let r = (same_right info.drop (droppable ty)).0 b.0 in
        let u = (same_right info.dup (duplicable ty)).0 c.0 in
        let z = (same_right info.zero_sized (capped most_cells (size ty) == 0)).0 c.1 ∙ size_told in
        λ i. record { storable = s i; drop = r i; dup = u i; zero_sized = z i }

    from : InfoFits (Some info) ty → info_fits (Some info) (facts_of ty) ≡ true
    from is =
        let s = (same_right info.storable (storable ty)).1 (ap (λ x. x.storable) is) in
        let r = (same_right info.drop (droppable ty)).1 (ap (λ x. x.drop) is) in
        let u = (same_right info.dup (duplicable ty)).1 (ap (λ x. x.dup) is) in
        let z = (same_right info.zero_sized (capped most_cells (size ty) == 0)).1 (ap (λ x. x.zero_sized) is ∙ sym size_told) in
        ap (λ x. x && (same info.drop (droppable ty) && (same info.dup (duplicable ty) && same info.zero_sized (capped most_cells (size ty) == 0)))) s
        ∙ ap (λ x. x && (same info.dup (duplicable ty) && same info.zero_sized (capped most_cells (size ty) == 0))) r
        ∙ ap (λ x. x && same info.zero_sized (capped most_cells (size ty) == 0)) u ∙ z

below_cap : (limit n : ℕ) → (nat_lt (capped limit n) (limit + 1) ≡ true) ↔ (n ≤ limit)
below_cap limit n = ((λ e. grind (arith, e)), λ le. grind (arith, le))

within_right : (d : TypeDecl) (ty : Ty) → (is_within (length d.args) (facts_of ty) ≡ true) ↔ IsWithin d ty
within_right d ty = (to, from)
  where
    to : is_within (length d.args) (facts_of ty) ≡ true → IsWithin d ty
    to told =
        let a = and_parts (nat_lt (capped most_cells (size ty)) (most_cells + 1)) _ told in
        let b = and_parts (nat_le (length d.args) most_arguments) _ a.1 in
        record { few_cells = (below_cap most_cells (size ty)).0 a.0; few_arguments = grind (arith, b.0); shallow = (below_cap most_depth (depth ty)).0 b.1 }

    from : IsWithin d ty → is_within (length d.args) (facts_of ty) ≡ true
    from w =
        let few : nat_le (length d.args) most_arguments ≡ true = grind (arith, w.few_arguments) in
        ap (λ x. x && (nat_le (length d.args) most_arguments && nat_lt (capped most_depth (depth ty)) (most_depth + 1))) ((below_cap most_cells (size ty)).1 w.few_cells)
        ∙ ap (λ x. x && nat_lt (capped most_depth (depth ty)) (most_depth + 1)) few ∙ (below_cap most_depth (depth ty)).1 w.shallow

module _ (ds : List TypeDecl) where
  -- ---- a type that isn't refused breaks no rule

  declared_in : (tys : List Ty) (ids : List (List ℕ)) → AllZip (IsType ds) tys ids → (k : ℕ) (id : List ℕ) → slice_get ids k ≡ Some id → IsDeclared ds id
  declared_in tys [] each k id is = absurd (none-some id is)
  declared_in [] (other ∷ ids) each k id is = absurd each
  declared_in (ty ∷ tys) (other ∷ ids) ((i, d, names, args, passes), rest) zero id is =
      subst (IsDeclared ds) (some_is other id is) (place_declared ds other i (names_place ds other i d names))
  declared_in (ty ∷ tys) (other ∷ ids) each (suc k) id is = declared_in tys ids each.1 k id is

  pub args_known : (ty : Ty) (d : TypeDecl) → HasArgs ds ty d → AreKnown ds (named_types d.args)
  args_known ty d args =
      let a = arguments_of ds ty d args in
      subst (AreKnown ds) (sym (named_types-written (user_of ty) a.ids) ∙ ap named_types (sym a.args)) (declared_in (parts ty) a.ids a.each)

  names_hold : (d : TypeDecl) → IsGeneric d.generic → AreKnown ds (named_types d.args) → (name : List ℕ) → IsUnknownName ds d name → ⊥
  names_hold d generic known name (inl (unknown, is)) = unknown generic
  names_hold d generic known name (inr (is, unknown)) = unknown.unknown (known unknown.at name unknown.here)

  pub type_breaks_none : (ty : Ty) (i : ℕ) (d : TypeDecl) → slice_get ds i ≡ Some d → IsTypeAt ds ty i → BreaksNone ds i d
  type_breaks_none ty i d here at rule fault = subst (λ e. BreaksType ds i e rule fault → ⊥) (some_is at.decl d (sym at.here ∙ here)) (by rule)
    where
      by : (rule : TypeRule) → BreaksType ds i at.decl rule fault → ⊥
      by rules.NamesKnown (name, unknown, is) = names_hold at.decl (at.passes.fits.0, at.passes.fits.1) (args_known ty at.decl at.args) name unknown
      by rules.ArgumentsFit (inl misfit, is) = misfit at.passes.fits
      by rules.ArgumentsFit (inr (other, args, barred), is) = barred (subst IsAllowed (one_type ds ty other at.decl at.args args) at.passes.allowed)
      by rules.InfoFits (other, args, differs, is) = differs (subst (InfoFits at.decl.info) (one_type ds ty other at.decl at.args args) at.passes.info)
      by rules.NoCycle (cycle, is) = no_cycle ds ty i at cycle
      by rules.WithinLimits (other, args, beyond, is) = beyond (subst (IsWithin at.decl) (one_type ds ty other at.decl at.args args) at.passes.within)
      by rules.DeclaredOnce (repeated, is) = at.passes.fresh repeated

  -- ---- the first rule

  abbrev Holds : ℕ → TypeDecl → TypeRule → Type 0
  Holds i d rule = (fault : TypeFault) → BreaksType ds i d rule fault → ⊥

  lower : (i : ℕ) (d : TypeDecl) (n : ℕ) → n ≤ 17 → (10 < n → Holds i d rules.NamesKnown) → (12 < n → Holds i d rules.ArgumentsFit) → (13 < n → Holds i d rules.InfoFits)
      → (15 < n → Holds i d rules.NoCycle) → (16 < n → Holds i d rules.WithinLimits)
      → (other : TypeRule) (fault : TypeFault) → type_answer other < n → BreaksType ds i d other fault → ⊥
  lower i d n few a b c e f rules.NamesKnown fault less = a less fault
  lower i d n few a b c e f rules.ArgumentsFit fault less = b less fault
  lower i d n few a b c e f rules.InfoFits fault less = c less fault
  lower i d n few a b c e f rules.NoCycle fault less = e less fault
  lower i d n few a b c e f rules.WithinLimits fault less = f less fault
  lower i d n few a b c e f rules.DeclaredOnce fault less = absurd (omega (arith, few, less))

  -- where the generic name or a type isn't known
  pub breaks_names : (i : ℕ) (d : TypeDecl) (name : List ℕ) → IsUnknownName ds d name → BreaksFirst ds i d rules.NamesKnown
  breaks_names i d name unknown = record {
    fault = faults.UnknownType name;
    breaks = (name, unknown, refl);
    none_lower = lower i d 10 (omega arith) (λ less. absurd (omega (arith, less))) (λ less. absurd (omega (arith, less))) (λ less. absurd (omega (arith, less))) (λ less. absurd (omega (arith, less))) (λ less. absurd (omega (arith, less)));
  }

  -- where names are known, and arguments don't fit
  pub breaks_form : (i : ℕ) (d : TypeDecl) (g : Generic) (form : Form) → generic_named d.generic ≡ Some g → IsForm form d.args → AreKnown ds (named_types d.args)
      → kind_given g (given_of form (all_generics ds) (targets ds d)) ≡ None → BreaksFirst ds i d rules.ArgumentsFit
  breaks_form i d g form generic form_right known none = record {
    fault = faults.BadArgs d.id;
    breaks = (inl misfit, refl);
    none_lower = lower i d 12 (omega arith) (λ less fault (name, unknown, is). names_hold d (g, named_right d.generic g generic) known name unknown)
        (λ less. absurd (omega (arith, less))) (λ less. absurd (omega (arith, less))) (λ less. absurd (omega (arith, less))) (λ less. absurd (omega (arith, less)));
  }
    where
      misfit : Fits ds d.generic d.args → ⊥
      misfit (h, name, fits) =
          let same : h ≡ g = some_is h g (sym (named-name h) ∙ ap generic_named (sym name) ∙ generic) in
          let kind = fits_kind ds g (given_of form (all_generics ds) (targets ds d)) d.args (given_right ds form d.args form_right known) (subst (λ x. FitsGeneric ds x d.args) same fits) in
          none-some kind.0 (sym none ∙ kind.1)

  -- ---- what is known of the types that arguments name

  module _ (known : List (Option Known)) where
    abbrev pub AllRight : List ℕ → Type 0
    AllRight [] = Unit {0}
    AllRight (t ∷ ts) = IsRightAt ds t (get_or known t None) × AllRight ts

    pub all_right : (ts : List ℕ) → ((t : ℕ) → Contains ts t → IsRightAt ds t (get_or known t None)) → AllRight ts
    all_right [] each = tt
    all_right (t ∷ ts) each = (each t (0, omega arith, refl), all_right ts (λ u (k, less, is). each u (suc k, omega (arith, less), is)))

    abbrev Together : List ℕ → List Facts → Type 0
    Together ts fs = (tys : List Ty) × AllZip (IsTypeAt ds) tys ts × (fs ≡ map facts_of tys)

    parts_known : (ts : List ℕ) (fs : List Facts) → AllRight ts → parts_at known ts ≡ Some fs → Together ts fs
    parts_known [] fs right is = ([], tt, sym (some_is [] fs is))
    parts_known (t ∷ ts) fs right is = by (get_or known t None) (parts_at known ts) right.0 (λ gs. parts_known ts gs right.1) is
      where
        by : (o : Option Known) (p : Option (List Facts)) → IsRightAt ds t o → ((gs : List Facts) → p ≡ Some gs → Together ts gs)
            → with_first (option_map (λ k. k.facts) o) p ≡ Some fs → Together (t ∷ ts) fs
        by None p here rest is = absurd (none-some fs is)
        by (Some k) None here rest is = absurd (none-some fs is)
        by (Some k) (Some gs) here rest is =
            let others = rest gs refl in
            (here.ty ∷ others.0, (here.at, others.1), sym (some_is (k.facts ∷ gs) fs is) ∙ ap (λ f. f ∷ gs) here.facts ∙ ap (λ l. facts_of here.ty ∷ l) others.2)

    parts_missing : (ts : List ℕ) → parts_at known ts ≡ None → (t : ℕ) × Contains ts t × (get_or known t None ≡ None)
    parts_missing [] is = absurd (none-some [] (sym is))
    parts_missing (t ∷ ts) is = by (get_or known t None) (parts_at known ts) refl (parts_missing ts) is
      where
        by : (o : Option Known) (p : Option (List Facts)) → get_or known t None ≡ o → (p ≡ None → (u : ℕ) × Contains ts u × (get_or known u None ≡ None))
            → with_first (option_map (λ k. k.facts) o) p ≡ None → (u : ℕ) × Contains (t ∷ ts) u × (get_or known u None ≡ None)
        by None p here rest is = (t, (0, omega arith, refl), here)
        by (Some k) None here rest is = let (u, (n, less, at), missing) = rest refl in (u, (suc n, omega (arith, less), at), missing)
        by (Some k) (Some gs) here rest is = absurd (none-some (k.facts ∷ gs) (sym is))

    type_of_target : (tys : List Ty) (ts : List ℕ) (t : ℕ) → AllZip (IsTypeAt ds) tys ts → Contains ts t → (ty : Ty) × IsTypeAt ds ty t
    type_of_target tys [] t each (k, less, is) = absurd (omega (arith, less))
    type_of_target [] (u ∷ ts) t each (k, less, is) = absurd each
    type_of_target (ty ∷ tys) (u ∷ ts) t each (zero, less, is) = (ty, subst (IsTypeAt ds ty) is each.0)
    type_of_target (ty ∷ tys) (u ∷ ts) t each (suc k, less, is) = type_of_target tys ts t each.1 (k, omega (arith, less), is)

    -- arguments that name a type of which nothing is known make none
    pub none_made : (d : TypeDecl) → ((t : ℕ) → Contains (targets ds d) t → IsRightAt ds t (get_or known t None)) → (t : ℕ) → Contains (targets ds d) t → get_or known t None ≡ None
        → (ty : Ty) → HasArgs ds ty d → ⊥
    none_made d right t among missing ty args =
        let there = type_of_target (parts ty) (targets ds d) t (acyclic.parts_at ds ty d args) among in
        subst (IsRightAt ds t) missing (right t among) there.0 there.1

    module _ (i : ℕ) (d : TypeDecl) (here : slice_get ds i ≡ Some d) (g : Generic) (form : Form) (kind : TypeKind) (clear : IsClear ds d g form kind)
        (right : (t : ℕ) → Contains (targets ds d) t → IsRightAt ds t (get_or known t None)) (acyclic_here : OnCycle (arguments ds) i → ⊥)
        (repeated : Bool) (told : (repeated ≡ true) ↔ IsRepeated ds i d) where
      fits : Fits ds d.generic d.args
      fits = (g, named_right d.generic g clear.generic, kind_fits ds g (given_of form (all_generics ds) (targets ds d)) d.args kind (given_right ds form d.args clear.form_right clear.known) clear.kind_is)

      names : Holds i d rules.NamesKnown
      names fault (name, unknown, is) = names_hold d (g, named_right d.generic g clear.generic) clear.known name unknown

      cycle : Holds i d rules.NoCycle
      cycle fault (on, is) = acyclic_here on

      once_hidden : ((ty : Ty) → HasArgs ds ty d → ⊥) → (t : ℕ) × Contains (targets ds d) t × (get_or known t None ≡ None)
          → (b : Bool) → repeated ≡ b → IsFoundOf ds known i d (once b outcomes.Hidden)
      once_hidden none missing true yes_repeated = record {
        fault = faults.Duplicate d.id;
        breaks = (told.0 yes_repeated, refl);
        none_lower = lower i d 17 (omega arith) (λ less. names) (λ less. fitting) (λ less fault (ty, args, differs, is). none ty args) (λ less. cycle) (λ less fault (ty, args, beyond, is). none ty args);
      }
        where
          fitting : Holds i d rules.ArgumentsFit
          fitting fault (inl misfit, is) = misfit fits
          fitting fault (inr (ty, args, barred), is) = none ty args
      once_hidden none missing false not_repeated = (holds, missing)
        where
          holds : BreaksNone ds i d
          holds rules.NamesKnown fault breaks = names fault breaks
          holds rules.ArgumentsFit fault (inl misfit, is) = misfit fits
          holds rules.ArgumentsFit fault (inr (ty, args, barred), is) = none ty args
          holds rules.InfoFits fault (ty, args, differs, is) = none ty args
          holds rules.NoCycle fault breaks = cycle fault breaks
          holds rules.WithinLimits fault (ty, args, beyond, is) = none ty args
          holds rules.DeclaredOnce fault (is_repeated, is) = true≢false (sym (told.1 is_repeated) ∙ not_repeated)

      module _ (ty : Ty) (args : HasArgs ds ty d) where
        fitting : IsAllowed ty → Holds i d rules.ArgumentsFit
        fitting allowed fault (inl misfit, is) = misfit fits
        fitting allowed fault (inr (other, others, barred), is) = barred (subst IsAllowed (one_type ds ty other d args others) allowed)

        written_right : InfoFits d.info ty → Holds i d rules.InfoFits
        written_right info fault (other, others, differs, is) = differs (subst (InfoFits d.info) (one_type ds ty other d args others) info)

        within_limits : IsWithin d ty → Holds i d rules.WithinLimits
        within_limits within fault (other, others, beyond, is) = beyond (subst (IsWithin d) (one_type ds ty other d args others) within)

        barred_here : (IsAllowed ty → ⊥) → BreaksFirst ds i d rules.ArgumentsFit
        barred_here barred = record {
          fault = faults.BadArgs d.id;
          breaks = (inr (ty, args, barred), refl);
          none_lower = lower i d 12 (omega arith) (λ less. names) (λ less. absurd (omega (arith, less))) (λ less. absurd (omega (arith, less))) (λ less. absurd (omega (arith, less))) (λ less. absurd (omega (arith, less)));
        }

        differs_here : IsAllowed ty → (InfoFits d.info ty → ⊥) → BreaksFirst ds i d rules.InfoFits
        differs_here allowed differs = record {
          fault = faults.TypeInfoDiffers d.id;
          breaks = (ty, args, differs, refl);
          none_lower = lower i d 13 (omega arith) (λ less. names) (λ less. fitting allowed) (λ less. absurd (omega (arith, less))) (λ less. absurd (omega (arith, less))) (λ less. absurd (omega (arith, less)));
        }

        beyond_here : IsAllowed ty → InfoFits d.info ty → (IsWithin d ty → ⊥) → BreaksFirst ds i d rules.WithinLimits
        beyond_here allowed info beyond = record {
          fault = faults.SizeAbove d.id;
          breaks = (ty, args, beyond, refl);
          none_lower = lower i d 16 (omega arith) (λ less. names) (λ less. fitting allowed) (λ less. written_right info) (λ less. cycle) (λ less. absurd (omega (arith, less)));
        }

        once_here : IsAllowed ty → InfoFits d.info ty → IsWithin d ty → (k : Known) → k.kind ≡ kind_of ty → k.facts ≡ facts_of ty → (b : Bool) → repeated ≡ b → IsFoundOf ds known i d (once b (outcomes.Type k))
        once_here allowed info within k kind_is facts_are true yes_repeated = record {
          fault = faults.Duplicate d.id;
          breaks = (told.0 yes_repeated, refl);
          none_lower = lower i d 17 (omega arith) (λ less. names) (λ less. fitting allowed) (λ less. written_right info) (λ less. cycle) (λ less. within_limits within);
        }
        once_here allowed info within k kind_is facts_are false not_repeated = record {
          ty = ty;
          kind = kind_is;
          facts = facts_are;
          at = record {
            decl = d;
            here = here;
            args = args;
            passes = record { fits = fits; allowed = allowed; info = info; within = within; fresh = λ is_repeated. true≢false (sym (told.1 is_repeated) ∙ not_repeated) };
          };
        }

        found_broken : (b : Bool) (rule : TypeRule) → BreaksFirst ds i d rule → IsFoundOf ds known i d (once b (outcomes.Broken rule))
        found_broken true rule first = first
        found_broken false rule first = first

      not_so : (b : Bool) → b ≡ false → b ≡ true → ⊥
      not_so b no_way told_so = true≢false (sym told_so ∙ no_way)

      weighed_right : (tys : List Ty) → AllZip (IsTypeAt ds) tys (targets ds d) → IsFoundOf ds known i d (once repeated (weighed d kind (map facts_of tys)))
      weighed_right tys each = by (is_allowed kind (map facts_of tys)) refl (info_fits d.info (facts_given kind (map facts_of tys))) refl (is_within (length d.args) (facts_given kind (map facts_of tys))) refl
        where
          args : HasArgs ds (made kind (user_in d.args) tys) d
          args = clear_makes ds d g form kind tys clear each

          takes : Takes kind (user_in d.args) tys
          takes = (clear_takes ds d g form kind tys clear each).0

          allows : (is_allowed kind (map facts_of tys) ≡ true) ↔ IsAllowed (made kind (user_in d.args) tys)
          allows = allowed-made kind (user_in d.args) tys takes

          facts_are : (facts_given kind (map facts_of tys)) ≡ facts_of (made kind (user_in d.args) tys)
          facts_are = facts-made kind (user_in d.args) tys takes

          by : (a : Bool) → is_allowed kind (map facts_of tys) ≡ a → (b : Bool) → info_fits d.info (facts_given kind (map facts_of tys)) ≡ b → (c : Bool) → is_within (length d.args) (facts_given kind (map facts_of tys)) ≡ c
              → IsFoundOf ds known i d (once repeated (if not a then outcomes.Broken rules.ArgumentsFit else if not b then outcomes.Broken rules.InfoFits else if not c then outcomes.Broken rules.WithinLimits else outcomes.Type (record { kind = kind; facts = (facts_given kind (map facts_of tys)) })))
          by false barred b info c within = found_broken (made kind (user_in d.args) tys) args repeated rules.ArgumentsFit (barred_here (made kind (user_in d.args) tys) args (λ ok. not_so (is_allowed kind (map facts_of tys)) barred (allows.1 ok)))
          by true allowed false differs c within = found_broken (made kind (user_in d.args) tys) args repeated rules.InfoFits (differs_here (made kind (user_in d.args) tys) args (allows.0 allowed)
              (λ ok. not_so (info_fits d.info (facts_of (made kind (user_in d.args) tys))) (ap (info_fits d.info) (sym facts_are) ∙ differs) ((info_right d.info (made kind (user_in d.args) tys)).1 ok)))
          by true allowed true info false beyond = found_broken (made kind (user_in d.args) tys) args repeated rules.WithinLimits (beyond_here (made kind (user_in d.args) tys) args (allows.0 allowed)
              ((info_right d.info (made kind (user_in d.args) tys)).0 (ap (info_fits d.info) (sym facts_are) ∙ info))
              (λ ok. not_so (is_within (length d.args) (facts_of (made kind (user_in d.args) tys))) (ap (is_within (length d.args)) (sym facts_are) ∙ beyond) ((within_right d (made kind (user_in d.args) tys)).1 ok)))
          by true allowed true info true within = once_here (made kind (user_in d.args) tys) args (allows.0 allowed)
              ((info_right d.info (made kind (user_in d.args) tys)).0 (ap (info_fits d.info) (sym facts_are) ∙ info))
              ((within_right d (made kind (user_in d.args) tys)).0 (ap (is_within (length d.args)) (sym facts_are) ∙ within))
              (record { kind = kind; facts = (facts_given kind (map facts_of tys)) }) (sym (kind_of-made kind (user_in d.args) tys)) facts_are repeated refl

      pub found_right : IsFoundOf ds known i d (found_of d kind (parts_at known (targets ds d)) repeated)
      found_right = by (parts_at known (targets ds d)) refl
        where
          by : (p : Option (List Facts)) → parts_at known (targets ds d) ≡ p → IsFoundOf ds known i d (found_of d kind p repeated)
          by None is =
              let missing = parts_missing (targets ds d) is in
              once_hidden (none_made d right missing.0 missing.1 missing.2) missing repeated refl
          by (Some fs) is =
              let parts = parts_known (targets ds d) fs (all_right (targets ds d) right) is in
              subst (λ l. IsFoundOf ds known i d (once repeated (weighed d kind l))) (sym parts.2) (weighed_right parts.0 parts.1)

    -- a declaration that is on a cycle
    pub breaks_cycle : (i : ℕ) (d : TypeDecl) → slice_get ds i ≡ Some d → (g : Generic) (form : Form) (kind : TypeKind) → IsClear ds d g form kind → OnCycle (arguments ds) i → BreaksFirst ds i d rules.NoCycle
    breaks_cycle i d here g form kind clear on = record {
      fault = faults.TypeCycle d.id;
      breaks = (on, refl);
      none_lower = lower i d 15 (omega arith) (λ less. names) (λ less. fitting) (λ less fault (ty, args, differs, is). no_cycle_through ds ty i d here args on)
          (λ less. absurd (omega (arith, less))) (λ less. absurd (omega (arith, less)));
    }
      where
        names : Holds i d rules.NamesKnown
        names fault (name, unknown, is) = names_hold d (g, named_right d.generic g clear.generic) clear.known name unknown

        fitting : Holds i d rules.ArgumentsFit
        fitting fault (inl misfit, is) = misfit (g, named_right d.generic g clear.generic, kind_fits ds g (given_of form (all_generics ds) (targets ds d)) d.args kind (given_right ds form d.args clear.form_right clear.known) clear.kind_is)
        fitting fault (inr (ty, args, barred), is) = no_cycle_through ds ty i d here args on

  -- ---- what is found settles whether there is a type

  pub broken_none : (i : ℕ) (d : TypeDecl) (rule : TypeRule) → slice_get ds i ≡ Some d → BreaksFirst ds i d rule → (ty : Ty) → IsTypeAt ds ty i → ⊥
  broken_none i d rule here first ty at = type_breaks_none ty i d here at rule first.fault first.breaks

  pub hidden_none : (known : List (Option Known)) (i : ℕ) (d : TypeDecl) → slice_get ds i ≡ Some d → ((t : ℕ) → Contains (targets ds d) t → IsRightAt ds t (get_or known t None))
      → (t : ℕ) × Contains (targets ds d) t × (get_or known t None ≡ None) → (ty : Ty) → IsTypeAt ds ty i → ⊥
  hidden_none known i d here right missing ty at =
      none_made known d right missing.0 missing.1 missing.2 ty (subst (HasArgs ds ty) (some_is at.decl d (sym at.here ∙ here)) at.args)
