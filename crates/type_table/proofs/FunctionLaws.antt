-- The functions of a program, taken one after another.
use Rattle.std.proofs.Common.{◌≡◌, ◌⊎◌, inl, inr, ℕ, ◌+◌, ◌<◌, ◌≤◌, List, [], ◌∷◌, ◌++◌, map, length, Some, option_map, slice_get, refl, ap, sym, subst, ◌∙◌, arith}
use Rattle.std.proofs.lemmas.Bool.{cases_lt}
use Rattle.std.proofs.lemmas.List.{length-map, length_push}
use Rattle.std.proofs.lemmas.Option.{slice_get-map, slice_get_within}
use Rattle.sierra_types.specs.declared.program.Program.{Program}
use Rattle.sierra_types.specs.declared.program.Function.{Function}
use Rattle.sierra_types.specs.declared.program.LibfuncDecl.{LibfuncDecl}
use Rattle.sierra_types.specs.declared.program.TypeDecl.{TypeDecl}
use Rattle.type_table.specs.declared.fault.TypeFault.{TypeFault}
use Rattle.type_table.specs.declared.rules.TypeRule.{TypeRule}
use Rattle.type_table.specs.declared.row.Row.{Row}
use Rattle.type_table.specs.declared.row.Signature.{Signature}
use Rattle.type_table.specs.Refusals.{IsRepeatedId, FunctionRule, BreaksType, BreaksFunction, Spot, in_type, in_libfunc, in_function, Breaks, ComesBefore, FirstFault}
use Rattle.type_table.specs.Functions.{HasRows, IsSignature, LibfuncsDiffer, HasFunctions, HasRepeatedLibfunc, IsBehindTypes, FirstBehindTypes}
use Rattle.type_table.specs.Signatures.{PassesBehind, FailsBehind}
use Rattle.type_table.proofs.Plain.{none-some, some_is}
use Rattle.type_table.proofs.DecidedLists.{push_at}
use Rattle.type_table.proofs.Ids.{AreListed, none_listed, listed_more, all_listed}
use Rattle.type_table.proofs.SignatureLaws.{FirstInFunction, passes, fails, signature}

-- ---- libfuncs

-- none of the first i libfuncs has an id that is declared before it
abbrev pub DifferBefore : List LibfuncDecl → ℕ → Type 0
DifferBefore libfuncs i = (k : ℕ) (d : LibfuncDecl) → k < i → slice_get libfuncs k ≡ Some d → IsRepeatedId (map (λ e. e.id) libfuncs) k d.id → ⊥

pub one_differs : (libfuncs : List LibfuncDecl) (i : ℕ) (d : LibfuncDecl) → DifferBefore libfuncs i → slice_get libfuncs i ≡ Some d
    → (IsRepeatedId (map (λ e. e.id) libfuncs) i d.id → ⊥) → DifferBefore libfuncs (i + 1)
one_differs libfuncs i d before here new k e less is repeated = by (cases_lt k i)
  where
    by : (k < i) ⊎ (i ≤ k) → ⊥
    by (inl earlier) = before k e earlier is repeated
    by (inr at) =
        let last : k ≡ i = omega (arith, less, at) in
        let same : e ≡ d = some_is e d (sym is ∙ ap (slice_get libfuncs) last ∙ here) in
        new (subst (λ n. IsRepeatedId (map (λ x. x.id) libfuncs) n d.id) last (subst (λ x. IsRepeatedId (map (λ y. y.id) libfuncs) k x.id) same repeated))

pub all_differ : (libfuncs : List LibfuncDecl) (i : ℕ) → length libfuncs ≤ i → DifferBefore libfuncs i → LibfuncsDiffer libfuncs
all_differ libfuncs i all before k d here = let within = slice_get_within libfuncs k d here in before k d (omega (arith, all, within)) here

-- ---- functions

module _ (p : Program) where
  -- the first i functions pass, and these are their ids and signatures
  pub record SoFar (i : ℕ) (ids : List (List ℕ × ℕ)) (signatures : List Signature) : Type 0 where
    pub listed : AreListed (map (λ f. f.id) p.functions) i ids
    pub each : length signatures ≡ i
    pub right : (k : ℕ) (declared : Function) (s : Signature) → slice_get p.functions k ≡ Some declared → slice_get signatures k ≡ Some s → IsSignature p declared s
    pub pass : (k : ℕ) (f : Function) (rule : FunctionRule) (fault : TypeFault) → k < i → slice_get p.functions k ≡ Some f → BreaksFunction p k f rule fault → ⊥

  pub no_functions : SoFar 0 [] []
  no_functions = record {
    listed = none_listed (map (λ f. f.id) p.functions);
    each = refl;
    right = λ k declared s _ is. absurd (none-some s is);
    pass = λ k f rule fault less _ _. absurd (omega (arith, less));
  }

  id_here : (i : ℕ) (f : Function) → slice_get p.functions i ≡ Some f → slice_get (map (λ g. g.id) p.functions) i ≡ Some f.id
  id_here i f here = slice_get-map (λ g. g.id) p.functions i ∙ ap (option_map (λ g. g.id)) here

  pub all_functions : (i : ℕ) (ids : List (List ℕ × ℕ)) (signatures : List Signature) → SoFar i ids signatures → i ≡ length p.functions → LibfuncsDiffer p.libfuncs → HasFunctions p ids signatures
  all_functions i ids signatures so_far all libfuncs = record {
    names = all_listed (map (λ f. f.id) p.functions) ids (subst (λ n. AreListed (map (λ f. f.id) p.functions) n ids) (all ∙ sym (length-map p.functions (λ f. f.id))) so_far.listed);
    numbered = so_far.listed.numbered;
    each = so_far.each ∙ all;
    right = so_far.right;
    libfuncs_once = libfuncs;
    functions_pass = λ k f rule fault here. let within = slice_get_within p.functions k f here in so_far.pass k f rule fault (omega (arith, within, all)) here;
  }

  module _ (positions : List (List ℕ × ℕ)) (rows : List Row) (known : HasRows p positions rows) (i : ℕ) (ids : List (List ℕ × ℕ)) (signatures : List Signature) (so_far : SoFar i ids signatures)
      (f : Function) (here : slice_get p.functions i ≡ Some f) where
    pub one_function : (s : Signature) → PassesBehind positions rows ids f s → SoFar (i + 1) (ids ++ (f.id, i) ∷ []) (signatures ++ s ∷ [])
    one_function s pass = record { listed = listed_more (map (λ g. g.id) p.functions) i ids f.id so_far.listed (id_here i f here); each = length_push signatures s ∙ ap (λ n. n + 1) so_far.each; right = right; pass = all_pass }
      where
        right : (k : ℕ) (declared : Function) (t : Signature) → slice_get p.functions k ≡ Some declared → slice_get (signatures ++ s ∷ []) k ≡ Some t → IsSignature p declared t
        right k declared t is also = by (push_at signatures s t k also)
          where
            by : (slice_get signatures k ≡ Some t) ⊎ ((k ≡ length signatures) × (s ≡ t)) → IsSignature p declared t
            by (inl before) = so_far.right k declared t is before
            by (inr (last, same)) =
                let one : f ≡ declared = some_is f declared (sym here ∙ ap (slice_get p.functions) (sym (last ∙ so_far.each)) ∙ is) in
                subst (IsSignature p declared) same (subst (λ g. IsSignature p g s) one (signature p positions rows known f s pass.resolved))

        all_pass : (k : ℕ) (g : Function) (rule : FunctionRule) (fault : TypeFault) → k < i + 1 → slice_get p.functions k ≡ Some g → BreaksFunction p k g rule fault → ⊥
        all_pass k g rule fault less is broken = by (cases_lt k i)
          where
            by : (k < i) ⊎ (i ≤ k) → ⊥
            by (inl before) = so_far.pass k g rule fault before is broken
            by (inr at) =
                let last : k ≡ i = omega (arith, less, at) in
                let one : g ≡ f = some_is g f (sym is ∙ ap (slice_get p.functions) last ∙ here) in
                passes p positions rows known i ids so_far.listed.names f s pass rule fault
                (subst (λ n. BreaksFunction p n f rule fault) last (subst (λ x. BreaksFunction p k x rule fault) one broken))

    pub function_fails : (fault : TypeFault) → LibfuncsDiffer p.libfuncs → FailsBehind positions rows ids f fault → FirstBehindTypes p fault
    function_fails fault libfuncs failed = record { spot = in_function i first.rule; behind = tt; breaks = (f, here, first.breaks); none_before = before }
      where
        first : FirstInFunction p positions rows known i f fault
        first = fails p positions rows known i ids so_far.listed.names f fault failed

        before : (other : Spot) (earlier : TypeFault) → IsBehindTypes other → Breaks p other earlier → ComesBefore other (in_function i first.rule) → ⊥
        before (in_type j rule) earlier behind broken less = behind
        before (in_libfunc j) earlier behind (d, is, repeated, _) less = libfuncs j d is repeated
        before (in_function j rule) earlier behind (g, is, broken) (inl less) = so_far.pass j g rule earlier less is broken
        before (in_function j rule) earlier behind (g, is, broken) (inr (same, less)) =
            let one : g ≡ f = some_is g f (sym is ∙ ap (slice_get p.functions) same ∙ here) in
            first.none_before rule earlier less (subst (λ n. BreaksFunction p n f rule earlier) same (subst (λ x. BreaksFunction p j x rule earlier) one broken))

  pub libfunc_fails : (fault : TypeFault) → HasRepeatedLibfunc p.libfuncs fault → FirstBehindTypes p fault
  libfunc_fails fault r = record { spot = in_libfunc r.at; behind = tt; breaks = (r.libfunc, r.here, r.repeated, r.fault_is); none_before = before }
    where
      before : (other : Spot) (earlier : TypeFault) → IsBehindTypes other → Breaks p other earlier → ComesBefore other (in_libfunc r.at) → ⊥
      before (in_type j rule) earlier behind broken less = behind
      before (in_libfunc j) earlier behind (d, is, repeated, _) less = r.none_before j d less is repeated
      before (in_function j rule) earlier behind broken less = less

  -- where no type breaks a rule, the first fault behind types is the first
  pub first_fault : (fault : TypeFault) → ((i : ℕ) (d : TypeDecl) (rule : TypeRule) (other : TypeFault) → slice_get p.types i ≡ Some d → BreaksType p.types i d rule other → ⊥)
      → FirstBehindTypes p fault → FirstFault p fault
  first_fault fault types_pass first = record { spot = first.spot; breaks = first.breaks; none_before = before }
    where
      before : (other : Spot) (earlier : TypeFault) → Breaks p other earlier → ComesBefore other first.spot → ⊥
      before (in_type i rule) earlier (d, is, broken) less = types_pass i d rule earlier is broken
      before (in_libfunc i) earlier broken less = first.none_before (in_libfunc i) earlier tt broken less
      before (in_function i rule) earlier broken less = first.none_before (in_function i rule) earlier tt broken less
