-- Where a program has no first fault, nothing in it breaks a rule.
use Rattle.std.proofs.Common.{◌≡◌, ◌⊎◌, inl, inr, ℕ, zero, suc, ◌+◌, ◌*◌, ◌<◌, List, Option, Some, None, slice_get, refl, sym, ◌∙◌, arith}
use Rattle.sierra_types.specs.declared.program.Program.{Program}
use Rattle.sierra_types.specs.declared.program.TypeDecl.{TypeDecl}
use Rattle.type_table.specs.declared.fault.TypeFault.{TypeFault}
use Rattle.type_table.specs.declared.rules.TypeRule.{TypeRule}
use Rattle.type_table.specs.declared.rules.TypeRule.TheVariants as rules
use Rattle.type_table.specs.Naming.{IsDeclared, place_of, ids_of}
use Rattle.type_table.specs.Refusals.{IsFirstUnknown, type_answer, FunctionRule, types_known, named_once, well_formed, function_answer, Spot, in_type, in_libfunc, in_function, Breaks, ComesBefore, FirstFault}
use Rattle.type_table.proofs.Plain.{none-some}
use Rattle.type_table.proofs.Places.{declared_place, place_declared}

low_answer : (rule : TypeRule) → type_answer rule < 20
low_answer rules.NamesKnown = omega arith
low_answer rules.ArgumentsFit = omega arith
low_answer rules.InfoFits = omega arith
low_answer rules.NoCycle = omega arith
low_answer rules.WithinLimits = omega arith
low_answer rules.DeclaredOnce = omega arith

low_function_answer : (rule : FunctionRule) → function_answer rule < 20
low_function_answer types_known = omega arith
low_function_answer named_once = omega arith
low_function_answer well_formed = omega arith

module _ (p : Program) (none : (fault : TypeFault) → FirstFault p fault → ⊥) where
  -- a rule stays whole where all before it do
  abbrev IsWhole : Spot → Type 0
  IsWhole spot = (fault : TypeFault) → Breaks p spot fault → ⊥

  next : (spot : Spot) → ((other : Spot) → ComesBefore other spot → IsWhole other) → IsWhole spot
  next spot before fault breaks = none fault (record { spot = spot; breaks = breaks; none_before = λ other earlier broken comes. before other comes earlier broken })

  type_step : (n : ℕ) → ((j : ℕ) (r : TypeRule) → j * 20 + type_answer r < n → IsWhole (in_type j r)) → (i : ℕ) (rule : TypeRule) → i * 20 + type_answer rule < suc n → IsWhole (in_type i rule)
  type_step n whole i rule less = next (in_type i rule) before
    where
      before : (other : Spot) → ComesBefore other (in_type i rule) → IsWhole other
      before (in_type j r) (inl lower) = whole j r (omega (arith, lower, less, low_answer r))
      before (in_type j r) (inr (same, lower)) = whole j r (omega (arith, same, lower, less))
      before (in_libfunc j) comes = absurd comes
      before (in_function j r) comes = absurd comes

  types_within : (n i : ℕ) (rule : TypeRule) → i * 20 + type_answer rule < n → IsWhole (in_type i rule)
  types_within zero i rule less = absurd (omega (arith, less))
  types_within (suc n) i rule less = type_step n (types_within n) i rule less

  types_whole : (i : ℕ) (rule : TypeRule) → IsWhole (in_type i rule)
  types_whole i rule = types_within (suc (i * 20 + type_answer rule)) i rule (omega arith)

  libfunc_step : (n : ℕ) → ((j : ℕ) → j < n → IsWhole (in_libfunc j)) → (i : ℕ) → i < suc n → IsWhole (in_libfunc i)
  libfunc_step n whole i less = next (in_libfunc i) before
    where
      before : (other : Spot) → ComesBefore other (in_libfunc i) → IsWhole other
      before (in_type j r) comes = types_whole j r
      before (in_libfunc j) lower = whole j (omega (arith, lower, less))
      before (in_function j r) comes = absurd comes

  libfuncs_within : (n i : ℕ) → i < n → IsWhole (in_libfunc i)
  libfuncs_within zero i less = absurd (omega (arith, less))
  libfuncs_within (suc n) i less = libfunc_step n (libfuncs_within n) i less

  libfuncs_whole : (i : ℕ) → IsWhole (in_libfunc i)
  libfuncs_whole i = libfuncs_within (suc i) i (omega arith)

  function_step : (n : ℕ) → ((j : ℕ) (r : FunctionRule) → j * 20 + function_answer r < n → IsWhole (in_function j r))
      → (i : ℕ) (rule : FunctionRule) → i * 20 + function_answer rule < suc n → IsWhole (in_function i rule)
  function_step n whole i rule less = next (in_function i rule) before
    where
      before : (other : Spot) → ComesBefore other (in_function i rule) → IsWhole other
      before (in_type j r) comes = types_whole j r
      before (in_libfunc j) comes = libfuncs_whole j
      before (in_function j r) (inl lower) = whole j r (omega (arith, lower, less, low_function_answer r))
      before (in_function j r) (inr (same, lower)) = whole j r (omega (arith, same, lower, less))

  functions_within : (n i : ℕ) (rule : FunctionRule) → i * 20 + function_answer rule < n → IsWhole (in_function i rule)
  functions_within zero i rule less = absurd (omega (arith, less))
  functions_within (suc n) i rule less = function_step n (functions_within n) i rule less

  -- nothing breaks a rule
  pub whole : (spot : Spot) → IsWhole spot
  whole (in_type i rule) = types_whole i rule
  whole (in_libfunc i) = libfuncs_whole i
  whole (in_function i rule) = functions_within (suc (i * 20 + function_answer rule)) i rule (omega arith)

module _ (ds : List TypeDecl) where
  declared_cases : (id : List ℕ) → IsDeclared ds id ⊎ (IsDeclared ds id → ⊥)
  declared_cases id = by (place_of (ids_of ds) id) refl
    where
      by : (o : Option ℕ) → place_of (ids_of ds) id ≡ o → IsDeclared ds id ⊎ (IsDeclared ds id → ⊥)
      by None e = inr (λ declared. none-some (declared_place ds id declared).0 (sym e ∙ (declared_place ds id declared).1))
      by (Some i) e = inl (place_declared ds id i e)

  abbrev KnownBelow : List (List ℕ) → ℕ → Type 0
  KnownBelow ids n = (k : ℕ) (id : List ℕ) → k < n → slice_get ids k ≡ Some id → IsDeclared ds id

  known_step : (ids : List (List ℕ)) → ((name : List ℕ) → IsFirstUnknown ds ids name → ⊥) → (n : ℕ) → KnownBelow ids n → KnownBelow ids (suc n)
  known_step ids none n known k id less is = by (declared_cases id)
    where
      by : IsDeclared ds id ⊎ (IsDeclared ds id → ⊥) → IsDeclared ds id
      by (inl declared) = declared
      by (inr unknown) = absurd (none id (record { at = k; here = is; unknown = unknown; known_before = λ j other lower there. known j other (omega (arith, lower, less)) there }))

  known_below : (ids : List (List ℕ)) → ((name : List ℕ) → IsFirstUnknown ds ids name → ⊥) → (n : ℕ) → KnownBelow ids n
  known_below ids none zero k id less is = absurd (omega (arith, less))
  known_below ids none (suc n) k id less is = known_step ids none n (known_below ids none n) k id less is

  -- where no id is the first unknown one, all are known
  pub all_known : (ids : List (List ℕ)) → ((name : List ℕ) → IsFirstUnknown ds ids name → ⊥) → (k : ℕ) (id : List ℕ) → slice_get ids k ≡ Some id → IsDeclared ds id
  all_known ids none k id is = known_below ids none (suc k) k id (omega arith) is
