-- What the rules for functions say of a declaration is what the code finds by the positions and rows of its types.
use Rattle.std.proofs.Common.{◌≡◌, ◌⊎◌, inl, inr, ℕ, zero, suc, ◌+◌, ◌<◌, ◌≤◌, Bool, true, false, true≢false, cond, not, ◌&&◌, eqb, List, [], ◌∷◌, ◌++◌, map, take, length, Option, Some, None, option_map, is_some, Result, Ok, Err, IfErr, slice_get, refl, ap, sym, subst, ◌∙◌, arith}
use Rattle.std.specs.List.{cons_option, list_all, count_by}
use Rattle.std.specs.Option.{option_map_or}
use Rattle.std.specs.Result.{IsErrAnd}
use Rattle.std.proofs.lemmas.Bool.{cases_lt, and_parts, and_cases, ltb-true, lt-ltb, not-true, not-false, both_ways, eqb-true, eq-eqb}
use Rattle.std.proofs.lemmas.List.{length-map, map-append}
use Rattle.std.proofs.lemmas.List.Elements.{filter_map-append}
use Rattle.std.proofs.lemmas.Option.{slice_get-map, slice_get-get_or, slice_get_within}
use Rattle.type_trees.specs.Ty.{Ty, number, nonzero, range_check, gas_builtin, box, array, snapshot, struct, enum, dict, dict_entry, squashed_dict, uninitialized, storable}
use Rattle.sierra_types.specs.declared.program.Program.{Program}
use Rattle.sierra_types.specs.declared.program.Function.{Function}
use Rattle.type_table.specs.declared.fault.TypeFault.{TypeFault}
use Rattle.type_table.specs.declared.fault.TypeFault.TheVariants as faults
use Rattle.type_table.specs.declared.row.Row.{Row}
use Rattle.type_table.specs.declared.row.Signature.{Signature}
use Rattle.type_table.specs.declared.signatures.Builtin.{Builtin}
use Rattle.type_table.specs.declared.signatures.Builtin.TheVariants as builtins
use Rattle.type_table.specs.declared.type_id.TypeId.{TypeId}
use Rattle.type_table.specs.Naming.{IsDeclared, ids_of}
use Rattle.type_table.specs.Trees.{kind_of}
use Rattle.type_table.specs.IsType.{HasArgs, IsType}
use Rattle.type_table.specs.Lookups.{found, names_in}
use Rattle.type_table.specs.Refusals.{IsFirstUnknown, IsRepeatedId, parameter_types, HasOneBuiltinTwice, HasUnstorable, HasOneVariableTwice, FunctionRule, types_known, named_once, well_formed, function_answer, BreaksFunction}
use Rattle.type_table.specs.Functions.{IsRowOf, HasRows, ArePlaces, IsSignature}
use Rattle.type_table.specs.Signatures.{AreFound, unfound_in, HasUnfound, IsResolved, is_builtin, is_builtin_at, is_storable_at, has_twice, are_usable, IsWellFormed, IsIllFormed, PassesBehind, FailsBehind}
use Rattle.type_table.proofs.Plain.{none-some, some_is, cons-nil}
use Rattle.type_table.proofs.Places.{place-first, declared_place, place_declared, names_once}
use Rattle.type_table.proofs.LookupLaws.{found_at, found_some}
use Rattle.type_table.proofs.Ids.{take_next, taken_get, get_taken}
use Rattle.type_table.proofs.Filters.{first_given}
use Rattle.type_table.proofs.Unique.{one_type}
use Rattle.type_table.proofs.DecidedLists.{at_below, contains_at, heads, behind}
use Rattle.type_table.proofs.Counted.{each_same, TestAt, all_pass, not_all, two_counted, counted_two}

-- what holds of a fault holds of a result that passes it on
pub fault_passed : {T E : Type 0} (P : E → Type 0) (fault : E) (result : Result T E) → IsErrAnd result (λ e. e ≡ fault) → P fault → IfErr result P
fault_passed P fault (Ok x) is holds = absurd is
fault_passed P fault (Err e) is holds = subst P (sym is) holds

-- ---- variables

-- a set has the variables of the first i parameters, which all differ
pub record VariablesDiffer (params : List (ℕ × List ℕ)) (i : ℕ) (has : ℕ → Bool) : Type 0 where
  pub taken : (j : ℕ) (a : ℕ × List ℕ) → j < i → slice_get params j ≡ Some a → has a.0 ≡ true
  pub only : (q : ℕ) → has q ≡ true → (j : ℕ) × (a : ℕ × List ℕ) × (j < i) × (slice_get params j ≡ Some a) × (a.0 ≡ q)
  pub differ : (j k : ℕ) (a b : ℕ × List ℕ) → j < k → k < i → slice_get params j ≡ Some a → slice_get params k ≡ Some b → a.0 ≡ b.0 → ⊥

pub no_variables : (params : List (ℕ × List ℕ)) (has : ℕ → Bool) → ((q : ℕ) → has q ≡ false) → VariablesDiffer params 0 has
no_variables params has none = record {
  taken = λ j a less _. absurd (omega (arith, less));
  only = λ q is_so. absurd (true≢false (sym is_so ∙ none q));
  differ = λ j k a b before less _ _ _. absurd (omega (arith, less));
}

-- a variable that the set has already is one of two
pub taken_twice : (params : List (ℕ × List ℕ)) (i : ℕ) (has : ℕ → Bool) (a : ℕ × List ℕ) → VariablesDiffer params i has → slice_get params i ≡ Some a → has a.0 ≡ true → HasOneVariableTwice params
taken_twice params i has a so_far here is_so =
    let (j, b, less, before, same) = so_far.only a.0 is_so in
    (j, i, b, a, less, before, here, same)

-- one variable more, which the set didn't have
pub one_more : (params : List (ℕ × List ℕ)) (i : ℕ) (has more : ℕ → Bool) (a : ℕ × List ℕ) → VariablesDiffer params i has → slice_get params i ≡ Some a → has a.0 ≡ false
    → ((q : ℕ) → more q ≡ cond (eqb a.0 q) true (has q)) → VariablesDiffer params (i + 1) more
one_more params i has more a so_far here new adds = record { taken = taken; only = only; differ = differ }
  where
    kept : (q : ℕ) (b : Bool) → has q ≡ true → cond b true (has q) ≡ true
    kept q true is_so = refl
    kept q false is_so = is_so

    taken : (j : ℕ) (b : ℕ × List ℕ) → j < i + 1 → slice_get params j ≡ Some b → more b.0 ≡ true
    taken j b less is = by (cases_lt j i)
      where
        by : (j < i) ⊎ (i ≤ j) → more b.0 ≡ true
        by (inl before) = adds b.0 ∙ kept b.0 (eqb a.0 b.0) (so_far.taken j b before is)
        by (inr at) =
            let last : j ≡ i = omega (arith, less, at) in
            let same : a ≡ b = some_is a b (sym here ∙ ap (slice_get params) (sym last) ∙ is) in
            adds b.0 ∙ ap (λ t. cond t true (has b.0)) (eq-eqb a.0 b.0 (ap (λ p. p.0) same))

    only : (q : ℕ) → more q ≡ true → (j : ℕ) × (b : ℕ × List ℕ) × (j < i + 1) × (slice_get params j ≡ Some b) × (b.0 ≡ q)
    only q is_so = by (eqb a.0 q) refl
      where
        by : (t : Bool) → eqb a.0 q ≡ t → (j : ℕ) × (b : ℕ × List ℕ) × (j < i + 1) × (slice_get params j ≡ Some b) × (b.0 ≡ q)
        by true e = (i, a, omega arith, here, eqb-true a.0 q e)
        by false e =
            let (j, b, less, before, same) = so_far.only q (sym (adds q ∙ ap (λ t. cond t true (has q)) e) ∙ is_so) in
            (j, b, omega (arith, less), before, same)

    differ : (j k : ℕ) (b d : ℕ × List ℕ) → j < k → k < i + 1 → slice_get params j ≡ Some b → slice_get params k ≡ Some d → b.0 ≡ d.0 → ⊥
    differ j k b d before less is also same = by (cases_lt k i)
      where
        by : (k < i) ⊎ (i ≤ k) → ⊥
        by (inl earlier) = so_far.differ j k b d before earlier is also same
        by (inr at) =
            let last : k ≡ i = omega (arith, less, at) in
            let one : a ≡ d = some_is a d (sym here ∙ ap (slice_get params) (sym last) ∙ also) in
            let first : j < i = omega (arith, before, last) in
            both_ways (has a.0) new (ap has (ap (λ p. p.0) one ∙ sym same) ∙ so_far.taken j b first is)

pub no_twice : (params : List (ℕ × List ℕ)) (i : ℕ) (has : ℕ → Bool) → VariablesDiffer params i has → length params ≤ i → HasOneVariableTwice params → ⊥
no_twice params i has so_far all (j, k, a, b, before, is, also, same) =
    let within = slice_get_within params k b also in
    so_far.differ j k a b before (omega (arith, within, all)) is also same

-- ---- ids and positions

abbrev cons_unfound : Option ℕ → List ℕ → List (List ℕ) → List (List ℕ)
cons_unfound o id rest = cons_option (cond (is_some o) None (Some id)) rest

module _ (positions : List (List ℕ × ℕ)) where
  append : (a b : List (List ℕ)) → unfound_in positions (a ++ b) ≡ unfound_in positions a ++ unfound_in positions b
  append a b = filter_map-append (λ id. cond (is_some (found positions id)) None (Some id)) a b

  none_unfound : (ids : List (List ℕ)) (ts : List TypeId) → AreFound positions ids ts → unfound_in positions ids ≡ []
  none_unfound [] ts are = refl
  none_unfound (id ∷ ids) [] are = absurd (cons-nil (found positions id) (map (λ x. found positions x) ids) are)
  none_unfound (id ∷ ids) (t ∷ ts) are =
      ap (λ o. cons_unfound o id (unfound_in positions ids)) (heads (found positions id) (Some t.0) (map (λ x. found positions x) ids) (map (λ u. Some u.0) ts) are)
      ∙ none_unfound ids ts (ap behind are)

  pub unfound_left : (a b : List (List ℕ)) (fault : TypeFault) → HasUnfound positions a fault → HasUnfound positions (a ++ b) fault
  unfound_left a b fault (id, more, is, fault_is) = (id, more ++ unfound_in positions b, append a b ∙ ap (λ l. l ++ unfound_in positions b) is, fault_is)

  pub unfound_right : (a b : List (List ℕ)) (ts : List TypeId) (fault : TypeFault) → AreFound positions a ts → HasUnfound positions b fault → HasUnfound positions (a ++ b) fault
  unfound_right a b ts fault are (id, more, is, fault_is) = (id, more, append a b ∙ ap (λ l. l ++ unfound_in positions b) (none_unfound a ts are) ∙ is, fault_is)

  -- the loop over ids: one more that is found, or the first that isn't
  pub found_more : (ids : List (List ℕ)) (i : ℕ) (ts : List TypeId) (id : List ℕ) (t : TypeId) → slice_get ids i ≡ Some id → found positions id ≡ Some t.0
      → AreFound positions (take i ids) ts → AreFound positions (take (i + 1) ids) (ts ++ t ∷ [])
  found_more ids i ts id t here is are =
      let next = take_next ids i id here in
      ap (map (λ x. found positions x)) next.0
      ∙ map-append (λ x. found positions x) (take i ids) (id ∷ [])
      ∙ ap (λ l. l ++ found positions id ∷ []) are
      ∙ ap (λ o. map (λ u. Some u.0) ts ++ o ∷ []) is
      ∙ sym (map-append (λ u. Some u.0) ts (t ∷ []))

  pub unfound_at : (ids : List (List ℕ)) (i : ℕ) (ts : List TypeId) (id : List ℕ) → slice_get ids i ≡ Some id → found positions id ≡ None
      → AreFound positions (take i ids) ts → (more : List (List ℕ)) × (unfound_in positions ids ≡ id ∷ more)
  unfound_at ids i ts id here none are =
      first_given (λ x. cond (is_some (found positions x)) None (Some x)) ids i id id here (none_unfound (take i ids) ts are)
      (ap (λ o. cond (is_some o) None (Some id)) none)

-- ---- builtins

abbrev type_of : Builtin → Ty
type_of builtins.RangeCheck = range_check
type_of builtins.Gas = gas_builtin

type_of-builtin : (builtin : Builtin) → (type_of builtin ≡ range_check) ⊎ (type_of builtin ≡ gas_builtin)
type_of-builtin builtins.RangeCheck = inl refl
type_of-builtin builtins.Gas = inr refl

is_its_own : (builtin : Builtin) → is_builtin builtin (kind_of (type_of builtin)) ≡ true
is_its_own builtins.RangeCheck = refl
is_its_own builtins.Gas = refl

builtin_is : (builtin : Builtin) (ty : Ty) → is_builtin builtin (kind_of ty) ≡ true → ty ≡ type_of builtin
builtin_is builtins.RangeCheck range_check is_so = refl
builtin_is builtins.Gas gas_builtin is_so = refl
builtin_is builtins.RangeCheck gas_builtin is_so = absurd (true≢false (sym is_so))
builtin_is builtins.Gas range_check is_so = absurd (true≢false (sym is_so))
builtin_is builtins.RangeCheck (number num) is_so = absurd (true≢false (sym is_so))
builtin_is builtins.RangeCheck (nonzero num) is_so = absurd (true≢false (sym is_so))
builtin_is builtins.RangeCheck (box ty) is_so = absurd (true≢false (sym is_so))
builtin_is builtins.RangeCheck (array ty) is_so = absurd (true≢false (sym is_so))
builtin_is builtins.RangeCheck (snapshot ty) is_so = absurd (true≢false (sym is_so))
builtin_is builtins.RangeCheck (struct name tys) is_so = absurd (true≢false (sym is_so))
builtin_is builtins.RangeCheck (enum name tys) is_so = absurd (true≢false (sym is_so))
builtin_is builtins.RangeCheck (dict num) is_so = absurd (true≢false (sym is_so))
builtin_is builtins.RangeCheck (dict_entry num) is_so = absurd (true≢false (sym is_so))
builtin_is builtins.RangeCheck (squashed_dict num) is_so = absurd (true≢false (sym is_so))
builtin_is builtins.RangeCheck (uninitialized ty) is_so = absurd (true≢false (sym is_so))
builtin_is builtins.Gas (number num) is_so = absurd (true≢false (sym is_so))
builtin_is builtins.Gas (nonzero num) is_so = absurd (true≢false (sym is_so))
builtin_is builtins.Gas (box ty) is_so = absurd (true≢false (sym is_so))
builtin_is builtins.Gas (array ty) is_so = absurd (true≢false (sym is_so))
builtin_is builtins.Gas (snapshot ty) is_so = absurd (true≢false (sym is_so))
builtin_is builtins.Gas (struct name tys) is_so = absurd (true≢false (sym is_so))
builtin_is builtins.Gas (enum name tys) is_so = absurd (true≢false (sym is_so))
builtin_is builtins.Gas (dict num) is_so = absurd (true≢false (sym is_so))
builtin_is builtins.Gas (dict_entry num) is_so = absurd (true≢false (sym is_so))
builtin_is builtins.Gas (squashed_dict num) is_so = absurd (true≢false (sym is_so))
builtin_is builtins.Gas (uninitialized ty) is_so = absurd (true≢false (sym is_so))

module _ (p : Program) (positions : List (List ℕ × ℕ)) (rows : List Row) (known : HasRows p positions rows) where
  -- ---- names

  found_place : (id : List ℕ) (i : ℕ) → found positions id ≡ Some i → slice_get (ids_of p.types) i ≡ Some id
  found_place id i is = (place-first (ids_of p.types) id i (sym (known.first id) ∙ is)).here

  found_declared : (id : List ℕ) (i : ℕ) → found positions id ≡ Some i → IsDeclared p.types id
  found_declared id i is = place_declared p.types id i (sym (known.first id) ∙ is)

  declared_found : (id : List ℕ) → found positions id ≡ None → IsDeclared p.types id → ⊥
  declared_found id none declared =
      let (i, is) = declared_place p.types id declared in
      none-some i (sym none ∙ known.first id ∙ is)

  -- the first id that isn't found is the first that isn't declared
  first_unknown : (ids : List (List ℕ)) (id : List ℕ) (more : List (List ℕ)) → unfound_in positions ids ≡ id ∷ more → IsFirstUnknown p.types ids id
  first_unknown [] id more is = absurd (cons-nil id more (sym is))
  first_unknown (x ∷ ids) id more is = by (found positions x) refl (first_unknown ids id more)
    where
      by : (o : Option ℕ) → found positions x ≡ o → (unfound_in positions ids ≡ id ∷ more → IsFirstUnknown p.types ids id) → IsFirstUnknown p.types (x ∷ ids) id
      by None e rest =
          let same : x ≡ id = heads x id (unfound_in positions ids) more (sym (ap (λ o. cons_unfound o x (unfound_in positions ids)) e) ∙ is) in
          record {
            at = 0;
            here = ap Some same;
            unknown = declared_found id (ap (found positions) (sym same) ∙ e);
            known_before = λ j other less _. absurd (omega (arith, less));
          }
      by (Some i) e rest =
          let later = rest (sym (ap (λ o. cons_unfound o x (unfound_in positions ids)) e) ∙ is) in
          record { at = suc later.at; here = later.here; unknown = later.unknown; known_before = before later }
        where
          before : (later : IsFirstUnknown p.types ids id) (j : ℕ) (other : List ℕ) → j < suc later.at → slice_get (x ∷ ids) j ≡ Some other → IsDeclared p.types other
          before later zero other less here = subst (IsDeclared p.types) (some_is x other here) (found_declared x i e)
          before later (suc j) other less here = later.known_before j other (omega (arith, less)) here

  all_known : (ids : List (List ℕ)) (ts : List TypeId) (name : List ℕ) → AreFound positions ids ts → IsFirstUnknown p.types ids name → ⊥
  all_known ids ts name are first =
      let (t, here, is) = each_same (λ id. found positions id) (λ t. Some t.0) ids ts first.at name are first.here in
      first.unknown (found_declared name t.0 is)

  -- ---- rows

  -- the type at one place of ids and positions
  record At (ids : List (List ℕ)) (ts : List TypeId) (k : ℕ) (id : List ℕ) (t : TypeId) : Type 0 where
    row : Row
    id_here : slice_get ids k ≡ Some id
    t_here : slice_get ts k ≡ Some t
    row_here : slice_get rows t.0 ≡ Some row
    of : IsRowOf p row id

  at : (ids : List (List ℕ)) (ts : List TypeId) (k : ℕ) (id : List ℕ) (t : TypeId) → slice_get ids k ≡ Some id → slice_get ts k ≡ Some t → found positions id ≡ Some t.0 → At ids ts k id t
  at ids ts k id t id_here t_here is =
      let place = found_place id t.0 is in
      let within = slice_get_within (ids_of p.types) t.0 id place in
      let (row, row_here) = at_below rows t.0 (omega (arith, within, length-map p.types (λ d. d.id), known.each)) in
      record { row = row; id_here = id_here; t_here = t_here; row_here = row_here; of = known.right t.0 id row place row_here }

  at_id : (ids : List (List ℕ)) (ts : List TypeId) (k : ℕ) (id : List ℕ) → AreFound positions ids ts → slice_get ids k ≡ Some id → (t : TypeId) × At ids ts k id t
  at_id ids ts k id are here =
      let (t, t_here, is) = each_same (λ x. found positions x) (λ u. Some u.0) ids ts k id are here in
      (t, at ids ts k id t here t_here is)

  at_type : (ids : List (List ℕ)) (ts : List TypeId) (k : ℕ) (t : TypeId) → AreFound positions ids ts → slice_get ts k ≡ Some t → (id : List ℕ) × At ids ts k id t
  at_type ids ts k t are here =
      let (id, id_here, is) = each_same (λ u. Some u.0) (λ x. found positions x) ts ids k t (sym are) here in
      (id, at ids ts k id t id_here here (sym is))

  same_ty : (a b : Ty) (id : List ℕ) → IsType p.types a id → IsType p.types b id → a ≡ b
  same_ty a b id (i, d, names, args, passes) (j, e, others, brgs, basses) =
      one_type p.types a b d args (subst (HasArgs p.types b) (names_once p.types id j i e d others names).1 brgs)

  -- ---- what may not be stored

  at_storable : (ids : List (List ℕ)) (ts : List TypeId) (k : ℕ) (id : List ℕ) (t : TypeId) (at : At ids ts k id t) → is_storable_at rows t ≡ storable at.of.ty
  at_storable ids ts k id t at = ap (λ o. option_map_or (λ row. row.info.storable) o false) at.row_here ∙ at.of.storable

  unstorable : (ids : List (List ℕ)) (ts : List TypeId) → AreFound positions ids ts → list_all (λ t. is_storable_at rows t) ts ≡ false → HasUnstorable p.types ids
  unstorable ids ts are none =
      let (k, test_is) = not_all (λ t. is_storable_at rows t) ts none in
      let (id, at) = at_type ids ts k test_is.item are test_is.here in (
        at.of.ty,
        id,
        contains_at ids k id at.id_here,
        at.of.is,
        sym (at_storable ids ts k id test_is.item at) ∙ test_is.answers,
      )

  all_storable : (ids : List (List ℕ)) (ts : List TypeId) → AreFound positions ids ts → list_all (λ t. is_storable_at rows t) ts ≡ true → HasUnstorable p.types ids → ⊥
  all_storable ids ts are all (ty, id, (k, below, is), type, isnt) =
      let (t, at) = at_id ids ts k id are (slice_get-get_or ids k id below ∙ ap Some is) in
      let is_so = all_pass (λ u. is_storable_at rows u) ts k t all at.t_here in
      both_ways (storable ty) isnt (ap storable (same_ty ty at.of.ty id type at.of.is) ∙ sym (at_storable ids ts k id t at) ∙ is_so)

  -- ---- builtins

  at_builtin : (builtin : Builtin) (ids : List (List ℕ)) (ts : List TypeId) (k : ℕ) (id : List ℕ) (t : TypeId) (at : At ids ts k id t) → is_builtin_at rows builtin t ≡ is_builtin builtin (kind_of at.of.ty)
  at_builtin builtin ids ts k id t at = ap (λ o. option_map_or (λ row. is_builtin builtin row.kind) o false) at.row_here ∙ ap (is_builtin builtin) at.of.kind

  twice : (builtin : Builtin) (ids : List (List ℕ)) (ts : List TypeId) → AreFound positions ids ts → has_twice rows builtin ts ≡ true → HasOneBuiltinTwice p.types ids
  twice builtin ids ts are is_so =
      let two = two_counted (λ t. is_builtin_at rows builtin t) ts (ltb-true 1 (count_by (λ t. is_builtin_at rows builtin t) ts) is_so) in
      let (a, first) = at_type ids ts two.first two.one.item are two.one.here in
      let (b, second) = at_type ids ts two.second two.other.item are two.other.here in
      let one = builtin_is builtin first.of.ty (sym (at_builtin builtin ids ts two.first a two.one.item first) ∙ two.one.answers) in
      let other = builtin_is builtin second.of.ty (sym (at_builtin builtin ids ts two.second b two.other.item second) ∙ two.other.answers) in (
        type_of builtin,
        two.first,
        two.second,
        a,
        b,
        type_of-builtin builtin,
        two.ordered,
        first.id_here,
        subst (λ ty. IsType p.types ty a) one first.of.is,
        second.id_here,
        subst (λ ty. IsType p.types ty b) other second.of.is,
      )

  builtin_at : (builtin : Builtin) (ids : List (List ℕ)) (ts : List TypeId) (k : ℕ) (id : List ℕ) (t : TypeId) → At ids ts k id t → IsType p.types (type_of builtin) id
      → TestAt (λ u. is_builtin_at rows builtin u) ts k true
  builtin_at builtin ids ts k id t at type =
      record {
        item = t;
        here = at.t_here;
        answers = at_builtin builtin ids ts k id t at ∙ ap (λ ty. is_builtin builtin (kind_of ty)) (same_ty at.of.ty (type_of builtin) id at.of.is type) ∙ is_its_own builtin;
      }

  counted : (builtin : Builtin) (ids : List (List ℕ)) (ts : List TypeId) (j k : ℕ) (a b : List ℕ) → AreFound positions ids ts → j < k
      → slice_get ids j ≡ Some a → IsType p.types (type_of builtin) a → slice_get ids k ≡ Some b → IsType p.types (type_of builtin) b → has_twice rows builtin ts ≡ true
  counted builtin ids ts j k a b are less a_here a_is b_here b_is =
      let (t, first) = at_id ids ts j a are a_here in
      let (u, second) = at_id ids ts k b are b_here in
      lt-ltb 1 (count_by (λ v. is_builtin_at rows builtin v) ts)
      (counted_two (λ v. is_builtin_at rows builtin v) ts j k less (builtin_at builtin ids ts j a t first a_is) (builtin_at builtin ids ts k b u second b_is))

  none_twice : (ids : List (List ℕ)) (ts : List TypeId) → AreFound positions ids ts → has_twice rows builtins.RangeCheck ts ≡ false → has_twice rows builtins.Gas ts ≡ false
      → HasOneBuiltinTwice p.types ids → ⊥
  none_twice ids ts are no_check no_gas (ty, j, k, a, b, which, less, a_here, a_is, b_here, b_is) = by which
    where
      by : (ty ≡ range_check) ⊎ (ty ≡ gas_builtin) → ⊥
      by (inl same) =
          both_ways (has_twice rows builtins.RangeCheck ts) no_check
          (counted builtins.RangeCheck ids ts j k a b are less a_here (subst (λ t. IsType p.types t a) same a_is) b_here (subst (λ t. IsType p.types t b) same b_is))
      by (inr same) =
          both_ways (has_twice rows builtins.Gas ts) no_gas
          (counted builtins.Gas ids ts j k a b are less a_here (subst (λ t. IsType p.types t a) same a_is) b_here (subst (λ t. IsType p.types t b) same b_is))

  -- ---- what a signature may have

  unusable : (ids : List (List ℕ)) (ts : List TypeId) → AreFound positions ids ts → are_usable rows ts ≡ false → HasOneBuiltinTwice p.types ids ⊎ HasUnstorable p.types ids
  unusable ids ts are isnt = by (and_cases (list_all (λ t. is_storable_at rows t) ts) (not (has_twice rows builtins.RangeCheck ts) && not (has_twice rows builtins.Gas ts)) isnt)
    where
      two : (not (has_twice rows builtins.RangeCheck ts) ≡ false) ⊎ (not (has_twice rows builtins.Gas ts) ≡ false) → HasOneBuiltinTwice p.types ids ⊎ HasUnstorable p.types ids
      two (inl check) = inl (twice builtins.RangeCheck ids ts are (not-false (has_twice rows builtins.RangeCheck ts) check))
      two (inr gas) = inl (twice builtins.Gas ids ts are (not-false (has_twice rows builtins.Gas ts) gas))

      by : (list_all (λ t. is_storable_at rows t) ts ≡ false) ⊎ ((not (has_twice rows builtins.RangeCheck ts) && not (has_twice rows builtins.Gas ts)) ≡ false)
          → HasOneBuiltinTwice p.types ids ⊎ HasUnstorable p.types ids
      by (inl stored) = inr (unstorable ids ts are stored)
      by (inr builtin) = two (and_cases (not (has_twice rows builtins.RangeCheck ts)) (not (has_twice rows builtins.Gas ts)) builtin)

  usable : (ids : List (List ℕ)) (ts : List TypeId) → AreFound positions ids ts → are_usable rows ts ≡ true → HasOneBuiltinTwice p.types ids ⊎ HasUnstorable p.types ids → ⊥
  usable ids ts are is_so = by
    where
      parts : (list_all (λ t. is_storable_at rows t) ts ≡ true) × ((not (has_twice rows builtins.RangeCheck ts) && not (has_twice rows builtins.Gas ts)) ≡ true)
      parts = and_parts (list_all (λ t. is_storable_at rows t) ts) (not (has_twice rows builtins.RangeCheck ts) && not (has_twice rows builtins.Gas ts)) is_so

      once : (not (has_twice rows builtins.RangeCheck ts) ≡ true) × (not (has_twice rows builtins.Gas ts) ≡ true)
      once = and_parts (not (has_twice rows builtins.RangeCheck ts)) (not (has_twice rows builtins.Gas ts)) parts.1

      by : HasOneBuiltinTwice p.types ids ⊎ HasUnstorable p.types ids → ⊥
      by (inl two) = none_twice ids ts are (not-true (has_twice rows builtins.RangeCheck ts) once.0) (not-true (has_twice rows builtins.Gas ts) once.1) two
      by (inr stored) = all_storable ids ts are parts.0 stored

  -- ---- one function

  both_found : (f : Function) (s : Signature) → IsResolved positions f s → AreFound positions (parameter_types f ++ f.results) (s.params ++ s.results)
  both_found f s resolved =
      map-append (λ id. found positions id) (parameter_types f) f.results
      ∙ ap (λ l. l ++ map (λ id. found positions id) f.results) resolved.params
      ∙ ap (λ l. map (λ t. Some t.0) s.params ++ l) resolved.results
      ∙ sym (map-append (λ t. Some t.0) s.params s.results)

  ill_formed : (i : ℕ) (f : Function) (s : Signature) → IsResolved positions f s → IsIllFormed rows f s → BreaksFunction p i f well_formed (faults.FunctionType f.id)
  ill_formed i f s resolved (inl variables) = (inr (inr (inr (inr variables))), refl)
  ill_formed i f s resolved (inr (inl params)) = by (unusable (parameter_types f) s.params resolved.params params)
    where
      by : HasOneBuiltinTwice p.types (parameter_types f) ⊎ HasUnstorable p.types (parameter_types f) → BreaksFunction p i f well_formed (faults.FunctionType f.id)
      by (inl two) = (inl two, refl)
      by (inr stored) = (inr (inr (inl stored)), refl)
  ill_formed i f s resolved (inr (inr results)) = by (unusable f.results s.results resolved.results results)
    where
      by : HasOneBuiltinTwice p.types f.results ⊎ HasUnstorable p.types f.results → BreaksFunction p i f well_formed (faults.FunctionType f.id)
      by (inl two) = (inr (inl two), refl)
      by (inr stored) = (inr (inr (inr (inl stored))), refl)

  well_formed_passes : (i : ℕ) (f : Function) (s : Signature) (fault : TypeFault) → IsResolved positions f s → IsWellFormed rows f s → BreaksFunction p i f well_formed fault → ⊥
  well_formed_passes i f s fault resolved well (why, is) = by why
    where
      by : HasOneBuiltinTwice p.types (parameter_types f) ⊎ HasOneBuiltinTwice p.types f.results ⊎ HasUnstorable p.types (parameter_types f) ⊎ HasUnstorable p.types f.results
          ⊎ HasOneVariableTwice f.params → ⊥
      by (inl two) = usable (parameter_types f) s.params resolved.params well.params (inl two)
      by (inr (inl two)) = usable f.results s.results resolved.results well.results (inl two)
      by (inr (inr (inl stored))) = usable (parameter_types f) s.params resolved.params well.params (inr stored)
      by (inr (inr (inr (inl stored)))) = usable f.results s.results resolved.results well.results (inr stored)
      by (inr (inr (inr (inr variables)))) = well.variables variables

  -- the first rule that function f, at position i, breaks has this fault
  pub record FirstInFunction (i : ℕ) (f : Function) (fault : TypeFault) : Type 0 where
    pub rule : FunctionRule
    pub breaks : BreaksFunction p i f rule fault
    pub none_before : (other : FunctionRule) (earlier : TypeFault) → function_answer other < function_answer rule → BreaksFunction p i f other earlier → ⊥

  module _ (i : ℕ) (ids : List (List ℕ × ℕ)) (names : names_in ids ≡ take i (map (λ g. g.id) p.functions)) where
    found_repeated : (f : Function) → is_some (found ids f.id) ≡ true → IsRepeatedId (map (λ g. g.id) p.functions) i f.id
    found_repeated f is_so = by (found ids f.id) refl
      where
        by : (o : Option ℕ) → found ids f.id ≡ o → IsRepeatedId (map (λ g. g.id) p.functions) i f.id
        by None e = absurd (true≢false (sym is_so ∙ ap is_some e))
        by (Some n) e =
            let (j, here) = found_at ids f.id n e in
            let name : slice_get (names_in ids) j ≡ Some f.id = slice_get-map (λ x. x.0) ids j ∙ ap (option_map (λ x. x.0)) here in
            let (less, at) = taken_get (map (λ g. g.id) p.functions) i j f.id (sym (ap (λ l. slice_get l j) names) ∙ name) in
            (j, less, at)

    repeated_found : (f : Function) → found ids f.id ≡ None → IsRepeatedId (map (λ g. g.id) p.functions) i f.id → ⊥
    repeated_found f none (j, less, here) =
        let (n, is) = found_some ids f.id j (ap (λ l. slice_get l j) names ∙ get_taken (map (λ g. g.id) p.functions) i j f.id less here) in
        none-some n (sym none ∙ is)

    pub passes : (f : Function) (s : Signature) → PassesBehind positions rows ids f s → (rule : FunctionRule) (fault : TypeFault) → BreaksFunction p i f rule fault → ⊥
    passes f s pass types_known fault (name, first, is) = all_known (parameter_types f ++ f.results) (s.params ++ s.results) name (both_found f s pass.resolved) first
    passes f s pass named_once fault (repeated, is) = repeated_found f pass.fresh repeated
    passes f s pass well_formed fault broken = well_formed_passes i f s fault pass.resolved pass.well_formed broken

    pub fails : (f : Function) (fault : TypeFault) → FailsBehind positions rows ids f fault → FirstInFunction i f fault
    fails f fault (inl (id, more, is, fault_is)) =
        record { rule = types_known; breaks = (id, first_unknown (parameter_types f ++ f.results) id more is, fault_is); none_before = before }
      where
        before : (other : FunctionRule) (earlier : TypeFault) → function_answer other < 10 → BreaksFunction p i f other earlier → ⊥
        before types_known earlier less _ = omega (arith, less)
        before named_once earlier less _ = omega (arith, less)
        before well_formed earlier less _ = omega (arith, less)
    fails f fault (inr (inl (s, resolved, is_so, fault_is))) =
        record { rule = named_once; breaks = (found_repeated f is_so, fault_is); none_before = before }
      where
        before : (other : FunctionRule) (earlier : TypeFault) → function_answer other < 17 → BreaksFunction p i f other earlier → ⊥
        before types_known earlier less (name, first, is) = all_known (parameter_types f ++ f.results) (s.params ++ s.results) name (both_found f s resolved) first
        before named_once earlier less _ = omega (arith, less)
        before well_formed earlier less _ = omega (arith, less)
    fails f fault (inr (inr (s, resolved, none, ill, fault_is))) =
        record { rule = well_formed; breaks = subst (BreaksFunction p i f well_formed) (sym fault_is) (ill_formed i f s resolved ill); none_before = before }
      where
        before : (other : FunctionRule) (earlier : TypeFault) → function_answer other < 18 → BreaksFunction p i f other earlier → ⊥
        before types_known earlier less (name, first, is) = all_known (parameter_types f ++ f.results) (s.params ++ s.results) name (both_found f s resolved) first
        before named_once earlier less (repeated, is) = repeated_found f none repeated
        before well_formed earlier less _ = omega (arith, less)

  -- positions that are found are places
  pub places : (ids : List (List ℕ)) (ts : List TypeId) → AreFound positions ids ts → ArePlaces p ids ts
  places [] [] are = refl
  places [] (t ∷ ts) are = absurd (cons-nil (Some t.0) (map (λ u. Some u.0) ts) (sym are))
  places (id ∷ ids) [] are = absurd (cons-nil (found positions id) (map (λ x. found positions x) ids) are)
  places (id ∷ ids) (t ∷ ts) are =
      let head = found_place id t.0 (heads (found positions id) (Some t.0) (map (λ x. found positions x) ids) (map (λ u. Some u.0) ts) are) in
      ap (λ o. o ∷ map (λ x. Some x) ids) (sym head) ∙ ap (λ l. slice_get (ids_of p.types) t.0 ∷ l) (places ids ts (ap behind are))

  pub signature : (f : Function) (s : Signature) → IsResolved positions f s → IsSignature p f s
  signature f s resolved = record { params = places (parameter_types f) s.params resolved.params; results = places f.results s.results resolved.results }
