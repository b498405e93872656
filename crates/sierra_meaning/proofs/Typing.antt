-- Values of the types that are held: they are there to be taken, and results of the right types can be added.
use Rattle.std.proofs.Common.{◌≡◌, ℕ, List, [], ◌∷◌, Option, Some, None, Result, Ok, refl, ap, subst, ◌∙◌}
use Rattle.std.specs.List.{zip}
use Rattle.std.specs.Result.{result_map_both}
use Rattle.std.specs.Option.{option_map_or, unwrap_or}
use Rattle.std.proofs.Common.{option_map}
use Rattle.type_table.specs.declared.type_id.TypeId.{TypeId}
use Rattle.type_table.specs.View.{TypesView, FunctionView, trees_of}
use Rattle.libfunc_registry.specs.Fam.{results_of}
use Rattle.held_list.specs.Held.{Held, Each}
use Rattle.held_list.specs.Editing.{take, add, or_stop, take_all, add_all}
use Rattle.held_list.proofs.Lifting.{take_lifts, add_lifts}
use Rattle.linear_check.specs.Statements.{result_types}
use Rattle.linear_check.specs.Typed.{Takes, Adds}
use Rattle.value_trees.specs.Val.{Plain}
use Rattle.libfunc_meaning.specs.Placed.{ArePlain}
use Rattle.sierra_meaning.specs.Measured.{IsPlainAt}

pub take_then : {V : Type 0} (v : ℕ) (names : List ℕ) (env left rest : Held V) (x : V) (xs : List V) → take v env ≡ Some (x, left) → take_all names left ≡ Ok (xs, rest) → take_all (v ∷ names) env ≡ Ok (x ∷ xs, rest)
take_then {V} v names env left rest x xs one others =
    let onto : V → List V × Held V → List V × Held V = λ first got. (first ∷ got.0, got.1) in
    let next : V × Held V → Result (List V × Held V) ℕ = λ got. result_map_both (onto got.0) (λ missing. missing) (take_all names got.1) in
    ap (λ o. or_stop o v next) one ∙ ap (result_map_both (onto x) (λ missing. missing)) others

pub add_then : {V : Type 0} (n : ℕ) (pairs : List (ℕ × V)) (env more held : Held V) (x : V) → add n x env ≡ Some more → add_all pairs more ≡ Ok held → add_all ((n, x) ∷ pairs) env ≡ Ok held
add_then n pairs env more held x one others = ap (λ o. or_stop o n (add_all pairs)) one ∙ others

pub none_left : {A B : Type 0} (R : A → B → Type 0) (env : Held B) → Each R [] env → env ≡ []
none_left R [] alike = refl
none_left R (e ∷ es) alike = absurd alike

module _ (types : TypesView) where
  -- the values of the arguments, and what stays
  pub record Taken (args : List ℕ) (ts : List TypeId) (rest : Held TypeId) (env : Held Plain) : Type 0 where
    pub vs : List Plain
    pub left : Held Plain
    pub takes : take_all args env ≡ Ok (vs, left)
    pub typed : ArePlain (trees_of types ts) vs
    pub alike : Each (IsPlainAt types) rest left

  pub taken_values : (args : List ℕ) (ts : List TypeId) (held rest : Held TypeId) (env : Held Plain) → Takes args ts held rest → Each (IsPlainAt types) held env → Taken args ts rest env
  taken_values [] [] held rest env takes alike = record { vs = []; left = env; takes = refl; typed = refl; alike = subst (λ h. Each (IsPlainAt types) h env) takes alike }
  taken_values [] (t ∷ ts) held rest env takes alike = absurd takes
  taken_values (v ∷ args) [] held rest env takes alike = absurd takes
  taken_values (v ∷ args) (t ∷ ts) held rest env (left, one, others) alike =
      let first = take_lifts (IsPlainAt types) held env v t left alike one in
      let later = taken_values args ts left rest first.1 others first.4 in
      record {
        vs = first.0 ∷ later.vs;
        left = later.left;
        takes = take_then v args env first.1 later.left first.0 later.vs first.2 later.takes;
        typed = (first.0, later.vs, refl, first.3, later.typed);
        alike = later.alike;
      }

  -- what is held with the results
  pub record Added (names : List ℕ) (vs : List Plain) (held : Held TypeId) (env : Held Plain) : Type 0 where
    pub more : Held Plain
    pub adds : add_all (zip names vs) env ≡ Ok more
    pub alike : Each (IsPlainAt types) held more

  pub added_values : (names : List ℕ) (ts : List TypeId) (rest held : Held TypeId) (env : Held Plain) (vs : List Plain) → Adds names ts rest held → Each (IsPlainAt types) rest env → ArePlain (trees_of types ts) vs
      → Added names vs held env
  added_values [] [] rest held env vs adds alike typed = record { more = env; adds = refl; alike = subst (λ h. Each (IsPlainAt types) h env) adds alike }
  added_values [] (t ∷ ts) rest held env vs adds alike typed = absurd adds
  added_values (n ∷ names) [] rest held env vs adds alike typed = absurd adds
  added_values (n ∷ names) (t ∷ ts) rest held env vs (grown, one, others) alike (v, left, is, fits, typed) =
      let first = add_lifts (IsPlainAt types) rest env n t v grown alike fits one in
      let later = added_values names ts grown held first.0 left others first.2 typed in
      record {
        more = later.more;
        adds = ap (λ us. add_all (zip (n ∷ names) us) env) is ∙ add_then n (zip names left) env first.0 later.more v first.1 later.adds;
        alike = later.alike;
      }

  -- the trees of a function's results and parameters
  results_by : (o : Option FunctionView) → trees_of types (unwrap_or (option_map (λ (g : FunctionView). g.results) o) []) ≡ option_map_or (λ (g : FunctionView). trees_of types g.results) o []
  results_by None = refl
  results_by (Some g) = refl

  pub results_trees : (f : ℕ) → trees_of types (result_types types f) ≡ results_of types f
  results_trees f = results_by _
