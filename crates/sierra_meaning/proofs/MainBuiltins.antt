-- Main has one gas builtin at most.
use Rattle.std.proofs.Common.{◌≡◌, inl, inr, ℕ, zero, suc, ◌<◌, ◌≤◌, List, [], ◌∷◌, Option, Some, refl, sym, ap, subst, ◌∙◌, arith}
use Rattle.std.specs.List.{slice_get}
use Rattle.std.specs.Option.{option_map_or}
use Rattle.std.proofs.lemmas.Option.{none-some, same_Some, slice_get_within}
use Rattle.sierra_types.specs.declared.program.Program.{Program}
use Rattle.sierra_types.specs.declared.program.Function.{Function}
use Rattle.type_trees.specs.Ty.{Ty, gas_builtin}
use Rattle.type_table.specs.declared.type_id.TypeId.{TypeId}
use Rattle.type_table.specs.declared.fault.TypeFault.TheVariants as faults
use Rattle.type_table.specs.IsType.{IsType}
use Rattle.type_table.specs.Refusals.{parameter_types, well_formed, HasOneBuiltinTwice}
use Rattle.type_table.specs.Table.{HasTypes, ArePositions}
use Rattle.type_table.specs.View.{TypesView, FunctionView, tree_of, trees_of}
use Rattle.libfunc_registry.specs.Fam.{params_of}
use Rattle.statement_walk.proofs.Arrivals.{inside}
use Rattle.gas_solver.specs.Balance.{builtins}
use Rattle.sierra_meaning.proofs.Known.{function_count}

tree_there : (t : TypesView) (ts : List TypeId) (j : ℕ) (ty : Ty) → slice_get (trees_of t ts) j ≡ Some ty → (u : TypeId) × (slice_get ts j ≡ Some u) × (tree_of t u.0 ≡ ty)
tree_there t [] j ty is = absurd (none-some ty is)
tree_there t (u ∷ ts) zero ty is = (u, refl, same_Some (tree_of t u.0) ty is)
tree_there t (u ∷ ts) (suc j) ty is = tree_there t ts j ty is

position_there : (t : TypesView) (ids : List (List ℕ)) (ts : List TypeId) (j : ℕ) (u : TypeId) → ArePositions t ids ts → slice_get ts j ≡ Some u → (id : List ℕ) × (slice_get ids j ≡ Some id) × (slice_get t.ids u.0 ≡ Some id)
position_there t [] [] j u are is = absurd (none-some u is)
position_there t [] (w ∷ ts) j u are is = absurd (cc)
position_there t (id ∷ ids) [] j u are is = absurd (cc)
position_there t (id ∷ ids) (w ∷ ts) zero u are is =
    let same : w ≡ u = same_Some w u is in
    let head : Some id ≡ slice_get t.ids w.0 = cc in
    (id, refl, ap (λ (x : TypeId). slice_get t.ids x.0) (sym same) ∙ sym head)
position_there t (id ∷ ids) (w ∷ ts) (suc j) u are is =
    let rest : ArePositions t ids ts = cc in
    position_there t ids ts j u rest is

-- the id of a parameter whose type is the gas builtin
gas_named : (p : Program) (t : TypesView) → HasTypes p t → (ids : List (List ℕ)) (ts : List TypeId) (j : ℕ) → ArePositions t ids ts → slice_get (trees_of t ts) j ≡ Some gas_builtin
    → (id : List ℕ) × (slice_get ids j ≡ Some id) × IsType p.types gas_builtin id
gas_named p t has ids ts j are is =
    let tree = tree_there t ts j gas_builtin is in
    let named = position_there t ids ts j tree.0 are tree.1 in
    (named.0, named.1, subst (λ ty. IsType p.types ty named.0) tree.2 (has.types tree.0.0 named.0 named.2))

-- no two of a function's parameters are gas builtins
pub one_gas : (p : Program) (t : TypesView) → HasTypes p t → (f : ℕ) (g : Function) → slice_get p.functions f ≡ Some g → (j k : ℕ) → j < k → slice_get (params_of t f) j ≡ Some gas_builtin → slice_get (params_of t f) k ≡ Some gas_builtin → ⊥
one_gas p t has f g here j k lt first second =
    let within = slice_get_within p.functions f g here in
    let types = inside t.functions f (omega (arith, function_count p t has)) in
    let are = (has.functions f g types.0 here types.1).params in
    let trees : params_of t f ≡ trees_of t types.0.params = ap (λ (o : Option FunctionView). option_map_or (λ (h : FunctionView). trees_of t h.params) o []) types.1 in
    let one = gas_named p t has (parameter_types g) types.0.params j are (ap (λ tys. slice_get tys j) (sym trees) ∙ first) in
    let other = gas_named p t has (parameter_types g) types.0.params k are (ap (λ tys. slice_get tys k) (sym trees) ∙ second) in
    let twice : HasOneBuiltinTwice p.types (parameter_types g) = (gas_builtin, j, k, one.0, other.0, inr refl, lt, one.1, one.2, other.1, other.2) in
    has.functions_pass f g well_formed (faults.FunctionType g.id) here (inl twice, refl)

none_behind : (c : ℕ) (tys : List Ty) → ((k : ℕ) → slice_get tys k ≡ Some gas_builtin → ⊥) → builtins 0 c tys ≡ 0
none_behind c [] never = refl
none_behind c (gas_builtin ∷ tys) never = absurd (never 0 refl)
none_behind c (ty ∷ tys) never = let rest = none_behind c tys (λ k is. never (suc k) is) in omega arith

-- so they weigh no more than one
pub weigh_one : (c : ℕ) (tys : List Ty) → ((j k : ℕ) → j < k → slice_get tys j ≡ Some gas_builtin → slice_get tys k ≡ Some gas_builtin → ⊥) → builtins 0 c tys ≤ c
weigh_one c [] once = omega arith
weigh_one c (gas_builtin ∷ tys) once = let rest = none_behind c tys (λ k is. once 0 (suc k) (omega arith) refl is) in omega arith
weigh_one c (ty ∷ tys) once = let rest = weigh_one c tys (λ j k lt one other. once (suc j) (suc k) (omega arith) one other) in omega arith
