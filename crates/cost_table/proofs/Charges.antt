-- What branches are charged.
use Rattle.std.proofs.Common.{◌≡◌, ◌⊎◌, inl, inr, ℕ, zero, suc, ◌+◌, ◌*◌, ◌-◌, ◌<◌, ◌≤◌, ◌==◌, ◌^◌, min, true, false, nat_le, [], ◌∷◌, length, refl, sym, subst, cond, arith}
use Rattle.std.proofs.lemmas.Bool.Decides.{nat_tests}
use Rattle.std.proofs.lemmas.List.{length-map}
use Rattle.type_trees.specs.Ty.{size, snap}
use Rattle.type_trees.specs.declared.num.Num.{Num}
use Rattle.type_trees.specs.declared.num.Num.TheVariants as nums
use Rattle.type_table.specs.Trees.{parts}
use Rattle.libfunc_registry.specs.Control as controls
use Rattle.libfunc_registry.specs.Gas as gases
use Rattle.libfunc_registry.specs.Felts as felt
use Rattle.libfunc_registry.specs.Integers as integer
use Rattle.libfunc_registry.specs.Data as datas
use Rattle.libfunc_registry.specs.Arrays as array
use Rattle.libfunc_registry.specs.Dictionaries as dictionary
use Rattle.libfunc_registry.specs.Fam.{Fam, control, gas, felts, integers, data_, arrays, dictionaries, gives}
use Rattle.cost_table.specs.declared.row.Row.{Row}
use Rattle.cost_table.specs.Rows.{row, by_branch, match_row}
use Rattle.cost_table.specs.Costs.{charge, row_of, share_steps, share_checks, holes}
use Rattle.cost_table.specs.Terms.{known_change}

tens : (a b h : ℕ) → (100 * a + 70 * b + 10 * h ≡ 0) ⊎ (10 ≤ 100 * a + 70 * b + 10 * h)
tens zero zero zero = inl refl
tens zero zero (suc h) = inr (omega arith)
tens zero (suc b) h = inr (omega arith)
tens (suc a) b h = inr (omega arith)

pub free_or_ten : (fam : Fam) (branch : ℕ) → (charge fam branch ≡ 0) ⊎ (10 ≤ charge fam branch)
free_or_ten fam branch = tens ((row_of fam branch).steps + share_steps fam) ((row_of fam branch).checks + share_checks fam) (holes fam)

-- a row that takes a step
abbrev Steps : Row → Type 0
Steps r = 1 ≤ r.steps

-- a row whose steps pay for the cells that it moves ap by
abbrev Pays : Row → Type 0
Pays r = known_change r.ap ≤ 10 * r.steps

either : (P : Row → Type 0) (branch : ℕ) (a b : Row) → P a → P b → P (by_branch branch a b)
either P branch a b first second = elim (branch == 0) as (λ t. P (cond t a b)) [ true ↦ first | false ↦ second ]

match_steps : (n branch : ℕ) → 1 < n → Steps (match_row n branch)
match_steps n branch several = elim (nat_le n 1) as (λ t. nat_le n 1 ≡ t → Steps (cond t (row 0 0 0) (row (2 + 2 * min branch (n - 2)) 0 (min branch (n - 2))))) [
  | true ↦ λ is. absurd (grind (arith, nat_tests))
  | false ↦ λ is. omega arith
] refl

match_pays : (n branch : ℕ) → Pays (match_row n branch)
match_pays n branch = elim (nat_le n 1) as (λ t. Pays (cond t (row 0 0 0) (row (2 + 2 * min branch (n - 2)) 0 (min branch (n - 2))))) [
  | true ↦ omega arith
  | false ↦ omega arith
]

step_paid : (a s b c h : ℕ) → 1 ≤ a → 100 ≤ 100 * (a + s) + 70 * (b + c) + 10 * h
step_paid a s b c h one = omega arith

cells_paid : (n a s b c h : ℕ) → n ≤ 10 * a → 10 * n ≤ 100 * (a + s) + 70 * (b + c) + 10 * h
cells_paid n a s b c h few = omega arith

leaving_steps : (fam : Fam) (branch : ℕ) → 1 < length (gives fam) → Steps (row_of fam branch)
leaving_steps (control controls.branch_align) branch several = absurd (omega arith)
leaving_steps (control controls.jump) branch several = absurd (omega arith)
leaving_steps (control (controls.rename ty)) branch several = absurd (omega arith)
leaving_steps (control (controls.dup ty)) branch several = absurd (omega arith)
leaving_steps (control (controls.drop ty)) branch several = absurd (omega arith)
leaving_steps (control (controls.store_temp ty)) branch several = absurd (omega arith)
leaving_steps (control (controls.store_local ty)) branch several = absurd (omega arith)
leaving_steps (control (controls.alloc_local ty)) branch several = absurd (omega arith)
leaving_steps (control controls.finalize_locals) branch several = absurd (omega arith)
leaving_steps (control controls.disable_ap_tracking) branch several = absurd (omega arith)
leaving_steps (control controls.enable_ap_tracking) branch several = absurd (omega arith)
leaving_steps (gas (gases.function_call f params results)) branch several = absurd (omega arith)
leaving_steps (gas gases.withdraw_gas) branch several = either Steps branch (row 5 1 4) (row 7 1 4) (omega arith) (omega arith)
leaving_steps (felts (felt.const num n)) branch several = absurd (omega arith)
leaving_steps (felts felt.felt64_add) branch several = absurd (omega arith)
leaving_steps (felts felt.felt64_sub) branch several = absurd (omega arith)
leaving_steps (felts felt.felt64_mul) branch several = absurd (omega arith)
leaving_steps (felts (felt.is_zero num)) branch several = omega arith
leaving_steps (felts (felt.unwrap_non_zero num)) branch several = absurd (omega arith)
leaving_steps (integers (integer.to_felt64 w)) branch several = absurd (omega arith)
leaving_steps (integers (integer.try_from_felt64 w)) branch several = either Steps branch (row 6 2 6) (row 12 3 6) (omega arith) (omega arith)
leaving_steps (integers (integer.overflowing_add w)) branch several = omega arith
leaving_steps (integers (integer.overflowing_sub w)) branch several = either Steps branch (row 5 1 5) (row 8 1 5) (omega arith) (omega arith)
leaving_steps (integers (integer.wide_mul w)) branch several = absurd (omega arith)
leaving_steps (integers integer.split_mul) branch several = absurd (omega arith)
leaving_steps (integers (integer.safe_divmod w)) branch several = absurd (omega arith)
leaving_steps (integers (integer.eq w)) branch several = omega arith
leaving_steps (integers (integer.upcast a b)) branch several = absurd (omega arith)
leaving_steps (integers (integer.downcast a b)) branch several = omega arith
leaving_steps (data_ (datas.enum_init ty index)) branch several = absurd (omega arith)
leaving_steps (data_ (datas.enum_match ty)) branch several =
    match_steps (length (parts ty)) branch (subst (λ n. 1 < n) (length-map (parts ty) (λ v. v ∷ [])) several)
leaving_steps (data_ (datas.enum_snapshot_match ty)) branch several =
    match_steps (length (parts ty)) branch (subst (λ n. 1 < n) (length-map (parts ty) (λ v. snap v ∷ [])) several)
leaving_steps (data_ (datas.struct_construct ty)) branch several = absurd (omega arith)
leaving_steps (data_ (datas.struct_deconstruct ty)) branch several = absurd (omega arith)
leaving_steps (data_ (datas.struct_snapshot_deconstruct ty)) branch several = absurd (omega arith)
leaving_steps (data_ (datas.snapshot_take ty)) branch several = absurd (omega arith)
leaving_steps (data_ (datas.into_box ty)) branch several = absurd (omega arith)
leaving_steps (data_ (datas.unbox ty)) branch several = absurd (omega arith)
leaving_steps (arrays (array.array_new ty)) branch several = absurd (omega arith)
leaving_steps (arrays (array.array_append ty)) branch several = absurd (omega arith)
leaving_steps (arrays (array.array_len ty)) branch several = absurd (omega arith)
leaving_steps (arrays (array.array_get ty)) branch several = either Steps branch (row 10 1 7) (row 7 1 7) (omega arith) (omega arith)
leaving_steps (arrays (array.array_pop_front ty)) branch several = omega arith
leaving_steps (dictionaries (dictionary.dict_new num)) branch several = absurd (omega arith)
leaving_steps (dictionaries (dictionary.dict_entry_get num)) branch several = absurd (omega arith)
leaving_steps (dictionaries (dictionary.dict_entry_finalize num)) branch several = absurd (omega arith)
leaving_steps (dictionaries (dictionary.dict_squash num)) branch several = absurd (omega arith)
leaving_steps (dictionaries (dictionary.dict_entries num)) branch several = absurd (omega arith)

pub leaving_charged : (fam : Fam) (branch : ℕ) → 1 < length (gives fam) → 100 ≤ charge fam branch
leaving_charged fam branch several =
    step_paid (row_of fam branch).steps (share_steps fam) (row_of fam branch).checks (share_checks fam) (holes fam) (leaving_steps fam branch several)

entry_pays : (num : Num) (branch : ℕ) → Pays (row_of (dictionaries (dictionary.dict_entry_get num)) branch)
entry_pays nums.Felt64 branch = omega arith
entry_pays nums.U8 branch = omega arith
entry_pays nums.U16 branch = omega arith
entry_pays nums.U32 branch = omega arith

pays : (fam : Fam) (branch : ℕ) → Pays (row_of fam branch)
pays (control controls.branch_align) branch = omega arith
pays (control controls.jump) branch = omega arith
pays (control (controls.rename ty)) branch = omega arith
pays (control (controls.dup ty)) branch = omega arith
pays (control (controls.drop ty)) branch = omega arith
pays (control (controls.store_temp ty)) branch = omega arith
pays (control (controls.store_local ty)) branch = omega arith
pays (control (controls.alloc_local ty)) branch = omega arith
pays (control controls.finalize_locals) branch = omega arith
pays (control controls.disable_ap_tracking) branch = omega arith
pays (control controls.enable_ap_tracking) branch = omega arith
pays (gas (gases.function_call f params results)) branch = omega arith
pays (gas gases.withdraw_gas) branch = either Pays branch (row 5 1 4) (row 7 1 4) (omega arith) (omega arith)
pays (felts (felt.const num n)) branch = omega arith
pays (felts felt.felt64_add) branch = omega arith
pays (felts felt.felt64_sub) branch = omega arith
pays (felts felt.felt64_mul) branch = omega arith
pays (felts (felt.is_zero num)) branch = omega arith
pays (felts (felt.unwrap_non_zero num)) branch = omega arith
pays (integers (integer.to_felt64 w)) branch = omega arith
pays (integers (integer.try_from_felt64 w)) branch = either Pays branch (row 6 2 6) (row 12 3 6) (omega arith) (omega arith)
pays (integers (integer.overflowing_add w)) branch = omega arith
pays (integers (integer.overflowing_sub w)) branch = either Pays branch (row 5 1 5) (row 8 1 5) (omega arith) (omega arith)
pays (integers (integer.wide_mul w)) branch = omega arith
pays (integers integer.split_mul) branch = omega arith
pays (integers (integer.safe_divmod w)) branch = omega arith
pays (integers (integer.eq w)) branch = omega arith
pays (integers (integer.upcast a b)) branch = omega arith
pays (integers (integer.downcast a b)) branch = omega arith
pays (data_ (datas.enum_init ty index)) branch = omega arith
pays (data_ (datas.enum_match ty)) branch = match_pays (length (parts ty)) branch
pays (data_ (datas.enum_snapshot_match ty)) branch = match_pays (length (parts ty)) branch
pays (data_ (datas.struct_construct ty)) branch = omega arith
pays (data_ (datas.struct_deconstruct ty)) branch = omega arith
pays (data_ (datas.struct_snapshot_deconstruct ty)) branch = omega arith
pays (data_ (datas.snapshot_take ty)) branch = omega arith
pays (data_ (datas.into_box ty)) branch = omega arith
pays (data_ (datas.unbox ty)) branch = omega arith
pays (arrays (array.array_new ty)) branch = omega arith
pays (arrays (array.array_append ty)) branch = omega arith
pays (arrays (array.array_len ty)) branch = omega arith
pays (arrays (array.array_get ty)) branch = either Pays branch (row 10 1 7) (row 7 1 7) (omega arith) (omega arith)
pays (arrays (array.array_pop_front ty)) branch = omega arith
pays (dictionaries (dictionary.dict_new num)) branch = omega arith
pays (dictionaries (dictionary.dict_entry_get num)) branch = entry_pays num branch
pays (dictionaries (dictionary.dict_entry_finalize num)) branch = omega arith
pays (dictionaries (dictionary.dict_squash num)) branch = omega arith
pays (dictionaries (dictionary.dict_entries num)) branch = omega arith

pub moves_charged : (fam : Fam) (branch : ℕ) → 10 * known_change (row_of fam branch).ap ≤ charge fam branch
moves_charged fam branch =
    cells_paid (known_change (row_of fam branch).ap) (row_of fam branch).steps (share_steps fam) (row_of fam branch).checks (share_checks fam) (holes fam) (pays fam branch)

-- a row that moves ap by few cells, where there are so many branches
abbrev Few : ℕ → Row → Type 0
Few branches r = (known_change r.ap ≤ 2 ^ 14) ⊎ (known_change r.ap < branches)

match_few : (n branch : ℕ) → Few n (match_row n branch)
match_few n branch = elim (nat_le n 1) as (λ t. nat_le n 1 ≡ t → Few n (cond t (row 0 0 0) (row (2 + 2 * min branch (n - 2)) 0 (min branch (n - 2))))) [
  | true ↦ λ is. inl (omega arith)
  | false ↦ λ is. inr (more is)
] refl
  where
    more : nat_le n 1 ≡ false → min branch (n - 2) < n
    more is = grind (arith, nat_tests)

entry_few : (num : Num) (branch : ℕ) → known_change (row_of (dictionaries (dictionary.dict_entry_get num)) branch).ap ≤ 2 ^ 14
entry_few nums.Felt64 branch = omega arith
entry_few nums.U8 branch = omega arith
entry_few nums.U16 branch = omega arith
entry_few nums.U32 branch = omega arith

-- the type whose cells a family's branch may lay is small
abbrev pub IsSmallMove : Fam → Type 0
IsSmallMove (control (controls.store_temp ty)) = size ty ≤ 2 ^ 14
IsSmallMove _ = Unit {0}

pub moves_few : (fam : Fam) (branch : ℕ) → IsSmallMove fam → Few (length (gives fam)) (row_of fam branch)
moves_few (control controls.branch_align) branch small = inl (omega arith)
moves_few (control controls.jump) branch small = inl (omega arith)
moves_few (control (controls.rename ty)) branch small = inl (omega arith)
moves_few (control (controls.dup ty)) branch small = inl (omega arith)
moves_few (control (controls.drop ty)) branch small = inl (omega arith)
moves_few (control (controls.store_temp ty)) branch small = inl small
moves_few (control (controls.store_local ty)) branch small = inl (omega arith)
moves_few (control (controls.alloc_local ty)) branch small = inl (omega arith)
moves_few (control controls.finalize_locals) branch small = inl (omega arith)
moves_few (control controls.disable_ap_tracking) branch small = inl (omega arith)
moves_few (control controls.enable_ap_tracking) branch small = inl (omega arith)
moves_few (gas (gases.function_call f params results)) branch small = inl (omega arith)
moves_few (gas gases.withdraw_gas) branch small = either (Few (length (gives (gas gases.withdraw_gas)))) branch (row 5 1 4) (row 7 1 4) (inl (omega arith)) (inl (omega arith))
moves_few (felts (felt.const num n)) branch small = inl (omega arith)
moves_few (felts felt.felt64_add) branch small = inl (omega arith)
moves_few (felts felt.felt64_sub) branch small = inl (omega arith)
moves_few (felts felt.felt64_mul) branch small = inl (omega arith)
moves_few (felts (felt.is_zero num)) branch small = inl (omega arith)
moves_few (felts (felt.unwrap_non_zero num)) branch small = inl (omega arith)
moves_few (integers (integer.to_felt64 w)) branch small = inl (omega arith)
moves_few (integers (integer.try_from_felt64 w)) branch small = either (Few (length (gives (integers (integer.try_from_felt64 w))))) branch (row 6 2 6) (row 12 3 6) (inl (omega arith)) (inl (omega arith))
moves_few (integers (integer.overflowing_add w)) branch small = inl (omega arith)
moves_few (integers (integer.overflowing_sub w)) branch small = either (Few (length (gives (integers (integer.overflowing_sub w))))) branch (row 5 1 5) (row 8 1 5) (inl (omega arith)) (inl (omega arith))
moves_few (integers (integer.wide_mul w)) branch small = inl (omega arith)
moves_few (integers integer.split_mul) branch small = inl (omega arith)
moves_few (integers (integer.safe_divmod w)) branch small = inl (omega arith)
moves_few (integers (integer.eq w)) branch small = inl (omega arith)
moves_few (integers (integer.upcast a b)) branch small = inl (omega arith)
moves_few (integers (integer.downcast a b)) branch small = inl (omega arith)
moves_few (data_ (datas.enum_init ty index)) branch small = inl (omega arith)
moves_few (data_ (datas.enum_match ty)) branch small = subst (λ n. Few n (match_row (length (parts ty)) branch)) (sym (length-map (parts ty) (λ v. v ∷ []))) (match_few (length (parts ty)) branch)
moves_few (data_ (datas.enum_snapshot_match ty)) branch small = subst (λ n. Few n (match_row (length (parts ty)) branch)) (sym (length-map (parts ty) (λ v. snap v ∷ []))) (match_few (length (parts ty)) branch)
moves_few (data_ (datas.struct_construct ty)) branch small = inl (omega arith)
moves_few (data_ (datas.struct_deconstruct ty)) branch small = inl (omega arith)
moves_few (data_ (datas.struct_snapshot_deconstruct ty)) branch small = inl (omega arith)
moves_few (data_ (datas.snapshot_take ty)) branch small = inl (omega arith)
moves_few (data_ (datas.into_box ty)) branch small = inl (omega arith)
moves_few (data_ (datas.unbox ty)) branch small = inl (omega arith)
moves_few (arrays (array.array_new ty)) branch small = inl (omega arith)
moves_few (arrays (array.array_append ty)) branch small = inl (omega arith)
moves_few (arrays (array.array_len ty)) branch small = inl (omega arith)
moves_few (arrays (array.array_get ty)) branch small = either (Few (length (gives (arrays (array.array_get ty))))) branch (row 10 1 7) (row 7 1 7) (inl (omega arith)) (inl (omega arith))
moves_few (arrays (array.array_pop_front ty)) branch small = inl (omega arith)
moves_few (dictionaries (dictionary.dict_new num)) branch small = inl (omega arith)
moves_few (dictionaries (dictionary.dict_entry_get num)) branch small = inl (entry_few num branch)
moves_few (dictionaries (dictionary.dict_entry_finalize num)) branch small = inl (omega arith)
moves_few (dictionaries (dictionary.dict_squash num)) branch small = inl (omega arith)
moves_few (dictionaries (dictionary.dict_entries num)) branch small = inl (omega arith)
