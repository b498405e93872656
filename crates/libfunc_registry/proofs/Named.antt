-- What a name is read as, and what it names.
use Rattle.std.proofs.Common.{◌≡◌, ℕ, suc, ◌<◌, Bool, true, false, cond, List, [], ◌∷◌, Option, Some, None, slice_get, refl, sym, ap, subst, ◌∙◌, option_and_then}
use Rattle.std.specs.Option.{option_map}
use Rattle.type_trees.specs.Ty.{Ty, Tys, number, nonzero, range_check, gas_builtin, box, array, snapshot, struct, enum, dict, dict_entry, squashed_dict, uninitialized}
use Rattle.type_trees.specs.declared.num.Num.{Num}
use Rattle.type_trees.specs.declared.num.Num.TheVariants as nums
use Rattle.type_table.specs.declared.type_id.TypeId.{TypeId}
use Rattle.type_table.specs.Trees.{kind_of}
use Rattle.type_table.specs.View.{TypesView, tree_of, IsTable}
use Rattle.libfunc_registry.specs.declared.width.Width.{Width}
use Rattle.libfunc_registry.specs.declared.width.Width.TheVariants as widths
use Rattle.libfunc_registry.specs.Arguments.{NamesType, NamesTree, NamesFunction, num_of}
use Rattle.libfunc_registry.specs.Reading.{place_of, type_named, function_named, number_kind, is_enum, is_struct, checked, number_named, enum_named, struct_named, width_named, width_of}
use Rattle.libfunc_registry.proofs.Places.{place_of-at, place_of-none}

pub none_some : {A : Type 0} (x : A) → None ≡ Some x → ⊥
none_some x e = cc

pub some_in : {A : Type 0} (x y : A) → Some x ≡ Some y → x ≡ y
some_in x y e = cc

pub option_map_some : {A B : Type 0} (f : A → B) (o : Option A) (y : B) → option_map f o ≡ Some y → (x : A) × (o ≡ Some x) × (y ≡ f x)
option_map_some f None y e = absurd (none_some y e)
option_map_some f (Some x) y e = (x, refl, sym (some_in (f x) y e))

pub and_then_some : {A B : Type 0} (f : A → Option B) (o : Option A) (y : B) → option_and_then f o ≡ Some y → (x : A) × (o ≡ Some x) × (f x ≡ Some y)
and_then_some f None y e = absurd (none_some y e)
and_then_some f (Some x) y e = (x, refl, e)

pub checked_some : {A : Type 0} (b : Bool) (x y : A) → checked b x ≡ Some y → (b ≡ true) × (x ≡ y)
checked_some true x y e = (refl, some_in x y e)
checked_some false x y e = absurd (none_some y e)

pub type_named-names : (types : TypesView) (id : List ℕ) (t : TypeId) → type_named types id ≡ Some t → NamesType types id t
unfolding type_named
type_named-names types id t e =
    let place = option_map_some (λ (i : ℕ). place i) (place_of types.ids id) t e in
    let same : t ≡ record { 0 = place.0 } = place.2 in
    subst (λ (u : TypeId). NamesType types id u) (sym same) (place_of-at types.ids id place.0 place.1)
  where
    place : ℕ → TypeId
    place i = record { 0 = i }

pub names-type_named : (types : TypesView) → IsTable types → (id : List ℕ) (t : TypeId) → NamesType types id t → type_named types id ≡ Some t
unfolding type_named
names-type_named types kept id t names = elim (place_of types.ids id) as (λ o. place_of types.ids id ≡ o → option_map (λ i. record { 0 = i }) o ≡ Some t) [
  | None ↦ λ nowhere. absurd (place_of-none types.ids id t.0 nowhere names)
  | Some j ↦ λ at. ap Some (ap (λ i. record { 0 = i }) (kept.id_once j t.0 id (place_of-at types.ids id j at) names))
] refl

pub function_named-names : (types : TypesView) (id : List ℕ) (f : ℕ) → function_named types id ≡ Some f → NamesFunction types id f
unfolding function_named
function_named-names types id f e = place_of-at types.function_ids id f e

pub names-function_named : (types : TypesView) → IsTable types → (id : List ℕ) (f : ℕ) → NamesFunction types id f → function_named types id ≡ Some f
unfolding function_named
names-function_named types kept id f names = elim (place_of types.function_ids id) as (λ o. place_of types.function_ids id ≡ o → o ≡ Some f) [
  | None ↦ λ nowhere. absurd (place_of-none types.function_ids id f nowhere names)
  | Some j ↦ λ at. ap Some (kept.function_id_once j f id (place_of-at types.function_ids id j at) names)
] refl

pub number_of_kind : (ty : Ty) (num : Num) → number_kind (kind_of ty) ≡ Some num → ty ≡ number num
number_of_kind (number k) num e = ap number (some_in k num e)
number_of_kind (nonzero k) num e = absurd (none_some num e)
number_of_kind range_check num e = absurd (none_some num e)
number_of_kind gas_builtin num e = absurd (none_some num e)
number_of_kind (box ty) num e = absurd (none_some num e)
number_of_kind (array ty) num e = absurd (none_some num e)
number_of_kind (snapshot ty) num e = absurd (none_some num e)
number_of_kind (struct name tys) num e = absurd (none_some num e)
number_of_kind (enum name tys) num e = absurd (none_some num e)
number_of_kind (dict k) num e = absurd (none_some num e)
number_of_kind (dict_entry k) num e = absurd (none_some num e)
number_of_kind (squashed_dict k) num e = absurd (none_some num e)
number_of_kind (uninitialized ty) num e = absurd (none_some num e)

false_true : false ≡ true → ⊥
false_true e = cc

pub enum_of_kind : (ty : Ty) → is_enum (kind_of ty) ≡ true → (name : List ℕ) × (variants : Tys) × (ty ≡ enum name variants)
enum_of_kind (number k) e = absurd (false_true e)
enum_of_kind (nonzero k) e = absurd (false_true e)
enum_of_kind range_check e = absurd (false_true e)
enum_of_kind gas_builtin e = absurd (false_true e)
enum_of_kind (box ty) e = absurd (false_true e)
enum_of_kind (array ty) e = absurd (false_true e)
enum_of_kind (snapshot ty) e = absurd (false_true e)
enum_of_kind (struct name tys) e = absurd (false_true e)
enum_of_kind (enum name tys) e = (name, tys, refl)
enum_of_kind (dict k) e = absurd (false_true e)
enum_of_kind (dict_entry k) e = absurd (false_true e)
enum_of_kind (squashed_dict k) e = absurd (false_true e)
enum_of_kind (uninitialized ty) e = absurd (false_true e)

pub struct_of_kind : (ty : Ty) → is_struct (kind_of ty) ≡ true → (name : List ℕ) × (members : Tys) × (ty ≡ struct name members)
struct_of_kind (number k) e = absurd (false_true e)
struct_of_kind (nonzero k) e = absurd (false_true e)
struct_of_kind range_check e = absurd (false_true e)
struct_of_kind gas_builtin e = absurd (false_true e)
struct_of_kind (box ty) e = absurd (false_true e)
struct_of_kind (array ty) e = absurd (false_true e)
struct_of_kind (snapshot ty) e = absurd (false_true e)
struct_of_kind (struct name tys) e = (name, tys, refl)
struct_of_kind (enum name tys) e = absurd (false_true e)
struct_of_kind (dict k) e = absurd (false_true e)
struct_of_kind (dict_entry k) e = absurd (false_true e)
struct_of_kind (squashed_dict k) e = absurd (false_true e)
struct_of_kind (uninitialized ty) e = absurd (false_true e)

pub number_named-names : (types : TypesView) (id : List ℕ) (num : Num) → number_named types id ≡ Some num → NamesTree types id (number num)
number_named-names types id num e =
    let named = and_then_some (λ (t : TypeId). number_kind (kind_of (tree_of types t.0))) (type_named types id) num e in
    (named.0, type_named-names types id named.0 named.1, number_of_kind (tree_of types named.0.0) num named.2)

pub names-number_named : (types : TypesView) → IsTable types → (id : List ℕ) (num : Num) → NamesTree types id (number num) → number_named types id ≡ Some num
names-number_named types kept id num names =
    ap (option_and_then (λ (t : TypeId). number_kind (kind_of (tree_of types t.0)))) (names-type_named types kept id names.0 names.1)
    ∙ ap (λ ty. number_kind (kind_of ty)) names.2

pub enum_named-names : (types : TypesView) (id : List ℕ) (t : TypeId) → enum_named types id ≡ Some t
    → NamesType types id t × (is_enum (kind_of (tree_of types t.0)) ≡ true)
enum_named-names types id t e =
    let named = and_then_some (λ (u : TypeId). checked (is_enum (kind_of (tree_of types u.0))) u) (type_named types id) t e in
    let passed = checked_some (is_enum (kind_of (tree_of types named.0.0))) named.0 t named.2 in
    subst (λ (u : TypeId). NamesType types id u × (is_enum (kind_of (tree_of types u.0)) ≡ true)) passed.1
    (type_named-names types id named.0 named.1, passed.0)

pub names-enum_named : (types : TypesView) → IsTable types → (id : List ℕ) (t : TypeId) (name : List ℕ) (variants : Tys)
    → NamesType types id t → tree_of types t.0 ≡ enum name variants → enum_named types id ≡ Some t
names-enum_named types kept id t name variants names is =
    ap (option_and_then (λ (u : TypeId). checked (is_enum (kind_of (tree_of types u.0))) u)) (names-type_named types kept id t names)
    ∙ ap (λ ty. checked (is_enum (kind_of ty)) t) is

pub struct_named-names : (types : TypesView) (id : List ℕ) (t : TypeId) → struct_named types id ≡ Some t
    → NamesType types id t × (is_struct (kind_of (tree_of types t.0)) ≡ true)
struct_named-names types id t e =
    let named = and_then_some (λ (u : TypeId). checked (is_struct (kind_of (tree_of types u.0))) u) (type_named types id) t e in
    let passed = checked_some (is_struct (kind_of (tree_of types named.0.0))) named.0 t named.2 in
    subst (λ (u : TypeId). NamesType types id u × (is_struct (kind_of (tree_of types u.0)) ≡ true)) passed.1
    (type_named-names types id named.0 named.1, passed.0)

pub names-struct_named : (types : TypesView) → IsTable types → (id : List ℕ) (t : TypeId) (name : List ℕ) (members : Tys)
    → NamesType types id t → tree_of types t.0 ≡ struct name members → struct_named types id ≡ Some t
names-struct_named types kept id t name members names is =
    ap (option_and_then (λ (u : TypeId). checked (is_struct (kind_of (tree_of types u.0))) u)) (names-type_named types kept id t names)
    ∙ ap (λ ty. checked (is_struct (kind_of ty)) t) is

width_is : (num : Num) (w : Width) → width_of num ≡ Some w → num ≡ num_of w
width_is nums.Felt64 w e = absurd (none_some w e)
width_is nums.U8 w e = ap num_of (some_in widths.W8 w e)
width_is nums.U16 w e = ap num_of (some_in widths.W16 w e)
width_is nums.U32 w e = ap num_of (some_in widths.W32 w e)

is_width : (w : Width) → width_of (num_of w) ≡ Some w
is_width widths.W8 = refl
is_width widths.W16 = refl
is_width widths.W32 = refl

pub width_named-names : (types : TypesView) (id : List ℕ) (w : Width) → width_named types id ≡ Some w → NamesTree types id (number (num_of w))
width_named-names types id w e =
    let named = and_then_some width_of (number_named types id) w e in
    subst (λ num. NamesTree types id (number num)) (width_is named.0 w named.2) (number_named-names types id named.0 named.1)

pub names-width_named : (types : TypesView) → IsTable types → (id : List ℕ) (w : Width) → NamesTree types id (number (num_of w)) → width_named types id ≡ Some w
names-width_named types kept id w names =
    ap (option_and_then width_of) (names-number_named types kept id (num_of w) names) ∙ is_width w
