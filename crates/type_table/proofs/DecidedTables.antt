-- A program's table is one.
use Rattle.std.proofs.Common.{◌≡◌, ◌⊎◌, inl, inr, ℕ, suc, ◌<◌, ◌≤◌, List, [], ◌∷◌, map, length, get_or, Some, None, slice_get, refl, ap, sym, subst, ◌∙◌, arith}
use Rattle.std.specs.List.{All}
use Rattle.std.proofs.lemmas.List.{length-map}
use Rattle.std.proofs.lemmas.List.Elements.{All-head, All-tail}
use Rattle.std.proofs.lemmas.Option.{slice_get-get_or, slice_get_within, slice_get_cases}
use Rattle.type_trees.specs.Ty.{Ty}
use Rattle.sierra_types.specs.declared.program.Program.{Program}
use Rattle.sierra_types.specs.declared.program.Function.{Function}
use Rattle.type_table.specs.declared.type_id.TypeId.{TypeId}
use Rattle.type_table.specs.Trees.{kind_of, user_of, parts}
use Rattle.type_table.specs.Refusals.{parameter_types}
use Rattle.type_table.specs.View.{TypesView, RowView, FunctionView, tree_of}
use Rattle.type_table.specs.Table.{ArePositions, HasTypes}
use Rattle.type_table.proofs.Plain.{cons-nil}
use Rattle.type_table.proofs.Unique.{one_type_at}
use Rattle.type_table.proofs.DecidedLists.{heads, behind}
use Rattle.type_table.proofs.DecidedNever.{type_of_table}

-- two lists of one length are one if they have the same at each place
pub same_list : {X : Type 0} (xs ys : List X) → length xs ≡ length ys → ((i : ℕ) (x y : X) → slice_get xs i ≡ Some x → slice_get ys i ≡ Some y → x ≡ y) → xs ≡ ys
same_list [] [] long each = refl
same_list [] (y ∷ ys) long each = absurd (omega (arith, long))
same_list (x ∷ xs) [] long each = absurd (omega (arith, long))
same_list (x ∷ xs) (y ∷ ys) long each =
    ap (λ z. z ∷ xs) (each 0 x y refl refl) ∙ ap (λ l. y ∷ l) (same_list xs ys (omega (arith, long)) (λ i. each (suc i)))

same_id : (t u : TypeId) → t.0 ≡ u.0 → t ≡ u
same_id t u same = λ i. record { 0 = same i }

same_ids : (f g : TypeId → Ty) (n : ℕ) → ((t u : TypeId) → t.0 < n → u.0 < n → f t ≡ g u → t.0 ≡ u.0)
    → (ts us : List TypeId) → All (λ t. t.0 < n) ts → All (λ t. t.0 < n) us → map f ts ≡ map g us → ts ≡ us
same_ids f g n once [] [] below others same = refl
same_ids f g n once [] (u ∷ us) below others same = absurd (cons-nil (g u) (map g us) (sym same))
same_ids f g n once (t ∷ ts) [] below others same = absurd (cons-nil (f t) (map f ts) same)
same_ids f g n once (t ∷ ts) (u ∷ us) below others same =
    let first = once t u (All-head (λ t. t.0 < n) t ts below) (All-head (λ t. t.0 < n) u us others) (heads (f t) (g u) (map f ts) (map g us) same) in
    let rest = same_ids f g n once ts us (All-tail (λ t. t.0 < n) t ts below) (All-tail (λ t. t.0 < n) u us others) (ap behind same) in
    ap (λ v. v ∷ ts) (same_id t u first) ∙ ap (λ l. u ∷ l) rest

-- the positions of ids are one list, where each id is at one position alone
same_positions : (ids : List (List ℕ)) → ((i j : ℕ) (id : List ℕ) → slice_get ids i ≡ Some id → slice_get ids j ≡ Some id → i ≡ j)
    → (named : List (List ℕ)) (ts us : List TypeId) → map (λ id. Some id) named ≡ map (λ t. slice_get ids t.0) ts → map (λ id. Some id) named ≡ map (λ t. slice_get ids t.0) us → ts ≡ us
same_positions ids once [] [] [] x y = refl
same_positions ids once [] [] (u ∷ us) x y = absurd (cons-nil (slice_get ids u.0) (map (λ t. slice_get ids t.0) us) (sym y))
same_positions ids once [] (t ∷ ts) us x y = absurd (cons-nil (slice_get ids t.0) (map (λ t. slice_get ids t.0) ts) (sym x))
same_positions ids once (id ∷ named) [] us x y = absurd (cons-nil (Some id) (map (λ id. Some id) named) x)
same_positions ids once (id ∷ named) (t ∷ ts) [] x y = absurd (cons-nil (Some id) (map (λ id. Some id) named) y)
same_positions ids once (id ∷ named) (t ∷ ts) (u ∷ us) x y =
    let left : Some id ≡ slice_get ids t.0 = heads (Some id) (slice_get ids t.0) (map (λ id. Some id) named) (map (λ t. slice_get ids t.0) ts) x in
    let right : Some id ≡ slice_get ids u.0 = heads (Some id) (slice_get ids u.0) (map (λ id. Some id) named) (map (λ t. slice_get ids t.0) us) y in
    let first = once t.0 u.0 id (sym left) (sym right) in
    ap (λ v. v ∷ ts) (same_id t u first) ∙ ap (λ l. u ∷ l) (same_positions ids once named ts us (ap behind x) (ap behind y))

module _ (p : Program) (a b : TypesView) (x : HasTypes p a) (y : HasTypes p b) where
  ids_same : a.ids ≡ b.ids
  ids_same = x.ids ∙ sym y.ids

  as_long : length a.rows ≡ length b.rows
  as_long = sym x.kept.each_named ∙ ap length ids_same ∙ y.kept.each_named

  id_at : (i : ℕ) → i < length a.rows → (id : List ℕ) × (slice_get a.ids i ≡ Some id)
  id_at i below = (get_or a.ids i [], slice_get-get_or a.ids i [] (subst (λ n. i < n) (sym x.kept.each_named) below))

  same_tree : (i : ℕ) → i < length a.rows → tree_of a i ≡ tree_of b i
  same_tree i below =
      let at = id_at i below in
      one_type_at p.types (tree_of a i) (tree_of b i) i (type_of_table p a x i at.0 at.1) (type_of_table p b y i at.0 (ap (λ l. slice_get l i) (sym ids_same) ∙ at.1))

  once : (t u : TypeId) → t.0 < length a.rows → u.0 < length a.rows → tree_of a t.0 ≡ tree_of b u.0 → t.0 ≡ u.0
  once t u below less same = x.kept.tree_once t.0 u.0 (tree_of a t.0) (record { below = below; tree = refl }) (record { below = less; tree = same_tree u.0 less ∙ sym same })

  rows_same_at : (i : ℕ) (r s : RowView) → slice_get a.rows i ≡ Some r → slice_get b.rows i ≡ Some s → r ≡ s
  rows_same_at i r s left right =
      let row = x.kept.rows_right i r left in
      let other = y.kept.rows_right i s right in
      let tree = same_tree i (slice_get_within a.rows i r left) in
      let kind : r.kind ≡ s.kind = row.kind ∙ ap kind_of tree ∙ sym other.kind in
      let user : r.user ≡ s.user = row.user ∙ ap user_of tree ∙ sym other.user in
      let members : r.members ≡ s.members =
      same_ids (λ t. tree_of a t.0) (λ t. tree_of b t.0) (length a.rows) once r.members s.members row.below (subst (λ n. All (λ t. t.0 < n) s.members) (sym as_long) other.below)
      (row.members ∙ ap parts tree ∙ sym other.members) in
      λ j. record { kind = kind j; user = user j; members = members j }

  rows_same : a.rows ≡ b.rows
  rows_same = same_list a.rows b.rows as_long rows_same_at

  function_ids_same : a.function_ids ≡ b.function_ids
  function_ids_same = x.function_ids ∙ sym y.function_ids

  as_many : length a.functions ≡ length b.functions
  as_many = sym x.kept.each_function_named ∙ ap length function_ids_same ∙ y.kept.each_function_named

  declared_at : (i : ℕ) → i < length a.functions → (f : Function) × (slice_get p.functions i ≡ Some f)
  declared_at i below =
      let long : length a.functions ≡ length p.functions = sym x.kept.each_function_named ∙ ap length x.function_ids ∙ length-map p.functions (λ f. f.id) in
      by (slice_get_cases p.functions i).1 long
    where
      by : ((f : Function) × (i < length p.functions) × (slice_get p.functions i ≡ Some f) × (get_or p.functions i f ≡ f)) ⊎ ((length p.functions ≤ i) × (slice_get p.functions i ≡ None))
          → length a.functions ≡ length p.functions → (f : Function) × (slice_get p.functions i ≡ Some f)
      by (inl (f, inside, is, get)) long = (f, is)
      by (inr (past, is)) long = absurd (omega (arith, below, past, long))

  same_types : (named : List (List ℕ)) (ts us : List TypeId) → ArePositions a named ts → ArePositions b named us → ts ≡ us
  same_types named ts us left right =
      same_positions a.ids x.kept.id_once named ts us left (subst (λ l. map (λ id. Some id) named ≡ map (λ t. slice_get l t.0) us) (sym ids_same) right)

  functions_same_at : (i : ℕ) (f g : FunctionView) → slice_get a.functions i ≡ Some f → slice_get b.functions i ≡ Some g → f ≡ g
  functions_same_at i f g left right =
      let declared = declared_at i (slice_get_within a.functions i f left) in
      let one = x.functions i declared.0 f declared.1 left in
      let other = y.functions i declared.0 g declared.1 right in
      let params = same_types (parameter_types declared.0) f.params g.params one.params other.params in
      let results = same_types declared.0.results f.results g.results one.results other.results in
      λ j. record { params = params j; results = results j }

  functions_same : a.functions ≡ b.functions
  functions_same = same_list a.functions b.functions as_many functions_same_at

  same_table : a ≡ b
  same_table = λ j. record { ids = ids_same j; rows = rows_same j; function_ids = function_ids_same j; functions = functions_same j }

-- a program's table is one
pub one_table : (p : Program) (a b : TypesView) → HasTypes p a → HasTypes p b → a ≡ b
one_table p a b x y = same_table p a b x y
