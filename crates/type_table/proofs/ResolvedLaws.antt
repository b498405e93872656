-- What is looked up of declarations is right.
use Rattle.std.proofs.Common.{◌≡◌, ◌≢◌, ◌↔◌, ◌⊎◌, inl, inr, IsTrue, ℕ, zero, suc, ◌<◌, ◌≤◌, Bool, true, false, List, [], ◌∷◌, map, length, get_or, Option, Some, None, option_map, Result, Ok, Err, slice_get, refl, ap, sym, subst, ◌∙◌, arith}
use Rattle.std.specs.List.{cons_option, Contains}
use Rattle.std.proofs.lemmas.Option.{slice_get-map, slice_get-get_or, slice_get_within, get_or_from_slice_get}
use Rattle.std.proofs.lemmas.List.{length-map}
use Rattle.std.proofs.lemmas.List.{get_or_past}
use Rattle.std.proofs.lemmas.Bool.{cases_lt}
use Rattle.graph_cycles.specs.Graph.{IsClosed, LeadsBelow}
use Rattle.graph_cycles.specs.Cycles.{HasEachOnce, TargetsFirst, TellsCycles}
use Rattle.type_trees.specs.declared.num.Num.{Num}
use Rattle.sierra_types.specs.declared.program.TypeDecl.{TypeDecl}
use Rattle.sierra_types.specs.declared.program.Arg.{Arg}
use Rattle.sierra_types.specs.declared.program.Arg.TheVariants.{OfType, User, Callee, Number}
use Rattle.type_table.specs.declared.generic.Generic.{Generic}
use Rattle.type_table.specs.declared.generic.Generic.TheVariants as generics
use Rattle.type_table.specs.declared.kind.TypeKind.{TypeKind}
use Rattle.type_table.specs.declared.kind.TypeKind.TheVariants as kinds
use Rattle.type_table.specs.declared.forms.Form.{Form}
use Rattle.type_table.specs.declared.forms.Form.TheVariants as forms
use Rattle.type_table.specs.declared.forms.Given.{Given}
use Rattle.type_table.specs.declared.forms.Given.TheVariants as givens
use Rattle.type_table.specs.declared.resolved.Resolved.{Resolved}
use Rattle.type_table.specs.declared.rules.TypeRule.{TypeRule}
use Rattle.type_table.specs.declared.rules.TypeRule.TheVariants as rules
use Rattle.type_table.specs.Naming.{place_of, ids_of}
use Rattle.type_table.specs.Generics.{generic_name}
use Rattle.type_table.specs.Named.{generic_named}
use Rattle.type_table.specs.Trees.{generic_of}
use Rattle.type_table.specs.IsType.{IsRepeated}
use Rattle.type_table.specs.Refusals.{named_types, positions_of, arguments, IsRepeatedId}
use Rattle.type_table.specs.Lookups.{found, names_in, AreNumbered}
use Rattle.type_table.specs.Resolving.{targets_in, type_args, written, user_in}
use Rattle.type_table.specs.Forms.{IsForm, generic_at, given_of, kind_given, nothing_given, number_given, type_given, initialized_given, members_given, variants_given, if_true, is_ordinary, is_initialized}
use Rattle.type_table.specs.Kinds.{IsMade, IsKindTold, AreKindsTold}
use Rattle.type_table.specs.Rows.{targets}
use Rattle.type_table.specs.Found.{BreaksFirst}
use Rattle.type_table.specs.Repeats.{written_of, IsWrittenBefore, AreRepeatsTold}
use Rattle.type_table.specs.Resolved.{all_generics, AreKnown, IsKindRight, IsResolved}
use Rattle.type_table.proofs.Plain.{none-some, some_is, cons-nil}
use Rattle.type_table.proofs.NamedLaws.{named-name, named_right}
use Rattle.type_table.proofs.Places.{place-first, declared_place, decl_at}
use Rattle.type_table.proofs.Acyclic.{targets_are}
use Rattle.type_table.proofs.KindLaws.{args_written, none_of_other}
use Rattle.type_table.proofs.KindsTold.{all_known, some_unknown}
use Rattle.type_table.proofs.GivenLaws.{tail_of}
use Rattle.type_table.proofs.OutcomeLaws.{breaks_names, breaks_form}

-- ---- kinds

nothing_is : (made : TypeKind) (given : Given) (kind : TypeKind) → nothing_given made given ≡ Some kind → made ≡ kind
nothing_is made givens.Nothing kind told = some_is made kind told
nothing_is made _ kind told = absurd (none-some kind told)

number_is : (made : Num → TypeKind) (given : Given) (kind : TypeKind) → number_given made given ≡ Some kind → (num : Num) × (made num ≡ kind)
number_is made (givens.One (Some (generics.Number num))) kind told = (num, some_is (made num) kind told)
number_is made _ kind told = absurd (none-some kind told)

true_is : (b : Bool) (made kind : TypeKind) → if_true b made ≡ Some kind → made ≡ kind
true_is true made kind told = some_is made kind told
true_is false made kind told = absurd (none-some kind told)

type_is : (made : TypeKind) (given : Given) (kind : TypeKind) → type_given made given ≡ Some kind → made ≡ kind
type_is made (givens.One generic) kind told = true_is (is_ordinary generic) made kind told
type_is made _ kind told = absurd (none-some kind told)

initialized_is : (made : TypeKind) (given : Given) (kind : TypeKind) → initialized_given made given ≡ Some kind → made ≡ kind
initialized_is made (givens.One generic) kind told = true_is (is_initialized generic) made kind told
initialized_is made _ kind told = absurd (none-some kind told)

members_is : (given : Given) (kind : TypeKind) → members_given given ≡ Some kind → kinds.Struct ≡ kind
members_is (givens.Members n) kind told = some_is kinds.Struct kind told
members_is _ kind told = absurd (none-some kind told)

variants_is : (given : Given) (kind : TypeKind) → variants_given given ≡ Some kind → kinds.Enum ≡ kind
variants_is (givens.Members (suc n)) kind told = some_is kinds.Enum kind told
variants_is _ kind told = absurd (none-some kind told)

-- the kind of type tells the generic type
kind_generic : (g : Generic) (given : Given) (kind : TypeKind) → kind_given g given ≡ Some kind → generic_of kind ≡ g
kind_generic (generics.Number num) given kind told = ap generic_of (sym (nothing_is (kinds.Number num) given kind told))
kind_generic generics.RangeCheck given kind told = ap generic_of (sym (nothing_is kinds.RangeCheck given kind told))
kind_generic generics.GasBuiltin given kind told = ap generic_of (sym (nothing_is kinds.GasBuiltin given kind told))
kind_generic generics.NonZero given kind told = ap generic_of (sym (number_is (λ num. kinds.NonZero num) given kind told).1)
kind_generic generics.Box given kind told = ap generic_of (sym (type_is kinds.Box given kind told))
kind_generic generics.Array given kind told = ap generic_of (sym (type_is kinds.Array given kind told))
kind_generic generics.Snapshot given kind told = ap generic_of (sym (type_is kinds.Snapshot given kind told))
kind_generic generics.Struct given kind told = ap generic_of (sym (members_is given kind told))
kind_generic generics.Enum given kind told = ap generic_of (sym (variants_is given kind told))
kind_generic generics.Dict given kind told = ap generic_of (sym (number_is (λ num. kinds.Dict num) given kind told).1)
kind_generic generics.DictEntry given kind told = ap generic_of (sym (number_is (λ num. kinds.DictEntry num) given kind told).1)
kind_generic generics.SquashedDict given kind told = ap generic_of (sym (number_is (λ num. kinds.SquashedDict num) given kind told).1)
kind_generic generics.Uninitialized given kind told = ap generic_of (sym (initialized_is kinds.Uninitialized given kind told))

types_user : (ids more : List (List ℕ)) (name : List ℕ) → type_args ids ≡ User name ∷ type_args more → ⊥
types_user ids more name same = none-some name (sym (none ids) ∙ ap user_in same)
  where
    none : (ids : List (List ℕ)) → user_in (type_args ids) ≡ None
    none [] = refl
    none (id ∷ ids) = refl

-- what arguments give doesn't depend on how their form is told
forms_agree : (f h : Form) (generics : List (Option Generic)) (ts : List ℕ) (args : List Arg) (g : Generic) (kind : TypeKind) → IsForm f args → IsForm h args
    → kind_given g (given_of f generics ts) ≡ Some kind → kind_given g (given_of h generics ts) ≡ Some kind
forms_agree forms.Types forms.Types generics ts args g kind a b told = told
forms_agree forms.Types (forms.User name) generics ts args g kind a b told = absurd (types_user (named_types args) (named_types args) name.now (sym a ∙ b))
forms_agree forms.Types forms.Other generics ts args g kind a b told = absurd (b None (named_types args) a)
forms_agree (forms.User name) forms.Types generics ts args g kind a b told = absurd (types_user (named_types args) (named_types args) name.now (sym b ∙ a))
forms_agree (forms.User name) (forms.User other) generics ts args g kind a b told = told
forms_agree (forms.User name) forms.Other generics ts args g kind a b told = absurd (b (Some name.now) (named_types args) a)
forms_agree forms.Other h generics ts args g kind a b told = absurd (none-some kind (sym (none_of_other [] g) ∙ told))

nothing_at : (ds : List TypeDecl) (i : ℕ) → i < length ds → slice_get ds i ≡ None → ⊥
nothing_at [] i less is = omega (arith, less)
nothing_at (d ∷ ds) zero less is = none-some d (sym is)
nothing_at (d ∷ ds) (suc i) less is = nothing_at ds i (omega (arith, less)) is

module _ (ds : List TypeDecl) where
  -- ---- what arguments name

  module _ (positions : List (List ℕ × ℕ)) (first : (id : List ℕ) → found positions id ≡ place_of (ids_of ds) id) where
    targets_right : (args : List Arg) → targets_in positions args ≡ positions_of ds (named_types args)
    targets_right [] = refl
    targets_right (OfType id ∷ args) =
        ap (λ o. cons_option o (targets_in positions args)) (first id) ∙ ap (cons_option (place_of (ids_of ds) id)) (targets_right args)
    targets_right (User name ∷ args) = targets_right args
    targets_right (Callee id ∷ args) = targets_right args
    targets_right (Number negative size ∷ args) = targets_right args

    all_targets : (es : List TypeDecl) → map (λ d. targets_in positions d.args) es ≡ map (targets ds) es
    all_targets [] = refl
    all_targets (e ∷ es) = λ i. targets_right e.args i ∷ all_targets es i

    pub graph_right : map (λ d. targets_in positions d.args) ds ≡ arguments ds
    graph_right = all_targets ds

  positions_below : (ids : List (List ℕ)) (t : ℕ) → Contains (positions_of ds ids) t → t < length ds
  positions_below [] t (k, less, is) = absurd (omega (arith, less))
  positions_below (id ∷ ids) t among = by (place_of (ids_of ds) id) refl among (positions_below ids t)
    where
      by : (o : Option ℕ) → place_of (ids_of ds) id ≡ o → Contains (cons_option o (positions_of ds ids)) t → (Contains (positions_of ds ids) t → t < length ds) → t < length ds
      by None place there rest = rest there
      by (Some u) place (zero, less, is) rest =
          let within = slice_get_within (ids_of ds) u id (place-first (ids_of ds) id u place).here in
          subst (λ n. n < length ds) is (subst (λ n. u < n) (length-map ds (λ d. d.id)) within)
      by (Some u) place (suc k, less, is) rest = rest (k, omega (arith, less), is)

  pub closed : IsClosed (arguments ds)
  closed = record { targets = below }
    where
      below : LeadsBelow (length (arguments ds)) (arguments ds)
      below s t leads = by (cases_lt s (length (arguments ds)))
        where
          none : Contains {X = ℕ} [] t → ⊥
          none (k, less, is) = omega (arith, less)

          at : (o : Option TypeDecl) → slice_get ds s ≡ o → s < length (arguments ds) → t < length (arguments ds)
          at None is less = absurd (none-some (get_or (arguments ds) s [])
              (sym (slice_get-map (targets ds) ds s ∙ ap (option_map (targets ds)) is) ∙ slice_get-get_or (arguments ds) s [] less))
          at (Some d) is less = subst (λ n. t < n) (sym (length-map ds (targets ds))) (positions_below (named_types d.args) t (subst (λ l. Contains l t) (targets_are ds s d is) leads))

          by : (s < length (arguments ds)) ⊎ (length (arguments ds) ≤ s) → t < length (arguments ds)
          by (inl less) = at (slice_get ds s) refl less
          by (inr past) = absurd (none (subst (λ l. Contains l t) (get_or_past (arguments ds) s [] past) leads))

  -- ---- kinds

  pub generic_here : (i : ℕ) (d : TypeDecl) → slice_get ds i ≡ Some d → generic_at (all_generics ds) i ≡ generic_named d.generic
  generic_here i d here = get_or_from_slice_get (all_generics ds) i (generic_named d.generic) None
      (slice_get-map (λ e. generic_named e.generic) ds i ∙ ap (option_map (λ e. generic_named e.generic)) here)

  unknown_name : (i : ℕ) (d : TypeDecl) → (generic_named d.generic ≡ None) ⊎ (length (named_types d.args) ≢ length (targets ds d)) → BreaksFirst ds i d rules.NamesKnown
  unknown_name i d (inl none) = breaks_names ds i d d.generic (inl ((λ g. none-some g.0 (sym none ∙ ap generic_named g.1 ∙ named-name g.0)), refl))
  unknown_name i d (inr differs) = by (generic_named d.generic) refl
    where
      by : (o : Option Generic) → generic_named d.generic ≡ o → BreaksFirst ds i d rules.NamesKnown
      by None is = breaks_names ds i d d.generic (inl ((λ g. none-some g.0 (sym is ∙ ap generic_named g.1 ∙ named-name g.0)), refl))
      by (Some g) is = let unknown = some_unknown ds (named_types d.args) differs in breaks_names ds i d unknown.0 (inr ((g, named_right d.generic g is), unknown.1))

  pub kind_right : (i : ℕ) (d : TypeDecl) (kind : Result TypeKind TypeRule) → slice_get ds i ≡ Some d → IsKindTold (generic_named d.generic) d.args (all_generics ds) (targets ds d) kind → IsKindRight ds i d kind
  kind_right i d (Ok kind) here made = (made.g, made.form, record { generic = made.generic_is; form_right = made.form_right; known = all_known ds (named_types d.args) made.all_known; kind_is = made.kind_is })
  kind_right i d (Err rule) here (inl (is, unknown)) = subst (BreaksFirst ds i d) (sym is) (unknown_name i d unknown)
  kind_right i d (Err rule) here (inr (is, made)) = subst (BreaksFirst ds i d) (sym is)
      (breaks_form ds i d made.g made.form made.generic_is made.form_right (all_known ds (named_types d.args) made.all_known) made.kind_is)

  -- ---- repeated declarations

  same_positions : (xs ys : List (List ℕ)) → AreKnown ds xs → AreKnown ds ys → positions_of ds xs ≡ positions_of ds ys → xs ≡ ys
  same_positions [] [] known_xs known_ys same = refl
  same_positions [] (y ∷ ys) known_xs known_ys same =
      let v = declared_place ds y (known_ys 0 y refl) in
      absurd (cons-nil v.0 (positions_of ds ys) (sym (same ∙ ap (λ o. cons_option o (positions_of ds ys)) v.1)))
  same_positions (x ∷ xs) [] known_xs known_ys same =
      let u = declared_place ds x (known_xs 0 x refl) in
      absurd (cons-nil u.0 (positions_of ds xs) (sym (ap (λ o. cons_option o (positions_of ds xs)) u.1) ∙ same))
  same_positions (x ∷ xs) (y ∷ ys) known_xs known_ys same =
      let u = declared_place ds x (known_xs 0 x refl) in
      let v = declared_place ds y (known_ys 0 y refl) in
      let lists : u.0 ∷ positions_of ds xs ≡ v.0 ∷ positions_of ds ys =
      sym (ap (λ o. cons_option o (positions_of ds xs)) u.1) ∙ same ∙ ap (λ o. cons_option o (positions_of ds ys)) v.1 in
      let heads : u.0 ≡ v.0 = ap (λ l. get_or l 0 0) lists in
      let names : x ≡ y = some_is x y (sym (place-first (ids_of ds) x u.0 u.1).here ∙ ap (slice_get (ids_of ds)) heads ∙ (place-first (ids_of ds) y v.0 v.1).here) in
      let rest : xs ≡ ys = same_positions xs ys (λ k. known_xs (suc k)) (λ k. known_ys (suc k)) (ap tail_of lists) in
      ap (λ z. z ∷ xs) names ∙ ap (λ l. y ∷ l) rest

  module _ (kinds_list : List (Result TypeKind TypeRule))
      (right : (i : ℕ) (d : TypeDecl) (kind : Result TypeKind TypeRule) → slice_get ds i ≡ Some d → slice_get kinds_list i ≡ Some kind → IsKindTold (generic_named d.generic) d.args (all_generics ds) (targets ds d) kind)
      (each : length kinds_list ≡ length ds) where
    -- two that are written so have one generic name and the same arguments
    wrote_same : (i j : ℕ) (d e : TypeDecl) (kind other : TypeKind) → slice_get ds i ≡ Some d → slice_get kinds_list i ≡ Some (Ok kind) → slice_get ds j ≡ Some e → slice_get kinds_list j ≡ Some (Ok other)
        → written_of kind d.args (targets ds d) ≡ written_of other e.args (targets ds e) → (e.generic ≡ d.generic) × (e.args ≡ d.args)
    wrote_same i j d e kind other here is there at same =
        let m = right i d (Ok kind) here is in
        let n = right j e (Ok other) there at in
        let kinds_same : kind ≡ other = ap (λ w. w.kind) same in
        let users : user_in d.args ≡ user_in e.args = ap (λ w. w.user) same in
        let places : targets ds d ≡ targets ds e = ap (λ w. w.targets) same in
        let ids : named_types d.args ≡ named_types e.args = same_positions (named_types d.args) (named_types e.args)
        (all_known ds (named_types d.args) m.all_known) (all_known ds (named_types e.args) n.all_known) places in
        let g : m.g ≡ n.g = sym (kind_generic m.g (given_of m.form (all_generics ds) (targets ds d)) kind m.kind_is) ∙ ap generic_of kinds_same
        ∙ kind_generic n.g (given_of n.form (all_generics ds) (targets ds e)) other n.kind_is in
        let a = args_written ds m.form m.g (all_generics ds) (targets ds d) d.args kind m.form_right m.kind_is in
        let b = args_written ds n.form n.g (all_generics ds) (targets ds e) e.args other n.form_right n.kind_is in (
          named_right e.generic n.g n.generic_is ∙ ap generic_name (sym g) ∙ sym (named_right d.generic m.g m.generic_is),
          b ∙ ap (λ u. written u (named_types e.args)) (sym users) ∙ ap (written (user_in d.args)) (sym ids) ∙ sym a,
        )

    -- and the other way round
    same_wrote : (i j : ℕ) (d e : TypeDecl) (kind : TypeKind) → slice_get ds i ≡ Some d → slice_get kinds_list i ≡ Some (Ok kind) → slice_get ds j ≡ Some e
        → e.generic ≡ d.generic → e.args ≡ d.args → (slice_get kinds_list j ≡ Some (Ok kind)) × (written_of kind d.args (targets ds d) ≡ written_of kind e.args (targets ds e))
    same_wrote i j d e kind here is there generic args = (by (slice_get kinds_list j) refl, ap (λ l. written_of kind l (positions_of ds (named_types l))) (sym args))
      where
        m : IsMade (generic_named d.generic) d.args (all_generics ds) (targets ds d) (Some kind)
        m = right i d (Ok kind) here is

        told : (k : Result TypeKind TypeRule) → IsKindTold (generic_named e.generic) e.args (all_generics ds) (targets ds e) k → k ≡ Ok kind
        told k = subst (λ l. IsKindTold (generic_named e.generic) l (all_generics ds) (positions_of ds (named_types l)) k → k ≡ Ok kind) (sym args)
            (subst (λ name. IsKindTold (generic_named name) d.args (all_generics ds) (targets ds d) k → k ≡ Ok kind) (sym generic) (settle k))
          where
            settle : (k : Result TypeKind TypeRule) → IsKindTold (generic_named d.generic) d.args (all_generics ds) (targets ds d) k → k ≡ Ok kind
            settle (Ok other) n =
                let g : n.g ≡ m.g = some_is n.g m.g (sym n.generic_is ∙ m.generic_is) in
                ap Ok (some_is other kind (sym (forms_agree n.form m.form (all_generics ds) (targets ds d) d.args m.g other n.form_right m.form_right
                (ap (λ h. kind_given h (given_of n.form (all_generics ds) (targets ds d))) (sym g) ∙ n.kind_is)) ∙ m.kind_is))
            settle (Err rule) (inl (same, inl none)) = absurd (none-some m.g (sym none ∙ m.generic_is))
            settle (Err rule) (inl (same, inr differs)) = absurd (differs m.all_known)
            settle (Err rule) (inr (same, n)) =
                let g : n.g ≡ m.g = some_is n.g m.g (sym n.generic_is ∙ m.generic_is) in
                absurd (none-some kind (sym n.kind_is ∙ forms_agree m.form n.form (all_generics ds) (targets ds d) d.args n.g kind m.form_right n.form_right
                (ap (λ h. kind_given h (given_of m.form (all_generics ds) (targets ds d))) g ∙ m.kind_is)))

        by : (o : Option (Result TypeKind TypeRule)) → slice_get kinds_list j ≡ o → slice_get kinds_list j ≡ Some (Ok kind)
        by None e_is =
            let less = slice_get_within ds j e there in
            absurd (none-some (get_or kinds_list j (Ok kind)) (sym e_is ∙ slice_get-get_or kinds_list j (Ok kind) (omega (arith, less, each))))
        by (Some k) e_is = e_is ∙ ap Some (told k (right j e k there e_is))

    pub repeats_right : (ids_repeated flags : List Bool)
        → ((i : ℕ) (id : List ℕ) → slice_get (ids_of ds) i ≡ Some id → IsTrue (get_or ids_repeated i false) ↔ IsRepeatedId (ids_of ds) i id)
        → AreRepeatsTold ds kinds_list (arguments ds) ids_repeated flags
        → (i : ℕ) (d : TypeDecl) (kind : TypeKind) → slice_get ds i ≡ Some d → slice_get kinds_list i ≡ Some (Ok kind) → (get_or flags i false ≡ true) ↔ IsRepeated ds i d
    repeats_right ids_repeated flags ids told i d kind here is = ((λ e. to (flag.0 e)), λ repeated. flag.1 (from repeated))
      where
        flag : (get_or flags i false ≡ true) ↔ ((get_or ids_repeated i false ≡ true) ⊎ IsWrittenBefore ds kinds_list (arguments ds) i (written_of kind d.args (get_or (arguments ds) i [])))
        flag = told.right i (written_of kind d.args (get_or (arguments ds) i [])) (d, kind, here, is, refl)

        id_here : slice_get (ids_of ds) i ≡ Some d.id
        id_here = slice_get-map (λ x. x.id) ds i ∙ ap (option_map (λ x. x.id)) here

        to : (get_or ids_repeated i false ≡ true) ⊎ IsWrittenBefore ds kinds_list (arguments ds) i (written_of kind d.args (get_or (arguments ds) i [])) → IsRepeated ds i d
        to (inl e) =
            let (j, less, id_there) = (ids i d.id id_here).0 e in
            let there = decl_at ds d.id j id_there in
            (j, there.0, less, there.1, inl there.2)
        to (inr (j, less, (e, other, there, at, same))) =
            let same_w : written_of kind d.args (targets ds d) ≡ written_of other e.args (targets ds e) =
            ap (written_of kind d.args) (sym (targets_are ds i d here)) ∙ same ∙ ap (written_of other e.args) (targets_are ds j e there) in
            (j, e, less, there, inr (wrote_same i j d e kind other here is there at same_w))

        from : IsRepeated ds i d → (get_or ids_repeated i false ≡ true) ⊎ IsWrittenBefore ds kinds_list (arguments ds) i (written_of kind d.args (get_or (arguments ds) i []))
        from (j, e, less, there, inl same) = inl ((ids i d.id id_here).1 (j, less, slice_get-map (λ x. x.id) ds j ∙ ap (option_map (λ x. x.id)) there ∙ ap Some same))
        from (j, e, less, there, inr (generic, args)) =
            let s = same_wrote i j d e kind here is there generic args in
            inr (j, less, (e, kind, there, s.0, ap (written_of kind d.args) (targets_are ds i d here) ∙ s.1 ∙ ap (written_of kind e.args) (sym (targets_are ds j e there))))

  -- all that is looked up
  pub resolved : (r : Resolved) (gs : List (Option Generic)) (ks : List (Result TypeKind TypeRule)) (ids_repeated : List Bool)
      → ((id : List ℕ) → found r.positions id ≡ place_of (ids_of ds) id)
      → ((i : ℕ) (id : List ℕ) → slice_get (ids_of ds) i ≡ Some id → IsTrue (get_or ids_repeated i false) ↔ IsRepeatedId (ids_of ds) i id)
      → (((i : ℕ) → i < length ds → get_or ids_repeated i false ≡ false) → (names_in r.positions ≡ ids_of ds) × AreNumbered r.positions)
      → r.graph ≡ arguments ds → gs ≡ all_generics ds → ks ≡ r.kinds.items
      → AreKindsTold ds gs r.graph r.kinds.items → AreRepeatsTold ds ks r.graph ids_repeated r.repeated.items
      → TellsCycles r.graph r.cycles.cyclic → HasEachOnce (length r.graph) r.cycles.order → TargetsFirst r.graph r.cycles.order → IsResolved ds r
  resolved r gs ks ids_repeated first ids listed graph_is gs_are ks_are told repeats cyclic once targets_first = record {
    first = first;
    graph = graph_is;
    each_kind = told.each;
    kinds = λ i d kind here is. kind_right i d kind here (told_here i d kind here is);
    each_repeated = repeats.each;
    repeated = repeats_right r.kinds.items told_here told.each ids_repeated r.repeated.items ids
        (subst (λ g. AreRepeatsTold ds r.kinds.items g ids_repeated r.repeated.items) graph_is (subst (λ k. AreRepeatsTold ds k r.graph ids_repeated r.repeated.items) ks_are repeats));
    listed = λ fresh. listed (none_repeated fresh);
    cyclic = subst (λ g. TellsCycles g r.cycles.cyclic) graph_is cyclic;
    each_once = subst (λ n. HasEachOnce n r.cycles.order) (ap length graph_is ∙ length-map ds (targets ds)) once;
    targets_first = subst (λ g. TargetsFirst g r.cycles.order) graph_is targets_first;
  }
    where
      none_repeated : ((i : ℕ) (d : TypeDecl) → slice_get ds i ≡ Some d → IsRepeated ds i d → ⊥) → (i : ℕ) → i < length ds → get_or ids_repeated i false ≡ false
      none_repeated fresh i less = by (get_or ids_repeated i false) refl (slice_get ds i) refl
        where
          by : (b : Bool) → get_or ids_repeated i false ≡ b → (o : Option TypeDecl) → slice_get ds i ≡ o → b ≡ false
          by false flag o at = refl
          by true flag None at = absurd (nothing_at ds i less at)
          by true flag (Some d) at =
              let (j, before, id_there) = (ids i d.id (slice_get-map (λ x. x.id) ds i ∙ ap (option_map (λ x. x.id)) at)).0 flag in
              let there = decl_at ds d.id j id_there in
              absurd (fresh i d at (j, there.0, before, there.1, inl there.2))

      told_here : (i : ℕ) (d : TypeDecl) (kind : Result TypeKind TypeRule) → slice_get ds i ≡ Some d → slice_get r.kinds.items i ≡ Some kind
          → IsKindTold (generic_named d.generic) d.args (all_generics ds) (targets ds d) kind
      told_here i d kind here is =
          subst (λ o. IsKindTold o d.args (all_generics ds) (targets ds d) kind) (generic_here i d here)
          (subst (λ g. IsKindTold (generic_at g i) d.args g (targets ds d) kind) gs_are
          (subst (λ l. IsKindTold (generic_at gs i) d.args gs l kind) (ap (λ g. get_or g i []) graph_is ∙ targets_are ds i d here) (told.right i d kind here is)))
