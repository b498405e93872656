-- What arguments give, and that a generic type takes it if and only if the arguments fit.
use Rattle.std.proofs.Common.{◌≡◌, ◌⊎◌, inl, inr, ℕ, zero, suc, Bool, true, false, true≢false, ◌&&◌, List, [], ◌∷◌, length, get_or, Option, Some, None, option_map, refl, ap, sym, subst, ◌∙◌, arith}
use Rattle.std.specs.List.{All, cons_option}
use Rattle.std.proofs.lemmas.Option.{slice_get-map, get_or_from_slice_get}
use Rattle.type_trees.specs.declared.num.Num.{Num}
use Rattle.sierra_types.specs.declared.program.TypeDecl.{TypeDecl}
use Rattle.sierra_types.specs.declared.program.Arg.{Arg}
use Rattle.sierra_types.specs.declared.program.Arg.TheVariants.{OfType, User}
use Rattle.type_table.specs.declared.generic.Generic.{Generic}
use Rattle.type_table.specs.declared.generic.Generic.TheVariants as generics
use Rattle.type_table.specs.declared.kind.TypeKind.{TypeKind}
use Rattle.type_table.specs.declared.kind.TypeKind.TheVariants as kinds
use Rattle.type_table.specs.declared.forms.Form.{Form}
use Rattle.type_table.specs.declared.forms.Form.TheVariants as forms
use Rattle.type_table.specs.declared.forms.Given.{Given}
use Rattle.type_table.specs.declared.forms.Given.TheVariants as givens
use Rattle.type_table.specs.Naming.{Names, place_of, ids_of}
use Rattle.type_table.specs.Generics.{generic_name, IsNumber, IsOrdinary, IsInitialized, NamesType, FitsGeneric, OneType}
use Rattle.type_table.specs.Named.{generic_named}
use Rattle.type_table.specs.Refusals.{named_types, positions_of}
use Rattle.type_table.specs.Resolving.{type_args}
use Rattle.type_table.specs.Forms.{IsForm, is_ordinary, is_initialized, generic_at, all_ordinary, given_members, given_types, given_of, number_given, if_true, nothing_given, type_given, initialized_given, members_given, variants_given, kind_given}
use Rattle.type_table.specs.Resolved.{all_generics, AreKnown}
use Rattle.type_table.proofs.Plain.{none-some, cons-nil}
use Rattle.type_table.proofs.NamedLaws.{named-name, named_right}
use Rattle.type_table.proofs.Places.{named_at, names_once, declared_place}

-- ---- generic names

ordinary_name : (name : List ℕ) (o : Option Generic) → generic_named name ≡ o → is_ordinary o ≡ true → IsOrdinary name
ordinary_name name o is told = record { no_check = none generics.RangeCheck refl; no_gas = none generics.GasBuiltin refl; initialized = none generics.Uninitialized refl }
  where
    none : (g : Generic) → is_ordinary (Some g) ≡ false → name ≡ generic_name g → ⊥
    none g not_so same = true≢false (sym told ∙ ap is_ordinary (sym is ∙ ap generic_named same ∙ named-name g) ∙ not_so)

is_ordinary_name : (name : List ℕ) (o : Option Generic) → generic_named name ≡ o → IsOrdinary name → is_ordinary o ≡ true
is_ordinary_name name None is ok = refl
is_ordinary_name name (Some generics.RangeCheck) is ok = absurd (ok.no_check (named_right name generics.RangeCheck is))
is_ordinary_name name (Some generics.GasBuiltin) is ok = absurd (ok.no_gas (named_right name generics.GasBuiltin is))
is_ordinary_name name (Some generics.Uninitialized) is ok = absurd (ok.initialized (named_right name generics.Uninitialized is))
is_ordinary_name name (Some _) is ok = refl

initialized_name : (name : List ℕ) (o : Option Generic) → generic_named name ≡ o → is_initialized o ≡ true → IsInitialized name
initialized_name name o is told same = true≢false (sym told ∙ ap is_initialized (sym is ∙ ap generic_named same ∙ named-name generics.Uninitialized))

is_initialized_name : (name : List ℕ) (o : Option Generic) → generic_named name ≡ o → IsInitialized name → is_initialized o ≡ true
is_initialized_name name None is ok = refl
is_initialized_name name (Some generics.Uninitialized) is ok = absurd (ok (named_right name generics.Uninitialized is))
is_initialized_name name (Some _) is ok = refl

-- ---- lists

all_cons : {X : Type 0} (P : X → Type 0) (x : X) (xs : List X) → P x → All P xs → All P (x ∷ xs)
all_cons P x xs first rest zero d less = first
all_cons P x xs first rest (suc k) d less = rest k d (omega (arith, less))

all_head : {X : Type 0} (P : X → Type 0) (x : X) (xs : List X) → All P (x ∷ xs) → P x
all_head P x xs each = each 0 x (omega arith)

all_tail : {X : Type 0} (P : X → Type 0) (x : X) (xs : List X) → All P (x ∷ xs) → All P xs
all_tail P x xs each k d less = each (suc k) d (omega (arith, less))

all_none : {X : Type 0} (P : X → Type 0) → All P []
all_none P k d less = absurd (omega (arith, less))

abbrev pub tail_of : {X : Type 0} → List X → List X
tail_of [] = []
tail_of (x ∷ xs) = xs

abbrev first_is_type : List Arg → Bool
first_is_type (OfType id ∷ args) = true
first_is_type _ = false

type_arg_is : (a b : List ℕ) → OfType a ≡ OfType b → a ≡ b
type_arg_is a b same = ap id_in same
  where
    id_in : Arg → List ℕ
    id_in (OfType id) = id
    id_in _ = a

module _ (ds : List TypeDecl) where
  pub generic_of_named : (id : List ℕ) (t : ℕ) (e : TypeDecl) → Names ds id t e → generic_at (all_generics ds) t ≡ generic_named e.generic
  generic_of_named id t e names =
      get_or_from_slice_get (all_generics ds) t (generic_named e.generic) None
      (slice_get-map (λ d. generic_named d.generic) ds t ∙ ap (option_map (λ d. generic_named d.generic)) names.here)

  names_type : (Is : List ℕ → Type 0) (id : List ℕ) (t : ℕ) (e : TypeDecl) → Names ds id t e → Is e.generic → NamesType ds Is (OfType id)
  names_type Is id t e names ok = record { id = id; position = t; decl = e; arg_is = refl; names = names; generic = ok }

  type_named : (Is : List ℕ → Type 0) (id : List ℕ) (t : ℕ) (e : TypeDecl) → Names ds id t e → NamesType ds Is (OfType id) → Is e.generic
  type_named Is id t e names n =
      let same : n.id ≡ id = sym (type_arg_is id n.id n.arg_is) in
      let decl = (names_once ds id n.position t n.decl e (subst (λ i. Names ds i n.position n.decl) same n.names) names).1 in
      subst (λ d. Is d.generic) decl n.generic

  -- what arguments give
  abbrev pub IsGiven : Given → List Arg → Type 0
  IsGiven givens.Nothing args = args ≡ []
  IsGiven (givens.One generic) args = (id : List ℕ) × (t : ℕ) × (e : TypeDecl) × (args ≡ OfType id ∷ []) × Names ds id t e × (generic ≡ generic_named e.generic)
  IsGiven (givens.Members n) args = (name : List ℕ) × (members : List Arg) × (args ≡ User name ∷ members) × All (NamesType ds IsOrdinary) members × (length members ≡ n)
  IsGiven givens.Other args =
      (args ≡ [] → ⊥) × ((id : List ℕ) → args ≡ OfType id ∷ [] → ⊥) × ((name : List ℕ) (members : List Arg) → args ≡ User name ∷ members → All (NamesType ds IsOrdinary) members → ⊥)

  -- members that are types, each with an ordinary generic name or one without
  pub ordinary_members : (ids : List (List ℕ)) → AreKnown ds ids
      → ((all_ordinary (all_generics ds) (positions_of ds ids) ≡ true) × All (NamesType ds IsOrdinary) (type_args ids) × (length (type_args ids) ≡ length (positions_of ds ids)))
      ⊎ ((all_ordinary (all_generics ds) (positions_of ds ids) ≡ false) × (All (NamesType ds IsOrdinary) (type_args ids) → ⊥))
  ordinary_members [] known = inl (refl, all_none (NamesType ds IsOrdinary), refl)
  ordinary_members (id ∷ ids) known =
      let place = declared_place ds id (known 0 id refl) in
      let named = named_at ds id place.0 place.1 in
      subst (λ o. Whole (cons_option o (positions_of ds ids))) (sym place.1)
      (by place.0 named.0 named.1 (is_ordinary (generic_named named.0.generic)) refl (ordinary_members ids (λ k. known (suc k))))
    where
      Whole : List ℕ → Type 0
      Whole ts =
          ((all_ordinary (all_generics ds) ts ≡ true) × All (NamesType ds IsOrdinary) (OfType id ∷ type_args ids) × (suc (length (type_args ids)) ≡ length ts))
          ⊎ ((all_ordinary (all_generics ds) ts ≡ false) × (All (NamesType ds IsOrdinary) (OfType id ∷ type_args ids) → ⊥))

      by : (t : ℕ) (e : TypeDecl) → Names ds id t e → (b : Bool) → is_ordinary (generic_named e.generic) ≡ b
          → ((all_ordinary (all_generics ds) (positions_of ds ids) ≡ true) × All (NamesType ds IsOrdinary) (type_args ids) × (length (type_args ids) ≡ length (positions_of ds ids)))
          ⊎ ((all_ordinary (all_generics ds) (positions_of ds ids) ≡ false) × (All (NamesType ds IsOrdinary) (type_args ids) → ⊥))
          → ((all_ordinary (all_generics ds) (t ∷ positions_of ds ids) ≡ true) × All (NamesType ds IsOrdinary) (OfType id ∷ type_args ids) × (suc (length (type_args ids)) ≡ length (t ∷ positions_of ds ids)))
          ⊎ ((all_ordinary (all_generics ds) (t ∷ positions_of ds ids) ≡ false) × (All (NamesType ds IsOrdinary) (OfType id ∷ type_args ids) → ⊥))
      by t e names true told (inl (each, members, count)) =
          inl (
            ap (λ x. x && all_ordinary (all_generics ds) (positions_of ds ids)) (ap is_ordinary (generic_of_named id t e names) ∙ told) ∙ each,
            all_cons (NamesType ds IsOrdinary) (OfType id) (type_args ids) (names_type IsOrdinary id t e names (ordinary_name e.generic (generic_named e.generic) refl told)) members,
            ap suc count,
          )
      by t e names true told (inr (not_all, none)) =
          inr (
            ap (λ x. x && all_ordinary (all_generics ds) (positions_of ds ids)) (ap is_ordinary (generic_of_named id t e names) ∙ told) ∙ not_all,
            λ each. none (all_tail (NamesType ds IsOrdinary) (OfType id) (type_args ids) each),
          )
      by t e names false told rest =
          inr (
            ap (λ x. x && all_ordinary (all_generics ds) (positions_of ds ids)) (ap is_ordinary (generic_of_named id t e names) ∙ told),
            λ each. true≢false (sym (is_ordinary_name e.generic (generic_named e.generic) refl
                (type_named IsOrdinary id t e names (all_head (NamesType ds IsOrdinary) (OfType id) (type_args ids) each))) ∙ told),
          )

  members_are : (members : List Arg) → All (NamesType ds IsOrdinary) members → (ids : List (List ℕ)) × (members ≡ type_args ids)
  members_are [] each = ([], refl)
  members_are (arg ∷ members) each =
      let first = all_head (NamesType ds IsOrdinary) arg members each in
      let rest = members_are members (all_tail (NamesType ds IsOrdinary) arg members each) in
      (first.id ∷ rest.0, ap (λ x. x ∷ members) first.arg_is ∙ ap (λ l. OfType first.id ∷ l) rest.1)

  -- two types, or more, are nothing that is taken
  two_types : (a b : List ℕ) (ids : List (List ℕ)) (args : List Arg) → args ≡ OfType a ∷ OfType b ∷ type_args ids → IsGiven givens.Other args
  two_types a b ids args is = (
    λ none. cons-nil _ _ (sym is ∙ none),
    λ id single. cons-nil _ _ (ap tail_of (sym is ∙ single)),
    λ name members user each. true≢false (ap first_is_type (sym is ∙ user)),
  )

  types_given : (ids : List (List ℕ)) (args : List Arg) → args ≡ type_args ids → AreKnown ds ids → IsGiven (given_types (all_generics ds) (positions_of ds ids)) args
  types_given [] args is known = is
  types_given (id ∷ []) args is known =
      let place = declared_place ds id (known 0 id refl) in
      let named = named_at ds id place.0 place.1 in
      subst (λ o. IsGiven (given_types (all_generics ds) (cons_option o [])) args) (sym place.1)
      (id, place.0, named.0, is, named.1, generic_of_named id place.0 named.0 named.1)
  types_given (a ∷ b ∷ ids) args is known =
      let first = declared_place ds a (known 0 a refl) in
      let second = declared_place ds b (known 1 b refl) in
      subst (λ o. IsGiven (given_types (all_generics ds) (cons_option o (cons_option (place_of (ids_of ds) b) (positions_of ds ids)))) args) (sym first.1)
      (subst (λ o. IsGiven (given_types (all_generics ds) (first.0 ∷ cons_option o (positions_of ds ids))) args) (sym second.1) (two_types a b ids args is))

  members_given_right : (name : List ℕ) (ids : List (List ℕ)) (args : List Arg) → args ≡ User name ∷ type_args ids → AreKnown ds ids
      → IsGiven (given_members (all_ordinary (all_generics ds) (positions_of ds ids)) (length (positions_of ds ids))) args
  members_given_right name ids args is known = by (ordinary_members ids known)
    where
      by : ((all_ordinary (all_generics ds) (positions_of ds ids) ≡ true) × All (NamesType ds IsOrdinary) (type_args ids) × (length (type_args ids) ≡ length (positions_of ds ids)))
          ⊎ ((all_ordinary (all_generics ds) (positions_of ds ids) ≡ false) × (All (NamesType ds IsOrdinary) (type_args ids) → ⊥))
          → IsGiven (given_members (all_ordinary (all_generics ds) (positions_of ds ids)) (length (positions_of ds ids))) args
      by (inl (each, members, count)) =
          subst (λ b. IsGiven (given_members b (length (positions_of ds ids))) args) (sym each) (name, type_args ids, is, members, count)
      by (inr (not_all, none)) =
          subst (λ b. IsGiven (given_members b (length (positions_of ds ids))) args) (sym not_all) (
            (λ e. cons-nil _ _ (sym is ∙ e)),
            (λ id single. true≢false (ap first_is_type (sym single ∙ is))),
            λ other members user each. none (subst (All (NamesType ds IsOrdinary)) (ap tail_of (sym user ∙ is)) each),
          )

  pub given_right : (form : Form) (args : List Arg) → IsForm form args → AreKnown ds (named_types args) → IsGiven (given_of form (all_generics ds) (positions_of ds (named_types args))) args
  given_right forms.Types args is known = types_given (named_types args) args is known
  given_right (forms.User name) args is known = members_given_right name.now (named_types args) args is known
  given_right forms.Other args is known = (
    (λ e. is None [] e),
    (λ id e. is None (id ∷ []) e),
    λ name members user each. let ids = members_are members each in is (Some name) ids.0 (user ∙ ap (λ l. User name ∷ l) ids.1),
  )

  -- ---- what is given fits

  nothing_fits : (made : TypeKind) (given : Given) (args : List Arg) (kind : TypeKind) → IsGiven given args → nothing_given made given ≡ Some kind → args ≡ []
  nothing_fits made givens.Nothing args kind is told = is
  nothing_fits made _ args kind is told = absurd (none-some kind told)

  number_fits : (made : Num → TypeKind) (given : Given) (args : List Arg) (kind : TypeKind) → IsGiven given args → number_given made given ≡ Some kind → OneType ds IsNumber args
  number_fits made (givens.One (Some (generics.Number num))) args kind (id, t, e, is, names, generic) told =
      (OfType id, is, names_type IsNumber id t e names (num, named_right e.generic (generics.Number num) (sym generic)))
  number_fits made _ args kind is told = absurd (none-some kind told)

  when_true : (b : Bool) (made kind : TypeKind) → if_true b made ≡ Some kind → b ≡ true
  when_true true made kind told = refl
  when_true false made kind told = absurd (none-some kind told)

  type_fits : (made : TypeKind) (given : Given) (args : List Arg) (kind : TypeKind) → IsGiven given args → type_given made given ≡ Some kind → OneType ds IsOrdinary args
  type_fits made (givens.One generic) args kind (id, t, e, is, names, same) told =
      (OfType id, is, names_type IsOrdinary id t e names (ordinary_name e.generic generic (sym same) (when_true (is_ordinary generic) made kind told)))
  type_fits made _ args kind is told = absurd (none-some kind told)

  initialized_fits : (made : TypeKind) (given : Given) (args : List Arg) (kind : TypeKind) → IsGiven given args → initialized_given made given ≡ Some kind → OneType ds IsInitialized args
  initialized_fits made (givens.One generic) args kind (id, t, e, is, names, same) told =
      (OfType id, is, names_type IsInitialized id t e names (initialized_name e.generic generic (sym same) (when_true (is_initialized generic) made kind told)))
  initialized_fits made _ args kind is told = absurd (none-some kind told)

  members_fit : (given : Given) (args : List Arg) (kind : TypeKind) → IsGiven given args → members_given given ≡ Some kind → FitsGeneric ds generics.Struct args
  members_fit (givens.Members n) args kind (name, members, is, each, count) told = (members, (name, is, each))
  members_fit _ args kind is told = absurd (none-some kind told)

  variants_fit : (given : Given) (args : List Arg) (kind : TypeKind) → IsGiven given args → variants_given given ≡ Some kind → FitsGeneric ds generics.Enum args
  variants_fit (givens.Members (suc n)) args kind (name, [], is, each, count) told = absurd (omega (arith, count))
  variants_fit (givens.Members (suc n)) args kind (name, variant ∷ more, is, each, count) told = (variant, more, (name, is, each))
  variants_fit _ args kind is told = absurd (none-some kind told)

  pub kind_fits : (g : Generic) (given : Given) (args : List Arg) (kind : TypeKind) → IsGiven given args → kind_given g given ≡ Some kind → FitsGeneric ds g args
  kind_fits (generics.Number num) given args kind = nothing_fits (kinds.Number num) given args kind
  kind_fits generics.RangeCheck given args kind = nothing_fits kinds.RangeCheck given args kind
  kind_fits generics.GasBuiltin given args kind = nothing_fits kinds.GasBuiltin given args kind
  kind_fits generics.NonZero given args kind = number_fits (λ num. kinds.NonZero num) given args kind
  kind_fits generics.Box given args kind = type_fits kinds.Box given args kind
  kind_fits generics.Array given args kind = type_fits kinds.Array given args kind
  kind_fits generics.Snapshot given args kind = type_fits kinds.Snapshot given args kind
  kind_fits generics.Struct given args kind = members_fit given args kind
  kind_fits generics.Enum given args kind = variants_fit given args kind
  kind_fits generics.Dict given args kind = number_fits (λ num. kinds.Dict num) given args kind
  kind_fits generics.DictEntry given args kind = number_fits (λ num. kinds.DictEntry num) given args kind
  kind_fits generics.SquashedDict given args kind = number_fits (λ num. kinds.SquashedDict num) given args kind
  kind_fits generics.Uninitialized given args kind = initialized_fits kinds.Uninitialized given args kind

  -- ---- what fits is given

  fits_nothing : (made : TypeKind) (given : Given) (args : List Arg) → IsGiven given args → args ≡ [] → (kind : TypeKind) × (nothing_given made given ≡ Some kind)
  fits_nothing made givens.Nothing args is none = (made, refl)
  fits_nothing made (givens.One generic) args (id, t, e, is, names, same) none = absurd (cons-nil _ _ (sym is ∙ none))
  fits_nothing made (givens.Members n) args (name, members, is, each, count) none = absurd (cons-nil _ _ (sym is ∙ none))
  fits_nothing made givens.Other args is none = absurd (is.0 none)

  pub record Single (Is : List ℕ → Type 0) (given : Given) : Type 0 where
    pub name : List ℕ
    pub given_is : given ≡ givens.One (generic_named name)
    pub right : Is name

  single : (Is : List ℕ → Type 0) (given : Given) (args : List Arg) → IsGiven given args → OneType ds Is args → Single Is given
  single Is givens.Nothing args is (arg, one, n) = absurd (cons-nil _ _ (sym one ∙ is))
  single Is (givens.One generic) args (id, t, e, is, names, same) (arg, one, n) =
      let heads : OfType id ≡ arg = ap (λ l. get_or l 0 arg) (sym is ∙ one) in
      record { name = e.generic; given_is = ap givens.One same; right = type_named Is id t e names (subst (NamesType ds Is) (sym heads) n) }
  single Is (givens.Members n) args (name, members, is, each, count) (arg, one, m) =
      absurd (true≢false (ap first_is_type (sym (one ∙ ap (λ x. x ∷ []) m.arg_is) ∙ is)))
  single Is givens.Other args is (arg, one, n) = absurd (is.1 n.id (one ∙ ap (λ x. x ∷ []) n.arg_is))

  fits_type : (made : TypeKind) (given : Given) (args : List Arg) → IsGiven given args → OneType ds IsOrdinary args → (kind : TypeKind) × (type_given made given ≡ Some kind)
  fits_type made given args is fits =
      let s = single IsOrdinary given args is fits in
      (made, ap (type_given made) s.given_is ∙ ap (λ b. if_true b made) (is_ordinary_name s.name (generic_named s.name) refl s.right))

  fits_initialized : (made : TypeKind) (given : Given) (args : List Arg) → IsGiven given args → OneType ds IsInitialized args → (kind : TypeKind) × (initialized_given made given ≡ Some kind)
  fits_initialized made given args is fits =
      let s = single IsInitialized given args is fits in
      (made, ap (initialized_given made) s.given_is ∙ ap (λ b. if_true b made) (is_initialized_name s.name (generic_named s.name) refl s.right))

  fits_number : (made : Num → TypeKind) (given : Given) (args : List Arg) → IsGiven given args → OneType ds IsNumber args → (kind : TypeKind) × (number_given made given ≡ Some kind)
  fits_number made given args is fits =
      let s = single IsNumber given args is fits in
      (made s.right.0, ap (number_given made) s.given_is ∙ ap (λ o. number_given made (givens.One o)) (ap generic_named s.right.1 ∙ named-name (generics.Number s.right.0)))

  fits_members : (given : Given) (args members : List Arg) → IsGiven given args → (name : List ℕ) → args ≡ User name ∷ members → All (NamesType ds IsOrdinary) members → given ≡ givens.Members (length members)
  fits_members givens.Nothing args members is name user each = absurd (cons-nil _ _ (sym user ∙ is))
  fits_members (givens.One generic) args members (id, t, e, is, names, same) name user each = absurd (true≢false (ap first_is_type (sym is ∙ user)))
  fits_members (givens.Members n) args members (other, others, is, each, count) name user all = ap givens.Members (sym count ∙ ap length (ap tail_of (sym is ∙ user)))
  fits_members givens.Other args members is name user each = absurd (is.2 name members user each)

  pub fits_kind : (g : Generic) (given : Given) (args : List Arg) → IsGiven given args → FitsGeneric ds g args → (kind : TypeKind) × (kind_given g given ≡ Some kind)
  fits_kind (generics.Number num) given args = fits_nothing (kinds.Number num) given args
  fits_kind generics.RangeCheck given args = fits_nothing kinds.RangeCheck given args
  fits_kind generics.GasBuiltin given args = fits_nothing kinds.GasBuiltin given args
  fits_kind generics.NonZero given args = fits_number (λ num. kinds.NonZero num) given args
  fits_kind generics.Box given args = fits_type kinds.Box given args
  fits_kind generics.Array given args = fits_type kinds.Array given args
  fits_kind generics.Snapshot given args = fits_type kinds.Snapshot given args
  fits_kind generics.Struct given args = λ is fits. (kinds.Struct, ap members_given (fits_members given args fits.0 is fits.1.0 fits.1.1 fits.1.2))
  fits_kind generics.Enum given args = λ is fits. (kinds.Enum, ap variants_given (fits_members given args (fits.0 ∷ fits.1) is fits.2.0 fits.2.1 fits.2.2))
  fits_kind generics.Dict given args = fits_number (λ num. kinds.Dict num) given args
  fits_kind generics.DictEntry given args = fits_number (λ num. kinds.DictEntry num) given args
  fits_kind generics.SquashedDict given args = fits_number (λ num. kinds.SquashedDict num) given args
  fits_kind generics.Uninitialized given args = fits_initialized kinds.Uninitialized given args
