-- Declared libfuncs have signatures, or the first that has none is refused: one of these, and in one way alone.
use Rattle.std.proofs.Common.{◌≡◌, ◌≢◌, ◌⊎◌, inl, inr, ℕ, List, [], ◌∷◌, Bool, true, false, Option, Some, None, refl, sym, ap, subst, ◌∙◌}
use Rattle.std.specs.List.{All, AllZip}
use Rattle.type_trees.specs.Ty.{Ty, range_check, gas_builtin, storable, droppable, duplicable, holds_dict}
use Rattle.sierra_types.specs.declared.program.LibfuncDecl.{LibfuncDecl}
use Rattle.type_table.specs.declared.type_id.TypeId.{TypeId}
use Rattle.type_table.specs.View.{TypesView, IsTable, HasTree}
use Rattle.libfunc_registry.specs.declared.libfunc.Libfunc.{Libfunc}
use Rattle.libfunc_registry.specs.declared.sig.Sig.{Sig}
use Rattle.libfunc_registry.specs.declared.sig.SigFault.{SigFault}
use Rattle.libfunc_registry.specs.declared.sig.SigFault.TheVariants as faults
use Rattle.libfunc_registry.specs.Control as controls
use Rattle.libfunc_registry.specs.Data as parts
use Rattle.libfunc_registry.specs.Fam.{Fam, control, gas, felts, integers, data_, arrays, dictionaries, IsFamily, IsWritten, fam_of, takes, gives, IsAble, HasSnapshot}
use Rattle.libfunc_registry.specs.Reading.{read_all}
use Rattle.libfunc_registry.specs.Refusals.{Refused, FirstFault}
use Rattle.libfunc_registry.specs.Signature.{AreTrees, IsDeclared, HasSignature, HasSignatures}
use Rattle.libfunc_registry.proofs.Readings.{read-no_family, read-family, read-written, none_written, one_written}
use Rattle.libfunc_registry.proofs.SameTypes.{OrNot, same_type, trees_or_not, branches_or_not}
use Rattle.libfunc_registry.proofs.Signed.{signed_declared, signed, positions_declared}

-- positions of the same types are the same
one_list : (t : TypesView) → IsTable t → (a b : List TypeId) (tys : List Ty) → AreTrees t a tys → AreTrees t b tys → a ≡ b
one_list t kept [] [] [] as_a as_b = refl
one_list t kept [] (y ∷ b) [] as_a as_b = absurd as_b
one_list t kept (x ∷ a) b [] as_a as_b = absurd as_a
one_list t kept [] b (ty ∷ tys) as_a as_b = absurd as_a
one_list t kept (x ∷ a) [] (ty ∷ tys) as_a as_b = absurd as_b
one_list t kept (x ∷ a) (y ∷ b) (ty ∷ tys) as_a as_b =
    let first : x ≡ y = ap (λ i. record { 0 = i }) (kept.tree_once x.0 y.0 ty as_a.0 as_b.0) in
    ap (λ z. z ∷ a) first ∙ ap (λ zs. y ∷ zs) (one_list t kept a b tys as_a.1 as_b.1)

one_list_each : (t : TypesView) → IsTable t → (a b : List (List TypeId)) (tyss : List (List Ty)) → AllZip (AreTrees t) a tyss → AllZip (AreTrees t) b tyss → a ≡ b
one_list_each t kept [] [] [] as_a as_b = refl
one_list_each t kept [] (y ∷ b) [] as_a as_b = absurd as_b
one_list_each t kept (x ∷ a) b [] as_a as_b = absurd as_a
one_list_each t kept [] b (tys ∷ tyss) as_a as_b = absurd as_a
one_list_each t kept (x ∷ a) [] (tys ∷ tyss) as_a as_b = absurd as_b
one_list_each t kept (x ∷ a) (y ∷ b) (tys ∷ tyss) as_a as_b =
    ap (λ z. z ∷ a) (one_list t kept x y tys as_a.0 as_b.0) ∙ ap (λ zs. y ∷ zs) (one_list_each t kept a b tyss as_a.1 as_b.1)

one_sig : (t : TypesView) → IsTable t → (d : LibfuncDecl) (a b : Sig) → HasSignature t d a → HasSignature t d b → a ≡ b
one_sig t kept d a b has_a has_b =
    let libfunc : a.libfunc ≡ b.libfunc = one_written t kept d.generic d.args a.libfunc b.libfunc has_a.written has_b.written in
    let params : a.params ≡ b.params =
    one_list t kept a.params b.params (takes (fam_of t b.libfunc)) (subst (λ l. AreTrees t a.params (takes (fam_of t l))) libfunc has_a.params) has_b.params in
    let branches : a.branches ≡ b.branches =
    one_list_each t kept a.branches b.branches (gives (fam_of t b.libfunc)) (subst (λ l. AllZip (AreTrees t) a.branches (gives (fam_of t l))) libfunc has_a.branches) has_b.branches in
    ap (λ l. with_parts l a.params a.branches) libfunc ∙ ap (λ ps. with_parts b.libfunc ps a.branches) params ∙ ap (λ bs. with_parts b.libfunc b.params bs) branches
  where
    with_parts : Libfunc → List TypeId → List (List TypeId) → Sig
    with_parts l ps bs = record { libfunc = l; params = ps; branches = bs }

-- a declaration that has a signature isn't refused
never_refused : (t : TypesView) → IsTable t → (d : LibfuncDecl) (sig : Sig) (fault : SigFault) → HasSignature t d sig → Refused t d fault → ⊥
never_refused t kept d sig (faults.UnknownLibfunc name) has (same, unknown) = unknown (has.written.0, has.written.1)
never_refused t kept d sig (faults.BadArgs id) has (same, family, none) = none sig.libfunc has.written (signed_declared t d sig has)
never_refused t kept d sig (faults.AbilityMissing id) has (same, l, written, declared, unable) =
    unable (subst (λ m. IsAble (fam_of t m)) (one_written t kept d.generic d.args sig.libfunc l has.written written) has.able)
never_refused t kept d sig faults.Memory has refused = absurd refused

-- a declaration is refused in one way
one_refusal : (t : TypesView) → IsTable t → (d : LibfuncDecl) (a b : SigFault) → Refused t d a → Refused t d b → a ≡ b
one_refusal t kept d (faults.UnknownLibfunc x) (faults.UnknownLibfunc y) (p, unknown) (q, unknown') = ap faults.UnknownLibfunc (p ∙ sym q)
one_refusal t kept d (faults.UnknownLibfunc x) (faults.BadArgs y) (p, unknown) (q, family, none) = absurd (unknown family)
one_refusal t kept d (faults.UnknownLibfunc x) (faults.AbilityMissing y) (p, unknown) (q, l, written, declared, unable) = absurd (unknown (written.0, written.1))
one_refusal t kept d (faults.UnknownLibfunc x) faults.Memory a_is b_is = absurd b_is
one_refusal t kept d (faults.BadArgs x) (faults.UnknownLibfunc y) (p, family, none) (q, unknown) = absurd (unknown family)
one_refusal t kept d (faults.BadArgs x) (faults.BadArgs y) (p, family, none) (q, family', none') = ap faults.BadArgs (p ∙ sym q)
one_refusal t kept d (faults.BadArgs x) (faults.AbilityMissing y) (p, family, none) (q, l, written, declared, unable) = absurd (none l written declared)
one_refusal t kept d (faults.BadArgs x) faults.Memory a_is b_is = absurd b_is
one_refusal t kept d (faults.AbilityMissing x) (faults.UnknownLibfunc y) (p, l, written, declared, unable) (q, unknown) = absurd (unknown (written.0, written.1))
one_refusal t kept d (faults.AbilityMissing x) (faults.BadArgs y) (p, l, written, declared, unable) (q, family, none) = absurd (none l written declared)
one_refusal t kept d (faults.AbilityMissing x) (faults.AbilityMissing y) (p, l, written, declared, unable) (q, l', written', declared', unable') = ap faults.AbilityMissing (p ∙ sym q)
one_refusal t kept d (faults.AbilityMissing x) faults.Memory a_is b_is = absurd b_is
one_refusal t kept d faults.Memory b a_is b_is = absurd a_is

true_or_not : (b : Bool) → OrNot (b ≡ true)
true_or_not true = inl refl
true_or_not false = inr (λ e. cc)

snapshot_or_not : (ty : Ty) → OrNot (HasSnapshot ty)
snapshot_or_not ty = elim (true_or_not (storable ty)) [
  | inr none ↦ inr (λ has. none has.stored)
  | inl stored ↦ elim (false_or_not (holds_dict ty)) [
    | inr none ↦ inr (λ has. none has.no_dict)
    | inl no_dict ↦ elim (same_type ty range_check) [
      | inl is ↦ inr (λ has. has.no_range_check is)
      | inr no_range_check ↦ elim (same_type ty gas_builtin) [
        | inl is ↦ inr (λ has. has.no_gas is)
        | inr no_gas ↦ inl (record { stored = stored; no_dict = no_dict; no_range_check = no_range_check; no_gas = no_gas })
      ]
    ]
  ]
]
  where
    false_or_not : (b : Bool) → OrNot (b ≡ false)
    false_or_not true = inr (λ e. cc)
    false_or_not false = inl refl

able_or_not : (fam : Fam) → OrNot (IsAble fam)
able_or_not (control (controls.dup ty)) = true_or_not (duplicable ty)
able_or_not (control (controls.drop ty)) = true_or_not (droppable ty)
able_or_not (control (controls.store_temp ty)) = true_or_not (storable ty)
able_or_not (control (controls.store_local ty)) = true_or_not (storable ty)
able_or_not (control (controls.alloc_local ty)) = true_or_not (storable ty)
able_or_not (data_ (parts.snapshot_take ty)) = snapshot_or_not ty
able_or_not fam = inl tt

-- a declaration has a signature, or it is refused
signed_or_refused : (t : TypesView) → IsTable t → (d : LibfuncDecl) → ((sig : Sig) × HasSignature t d sig) ⊎ ((fault : SigFault) × Refused t d fault)
signed_or_refused t kept d = elim (read_all t d.generic d.args) as (λ o. read_all t d.generic d.args ≡ o → ((sig : Sig) × HasSignature t d sig) ⊎ ((fault : SigFault) × Refused t d fault)) [
  | None ↦ λ e. inr (faults.UnknownLibfunc d.generic, (refl, read-no_family t d.generic d.args e))
  | Some made ↦ λ e. of made e
] refl
  where
    bad : (l : Libfunc) → read_all t d.generic d.args ≡ Some (Some l) → IsWritten t l d.generic d.args → (IsDeclared t (fam_of t l) → ⊥) → Refused t d (faults.BadArgs d.id)
    bad l e written none =
        (refl, read-family t d.generic d.args (Some l) e, λ m as_m declared. none (subst (λ k. IsDeclared t (fam_of t k)) (one_written t kept d.generic d.args m l as_m written) declared))

    named : (l : Libfunc) → read_all t d.generic d.args ≡ Some (Some l) → IsWritten t l d.generic d.args → ((sig : Sig) × HasSignature t d sig) ⊎ ((fault : SigFault) × Refused t d fault)
    named l e written = elim (trees_or_not t (takes (fam_of t l))) [
      | inr none ↦ inr (faults.BadArgs d.id, bad l e written (λ declared. none declared.takes))
      | inl params ↦ elim (branches_or_not t (gives (fam_of t l))) [
        | inr none ↦ inr (faults.BadArgs d.id, bad l e written (λ declared. none declared.gives))
        | inl branches ↦ elim (able_or_not (fam_of t l)) [
          | inl able ↦ inl (record { libfunc = l; params = params.0; branches = branches.0 }, record { written = written; params = params.1; branches = branches.1; able = able })
          | inr unable ↦ inr (faults.AbilityMissing d.id, (refl, l, written, positions_declared t l (record { libfunc = l; params = params.0; branches = branches.0 }) (record { same = refl; params = params.1; branches = branches.1 }), unable))
        ]
      ]
    ]

    of : (made : Option Libfunc) → read_all t d.generic d.args ≡ Some made → ((sig : Sig) × HasSignature t d sig) ⊎ ((fault : SigFault) × Refused t d fault)
    of None e = inr (faults.BadArgs d.id, (refl, read-family t d.generic d.args None e, λ l written _. none_written t kept d.generic d.args l e written))
    of (Some l) e = named l e (read-written t d.generic d.args l e)

pub signatures_or_fault : (t : TypesView) → IsTable t → (ds : List LibfuncDecl) → ((sigs : List Sig) × HasSignatures t ds sigs) ⊎ ((fault : SigFault) × FirstFault t ds fault)
signatures_or_fault t kept [] = inl ([], tt)
signatures_or_fault t kept (d ∷ ds) = elim (signed_or_refused t kept d) [
  | inr refused ↦ inr (refused.0, inl refused.1)
  | inl has ↦ elim (signatures_or_fault t kept ds) [
    | inl more ↦ inl (has.0 ∷ more.0, (has.1, more.1))
    | inr later ↦ inr (later.0, inr (has.0, has.1, later.1))
  ]
]

pub never_both : (t : TypesView) → IsTable t → (ds : List LibfuncDecl) (sigs : List Sig) (fault : SigFault) → HasSignatures t ds sigs → FirstFault t ds fault → ⊥
never_both t kept [] sigs fault has refused = refused
never_both t kept (d ∷ ds) [] fault has refused = has
never_both t kept (d ∷ ds) (sig ∷ sigs) fault has (inl refused) = never_refused t kept d sig fault has.0 refused
never_both t kept (d ∷ ds) (sig ∷ sigs) fault has (inr later) = never_both t kept ds sigs fault has.1 later.2

pub one_fault : (t : TypesView) → IsTable t → (ds : List LibfuncDecl) (a b : SigFault) → FirstFault t ds a → FirstFault t ds b → a ≡ b
one_fault t kept [] a b as_a as_b = absurd as_a
one_fault t kept (d ∷ ds) a b (inl as_a) (inl as_b) = one_refusal t kept d a b as_a as_b
one_fault t kept (d ∷ ds) a b (inl as_a) (inr later) = absurd (never_refused t kept d later.0 a later.1 as_a)
one_fault t kept (d ∷ ds) a b (inr later) (inl as_b) = absurd (never_refused t kept d later.0 b later.1 as_b)
one_fault t kept (d ∷ ds) a b (inr later) (inr later') = one_fault t kept ds a b later.2 later'.2

pub one_signature : (t : TypesView) → IsTable t → (ds : List LibfuncDecl) (a b : List Sig) → HasSignatures t ds a → HasSignatures t ds b → a ≡ b
one_signature t kept [] [] [] as_a as_b = refl
one_signature t kept [] [] (y ∷ b) as_a as_b = absurd as_b
one_signature t kept [] (x ∷ a) b as_a as_b = absurd as_a
one_signature t kept (d ∷ ds) [] b as_a as_b = absurd as_a
one_signature t kept (d ∷ ds) (x ∷ a) [] as_a as_b = absurd as_b
one_signature t kept (d ∷ ds) (x ∷ a) (y ∷ b) as_a as_b =
    ap (λ z. z ∷ a) (one_sig t kept d x y as_a.0 as_b.0) ∙ ap (λ zs. y ∷ zs) (one_signature t kept ds a b as_a.1 as_b.1)
