-- What each step of the showing makes of what is shown.
use Rattle.std.proofs.Common.{◌≡◌, ℕ, suc, ◌-◌, List, [], ◌∷◌, drop, take, length, get_or, Option, None, Result, Ok, Err, option_map, ◌==◌, true, false, true≢false, refl, sym, ap, ◌∙◌, subst, arith}
use Rattle.std.proofs.Math.Seq.{take-length}
use Rattle.std.specs.Result.{IsErrAnd}
use Rattle.std.proofs.lemmas.Bool.{ne_eqb}
use Rattle.type_trees.specs.Ty.{Ty, Tys}
use Rattle.type_trees.specs.declared.num.Num.{Num}
use Rattle.type_table.specs.declared.kind.TypeKind.{TypeKind}
use Rattle.type_table.specs.declared.kind.TypeKind.TheVariants as kinds
use Rattle.value_trees.specs.Val.{Plain, vals_of}
use Rattle.value_trees.specs.Val as val
use Rattle.cell_forms.specs.Showing.{Shows, shown_variant, enum_in, shown_of_kind}
use Rattle.cell_forms.specs.declared.showing.ShowFault.{ShowFault}
use Rattle.cell_forms.specs.declared.showing.ShowFault.TheVariants as faults

-- a fault of a part is passed on
pub passes : {X Y A B : Type 0} (view : X → A) (other : Y → B) (fault : ShowFault) (result : Result Y ShowFault) (part : Option A) (whole : Option B)
    → IsErrAnd result (λ e. e ≡ fault) → (part ≡ None → whole ≡ None) → Shows view (Err fault) part → Shows other result whole
passes view other fault (Ok value) part whole is none h = absurd is
passes {X} {Y} {A} {B} view other fault (Err e) part whole is none h = subst (λ s. Shows other (Err s) whole) (sym is) (go fault h)
  where
    go : (s : ShowFault) → Shows view (Err s) part → Shows other (Err s) whole
    go faults.NoValue h = none h
    go faults.Memory h = tt

pub enum_empty : (tys : Tys) (cells : List ℕ) → (length cells == 0) ≡ true → enum_in tys cells ≡ None
unfolding enum_in
enum_empty tys [] none = refl
enum_empty tys (n ∷ cells) none = absurd (true≢false (sym none ∙ ne_eqb (suc (length cells)) 0 (λ z. omega (arith, z))))

-- a selector, and what is shown of the variant that it names
pub enum_of : (tys : Tys) (cells : List ℕ) (d i : ℕ) (o : Option Plain) → (length cells == 0) ≡ false → i ≡ get_or cells 0 d → shown_variant tys i (drop 1 cells) ≡ o
    → enum_in tys cells ≡ option_map (val.enum i) o
unfolding enum_in
enum_of tys [] d i o some is shows = absurd (true≢false some)
enum_of tys (index ∷ cells) d i o some is shows = ap (λ n. option_map (val.enum n) (shown_variant tys n cells)) (sym is) ∙ ap (option_map (val.enum i)) shows

-- the cells behind the first
pub behind_first : (cells : List ℕ) → take (length cells - 1) (drop 1 cells) ≡ drop 1 cells
behind_first [] = refl
behind_first (n ∷ cells) = ap (λ k. take k cells) (less (length cells)) ∙ take-length cells
  where
    less : (k : ℕ) → suc k - 1 ≡ k
    less k = omega arith

-- of other kinds nothing is shown
pub nothing : (kind : TypeKind) (tys : List Ty) (cells : List ℕ) → ((k : Num) → kind ≡ kinds.Number k → ⊥) → (kind ≡ kinds.Struct → ⊥) → (kind ≡ kinds.Enum → ⊥)
    → shown_of_kind kind tys cells ≡ None
nothing (kinds.NonZero k) tys cells other_number other_struct other_enum = refl
nothing kinds.RangeCheck tys cells other_number other_struct other_enum = refl
nothing kinds.GasBuiltin tys cells other_number other_struct other_enum = refl
nothing kinds.Box tys cells other_number other_struct other_enum = refl
nothing kinds.Array tys cells other_number other_struct other_enum = refl
nothing kinds.Snapshot tys cells other_number other_struct other_enum = refl
nothing (kinds.Dict k) tys cells other_number other_struct other_enum = refl
nothing (kinds.DictEntry k) tys cells other_number other_struct other_enum = refl
nothing (kinds.SquashedDict k) tys cells other_number other_struct other_enum = refl
nothing kinds.Uninitialized tys cells other_number other_struct other_enum = refl
nothing (kinds.Number k) tys cells other_number other_struct other_enum = absurd (other_number k refl)
nothing kinds.Struct tys cells other_number other_struct other_enum = absurd (other_struct refl)
nothing kinds.Enum tys cells other_number other_struct other_enum = absurd (other_enum refl)
