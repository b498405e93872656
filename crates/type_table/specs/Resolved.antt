-- What is known of declarations before their sizes and abilities are looked at.
use Rattle.std.specs.Prelude.{ℕ, ◌≡◌, ◌↔◌, List, true, false, map, length, Option, Some, Result, Ok, Err, slice_get, slice_index_or}
use Rattle.graph_cycles.specs.Cycles.{HasEachOnce, TargetsFirst, TellsCycles}
use Rattle.sierra_types.specs.declared.program.TypeDecl.{TypeDecl}
use Rattle.type_table.specs.declared.generic.Generic.{Generic}
use Rattle.type_table.specs.declared.kind.TypeKind.{TypeKind}
use Rattle.type_table.specs.declared.forms.Form.{Form}
use Rattle.type_table.specs.declared.rules.TypeRule.{TypeRule}
use Rattle.type_table.specs.declared.resolved.Resolved.{Resolved}
use Rattle.type_table.specs.Naming.{IsDeclared, place_of, ids_of}
use Rattle.type_table.specs.Named.{generic_named}
use Rattle.type_table.specs.IsType.{IsRepeated}
use Rattle.type_table.specs.Refusals.{named_types, arguments}
use Rattle.type_table.specs.Lookups.{found, names_in, AreNumbered}
use Rattle.type_table.specs.Forms.{IsForm, given_of, kind_given}
use Rattle.type_table.specs.Rows.{targets}
use Rattle.type_table.specs.Found.{BreaksFirst}

module _ (ds : List TypeDecl) where
  -- the generic type of each declaration
  abbrev pub all_generics : List (Option Generic)
  all_generics = map (λ d. generic_named d.generic) ds

  -- each id is that of a declared type
  abbrev pub AreKnown : List (List ℕ) → Type 0
  AreKnown ids = (k : ℕ) (id : List ℕ) → slice_get ids k ≡ Some id → IsDeclared ds id

  -- a declaration whose names are known, and whose arguments fit a kind of type
  pub record IsClear (d : TypeDecl) (g : Generic) (form : Form) (kind : TypeKind) : Type 0 where
    pub generic : generic_named d.generic ≡ Some g
    pub form_right : IsForm form d.args
    pub known : AreKnown (named_types d.args)
    pub kind_is : kind_given g (given_of form all_generics (targets ds d)) ≡ Some kind

  abbrev pub IsKindRight : ℕ → TypeDecl → Result TypeKind TypeRule → Type 0
  IsKindRight i d (Ok kind) = (g : Generic) × (form : Form) × IsClear d g form kind
  IsKindRight i d (Err rule) = BreaksFirst ds i d rule

  pub record IsResolved (r : Resolved) : Type 0 where
    pub first : (id : List ℕ) → found r.positions id ≡ place_of (ids_of ds) id
    pub graph : r.graph ≡ arguments ds
    pub each_kind : length r.kinds.items ≡ length ds
    pub kinds : (i : ℕ) (d : TypeDecl) (kind : Result TypeKind TypeRule) → slice_get ds i ≡ Some d → slice_get r.kinds.items i ≡ Some kind → IsKindRight i d kind
    pub each_repeated : length r.repeated.items ≡ length ds
    pub repeated : (i : ℕ) (d : TypeDecl) (kind : TypeKind) → slice_get ds i ≡ Some d → slice_get r.kinds.items i ≡ Some (Ok kind)
        → (slice_index_or r.repeated.items i false ≡ true) ↔ IsRepeated ds i d
    pub listed : ((i : ℕ) (d : TypeDecl) → slice_get ds i ≡ Some d → IsRepeated ds i d → ⊥) → (names_in r.positions ≡ ids_of ds) × AreNumbered r.positions
    pub cyclic : TellsCycles (arguments ds) r.cycles.cyclic
    pub each_once : HasEachOnce (length ds) r.cycles.order
    pub targets_first : TargetsFirst (arguments ds) r.cycles.order
