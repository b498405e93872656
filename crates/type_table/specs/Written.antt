-- Declarations as they are written, apart from their ids.
use Rattle.std.specs.Prelude.{ℕ, List, Bool, true, false, ◌&&◌, Option, Some, None, option_map, bytes_eq}
use Rattle.std.specs.List.{list_any}
use Rattle.type_table.specs.declared.kind.TypeKind.{TypeKind}
use Rattle.type_table.specs.declared.kind.TypeKind.TheVariants as kinds
use Rattle.type_table.specs.declared.written.Written.{Written}
use Rattle.type_table.specs.Lookups.{same_num}

pub record WrittenView : Type 0 where
  pub kind : TypeKind
  pub user : Option (List ℕ)
  pub targets : List ℕ

abbrev pub written_view : Written → WrittenView
written_view w = record { kind = w.kind; user = option_map (λ v. v.items) w.user; targets = w.targets.items }

abbrev pub same_kind : TypeKind → TypeKind → Bool
same_kind (kinds.Number a) (kinds.Number b) = same_num a b
same_kind (kinds.NonZero a) (kinds.NonZero b) = same_num a b
same_kind kinds.RangeCheck kinds.RangeCheck = true
same_kind kinds.GasBuiltin kinds.GasBuiltin = true
same_kind kinds.Box kinds.Box = true
same_kind kinds.Array kinds.Array = true
same_kind kinds.Snapshot kinds.Snapshot = true
same_kind kinds.Struct kinds.Struct = true
same_kind kinds.Enum kinds.Enum = true
same_kind (kinds.Dict a) (kinds.Dict b) = same_num a b
same_kind (kinds.DictEntry a) (kinds.DictEntry b) = same_num a b
same_kind (kinds.SquashedDict a) (kinds.SquashedDict b) = same_num a b
same_kind kinds.Uninitialized kinds.Uninitialized = true
same_kind _ _ = false

abbrev pub same_user : Option (List ℕ) → Option (List ℕ) → Bool
same_user None None = true
same_user (Some a) (Some b) = bytes_eq a b
same_user _ _ = false

abbrev pub same_written : WrittenView → WrittenView → Bool
same_written a b = same_kind a.kind b.kind && (same_user a.user b.user && bytes_eq a.targets b.targets)

abbrev pub has_written : List WrittenView → WrittenView → Bool
has_written ws w = list_any (same_written w) ws
