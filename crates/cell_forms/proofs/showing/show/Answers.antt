use Rattle.std.proofs.Common.{◌≡◌, ℕ, IsTrue, false, List, length, Option, Some, map, Result, Ok, Err, IfOk, subst}
use Rattle.std.specs.FinMap as finmap
use Rattle.type_trees.specs.Ty.{Ty, is_plain, holds_array, size}
use Rattle.type_table.specs.View.{tree_of}
use Rattle.value_trees.specs.Meant.{meant}
use Rattle.value_trees.specs.Val.{Plain}
use Rattle.value_trees.specs.declared.value.Value.{Value}
use Rattle.cell_forms.specs.Showing.{Shows, shown}
use Rattle.cell_forms.specs.Standing.{PlainStands, any}
use Rattle.cell_forms.specs.declared.showing.ShowFault.{ShowFault}
use Rattle.cell_forms.specs.declared.showing.ShowFault.TheVariants as faults
use Rattle.cell_forms.proofs.ShowLaws.{shown_sound, none_stands}
use Rattle.cell_forms.proofs.showing.show.Goals as goal

module _ (m : ℕ → Option ℕ) (ty : Ty) (plain : IsTrue (is_plain ty)) (flat : holds_array ty ≡ false) (cells : List ℕ) (long : length cells ≡ size ty) where
  stands : (r : Result Value ShowFault) → Shows meant r (shown ty cells) → IfOk r (λ v. PlainStands any m ty (map (λ n. Some n) cells) (meant v))
  stands (Ok v) h = shown_sound m ty plain flat cells long (meant v) h
  stands (Err e) h = tt

  no_value : (r : Result Value ShowFault) → Shows meant r (shown ty cells) → r ≡ Err faults.NoValue → (v : Plain) → PlainStands any m ty (map (λ n. Some n) cells) v → ⊥
  no_value r h is = none_stands m ty plain flat cells (subst (λ s. Shows meant s (shown ty cells)) is h)

pub returns-clause-stands : goal.returns-clause-stands
returns-clause-stands c =
    stands (finmap.get c.args._m.now) (tree_of c.args.t.now c.args.ty.0) c.requires.plain c.requires.no_array c.args.cells.now c.requires.whole c.value_in.result c.value_in.ensures

pub returns-clause-no_value : goal.returns-clause-no_value
returns-clause-no_value c =
    no_value (finmap.get c.args._m.now) (tree_of c.args.t.now c.args.ty.0) c.requires.plain c.requires.no_array c.args.cells.now c.requires.whole c.value_in.result c.value_in.ensures
