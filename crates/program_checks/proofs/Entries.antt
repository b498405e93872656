-- Main is a function of its program.
use Rattle.std.proofs.Common.{◌≡◌, ℕ, ◌<◌, [], length, Option, Some, None, Ok, subst, refl}
use Rattle.std.specs.List.{slice_get}
use Rattle.std.specs.Option.{option_and_then}
use Rattle.std.proofs.lemmas.List.Quantifiers.{position-Some}
use Rattle.sierra_types.specs.declared.program.Program.{Program}
use Rattle.sierra_types.specs.declared.program.Function.{Function}
use Rattle.type_table.specs.View.{TypesView}
use Rattle.entry_check.specs.Entry.{is_main_name, main_of, other_type, unless_other, entry_at, entry_of}

-- what is answered of a place is the place
same_place : (other : Option ℕ) (place main : ℕ) → unless_other other place ≡ Ok main → place ≡ main
same_place None place main is = cc
same_place (Some k) place main is = absurd cc

place_below : (p : Program) (t : TypesView) (main : ℕ) (place : Option ℕ) → main_of p ≡ place → entry_at t place ≡ Ok main → main < length p.functions
place_below p t main None found is = absurd cc
place_below p t main (Some place) found is =
    let below = position-Some (λ (f : Function). is_main_name f.id) p.functions place (record { id = []; entry = 0; params = []; results = [] }) found in
    subst (λ (n : ℕ). n < length p.functions) (same_place (option_and_then (other_type t) (slice_get t.functions place)) place main is) below.0

pub entry_below : (p : Program) (t : TypesView) (main : ℕ) → entry_of p t ≡ Ok main → main < length p.functions
entry_below p t main is = place_below p t main (main_of p) refl is
