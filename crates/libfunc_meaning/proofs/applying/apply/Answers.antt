use Rattle.std.proofs.Common.{ℕ, List, Result, Ok, Err, IfOk, map}
use Rattle.std.specs.Global.{Vec}
use Rattle.libfunc_registry.specs.Fam.{Fam, takes, fam_of}
use Rattle.value_trees.specs.Meant.{meant}
use Rattle.value_trees.specs.Val.{Plain}
use Rattle.value_trees.specs.declared.value.Value.{Value}
use Rattle.libfunc_meaning.specs.Dictionaries.{mapped}
use Rattle.libfunc_meaning.specs.Do.{Do}
use Rattle.libfunc_meaning.specs.Mapped.{plain_does}
use Rattle.libfunc_meaning.specs.Placed.{ArePlain, IsAnswer}
use Rattle.libfunc_meaning.proofs.Answering.{plain_done}
use Rattle.libfunc_meaning.proofs.Declared.{declared_is_proper}
use Rattle.libfunc_meaning.proofs.Short.{short_is_counted}
use Rattle.libfunc_meaning.proofs.applying.apply.Goals as goal

answered : {E : Type 0} (fam : Fam) (vs : List Plain) (amount : ℕ) (r : Result (ℕ × Vec Value) E) → ArePlain (takes fam) vs
    → IfOk r (IsAnswer (plain_does fam vs amount)) → IfOk r (λ a. Do mapped fam vs amount a.0 (map meant a.1.items))
answered fam vs amount (Ok a) h is = plain_done fam vs amount a.0 (map meant a.1.items) h is
answered fam vs amount (Err e) h is = tt

pub applied-requires-clause-asked : goal.applied-requires-clause-asked
applied-requires-clause-asked c =
    record { proper = declared_is_proper _ c.requires.signature.0 _ c.requires.signature.1; no_call = c.requires.no_call; counted = short_is_counted _ _ c.requires.short }

pub returns : goal.returns
returns c = answered (fam_of c.args.types.now c.args.sig.now.libfunc) (map meant c.args.values.items) c.args.amount c.applied.result c.requires.typed c.applied.ensures
