use Rattle.std.proofs.Common.{map, subst}
use Rattle.type_trees.specs.Ty.{uninitialized}
use Rattle.type_table.specs.View.{tree_of}
use Rattle.libfunc_registry.specs.Fam.{fam_of, takes}
use Rattle.value_trees.specs.Meant.{meant}
use Rattle.libfunc_meaning.specs.Placed.{ArePlain}
use Rattle.libfunc_meaning.proofs.applying.applied.Goals as goal

pub stored-requires : goal.stored-requires
stored-requires c =
    let ty = tree_of c.args.types.now c.in-StoreLocal.field-0.0 in
    (uninitialized ty, ty, subst (λ l. ArePlain (takes (fam_of c.args.types.now l)) (map meant c.args.values.items)) c.in-StoreLocal.is c.requires.typed)

pub returns-in-ArrayNew : goal.returns-in-ArrayNew
returns-in-ArrayNew c = rw c.in-ArrayNew.is (c.array_new.ensures (tree_of c.args.types.now c.in-ArrayNew.field-0.0))

pub returns-in-ArrayAppend : goal.returns-in-ArrayAppend
returns-in-ArrayAppend c = rw c.in-ArrayAppend.is (c.array_append.ensures (tree_of c.args.types.now c.in-ArrayAppend.field-0.0))

pub returns-in-ArrayLen : goal.returns-in-ArrayLen
returns-in-ArrayLen c = rw c.in-ArrayLen.is (c.array_len.ensures (tree_of c.args.types.now c.in-ArrayLen.field-0.0))

pub returns-in-ArrayGet : goal.returns-in-ArrayGet
returns-in-ArrayGet c = rw c.in-ArrayGet.is (c.array_get.ensures (tree_of c.args.types.now c.in-ArrayGet.field-0.0))

pub returns-in-ArrayPopFront : goal.returns-in-ArrayPopFront
returns-in-ArrayPopFront c = rw c.in-ArrayPopFront.is (c.array_pop_front.ensures (tree_of c.args.types.now c.in-ArrayPopFront.field-0.0))
