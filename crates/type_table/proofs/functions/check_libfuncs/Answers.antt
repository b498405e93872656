use Rattle.std.proofs.Common.{◌≡◌, ◌∙◌, ap, sym, refl, map, length, get_or, true, false, option_map, slice_get, Some, arith}
use Rattle.std.proofs.lemmas.Bool.{both_ways}
use Rattle.std.proofs.lemmas.List.{get_or_read}
use Rattle.std.proofs.lemmas.Option.{slice_get-map, slice_get_read}
use Rattle.type_table.specs.declared.fault.TypeFault.TheVariants as faults
use Rattle.type_table.proofs.FunctionLaws.{one_differs, all_differ}
use Rattle.type_table.proofs.functions.check_libfuncs.Goals as goal

pub returns-then-index-clause-refused : goal.returns-then-index-clause-refused
returns-then-index-clause-refused c =
    let libfuncs = c.args.libfuncs.now in
    let i = c.loop-i.i in
    let libfunc = c.index-libfuncs-i.result in
    let here : slice_get libfuncs i ≡ Some libfunc = slice_get_read libfuncs (length libfuncs) i libfunc refl c.loop-i-test.true c.index-libfuncs-i.is in
    let id_here : slice_get (map (λ e. e.id) libfuncs) i ≡ Some libfunc.id = slice_get-map (λ e. e.id) libfuncs i ∙ ap (option_map (λ e. e.id)) here in
    let flag : get_or c.in_ok-ids.ids.repeated.items i false ≡ true =
    sym (get_or_read c.in_ok-ids.ids.repeated.items i c.index.result.now (omega (arith, c.loop-i-test.true, c.in_ok-ids.ensures.each)) c.index.ensures false) ∙ c.if-index.true in
    λ _. record {
      at = i;
      libfunc = libfunc;
      here = here;
      repeated = (c.in_ok-ids.ensures.repeated i libfunc.id id_here).0 flag;
      none_before = c.loop-i.invariant;
      fault_is = ap faults.Duplicate (c.in_ok-new.ensures ∙ c.bytes.ensures);
    }

pub loop-i-preserved : goal.loop-i-preserved
loop-i-preserved c =
    let libfuncs = c.args.libfuncs.now in
    let i = c.loop-i.i in
    let libfunc = c.index-libfuncs-i.result in
    let here : slice_get libfuncs i ≡ Some libfunc = slice_get_read libfuncs (length libfuncs) i libfunc refl c.loop-i-test.true c.index-libfuncs-i.is in
    let id_here : slice_get (map (λ e. e.id) libfuncs) i ≡ Some libfunc.id = slice_get-map (λ e. e.id) libfuncs i ∙ ap (option_map (λ e. e.id)) here in
    let flag : get_or c.in_ok-ids.ids.repeated.items i false ≡ false =
    sym (get_or_read c.in_ok-ids.ids.repeated.items i c.index.result.now (omega (arith, c.loop-i-test.true, c.in_ok-ids.ensures.each)) c.index.ensures false) ∙ c.if-index.false in
    one_differs libfuncs i libfunc c.loop-i.invariant here (λ repeated. both_ways (get_or c.in_ok-ids.ids.repeated.items i false) flag ((c.in_ok-ids.ensures.repeated i libfunc.id id_here).1 repeated))

pub returns-clause-once : goal.returns-clause-once
returns-clause-once c = all_differ c.args.libfuncs.now c.loop-i.i c.loop-i-test.false c.loop-i.invariant
