use Rattle.std.proofs.Common.{◌≡◌, ◌≢◌, ◌+◌, ◌∷◌, ◌++◌, [], ◌∙◌, ap, sym, refl, subst, length, slice_get, Some, is_ok, true, cond, arith}
use Rattle.std.proofs.lemmas.Option.{slice_get_read}
use Rattle.type_table.specs.declared.fault.TypeFault.TheVariants as faults
use Rattle.type_table.specs.Functions.{FirstBehindTypes, LibfuncsDiffer, HasRepeatedLibfunc}
use Rattle.type_table.proofs.SignatureLaws.{fault_passed}
use Rattle.type_table.proofs.FunctionLaws.{SoFar, one_function, function_fails, libfunc_fails, all_functions}
use Rattle.type_table.proofs.functions.functions_of.Goals as goal

pub returns-in_err-check_libfuncs-clause-refused : goal.returns-in_err-check_libfuncs-clause-refused
returns-in_err-check_libfuncs-clause-refused c =
    let p = c.args.program.now in
    let fault = c.in_err-check_libfuncs.field-0.0 in
    fault_passed (λ e. e ≢ faults.Memory → FirstBehindTypes p e) fault c.from_residual.result c.from_residual.ensures.1
    (λ real. libfunc_fails p fault (subst (λ l. HasRepeatedLibfunc l fault) c.items.ensures (c.in_err-check_libfuncs.ensures.refused real)))

pub returns-in_err-signature-clause-refused : goal.returns-in_err-signature-clause-refused
returns-in_err-signature-clause-refused c =
    let p = c.args.program.now in
    let fault = c.in_err-signature.field-0.0 in
    let functions = c.items-functions.result.now in
    let here : slice_get p.functions c.loop-i.i ≡ Some c.index-functions-i.result =
    ap (λ l. slice_get l c.loop-i.i) (sym c.items-functions.ensures)
    ∙ slice_get_read functions (length functions) c.loop-i.i c.index-functions-i.result refl c.loop-i-test.true c.index-functions-i.is in
    fault_passed (λ e. e ≢ faults.Memory → FirstBehindTypes p e) fault c.from_residual-in_err-signature.result c.from_residual-in_err-signature.ensures.1
    (λ real. function_fails p c.args.positions.now c.args.rows.now c.requires c.loop-i.i c.loop-i.ids c.loop-i.signatures.items c.loop-i.invariant c.index-functions-i.result here fault
    (subst LibfuncsDiffer c.items.ensures c.in_ok-check_libfuncs.ensures.once) (c.in_err-signature.ensures.refused real))

pub loop-i-preserved : goal.loop-i-preserved
loop-i-preserved c =
    let p = c.args.program.now in
    let i = c.loop-i.i in
    let f = c.index-functions-i.result in
    let functions = c.items-functions.result.now in
    let here : slice_get p.functions i ≡ Some f =
    ap (λ l. slice_get l i) (sym c.items-functions.ensures)
    ∙ slice_get_read functions (length functions) i f refl c.loop-i-test.true c.index-functions-i.is in
    let ids_is : c.add.new.self ≡ c.loop-i.ids ++ (f.id, i) ∷ [] = c.in_ok-add.ensures.ok ∙ ap (λ b. c.loop-i.ids ++ (b, i) ∷ []) c.bytes.ensures in
    let pushed : is_ok c.push.result ≡ true = sym c.map_err.ensures.variant ∙ ap is_ok c.in_ok-map_err.was in
    let signatures_are : c.push.new.self.items ≡ c.loop-i.signatures.items ++ c.in_ok-signature.signature ∷ [] =
    c.push.ensures.items ∙ ap (λ b. cond b (c.loop-i.signatures.items ++ c.in_ok-signature.signature ∷ []) c.loop-i.signatures.items) pushed in
    subst (λ x. SoFar p (i + 1) x c.push.new.self.items) (sym ids_is)
    (subst (λ y. SoFar p (i + 1) (c.loop-i.ids ++ (f.id, i) ∷ []) y) (sym signatures_are)
    (one_function p c.args.positions.now c.args.rows.now c.requires i c.loop-i.ids c.loop-i.signatures.items c.loop-i.invariant f here c.in_ok-signature.signature c.in_ok-signature.ensures.found))

pub returns-clause-found : goal.returns-clause-found
returns-clause-found c =
    let all : c.loop-i.i ≡ length c.args.program.now.functions = omega (arith, c.loop-i-test.false, c.loop-i.auto.i-end, ap length c.items-functions.ensures) in
    all_functions c.args.program.now c.loop-i.i c.loop-i.ids c.loop-i.signatures.items c.loop-i.invariant all (subst LibfuncsDiffer c.items.ensures c.in_ok-check_libfuncs.ensures.once)
