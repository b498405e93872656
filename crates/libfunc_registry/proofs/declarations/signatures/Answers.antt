use Rattle.std.proofs.Common.{◌≡◌, ◌≢◌, ℕ, suc, ◌+◌, List, [], ◌∷◌, ◌++◌, take, cond, is_ok, true, sym, ap, subst, ◌∙◌, arith}
use Rattle.std.specs.Prelude.{IfErr}
use Rattle.std.proofs.lemmas.Result.{IfErr-at_err, IfOk-at_ok}
use Rattle.libfunc_registry.specs.declared.sig.Sig.{Sig}
use Rattle.libfunc_registry.specs.declared.sig.SigFault.{SigFault}
use Rattle.libfunc_registry.specs.declared.sig.SigFault.TheVariants as faults
use Rattle.libfunc_registry.specs.Refusals.{Refused, FirstFault}
use Rattle.libfunc_registry.specs.Signature.{HasSignature, HasSignatures}
use Rattle.libfunc_registry.proofs.Signed.{signatures-push, refused_first, passed_on}
use Rattle.libfunc_registry.proofs.declarations.signatures.Goals as goal

pub returns-in_err-sig-clause-refused : goal.returns-in_err-sig-clause-refused
returns-in_err-sig-clause-refused c =
    let types = c.args.types.now in
    let decls = c.args.libfuncs.now in
    let fault = c.in_err-sig.field-0.0 in
    let refuses = IfErr-at_err (λ (f : SigFault). f ≢ faults.Memory → Refused types c.decl-item.result f) c.in_err-sig.was c.signature.ensures.refused in
    passed_on (λ r. IfErr r (λ f. f ≢ faults.Memory → FirstFault types decls f)) fault c.from_residual-in_err-sig.result c.from_residual-in_err-sig.ensures.1
    (λ other. refused_first types decls c.loop-decl.decl-index c.decl-item.result c.loop-decl.sigs.items fault c.loop-decl-test.true c.loop-decl.invariant
    (subst (λ d. Refused types d fault) c.decl-item.is (refuses other)))

pub loop-decl-preserved : goal.loop-decl-preserved
loop-decl-preserved c =
    let types = c.args.types.now in
    let decls = c.args.libfuncs.now in
    let i = c.loop-decl.decl-index in
    let sig = c.in_ok-sig.sig in
    let sigs = c.loop-decl.sigs.items in
    let ok : is_ok c.push.result ≡ true = sym c.map_err.ensures.variant ∙ ap is_ok c.in_ok-map_err.was in
    let items : c.push.new.self.items ≡ sigs ++ sig ∷ [] = c.push.ensures.items ∙ ap (λ b. cond b (sigs ++ sig ∷ []) sigs) ok in
    let next : suc i ≡ i + 1 = omega arith in
    let has : HasSignature types c.decl-item.result sig = IfOk-at_ok (λ (s : Sig). HasSignature types c.decl-item.result s) c.in_ok-sig.was c.signature.ensures.found in
    subst (λ (xs : List Sig). HasSignatures types (take (i + 1) decls) xs) (sym items)
    (subst (λ n. HasSignatures types (take n decls) (sigs ++ sig ∷ [])) next
    (signatures-push types decls i c.decl-item.result sigs sig c.loop-decl-test.true c.loop-decl.invariant (subst (λ d. HasSignature types d sig) c.decl-item.is has)))
