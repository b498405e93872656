use Rattle.std.proofs.Common.{◌≡◌, true, false, Option, Some, None, sym, ap, subst, ◌∙◌}
use Rattle.libfunc_registry.specs.declared.libfunc.Libfunc.{Libfunc}
use Rattle.libfunc_registry.specs.Fam.{IsWritten, fam_of}
use Rattle.libfunc_registry.specs.Judging.{IsSignature, HasPositions}
use Rattle.libfunc_registry.specs.Reading.{read_all}
use Rattle.libfunc_registry.specs.Signature.{IsDeclared}
use Rattle.libfunc_registry.proofs.Readings.{read-given, read-no_family, read-family, read-written, none_written, one_written}
use Rattle.libfunc_registry.proofs.Placing.{written-placed}
use Rattle.libfunc_registry.proofs.Signed.{signed, positions_declared}
use Rattle.libfunc_registry.proofs.declarations.signature.Goals as goal

false_true : false ≡ true → ⊥
false_true e = cc

pub returns-in_default-clause-refused : goal.returns-in_default-clause-refused
returns-in_default-clause-refused c _ =
    let types = c.args.types.now in
    let decl = c.args.decl.now in (
      c.in_ok-copied.ensures,
      read-no_family types decl.generic decl.args
          (read-given types _ decl.generic _ decl.args c.libfunc_named.result None c.libfunc_named.ensures c.bytes.ensures c.items.ensures c.in_default.is),
    )

pub returns-in_default-made-clause-refused : goal.returns-in_default-made-clause-refused
returns-in_default-made-clause-refused c _ =
    let types = c.args.types.now in
    let decl = c.args.decl.now in
    let read : read_all types decl.generic decl.args ≡ Some None =
    read-given types _ decl.generic _ decl.args c.libfunc_named.result (Some None) c.libfunc_named.ensures c.bytes.ensures c.items.ensures (c.in-Some.is ∙ ap Some c.in_default-made.is) in (
      c.in_ok-copied-2.ensures,
      read-family types decl.generic decl.args None read,
      λ l written _. none_written types c.keeps.ensures decl.generic decl.args l read written,
    )

pub declared-requires : goal.declared-requires
declared-requires c =
    let types = c.args.types.now in
    let decl = c.args.decl.now in
    let l = c.in-Some-made.libfunc in
    written-placed types c.keeps.ensures decl.generic decl.args l (read-written types decl.generic decl.args l
    (read-given types _ decl.generic _ decl.args c.libfunc_named.result (Some (Some l)) c.libfunc_named.ensures c.bytes.ensures c.items.ensures (c.in-Some.is ∙ ap Some c.in-Some-made.is)))

pub is_able-requires : goal.is_able-requires
is_able-requires c =
    let types = c.args.types.now in
    let decl = c.args.decl.now in
    let l = c.in-Some-made.libfunc in
    written-placed types c.keeps.ensures decl.generic decl.args l (read-written types decl.generic decl.args l
    (read-given types _ decl.generic _ decl.args c.libfunc_named.result (Some (Some l)) c.libfunc_named.ensures c.bytes.ensures c.items.ensures (c.in-Some.is ∙ ap Some c.in-Some-made.is)))

pub returns-in_default-2-clause-refused : goal.returns-in_default-2-clause-refused
returns-in_default-2-clause-refused c _ =
    let types = c.args.types.now in
    let decl = c.args.decl.now in
    let l = c.in-Some-made.libfunc in
    let read : read_all types decl.generic decl.args ≡ Some (Some l) =
    read-given types _ decl.generic _ decl.args c.libfunc_named.result (Some (Some l)) c.libfunc_named.ensures c.bytes.ensures c.items.ensures (c.in-Some.is ∙ ap Some c.in-Some-made.is) in
    let written : IsWritten types l decl.generic decl.args = read-written types decl.generic decl.args l read in
    let missing : IsDeclared types (fam_of types l) → ⊥ = subst (IsSignature types l) c.in_default-2.is c.in_ok-sig.ensures in (
      c.in_ok-copied-3.ensures,
      read-family types decl.generic decl.args (Some l) read,
      λ m as_m declared. missing (subst (λ (k : Libfunc). IsDeclared types (fam_of types k)) (one_written types c.keeps.ensures decl.generic decl.args m l as_m written) declared),
    )

pub returns-then-is_able-clause-found : goal.returns-then-is_able-clause-found
returns-then-is_able-clause-found c =
    let types = c.args.types.now in
    let decl = c.args.decl.now in
    let l = c.in-Some-made.libfunc in
    let read : read_all types decl.generic decl.args ≡ Some (Some l) =
    read-given types _ decl.generic _ decl.args c.libfunc_named.result (Some (Some l)) c.libfunc_named.ensures c.bytes.ensures c.items.ensures (c.in-Some.is ∙ ap Some c.in-Some-made.is) in
    let has : HasPositions types l c.in-Some-2.sig = subst (IsSignature types l) c.in-Some-2.is c.in_ok-sig.ensures in
    signed types decl l c.in-Some-2.sig (read-written types decl.generic decl.args l read) has (c.is_able.ensures.0 c.if-is_able.true)

pub returns-in_ok-copied-4-clause-refused : goal.returns-in_ok-copied-4-clause-refused
returns-in_ok-copied-4-clause-refused c _ =
    let types = c.args.types.now in
    let decl = c.args.decl.now in
    let l = c.in-Some-made.libfunc in
    let read : read_all types decl.generic decl.args ≡ Some (Some l) =
    read-given types _ decl.generic _ decl.args c.libfunc_named.result (Some (Some l)) c.libfunc_named.ensures c.bytes.ensures c.items.ensures (c.in-Some.is ∙ ap Some c.in-Some-made.is) in
    let has : HasPositions types l c.in-Some-2.sig = subst (IsSignature types l) c.in-Some-2.is c.in_ok-sig.ensures in (
      c.in_ok-copied-4.ensures,
      l,
      read-written types decl.generic decl.args l read,
      positions_declared types l c.in-Some-2.sig has,
      λ able. false_true (sym c.if-is_able.false ∙ c.is_able.ensures.1 able),
    )
