use Rattle.std.proofs.Common.{sym, ◌∙◌}
use Rattle.libfunc_registry.specs.Fam.{fam_of}
use Rattle.lower_core.proofs.CoreLowers.{of_control, of_felts, of_data, met}
use Rattle.lower_core.proofs.lowering.lower.Goals as goal

pub returns-in-Some-clause-lowers : goal.returns-in-Some-clause-lowers
returns-in-Some-clause-lowers c fit inner =
    let args = c.args.args.now in
    let fam = fam_of c.args.types.now c.args.sig.now.libfunc in
    met args c.args.amount fam c.in-Some.frag c.requires.core (of_control args c.args.amount fam c.in-Some.frag (sym c.in_ok-frag.ensures ∙ c.in-Some.is)) (record { declared = c.placed.ensures.declared; fit = fit; inner = inner; few = c.requires.amount })

pub returns-in-Some-2-clause-lowers : goal.returns-in-Some-2-clause-lowers
returns-in-Some-2-clause-lowers c fit inner =
    let args = c.args.args.now in
    let fam = fam_of c.args.types.now c.args.sig.now.libfunc in
    met args c.args.amount fam c.in-Some-2.frag c.requires.core (of_felts args c.args.amount fam c.in-Some-2.frag (sym c.in_ok-frag-2.ensures ∙ c.in-Some-2.is)) (record { declared = c.placed.ensures.declared; fit = fit; inner = inner; few = c.requires.amount })

pub returns-clause-lowers : goal.returns-clause-lowers
returns-clause-lowers c fit inner =
    let args = c.args.args.now in
    let fam = fam_of c.args.types.now c.args.sig.now.libfunc in
    met args c.args.amount fam c.unwrap.result c.requires.core (of_data args c.args.amount fam c.unwrap.result (sym c.in_ok-data.ensures ∙ c.unwrap.ensures)) (record { declared = c.placed.ensures.declared; fit = fit; inner = inner; few = c.requires.amount })
