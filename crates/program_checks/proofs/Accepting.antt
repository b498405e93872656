-- A program that passes the checks is accepted, in one way.
use Rattle.std.proofs.Common.{◌≡◌, ℕ, List, Ok, subst, sym, ◌∙◌}
use Rattle.sierra_types.specs.declared.program.Program.{Program}
use Rattle.type_table.specs.View.{TypesView}
use Rattle.type_table.proofs.Decided as types_laws
use Rattle.libfunc_registry.specs.declared.sig.Sig.{Sig}
use Rattle.linear_check.specs.Typed.{Typed, TypedList}
use Rattle.linear_check.proofs.Deciding as statement_laws
use Rattle.entry_check.specs.Entry.{entry_of}
use Rattle.gas_solver.specs.Accepting.{AcceptedView, IsAccepted}
use Rattle.gas_solver.specs.Plans.{PlanView, IsPlan}
use Rattle.gas_solver.proofs.OneAnswer as gas_laws
use Rattle.program_checks.specs.Checks.{Finds, accepted_by}
use Rattle.program_checks.specs.declared.checking.Checked.{Checked}
use Rattle.program_checks.proofs.Checks.{same_signatures, moved_both, same_entry, same_place}

-- what the checks find of a program is right
pub found_accepted : (program : Program) (checked : Checked) → Finds program checked → IsAccepted (accepted_by program checked)
found_accepted program checked finds =
    record { types = finds.0.types; signatures = finds.0.signatures; typed = finds.0.typed; main = finds.1; plan = finds.3 }

module _ (p : Program) (t u : TypesView) (sigs others : List Sig) (envs more : TypedList) (plan last : PlanView) (main other : ℕ) where
  abbrev one : AcceptedView
  one = record { program = p; types = t; sigs = sigs; envs = envs; plan = plan; main = main }

  abbrev another : AcceptedView
  another = record { program = p; types = u; sigs = others; envs = more; plan = last; main = other }

  one_view : IsAccepted one → IsAccepted another → one ≡ another
  one_view x y =
      let move = moved_both p t u sigs others x.types y.types x.signatures y.signatures in
      let types : t ≡ u = types_laws.one_table p t u x.types y.types in
      let signatures : sigs ≡ others = same_signatures p t u sigs others x.types y.types x.signatures y.signatures in
      let statements : envs ≡ more = statement_laws.one_list p u others y.types envs more (move (λ v xs. Typed p v xs envs) x.typed) y.typed in
      let entry : main ≡ other = same_place main other (sym x.main ∙ same_entry p t u x.types y.types ∙ y.main) in
      let gas : plan ≡ last = gas_laws.one_plan p u others other plan last (subst (λ (m : ℕ). IsPlan p u others m plan) entry (move (λ v xs. IsPlan p v xs main plan) x.plan)) y.plan in
      same types signatures statements gas entry
    where
      same : t ≡ u → sigs ≡ others → envs ≡ more → plan ≡ last → main ≡ other → one ≡ another
      same types signatures statements gas entry = cc

-- accepted programs with one program are one
pub one_accepted : (a b : AcceptedView) → IsAccepted a → IsAccepted b → a.program ≡ b.program → a ≡ b
one_accepted a b x y same =
    back (one_view b.program a.types b.types a.sigs b.sigs a.envs b.envs a.plan b.plan a.main b.main (subst (λ (p : Program). IsAccepted (with_program p)) same x) y)
  where
    with_program : Program → AcceptedView
    with_program p = record { program = p; types = a.types; sigs = a.sigs; envs = a.envs; plan = a.plan; main = a.main }

    back : with_program b.program ≡ b → a ≡ b
    back is = subst (λ (p : Program). with_program p ≡ b) (sym same) is
