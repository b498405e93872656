-- The positions that are found by name are those of the statements' signatures.
use Rattle.std.proofs.Common.{◌≡◌, ℕ, List, map, Option, Some, None, option_map, refl, sym, ap, subst, ◌∙◌}
use Rattle.std.specs.List.{slice_get}
use Rattle.std.specs.Option.{option_and_then, unwrap_or}
use Rattle.std.proofs.lemmas.Option.{none-some, slice_get-map}
use Rattle.sierra_types.specs.declared.program.LibfuncDecl.{LibfuncDecl}
use Rattle.sierra_types.specs.declared.program.Program.{Program}
use Rattle.sierra_types.specs.declared.program.Statement.{Statement}
use Rattle.type_table.specs.Lookups.{found}
use Rattle.type_table.specs.Naming.{place_of}
use Rattle.libfunc_registry.specs.declared.sig.Sig.{Sig}
use Rattle.gas_solver.specs.Accepting.{AcceptedView}
use Rattle.sierra_meaning.specs.Turns.{AreResolved, position_in}

placed : (sigs : List Sig) (sig : Sig) (place : Option ℕ) → option_and_then (slice_get sigs) place ≡ Some sig → (i : ℕ) × (place ≡ Some i) × (slice_get sigs i ≡ Some sig)
placed sigs sig None is = absurd (none-some sig is)
placed sigs sig (Some i) is = (i, refl, is)

all_resolved : (a : AcceptedView) (positions : List (List ℕ × ℕ)) → ((id : List ℕ) → found positions id ≡ place_of (map (λ d. d.id) a.program.libfuncs) id) → AreResolved a (map (position_in positions) a.program.statements)
all_resolved a positions named = λ s id args branches sig here is.
    (let there = placed a.sigs sig (place_of (map (λ d. d.id) a.program.libfuncs) id) is in
    let at : unwrap_or (found positions id) 0 ≡ there.0 = ap (λ o. unwrap_or o 0) (named id ∙ there.1) in
    (there.0, slice_get-map (position_in positions) a.program.statements s ∙ ap (option_map (position_in positions)) here ∙ ap (λ (n : ℕ). Some n) at, there.2))

pub resolved : (a : AcceptedView) (program : Program) (libfuncs : List LibfuncDecl) (statements : List Statement) (positions : List (List ℕ × ℕ)) (result : List ℕ) → program ≡ a.program → libfuncs ≡ program.libfuncs
    → statements ≡ program.statements → ((id : List ℕ) → found positions id ≡ place_of (map (λ d. d.id) libfuncs) id) → result ≡ map (position_in positions) statements → AreResolved a result
resolved a program libfuncs statements positions result same libs stats named is =
    let all_libs : libfuncs ≡ a.program.libfuncs = libs ∙ ap (λ (p : Program). p.libfuncs) same in
    let all : statements ≡ a.program.statements = stats ∙ ap (λ (p : Program). p.statements) same in
    let own = subst (λ ds. (id : List ℕ) → found positions id ≡ place_of (map (λ d. d.id) ds) id) all_libs named in
    subst (AreResolved a) (sym (is ∙ ap (map (position_in positions)) all)) (all_resolved a positions own)
