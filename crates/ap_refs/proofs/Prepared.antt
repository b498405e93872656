-- What is prepared for the walk of places is all that it asks for.
use Rattle.std.proofs.Common.{◌≡◌, ℕ, List, map, ap, ◌∙◌}
use Rattle.sierra_types.specs.declared.program.Program.{Program}
use Rattle.sierra_types.specs.declared.program.LibfuncDecl.{LibfuncDecl}
use Rattle.type_table.specs.Lookups.{found}
use Rattle.type_table.specs.Naming.{place_of}
use Rattle.type_table.specs.View.{TypesView}
use Rattle.libfunc_registry.specs.declared.sig.Sig.{Sig}
use Rattle.linear_check.specs.Typed.{TypedList}
use Rattle.ap_refs.specs.Bounds.{HasFewCells}
use Rattle.ap_refs.specs.Prepared.{IsTypedProgram, IsReady}
use Rattle.ap_refs.proofs.Keeping.{keeps}
use Rattle.ap_refs.proofs.Lawfulness.{rules_lawful}

pub ready : (p : Program) (t : TypesView) (sigs : List Sig) (envs : TypedList) (ds : List LibfuncDecl) (libfuncs : List (List ℕ × ℕ)) → IsTypedProgram p t sigs envs → ds ≡ p.libfuncs
    → ((id : List ℕ) → found libfuncs id ≡ place_of (map (λ (d : LibfuncDecl). d.id) ds) id) → HasFewCells t → IsReady p t sigs libfuncs
ready p t sigs envs ds libfuncs program are named few = record {
  envs = envs;
  program = program;
  named = λ id. named id ∙ ap (λ l. place_of (map (λ (d : LibfuncDecl). d.id) l) id) are;
  lawful = rules_lawful p t sigs envs program.typed;
  keeps = keeps p t sigs envs program few;
}
