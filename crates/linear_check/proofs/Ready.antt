-- What the linear check prepares is all that its walk asks for.
use Rattle.std.proofs.Common.{◌≡◌, ℕ, List, map, length, ap, ◌∙◌}
use Rattle.sierra_types.specs.declared.program.Program.{Program}
use Rattle.sierra_types.specs.declared.program.LibfuncDecl.{LibfuncDecl}
use Rattle.type_table.specs.Lookups.{found}
use Rattle.type_table.specs.Naming.{place_of}
use Rattle.type_table.specs.View.{TypesView}
use Rattle.libfunc_registry.specs.declared.sig.Sig.{Sig}
use Rattle.linear_check.specs.Counting.{Counts}
use Rattle.linear_check.specs.Prepared.{IsReady}
use Rattle.linear_check.specs.Statements.{predecessors}
use Rattle.linear_check.proofs.Lawfulness.{rules_lawful}

pub ready : (p : Program) (t : TypesView) (sigs : List Sig) (ds : List LibfuncDecl) (libfuncs : List (List ℕ × ℕ)) (counts : List ℕ)
    → ds ≡ p.libfuncs → ((id : List ℕ) → found libfuncs id ≡ place_of (map (λ (d : LibfuncDecl). d.id) ds) id) → Counts counts (length p.statements) (predecessors p) → IsReady p t sigs libfuncs counts
ready p t sigs ds libfuncs counts are named counted = record {
  prepared = record {
    named = λ id. named id ∙ ap (λ l. place_of (map (λ (d : LibfuncDecl). d.id) l) id) are;
    each_counted = counted.0;
    counted = counted.1;
  };
  lawful = rules_lawful p t sigs;
}
