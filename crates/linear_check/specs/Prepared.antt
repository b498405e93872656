-- What the linear check prepares before its walk, and what its steps answer.
use Rattle.std.specs.Prelude.{◌≡◌, ℕ, ◌<◌, true, min, List, [], length, map, Some, Result, Ok, Err, ◌⊎◌}
use Rattle.std.specs.List.{slice_get}
use Rattle.sierra_types.specs.declared.program.Program.{Program}
use Rattle.type_table.specs.Lookups.{found}
use Rattle.type_table.specs.Naming.{place_of}
use Rattle.type_table.specs.View.{TypesView}
use Rattle.linear_check.specs.declared.fault.LinearFault.{LinearFault}
use Rattle.linear_check.specs.declared.fault.LinearFault.TheVariants.{Memory}
use Rattle.sierra_types.specs.declared.program.Branch.{Branch}
use Rattle.type_table.specs.declared.type_id.TypeId.{TypeId}
use Rattle.libfunc_registry.specs.declared.sig.Sig.{Sig}
use Rattle.held_list.specs.Held.{Held}
use Rattle.statement_walk.specs.Rules.{Lawful}
use Rattle.linear_check.specs.Flow.{shaped, taken, rules}
use Rattle.linear_check.specs.Statements.{declared, predecessors}

-- where libfuncs are declared, and the predecessors of each statement, of which two are as many as more
pub record IsPrepared (p : Program) (libfuncs : List (List ℕ × ℕ)) (counts : List ℕ) : Type 0 where
  pub named : (id : List ℕ) → found libfuncs id ≡ place_of (map (λ d. d.id) p.libfuncs) id
  pub each_counted : length counts ≡ length p.statements
  pub counted : (s : ℕ) → s < length p.statements → slice_get counts s ≡ Some (min 2 (predecessors p s))

-- all that the walk asks for: the program is prepared, and the rules fit together
pub record IsReady (p : Program) (t : TypesView) (sigs : List Sig) (libfuncs : List (List ℕ × ℕ)) (counts : List ℕ) : Type 0 where
  pub prepared : IsPrepared p libfuncs counts
  pub lawful : Lawful (rules p t sigs)

-- The work answers what it gives, or its fault, or memory ran out. `a` is what it gives.
abbrev pub Answers : {A : Type 0} → Result A LinearFault → Result (Unit {0}) LinearFault → A → Type 0
Answers work (Ok done) a = work ≡ Ok a
Answers work (Err fault) a = (fault ≡ Memory) ⊎ (work ≡ Err fault)

-- The work answers what it gives, or its fault. `a` is what it gives.
abbrev pub AnswersExactly : {A : Type 0} → Result A LinearFault → Result (Unit {0}) LinearFault → A → Type 0
AnswersExactly work (Ok done) a = work ≡ Ok a
AnswersExactly work (Err fault) a = work ≡ Err fault

-- The work gives no part, or answers its fault, or memory ran out.
abbrev pub AnswersNothing : {A : Type 0} → Result (List A) LinearFault → Result (Unit {0}) LinearFault → Type 0
AnswersNothing work answer = Answers work answer []

-- The work answers what it gives, or its fault, or memory ran out.
abbrev pub AnswersPart : {A : Type 0} → Result A LinearFault → Result A LinearFault → Type 0
AnswersPart work (Ok a) = work ≡ Ok a
AnswersPart work (Err fault) = (fault ≡ Memory) ⊎ (work ≡ Err fault)

-- A libfunc's statement passes as far as its branches.
pub record Begins (p : Program) (sigs : List Sig) (s : ℕ) (id args : List ℕ) (branches : List Branch) (held : Held TypeId) (sig : Sig) (rest : Held TypeId) : Type 0 where
  pub known : declared p sigs id ≡ Some sig
  pub shape : shaped (length p.statements) s sig args branches ≡ true
  pub takes : taken s args sig.params held ≡ Ok rest
