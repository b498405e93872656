-- What one branch of a statement gives.
use Rattle.std.proofs.Common.{◌≡◌, ℕ, Bool, List, Result, Ok, Err, sym, ap, ◌∙◌, inr}
use Rattle.std.specs.Result.{IsErrAnd}
use Rattle.sierra_types.specs.declared.program.Program.{Program}
use Rattle.sierra_types.specs.declared.program.Branch.{Branch}
use Rattle.type_table.specs.declared.type_id.TypeId.{TypeId}
use Rattle.libfunc_registry.specs.declared.sig.Sig.{Sig}
use Rattle.held_list.specs.Held.{Held}
use Rattle.statement_walk.specs.Walk.{and_then}
use Rattle.linear_check.specs.declared.fault.LinearFault.{LinearFault}
use Rattle.linear_check.specs.Statements.{target_of}
use Rattle.linear_check.specs.Flow.{added, aligned, branch_part}
use Rattle.linear_check.specs.Prepared.{AnswersPart}

abbrev given_part : ℕ × Held TypeId → Result (ℕ × Held TypeId) LinearFault
given_part x = Ok x

pub part_gives : (p : Program) (sigs : List Sig) (s : ℕ) (more : Bool) (rest : Held TypeId) (b : Branch) (types : List TypeId) (rs : List ℕ) (start held : Held TypeId) (target : ℕ) (o : Result (Unit {0}) LinearFault)
    → start ≡ rest → rs ≡ b.results → target ≡ target_of s b.target → added s rs types start ≡ Ok held → o ≡ aligned p sigs s more target → branch_part p sigs s more rest b types ≡ and_then o (λ _. Ok (target, held))
part_gives p sigs s more rest b types rs start held target o begins results there gives is =
    let work : added s b.results types rest ≡ Ok held = ap (λ v. added s v types rest) (sym results) ∙ ap (added s rs types) (sym begins) ∙ gives in
    let next = λ (h : Held TypeId). and_then (aligned p sigs s more (target_of s b.target)) (λ _. given_part (target_of s b.target, h)) in
    ap (λ w. and_then w next) work ∙ ap (λ t. and_then (aligned p sigs s more t) (λ _. Ok (t, held))) (sym there) ∙ ap (λ w. and_then w (λ _. Ok (target, held))) (sym is)

pub answers_err : {A : Type 0} (work result : Result A LinearFault) (fault : LinearFault) → work ≡ Err fault → IsErrAnd result (λ y. y ≡ fault) → AnswersPart work result
answers_err work (Ok a) fault gives is = absurd is
answers_err work (Err y) fault gives is = inr (gives ∙ ap Err (sym is))
