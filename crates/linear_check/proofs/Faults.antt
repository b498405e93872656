-- What holds of each fault of some rules holds of the fault that their walk stops with. Out of memory is none of the linear
-- check's.
use Rattle.std.proofs.Common.{◌≡◌, ℕ, zero, suc, Bool, true, false, cond, not, ◌&&◌, ◌||◌, eqb, List, [], ◌∷◌, length, set, zip, Option, Some, None, option_map, Result, Ok, Err, refl, sym, ap, subst, ◌∙◌, inl, inr}
use Rattle.std.specs.List.{slice_get}
use Rattle.std.specs.Result.{result_map_both}
use Rattle.std.proofs.lemmas.Option.{none-some, same_Some}
use Rattle.sierra_types.specs.declared.program.Program.{Program}
use Rattle.sierra_types.specs.declared.program.Statement.{Statement}
use Rattle.sierra_types.specs.declared.program.Statement.TheVariants.{Invoke, Return}
use Rattle.sierra_types.specs.declared.program.Branch.{Branch}
use Rattle.type_table.specs.View.{TypesView}
use Rattle.type_table.specs.declared.type_id.TypeId.{TypeId}
use Rattle.libfunc_registry.specs.declared.sig.Sig.{Sig}
use Rattle.held_list.specs.Held.{Held}
use Rattle.held_list.specs.Editing.{take, add_all, differ, or_stop}
use Rattle.statement_walk.specs.Rules.{Rules}
use Rattle.statement_walk.specs.Walk.{Seen, unseen, waiting, done, Trace, State, unless, and_then, meet, arrive_at, arrive, deliver, stop, after, Stops}
use Rattle.statement_walk.proofs.Arrivals.{err-ok}
use Rattle.statement_walk.proofs.Ends.{stops_happens}
use Rattle.statement_walk.proofs.Turns.{Happens, fails, strays, shares, misses}
use Rattle.linear_check.specs.declared.fault.LinearFault.{LinearFault}
use Rattle.linear_check.specs.declared.fault.LinearFault.TheVariants.{VarMissing, VarType, VarLeft, VarTaken, MergeDiffers, AlignMissing, Shape, Memory}
use Rattle.linear_check.specs.Statements.{declared, target_of, predecessors, is_align, result_types}
use Rattle.linear_check.specs.Flow.{or_fault, same_type, taken, nothing_left, added, aligned, shaped, branch_part, branch_parts, spread, several, return_parts, invoke_parts, statement_flow, rules}
use Rattle.linear_check.proofs.Lawfulness.{chain_cases, return_ok, invoke_ok}

same_Err : {A F : Type 0} (x y : F) → ◌≡◌ {A = Result A F} (Err x) (Err y) → x ≡ y
same_Err x y is = cc

-- any rules

pub record OfAllFaults {E F : Type 0} (r : Rules E F) (P : F → Type 0) : Type 0 where
  pub parts : (f s k : ℕ) (e : E) (x : F) → slice_get (r.flow f s e) k ≡ Some (Err x) → P x
  pub clashes : (s : ℕ) (e had : E) (x : F) → r.clash s e had ≡ Some x → P x
  pub strays : (s : ℕ) → P (r.stray s)
  pub enters : (s : ℕ) → P (r.shared_entry s)
  pub shares : (s : ℕ) → P (r.shared s)
  pub misses : (s : ℕ) → P (r.unreached s)

unless_of : {A F : Type 0} (P : F → Type 0) (o : Option F) (a : A) (x : F) → ((y : F) → o ≡ Some y → P y) → unless o a ≡ Err x → P x
unless_of P None a x all is = absurd (err-ok x a (sym is))
unless_of {A} P (Some y) a x all is = subst P (same_Err {A = A} y x is) (all y refl)

met_of : {E F : Type 0} (r : Rules E F) (P : F → Type 0) → OfAllFaults r P → (f s : ℕ) (e : E) (g : ℕ) (had : E) (u : Trace E) (x : F) (same : Bool) → eqb g f ≡ same → meet r f s e g had u ≡ Err x → P x
met_of {E} r P all f s e g had u x true same is = unless_of P (r.clash s e had) u x (all.clashes s e had) (let here : meet r f s e g had u ≡ unless (r.clash s e had) u = ap (λ b. cond b (unless (r.clash s e had) u) (Err (r.shared s))) same in sym here ∙ is)
met_of {E} r P all f s e g had u x false other is = subst P (same_Err {A = Trace E} (r.shared s) x (let here : meet r f s e g had u ≡ Err (r.shared s) = ap (λ b. cond b (unless (r.clash s e had) u) (Err (r.shared s))) other in sym here ∙ is)) (all.shares s)

arrival_of : {E F : Type 0} (r : Rules E F) (P : F → Type 0) → OfAllFaults r P → (f s t : ℕ) (e : E) (u : Trace E) (x : F) (there : Option (Seen E)) → arrive_at r f s t e u there ≡ Err x → P x
arrival_of {E} r P all f s t e u x None is = subst P (same_Err {A = Trace E} (r.stray t) x is) (all.strays t)
arrival_of r P all f s t e u x (Some unseen) is = absurd (err-ok x (set u t (waiting f e)) (sym is))
arrival_of r P all f s t e u x (Some (waiting g had)) is = met_of r P all f s e g had u x (eqb g f) refl is
arrival_of r P all f s t e u x (Some (done g had)) is = met_of r P all f s e g had u x (eqb g f) refl is

delivery_of : {E F : Type 0} (r : Rules E F) (P : F → Type 0) → OfAllFaults r P → (f s : ℕ) (parts : List (Result (ℕ × E) F)) (u : Trace E) (x : F) → ((k : ℕ) (y : F) → slice_get parts k ≡ Some (Err y) → P y) → deliver r f s parts u ≡ Err x → P x
delivery_of r P all f s [] u x own is = absurd (err-ok x u (sym is))
delivery_of {E} r P all f s (Err y ∷ parts) u x own is = subst P (same_Err {A = Trace E} y x is) (own 0 y refl)
delivery_of {E} {F} r P all f s (Ok p ∷ parts) u x own is =
    elim (chain_cases (arrive r f s p.0 p.1 u) (deliver r f s parts) (Err x) is) [
      | inl failed ↦ subst P (same_Err {A = Trace E} failed.0 x (sym failed.2)) (arrival_of r P all f s p.0 p.1 u failed.0 (slice_get u p.0) failed.1)
      | inr later ↦ delivery_of r P all f s parts later.0 x (λ k y at. own (suc k) y at) later.2
    ]

pub stop_of : {E F : Type 0} (r : Rules E F) (P : F → Type 0) → OfAllFaults r P → (x : F) → Stops r (Err x) → P x
stop_of {E} {F} r P all x stops = at (after r stops.0) x (stops_happens r (Err x) stops.0 stops.1)
  where
    at : (w : State E) (y : F) → Happens r w (stop (Err y)) → P y
    at w y (fails z d) = delivery_of r P all d.function d.statement (r.flow d.function d.statement d.env) _ y (λ k y is. all.parts d.function d.statement k d.env y is) d.gives
    at w y (strays d) = all.strays d.statement
    at w y (shares z had held d) = all.enters d.statement
    at w y (misses s idle free) = all.misses s

-- those of the linear check

-- a rule's fault, not out of memory
abbrev pub IsRule : LinearFault → Type 0
IsRule x = x ≡ Memory → ⊥

chain_rule : {A B : Type 0} (o : Result A LinearFault) (next : A → Result B LinearFault) (x : LinearFault) → ((y : LinearFault) → o ≡ Err y → IsRule y) → ((a : A) → next a ≡ Err x → IsRule x) → and_then o next ≡ Err x → IsRule x
chain_rule (Ok a) next x first later is = later a is
chain_rule {A} {B} (Err y) next x first later is = subst IsRule (same_Err {A = B} y x is) (first y refl)

tested_rule : (b : Bool) (fault y : LinearFault) → IsRule fault → or_fault b fault ≡ Err y → IsRule y
tested_rule true fault y rule is = absurd (err-ok y tt (sym is))
tested_rule false fault y rule is = subst IsRule (same_Err {A = Unit {0}} fault y is) rule

there_rule : {A B : Type 0} (o : Option A) (fault : LinearFault) (next : A → Result B LinearFault) (x : LinearFault) → IsRule fault → ((a : A) → next a ≡ Err x → IsRule x) → or_stop o fault next ≡ Err x → IsRule x
there_rule {A} {B} None fault next x rule later is = subst IsRule (same_Err {A = B} fault x is) rule
there_rule (Some a) fault next x rule later is = later a is

none_rule : {A : Type 0} (a : A) (x : LinearFault) → ◌≡◌ {A = Result A LinearFault} (Ok a) (Err x) → IsRule x
none_rule a x is = absurd (err-ok x a (sym is))

taken_rule : (s : ℕ) (vs : List ℕ) (ts : List TypeId) (held : Held TypeId) (x : LinearFault) → taken s vs ts held ≡ Err x → IsRule x
taken_rule s [] ts held x is = none_rule held x is
taken_rule s (v ∷ vs) [] held x is = none_rule held x is
taken_rule s (v ∷ vs) (t ∷ ts) held x is =
    there_rule (take v held) (VarMissing s v) (λ y. and_then (or_fault (same_type y.0 t) (VarType s v)) (λ _. taken s vs ts y.1)) x (λ bad. cc)
    (λ y is. chain_rule (or_fault (same_type y.0 t) (VarType s v)) (λ _. taken s vs ts y.1) x (λ z is. tested_rule (same_type y.0 t) (VarType s v) z (λ bad. cc) is) (λ _ is. taken_rule s vs ts y.1 x is) is) is

left_rule : (s : ℕ) (held : Held TypeId) (x : LinearFault) → nothing_left s held ≡ Err x → IsRule x
left_rule s [] x is = none_rule tt x is
left_rule s (y ∷ ys) x is = subst IsRule (same_Err {A = Unit {0}} (VarLeft s y.0) x is) (λ bad. cc)

named_rule : (s : ℕ) (o : Result (Held TypeId) ℕ) (x : LinearFault) → result_map_both (λ h. h) (VarTaken s) o ≡ Err x → IsRule x
named_rule s (Ok h) x is = none_rule h x is
named_rule s (Err v) x is = subst IsRule (same_Err {A = Held TypeId} (VarTaken s v) x is) (λ bad. cc)

part_rule : (p : Program) (sigs : List Sig) (s : ℕ) (more : Bool) (rest : Held TypeId) (b : Branch) (ts : List TypeId) (x : LinearFault) → branch_part p sigs s more rest b ts ≡ Err x → IsRule x
part_rule p sigs s more rest b ts x is =
    let t = target_of s b.target in
    chain_rule (added s b.results ts rest) (λ held. and_then (aligned p sigs s more t) (λ _. Ok (t, held))) x (λ y is. named_rule s (add_all (zip b.results ts) rest) y is)
    (λ held is. chain_rule (aligned p sigs s more t) (λ _. Ok (t, held)) x
    (λ y is. tested_rule (not more || (is_align p sigs (slice_get p.statements t) && eqb (predecessors p t) 1)) (AlignMissing s) y (λ bad. cc) is) (λ _ is. none_rule (t, held) x is) is) is

parts_rule : (p : Program) (sigs : List Sig) (s : ℕ) (more : Bool) (rest : Held TypeId) (bs : List Branch) (types : List (List TypeId)) (k : ℕ) (x : LinearFault) → slice_get (branch_parts p sigs s more rest bs types) k ≡ Some (Err x) → IsRule x
parts_rule p sigs s more rest [] types k x is = absurd (none-some (Err x) is)
parts_rule p sigs s more rest (b ∷ bs) [] k x is = absurd (none-some (Err x) is)
parts_rule p sigs s more rest (b ∷ bs) (ts ∷ types) zero x is = part_rule p sigs s more rest b ts x (same_Some (branch_part p sigs s more rest b ts) (Err x) is)
parts_rule p sigs s more rest (b ∷ bs) (ts ∷ types) (suc k) x is = parts_rule p sigs s more rest bs types k x is

spread_rule : (o : Result (List (Result (ℕ × Held TypeId) LinearFault)) LinearFault) (k : ℕ) (x : LinearFault) → ((y : LinearFault) → o ≡ Err y → IsRule y) → ((parts : List (Result (ℕ × Held TypeId) LinearFault)) → o ≡ Ok parts → slice_get parts k ≡ Some (Err x) → IsRule x)
    → slice_get (spread o) k ≡ Some (Err x) → IsRule x
spread_rule (Ok parts) k x first later is = later parts refl is
spread_rule (Err y) zero x first later is = subst IsRule (same_Err {A = ℕ × Held TypeId} y x (same_Some (Err y) (Err x) is)) (first y refl)
spread_rule (Err y) (suc k) x first later is = absurd (none-some (Err x) is)

abbrev all_parts : List (Result (ℕ × Held TypeId) LinearFault) → Result (List (Result (ℕ × Held TypeId) LinearFault)) LinearFault
all_parts parts = Ok parts

abbrev no_parts : Result (List (Result (ℕ × Held TypeId) LinearFault)) LinearFault
no_parts = Ok []

return_rule : (s : ℕ) (args : List ℕ) (types : List TypeId) (held : Held TypeId) (x : LinearFault) → return_parts s args types held ≡ Err x → IsRule x
return_rule s args types held x is =
    chain_rule (or_fault (eqb (length args) (length types)) (Shape s)) (λ _. and_then (taken s args types held) (λ rest. and_then (nothing_left s rest) (λ _. no_parts))) x
    (λ y is. tested_rule (eqb (length args) (length types)) (Shape s) y (λ bad. cc) is)
    (λ _ is. chain_rule (taken s args types held) (λ rest. and_then (nothing_left s rest) (λ _. no_parts)) x (λ y is. taken_rule s args types held y is)
    (λ rest is. chain_rule (nothing_left s rest) (λ _. no_parts) x (λ y is. left_rule s rest y is) (λ _ is. none_rule [] x is) is) is) is

invoke_rule : (p : Program) (sigs : List Sig) (s : ℕ) (id args : List ℕ) (bs : List Branch) (held : Held TypeId) (x : LinearFault) → invoke_parts p sigs s id args bs held ≡ Err x → IsRule x
invoke_rule p sigs s id args bs held x is =
    let parts = λ (sig : Sig) (rest : Held TypeId). all_parts (branch_parts p sigs s (several bs) rest bs sig.branches) in
    let behind = λ (sig : Sig). and_then (taken s args sig.params held) (parts sig) in
    there_rule (declared p sigs id) (Shape s) (λ sig. and_then (or_fault (shaped (length p.statements) s sig args bs) (Shape s)) (λ _. behind sig)) x (λ bad. cc)
    (λ sig is. chain_rule (or_fault (shaped (length p.statements) s sig args bs) (Shape s)) (λ _. behind sig) x
    (λ y is. tested_rule (shaped (length p.statements) s sig args bs) (Shape s) y (λ bad. cc) is)
    (λ _ is. chain_rule (taken s args sig.params held) (parts sig) x (λ y is. taken_rule s args sig.params held y is) (λ rest is. none_rule (branch_parts p sigs s (several bs) rest bs sig.branches) x is) is) is) is

flow_rule : (p : Program) (t : TypesView) (sigs : List Sig) (f s k : ℕ) (held : Held TypeId) (x : LinearFault) (o : Option Statement) → slice_get (statement_flow p t sigs f s held o) k ≡ Some (Err x) → IsRule x
flow_rule p t sigs f s k held x None is = absurd (none-some (Err x) is)
flow_rule p t sigs f s k held x (Some (Return args)) is =
    spread_rule (return_parts s args (result_types t f) held) k x (λ y is. return_rule s args (result_types t f) held y is)
    (λ parts is at. absurd (none-some (Err x) (ap (λ l. slice_get l k) (return_ok s args (result_types t f) held parts is).2 ∙ at))) is
flow_rule p t sigs f s k held x (Some (Invoke id args bs)) is =
    spread_rule (invoke_parts p sigs s id args bs held) k x (λ y is. invoke_rule p sigs s id args bs held y is)
    (λ parts is at. (let ok = invoke_ok p sigs s id args bs held parts is in
    parts_rule p sigs s (several bs) ok.3 bs ok.0.branches k x (ap (λ l. slice_get l k) ok.5 ∙ at))) is

clash_rule : (s : ℕ) (o : Option ℕ) (x : LinearFault) → option_map (MergeDiffers s) o ≡ Some x → IsRule x
clash_rule s None x is = absurd (none-some x is)
clash_rule s (Some v) x is = subst IsRule (same_Some (MergeDiffers s v) x is) (λ bad. cc)

rules_rule : (p : Program) (t : TypesView) (sigs : List Sig) → OfAllFaults (rules p t sigs) IsRule
rules_rule p t sigs = record {
  parts = λ f s k held x is. flow_rule p t sigs f s k held x (slice_get p.statements s) is;
  clashes = λ s given had x is. clash_rule s (differ same_type given had) x is;
  strays = λ s bad. cc;
  enters = λ s bad. cc;
  shares = λ s bad. cc;
  misses = λ s bad. cc;
}

pub never_memory : (p : Program) (t : TypesView) (sigs : List Sig) → Stops (rules p t sigs) (Err Memory) → ⊥
never_memory p t sigs stops = stop_of (rules p t sigs) IsRule (rules_rule p t sigs) Memory stops refl
