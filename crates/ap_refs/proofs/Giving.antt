-- What the branches of a statement give, one after another.
use Rattle.std.proofs.Common.{◌≡◌, ℕ, zero, suc, ◌+◌, ◌<◌, ◌==◌, true, false, List, [], ◌∷◌, ◌++◌, length, map, drop, get_or, Result, Ok, Err, refl, sym, ap, subst, ◌∙◌, arith}
use Rattle.std.specs.List.{All}
use Rattle.std.proofs.lemmas.Bool.{true≢false}
use Rattle.std.proofs.lemmas.List.{append-nil, append_assoc}
use Rattle.sierra_types.specs.declared.program.Branch.{Branch}
use Rattle.type_table.specs.declared.type_id.TypeId.{TypeId}
use Rattle.type_table.specs.View.{TypesView}
use Rattle.libfunc_registry.specs.declared.libfunc.Libfunc.{Libfunc}
use Rattle.held_list.specs.Held.{Held}
use Rattle.linear_check.specs.Statements.{target_of}
use Rattle.linear_check.proofs.Counts.{drop_at}
use Rattle.ap_refs.specs.declared.fault.RefFault.{RefFault}
use Rattle.ap_refs.specs.declared.place.Locals.{Locals}
use Rattle.ap_refs.specs.declared.place.Place.{Place}
use Rattle.ap_refs.specs.Arguments.{Cells}
use Rattle.ap_refs.specs.Moves.{behind}
use Rattle.ap_refs.specs.Flow.{branch_parts, all_pass}

pass_more : (given : List (ℕ × Place)) (part : ℕ × Place) → all_pass (given ++ part ∷ []) ≡ all_pass given ++ Ok part ∷ []
pass_more [] part = refl
pass_more (x ∷ xs) part = ap (λ ys. Ok x ∷ ys) (pass_more xs part)

pub not_empty : (n : ℕ) → (n == 0) ≡ false → 0 < n
not_empty zero is = absurd (true≢false is)
not_empty (suc n) is = omega arith

drop_all : {A : Type 0} (xs : List A) (k : ℕ) → k ≡ length xs → drop k xs ≡ []
drop_all [] zero is = refl
drop_all [] (suc k) is = refl
drop_all (x ∷ xs) zero is = absurd (omega arith)
drop_all (x ∷ xs) (suc k) is = drop_all xs k (omega arith)

module _ (t : TypesView) (s : ℕ) (libfunc : Libfunc) (place : Place) (args : Cells) (rest : Held Cells) (locals : Locals) (amount : ℕ) where
  abbrev Parts : ℕ → List Branch → List (List TypeId) → List (Result (ℕ × Place) RefFault)
  Parts k bs ts = branch_parts t s libfunc place args rest locals amount k bs ts

  -- what was given, with what is still given, is all
  abbrev pub SoFar : List Branch → List (List TypeId) → ℕ → List (ℕ × Place) → Type 0
  SoFar bs ts k given = Parts 0 bs ts ≡ all_pass given ++ Parts k (drop k bs) (drop k ts)

  pub none_given : (bs : List Branch) (ts : List (List TypeId)) (given : List (ℕ × Place)) → given ≡ [] → SoFar bs ts 0 given
  none_given bs ts given is = ap (λ g. all_pass g ++ Parts 0 bs ts) (sym is)

  parts_at : (bs : List Branch) (ts : List (List TypeId)) (k : ℕ) (b : Branch) (types : List TypeId) → k < length bs → k < length ts → b ≡ get_or bs k b → types ≡ get_or ts k types
      → Parts k (drop k bs) (drop k ts) ≡ Ok (target_of s b.target, behind t libfunc place args rest locals amount k b.results types) ∷ Parts (k + 1) (drop (k + 1) bs) (drop (k + 1) ts)
  parts_at bs ts k b types lt lt' read read' = ap (λ l. Parts k l (drop k ts)) (drop_at bs k b lt read) ∙ ap (Parts k (b ∷ drop (k + 1) bs)) (drop_at ts k types lt' read')

  pub one_given : (bs : List Branch) (ts : List (List TypeId)) (k : ℕ) (b : Branch) (types : List TypeId) (given more : List (ℕ × Place)) (part : ℕ × Place)
      → k < length bs → length bs ≡ length ts → b ≡ get_or bs k b → types ≡ get_or ts k types → more ≡ given ++ part ∷ [] → part.0 ≡ target_of s b.target
      → part.1 ≡ behind t libfunc place args rest locals amount k b.results types → SoFar bs ts k given → SoFar bs ts (k + 1) more
  one_given bs ts k b types given more part lt long read read' pushed leads is sofar =
      let later = Parts (k + 1) (drop (k + 1) bs) (drop (k + 1) ts) in
      let whole : ℕ × Place = (target_of s b.target, behind t libfunc place args rest locals amount k b.results types) in
      let same : part ≡ whole = ap (λ n. (n, part.1)) leads ∙ ap (λ m. (target_of s b.target, m)) is in
      let here : all_pass more ≡ all_pass given ++ Ok whole ∷ [] = ap all_pass pushed ∙ ap (λ x. all_pass (given ++ x ∷ [])) same ∙ pass_more given whole in
      sofar ∙ ap (λ l. all_pass given ++ l) (parts_at bs ts k b types lt (omega (arith, long)) read read') ∙ sym (append_assoc (all_pass given) (Ok whole ∷ []) later) ∙ ap (λ l. l ++ later) (sym here)

  pub all_given : (bs : List Branch) (ts : List (List TypeId)) (k : ℕ) (given : List (ℕ × Place)) → k ≡ length bs → SoFar bs ts k given → Parts 0 bs ts ≡ all_pass given
  all_given bs ts k given is sofar = sofar ∙ ap (λ l. all_pass given ++ Parts k l (drop k ts)) (drop_all bs k is) ∙ append-nil (all_pass given)
