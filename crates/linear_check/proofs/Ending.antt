-- Where a loop over two lists ends.
use Rattle.std.proofs.Common.{◌≡◌, ℕ, ◌<◌, false, eqb, List, [], ◌∷◌, length, Ok, refl, arith, inl, inr, ◌⊎◌}
use Rattle.std.proofs.lemmas.Bool.{false≢true}
use Rattle.sierra_types.specs.declared.program.Branch.{Branch}
use Rattle.type_table.specs.declared.type_id.TypeId.{TypeId}
use Rattle.held_list.specs.Held.{Held}
use Rattle.linear_check.specs.Flow.{taken, added, counts_agree}

pub taken_end : (s : ℕ) (vs : List ℕ) (ts : List TypeId) (held : Held TypeId) → length ts < 1 → taken s vs ts held ≡ Ok held
taken_end s [] ts held none = refl
taken_end s (v ∷ vs) [] held none = refl
taken_end s (v ∷ vs) (t ∷ ts) held none = absurd (omega arith)

pub added_end : (s : ℕ) (vs : List ℕ) (ts : List TypeId) (held : Held TypeId) → length ts < 1 → added s vs ts held ≡ Ok held
added_end s [] ts held none = refl
added_end s (v ∷ vs) [] held none = refl
added_end s (v ∷ vs) (t ∷ ts) held none = absurd (omega arith)

pub counts_end : (bs : List Branch) (ts : List (List TypeId)) → (length bs < 1) ⊎ (length ts < 1) → false ≡ eqb (length bs) 0 → counts_agree bs ts ≡ false
counts_end [] ts none some = absurd (false≢true some)
counts_end (b ∷ bs) [] none some = refl
counts_end (b ∷ bs) (t ∷ ts) (inl none) some = absurd (omega arith)
counts_end (b ∷ bs) (t ∷ ts) (inr none) some = absurd (omega arith)
