-- Writes one after another, for the crates above: what several of them wrote together.
use Rattle.std.specs.Prelude.{⊤}
use Rattle.std.proofs.Common.{ℕ, zero, suc, ◌≡◌, ◌+◌, ◌≤◌, List, [], ◌∷◌, ◌++◌, length, take, Option, Some, None, Result, Ok, Err, refl, sym, ap, subst, ◌∙◌, inl, inr, append_assoc, append-nil, arith}
use Rattle.std.proofs.lemmas.Bool.{cases_lt}
use Rattle.std.proofs.lemmas.List.{take-append-le}
use Rattle.std.proofs.Math.Seq.{take-append-add, take-length}
use Rattle.edge_io.specs.Sinks.{SinkView, Appends, WritesAll, WritesPart, Writes}
use Rattle.edge_io.specs.declared.sinks.Failed.{Failed}

Appends-nothing : (a : Option (List ℕ)) → Appends a a []
Appends-nothing None = tt
Appends-nothing (Some x) = sym (append-nil x)

Appends-both : (a b c : Option (List ℕ)) (xs ys : List ℕ) → Appends a b xs → Appends b c ys → Appends a c (xs ++ ys)
Appends-both a b None xs ys h k = tt
Appends-both a None (Some z) xs ys h k = absurd k
Appends-both None (Some y) (Some z) xs ys h k = absurd h
Appends-both (Some x) (Some y) (Some z) xs ys h k = k ∙ ap (λ front. front ++ ys) h ∙ append_assoc x xs ys

-- a prefix that is no shorter than the list is the list
take_past : (n : ℕ) (xs : List ℕ) → length xs ≤ n → take n xs ≡ xs
take_past zero [] past = refl
take_past (suc n) [] past = refl
take_past zero (x ∷ xs) past = absurd (omega arith)
take_past (suc n) (x ∷ xs) past = ap (λ rest. x ∷ rest) (take_past n xs (omega arith))

-- a prefix of some bytes is one of more bytes
take_wider : (n : ℕ) (xs ys : List ℕ) → (m : ℕ) × (take m (xs ++ ys) ≡ take n xs)
take_wider n xs ys = elim (cases_lt n (length xs)) [
  | inl below ↦ (n, take-append-le n xs ys (omega arith))
  | inr above ↦ (length xs, take-append-le (length xs) xs ys (omega arith) ∙ take-length xs ∙ sym (take_past n xs above))
]

-- no write writes nothing
pub writes_nothing : (a : SinkView) → WritesAll a a []
writes_nothing a = record { appended = Appends-nothing a.written; kept = omega arith }

-- what was written in part is a part of more
pub writes_part : (a b : SinkView) (xs ys : List ℕ) → WritesPart a b xs → WritesPart a b (xs ++ ys)
writes_part a b xs ys part =
    let wider = take_wider part.prefix xs ys in
    record { prefix = wider.0; appended = subst (Appends a.written b.written) (sym wider.1) part.appended; kept = part.kept; rose = part.rose }

-- all of the first bytes, and then the second ones, up to a fault
pub writes_then : (a b c : SinkView) (xs ys : List ℕ) (result : Result ⊤ Failed) → WritesAll a b xs → Writes b c ys result → Writes a c (xs ++ ys) result
writes_then a b c xs ys (Ok done) first second =
    record { appended = Appends-both a.written b.written c.written xs ys first.appended second.appended; kept = omega (arith, first.kept, second.kept) }
writes_then a b c xs ys (Err fault) first second = record {
  prefix = length xs + second.prefix;
  appended = subst (Appends a.written c.written) (sym (take-append-add xs ys second.prefix)) (Appends-both a.written b.written c.written xs (take second.prefix ys) first.appended second.appended);
  kept = omega (arith, first.kept, second.kept);
  rose = omega (arith, first.kept, second.rose);
}
