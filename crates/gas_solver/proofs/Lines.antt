-- The lines of a plan, one after another.
use Rattle.std.proofs.Common.{◌≡◌, ℕ, ◌+◌, ◌<◌, ◌≤◌, List, ◌∷◌, ◌++◌, length, slice_index, drop, Option, Some, None, sym, ap, ◌∙◌, arith}
use Rattle.std.specs.List.{slice_get}
use Rattle.std.proofs.lemmas.List.{append-nil, append_assoc, drop_all, drop_more}
use Rattle.std.proofs.lemmas.Option.{get_or_from_slice_get}
use Rattle.gas_solver.specs.Printing.{statement_line, statement_lines}

-- the lines from n on
abbrev pub lines_from : List ℕ → List (Option ℕ) → ℕ → List ℕ
lines_from needs amounts n = statement_lines n (drop n needs) (drop n amounts)

pub lines_more : (needs : List ℕ) (amounts : List (Option ℕ)) (n need : ℕ) (amount : Option ℕ) (text line whole : List ℕ) → length amounts ≡ length needs → n < length needs → need ≡ slice_index needs n → slice_get amounts n ≡ Some amount
    → line ≡ statement_line n need amount → text ++ lines_from needs amounts n ≡ whole → (text ++ line) ++ lines_from needs amounts (n + 1) ≡ whole
lines_more needs amounts n need amount text line whole long lt is at written so =
    let one : drop n needs ≡ need ∷ drop (n + 1) needs = drop_more needs n 0 lt ∙ ap (λ x. x ∷ drop (n + 1) needs) (sym is) in
    let two : drop n amounts ≡ amount ∷ drop (n + 1) amounts = drop_more amounts n None (omega (arith, long)) ∙ ap (λ x. x ∷ drop (n + 1) amounts) (get_or_from_slice_get amounts n amount None at) in
    let there : lines_from needs amounts n ≡ statement_line n need amount ++ lines_from needs amounts (n + 1) = ap (λ xs. statement_lines n xs (drop n amounts)) one ∙ ap (statement_lines n (need ∷ drop (n + 1) needs)) two in
    append_assoc text line (lines_from needs amounts (n + 1)) ∙ ap (λ l. text ++ (l ++ lines_from needs amounts (n + 1))) written ∙ ap (λ l. text ++ l) (sym there) ∙ so

pub lines_end : (needs : List ℕ) (amounts : List (Option ℕ)) (n : ℕ) (text whole : List ℕ) → length needs ≤ n → text ++ lines_from needs amounts n ≡ whole → text ≡ whole
lines_end needs amounts n text whole past so =
    sym (append-nil text) ∙ ap (λ l. text ++ l) (sym (ap (λ xs. statement_lines n xs (drop n amounts)) (drop_all n needs past))) ∙ so
