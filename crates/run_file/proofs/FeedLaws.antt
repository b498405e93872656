-- What a piece changes: it is taken number by number, and the bytes behind the last one are kept.
use Rattle.std.proofs.Common.{◌≡◌, ℕ, ◌+◌, List, [], ◌++◌, length, Result, Ok, Err, refl, sym, ap, ◌∙◌, append_assoc, length-append, arith}
use Rattle.std.proofs.lemmas.List.{append-nil}
use Rattle.byte_reading.specs.Reading.{◌>>=◌}
use Rattle.run_file.specs.declared.refusal.FileRefusal.{FileRefusal}
use Rattle.run_file.specs.declared.refusal.FileRefusal.TheVariants as refusals
use Rattle.run_file.specs.declared.progress.Progress.{Progress}
use Rattle.run_file.specs.Spelling.{Listing}
use Rattle.run_file.specs.Reading.{run_of, refusal_in}
use Rattle.run_file.specs.Stages.{IsFinal}
use Rattle.run_file.specs.Progress.{rest_of}

-- a number takes eight of the bytes
pub eight_behind : (unfinished rest number behind : List ℕ) → length number ≡ 8 → unfinished ++ rest ≡ number ++ behind → length unfinished + length rest ≡ 8 + length behind
eight_behind unfinished rest number behind eight same =
    omega (arith, ap length same, length-append unfinished rest, length-append number behind, eight)

-- the bytes with what may follow them
with_more : (unfinished rest number behind more : List ℕ) → unfinished ++ rest ≡ number ++ behind → unfinished ++ (rest ++ more) ≡ number ++ (behind ++ more)
with_more unfinished rest number behind more same =
    sym (append_assoc unfinished rest more) ∙ (ap (λ (t : List ℕ). t ++ more) same ∙ append_assoc number behind more)

-- what the rest says behind the number
pub goes_on : (old new : Progress) (unfinished rest number behind kept more : List ℕ) → unfinished ++ rest ≡ number ++ behind → kept ≡ [] → rest_of old (number ++ (behind ++ more)) ≡ rest_of new (behind ++ more) → rest_of new (kept ++ (behind ++ more)) ≡ rest_of old (unfinished ++ (rest ++ more))
goes_on old new unfinished rest number behind kept more same none step =
    ap (λ (k : List ℕ). rest_of new (k ++ (behind ++ more))) none ∙ (sym step ∙ ap (rest_of old) (sym (with_more unfinished rest number behind more same)))

pub refused_behind : (old : Progress) (unfinished rest number behind more : List ℕ) (e : FileRefusal) → unfinished ++ rest ≡ number ++ behind → ((more : List ℕ) → rest_of old (number ++ more) ≡ Err e) → rest_of old (unfinished ++ (rest ++ more)) ≡ Err e
refused_behind old unfinished rest number behind more e same refused =
    ap (rest_of old) (with_more unfinished rest number behind more same) ∙ refused (behind ++ more)

-- a piece that was taken whole into the bytes that are kept
pub none_behind : (old : Progress) (unfinished rest kept behind more : List ℕ) → kept ≡ unfinished ++ rest → rest_of old (unfinished ++ (rest ++ more)) ≡ rest_of old (kept ++ more)
none_behind old unfinished rest kept behind more is =
    ap (rest_of old) (sym (append_assoc unfinished rest more) ∙ ap (λ (t : List ℕ). t ++ more) (sym is))

-- ---- what feed answers

-- a refusal other than that the file ends early or memory ran out is final, and stays one
pub is_final : (e : FileRefusal) → ((at : ℕ) → e ≡ refusals.Cut at → ⊥) → (e ≡ refusals.Memory → ⊥) → IsFinal e
is_final refusals.Magic cut memory = tt
is_final (refusals.WordRange at) cut memory = tt
is_final (refusals.Order at) cut memory = tt
is_final (refusals.Cut at) cut memory = cut at refl
is_final (refusals.Extra at) cut memory = tt
is_final refusals.StepsAbove cut memory = tt
is_final refusals.Memory cut memory = memory refl

final_stays : (e : FileRefusal) → IsFinal e → refusal_in {X = Listing} (Err e) ≡ Err e
final_stays refusals.Magic final = refl
final_stays (refusals.WordRange at) final = refl
final_stays (refusals.Order at) final = refl
final_stays (refusals.Cut at) final = absurd final
final_stays (refusals.Extra at) final = refl
final_stays refusals.StepsAbove final = refl
final_stays refusals.Memory final = absurd final

-- the run and the parts that it is made of are refused for the same
same_refusal : (r : Result Listing FileRefusal) → refusal_in (r >>= λ l. Ok (run_of l)) ≡ refusal_in r
same_refusal (Ok l) = refl
same_refusal (Err refusals.Magic) = refl
same_refusal (Err (refusals.WordRange at)) = refl
same_refusal (Err (refusals.Order at)) = refl
same_refusal (Err (refusals.Cut at)) = refl
same_refusal (Err (refusals.Extra at)) = refl
same_refusal (Err refusals.StepsAbove) = refl
same_refusal (Err refusals.Memory) = refl

pub answer_ok : (old new : Progress) (unfinished kept piece : List ℕ) → ((more : List ℕ) → rest_of new (kept ++ more) ≡ rest_of old (unfinished ++ (piece ++ more))) → refusal_in (rest_of new kept) ≡ Ok tt → refusal_in (rest_of old (unfinished ++ piece) >>= λ l. Ok (run_of l)) ≡ Ok tt
answer_ok old new unfinished kept piece rest waits =
    let same : rest_of new kept ≡ rest_of old (unfinished ++ piece) =
    ap (rest_of new) (sym (append-nil kept)) ∙ (rest [] ∙ ap (λ (t : List ℕ). rest_of old (unfinished ++ t)) (append-nil piece)) in
    same_refusal (rest_of old (unfinished ++ piece)) ∙ (ap refusal_in (sym same) ∙ waits)

pub answer_err : (old : Progress) (unfinished piece : List ℕ) (e : FileRefusal) → IsFinal e → ((more : List ℕ) → rest_of old (unfinished ++ (piece ++ more)) ≡ Err e) → refusal_in (rest_of old (unfinished ++ piece) >>= λ l. Ok (run_of l)) ≡ Err e
answer_err old unfinished piece e final refused =
    let now : rest_of old (unfinished ++ piece) ≡ Err e = ap (λ (t : List ℕ). rest_of old (unfinished ++ t)) (sym (append-nil piece)) ∙ refused [] in
    same_refusal (rest_of old (unfinished ++ piece)) ∙ (ap refusal_in now ∙ final_stays e final)
