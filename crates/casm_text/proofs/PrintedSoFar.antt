-- What was printed of the first instructions, and of one more.
use Rattle.std.proofs.Common.{◌≡◌, ℕ, ◌+◌, ◌<◌, List, [], ◌∷◌, ◌++◌, length, take, get_or, sym, ◌∙◌, ap, subst}
use Rattle.std.specs.List.{All, flat_map}
use Rattle.std.proofs.lemmas.List.{take_more, append-nil}
use Rattle.std.proofs.lemmas.List.Elements.{All-push}
use Rattle.std.proofs.lemmas.Grind.{flat_map-append}
use Rattle.casm_word.specs.declared.instr.Instr.{Instr}
use Rattle.casm_text.specs.Printing.{instr_text, printed}

pub all_more : (P : Instr → Type 0) (xs : List Instr) (i : ℕ) (d : Instr) → i < length xs → All P (take i xs) → P (get_or xs i d) → All P (take (i + 1) xs)
all_more P xs i d below so_far here = subst (λ (l : List Instr). All P l) (sym (take_more xs i d below)) (All-push P (take i xs) (get_or xs i d) so_far here)

pub text_more : (xs : List Instr) (i : ℕ) (d : Instr) (before after : List ℕ) → i < length xs → before ≡ printed (take i xs) → after ≡ before ++ instr_text (get_or xs i d) → after ≡ printed (take (i + 1) xs)
text_more xs i d before after below before_is after_is =
    let one : flat_map instr_text (get_or xs i d ∷ []) ≡ instr_text (get_or xs i d) = append-nil (instr_text (get_or xs i d)) in
    let whole : printed (take (i + 1) xs) ≡ printed (take i xs) ++ flat_map instr_text (get_or xs i d ∷ []) =
    ap printed (take_more xs i d below) ∙ flat_map-append instr_text (take i xs) (get_or xs i d ∷ []) in
    let more : printed (take (i + 1) xs) ≡ printed (take i xs) ++ instr_text (get_or xs i d) = whole ∙ ap (λ (t : List ℕ). printed (take i xs) ++ t) one in
    after_is ∙ ap (λ (b : List ℕ). b ++ instr_text (get_or xs i d)) before_is ∙ sym more
