-- Counting the words of code from its front.
use Rattle.std.proofs.Common.{◌≡◌, ℕ, ◌+◌, ◌<◌, ◌≤◌, List, [], ◌∷◌, ◌++◌, length, get_or, take, drop, sym, ◌∙◌, ap, arith}
use Rattle.std.specs.List.{flat_map}
use Rattle.std.proofs.lemmas.List.{take_more, take-append-drop, length-append, append-nil}
use Rattle.std.proofs.lemmas.List.Concat.{flat_map-append, flat_map-cons}
use Rattle.std.specs.Prelude.{false, pos}
use Rattle.casm_word.specs.declared.instr.Reg.TheVariants as regs
use Rattle.casm_word.specs.declared.instr.Res.TheVariants as results
use Rattle.casm_word.specs.declared.instr.Instr.{Instr}
use Rattle.casm_word.specs.declared.instr.Instr.TheVariants as instrs
use Rattle.casm_word.specs.Encoding.{words_of}
use Rattle.casm_text.specs.Refusals.{word_count}

count-append : (a b : List Instr) → word_count (a ++ b) ≡ word_count a + word_count b
count-append a b = ap length (flat_map-append words_of a b) ∙ length-append (flat_map words_of a) (flat_map words_of b)

count_front : (n : ℕ) (code : List Instr) → word_count (take n code) ≤ word_count code
count_front n code =
    let whole : word_count code ≡ word_count (take n code ++ drop n code) = ap word_count (sym (take-append-drop n code)) in
    omega (arith, whole, count-append (take n code) (drop n code))

count_one : (i : Instr) → word_count (i ∷ []) ≡ length (words_of i)
count_one i = ap length (flat_map-cons words_of i [] ∙ append-nil (words_of i))

-- one more instruction
pub count_more : (code : List Instr) (at : ℕ) (default : Instr) → at < length code → word_count (take (at + 1) code) ≡ word_count (take at code) + length (words_of (get_or code at default))
count_more code at default within =
    ap word_count (take_more code at default within) ∙ count-append (take at code) (get_or code at default ∷ [])
    ∙ ap (λ n. word_count (take at code) + n) (count_one (get_or code at default))

pub count_within : (code : List Instr) (at : ℕ) (default : Instr) → at < length code → word_count (take at code) + length (words_of (get_or code at default)) ≤ word_count code
count_within code at default within = omega (arith, count_more code at default within, count_front (at + 1) code)

-- an instruction that stands where there is none
abbrev pub first_instr : Instr
first_instr = instrs.AssertEq (record { reg = regs.Ap; off = pos 0 }) (results.Cell (record { reg = regs.Ap; off = pos 0 })) false
