-- Memory as cells are listed in it one behind the other, and the cells that the honest run lists.
use Rattle.std.proofs.Common.{◌≡◌, ℕ, suc, ◌+◌, ◌<◌, List, [], ◌∷◌, ◌++◌, length, drop, get_or, sym, ap, ◌∙◌, append_assoc, arith}
use Rattle.std.proofs.Math.Seq.{drop-cons}
use Rattle.std.specs.FinMap.{insert, empty, entries, entries-from_sorted, same_entries_map}
use Rattle.std.specs.Ordering.{nat_cmp}
use Rattle.ro_machine.specs.declared.machine.State.{State}
use Rattle.ro_machine.specs.Cells.{Cells, NoneFrom}
use Rattle.run_file.specs.declared.run.Run.{Run}
use Rattle.run_file.proofs.Order.{insert_last, entries-empty}
use Rattle.first_form.specs.declared.program.Program.{Program}
use Rattle.first_form.specs.declared.input.Input.{Input}
use Rattle.first_form.specs.Honest.{execution_start, cells_from, execution_of, honest_run}
use Rattle.first_form.specs.Meaning.{code_of}

-- one cell more, of those that are left
pub listed_next : (m : Cells) (words : List ℕ) (n addr next word : ℕ) → NoneFrom m addr → n < length words → word ≡ get_or words n word → next ≡ addr + 1 →
    entries (insert m addr word) ++ cells_from next (drop (n + 1) words) ≡ entries m ++ cells_from addr (drop n words)
listed_next m words n addr next word free within is next_is =
    let others = drop (n + 1) words in
    let more : n + 1 ≡ suc n = omega arith in
    let left : drop n words ≡ word ∷ others = drop-cons words n word within ∙ ap (λ w. w ∷ drop (suc n) words) (sym is) ∙ ap (λ k. word ∷ drop k words) (sym more) in
    ap (λ es. es ++ cells_from next others) (insert_last m addr word free)
    ∙ append_assoc (entries m) ((addr, word) ∷ []) (cells_from next others)
    ∙ ap (λ at. entries m ++ ((addr, word) ∷ cells_from at others)) next_is
    ∙ ap (λ ws. entries m ++ cells_from addr ws) (sym left)

-- a memory in which the code and then the execution were listed is that of the honest run
pub honest_listed : (program : Program) (input : Input) (m first second : Cells) (from start : ℕ) (code execution : List ℕ) →
    m ≡ empty → from ≡ 0 → code ≡ code_of program → entries first ≡ entries m ++ cells_from from code →
    start ≡ execution_start → execution ≡ execution_of program input → entries second ≡ entries first ++ cells_from start execution →
    second ≡ (honest_run program input).memory
honest_listed program input m first second from start code execution m_is from_is code_is first_is start_is execution_is second_is =
    let none : entries m ≡ [] = ap entries m_is ∙ entries-empty in
    let code_listed : entries first ≡ cells_from 0 (code_of program) =
    first_is ∙ ap (λ es. es ++ cells_from from code) none ∙ ap (λ at. cells_from at code) from_is ∙ ap (cells_from 0) code_is in
    same_entries_map _ _
    (second_is
    ∙ ap (λ es. es ++ cells_from start execution) code_listed
    ∙ ap (λ at. cells_from 0 (code_of program) ++ cells_from at execution) start_is
    ∙ ap (λ words. cells_from 0 (code_of program) ++ cells_from execution_start words) execution_is
    ∙ sym (entries-from_sorted nat_cmp _ tt))

pub same_run : (rc rc' : ℕ) (m m' : Cells) (states states' : List State) → rc ≡ rc' → m ≡ m' → states ≡ states' →
    ◌≡◌ {A = Run} (record { rc = rc; memory = m; states = states }) (record { rc = rc'; memory = m'; states = states' })
same_run rc rc' m m' states states' same_rc same_m same_states = cc

pub same_words : (first second third fourth second' third' fourth' : ℕ) → second ≡ second' → third ≡ third' → fourth ≡ fourth' →
    ◌≡◌ {A = List ℕ} (first ∷ second ∷ third ∷ fourth ∷ []) (first ∷ second' ∷ third' ∷ fourth' ∷ [])
same_words first second third fourth second' third' fourth' b c d = cc
