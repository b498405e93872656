-- What assembling answers, by what reading the text gives.
use Rattle.std.proofs.Common.{◌≡◌, ◌≢◌, ◌↔◌, ℕ, ◌-◌, List, [], length, take, Option, None, Some, Ok, Err, refl, sym, ◌∙◌, ap, subst, inl, inr, ◌⊎◌, arith}
use Rattle.std.specs.Prelude.{◌^◌, IsTrue, true, false}
use Rattle.std.proofs.lemmas.Bool.{cases_lt}
use Rattle.casm_word.specs.declared.instr.Instr.{Instr}
use Rattle.text_reading.specs.declared.stop.Stop.{Stop}
use Rattle.text_reading.specs.declared.stop.Stop.TheVariants as stops
use Rattle.text_reading.specs.Given.{Gives}
use Rattle.text_reading.specs.Places.{line_behind}
use Rattle.text_reading.specs.Reading.{Answer, Answer.answers}
use Rattle.text_reading.proofs.Limits.{Passes}
use Rattle.text_reading.proofs.OnePlace.{one_place, front_is}
use Rattle.casm_text.specs.declared.fault.NumberKind.{NumberKind}
use Rattle.casm_text.specs.declared.fault.NumberKind.TheVariants as kinds
use Rattle.casm_text.specs.declared.fault.AsmFault.{AsmFault}
use Rattle.casm_text.specs.declared.fault.AsmFault.TheVariants as faults
use Rattle.casm_text.specs.Text.{Text, standard}
use Rattle.casm_text.specs.Reading.{code_at}
use Rattle.casm_text.specs.Refusals.{word_count, IsShort, place_behind, refusal_of, Ends, PassesLimit, Refused}
use Rattle.casm_text.proofs.CodeReading.{code_sound, code_complete, code_place, code_limit}

-- ---- a text of code

module _ (text rest : List ℕ) (code : List Instr) (read : code_at standard text ≡ answers (Ok code) rest) where
  pub read_code : Text standard code text
  read_code = (code_sound text rest code read).0

  -- the text of a code is the text of no other
  pub same_code : (other : List Instr) → Text standard other text → code ≡ other
  same_code other h = let again = code_complete text other h in let both : answers (Ok code) rest ≡ answers (Ok other) [] = sym read ∙ again in cc

  not_at_a_place : (front left : List ℕ) → Ends text front left → ⊥
  not_at_a_place front left ends = ends.no_code code read_code

  -- code that is short is not refused
  pub short_not_refused : IsShort code → (fault : AsmFault) → Refused text fault → ⊥
  short_not_refused short (faults.Syntax place) h = not_at_a_place h.0 h.1 h.2
  short_not_refused short (faults.OffsetRange line) h = not_at_a_place h.0 h.1 h.2
  short_not_refused short (faults.ImmRange line) h = not_at_a_place h.0 h.1 h.2
  short_not_refused short faults.TooLong h =
      let same = ap word_count (same_code h.0 h.1) in omega (arith, h.2)
  short_not_refused short faults.Memory h = h

  -- code that is long is refused as too long alone
  pub long_refused : (fault : AsmFault) → Refused text fault → (faults.TooLong ≡ fault) ⊎ (faults.TooLong ≡ faults.Memory)
  long_refused (faults.Syntax place) h = absurd (not_at_a_place h.0 h.1 h.2)
  long_refused (faults.OffsetRange line) h = absurd (not_at_a_place h.0 h.1 h.2)
  long_refused (faults.ImmRange line) h = absurd (not_at_a_place h.0 h.1 h.2)
  long_refused faults.TooLong h = inl refl
  long_refused faults.Memory h = absurd h

-- ---- a text that is refused at a place

-- the fault of a stop
abbrev fault_of : Option NumberKind → List ℕ → AsmFault
fault_of None front = faults.Syntax (place_behind front)
fault_of (Some kinds.Offset) front = faults.OffsetRange (line_behind front)
fault_of (Some kinds.Imm) front = faults.ImmRange (line_behind front)

module _ (text rest : List ℕ) (why : Option NumberKind) (read : code_at standard text ≡ answers (Err why) rest) where
  front : List ℕ
  front = (code_place text rest why read).0

  ends : Ends text front rest
  unfolding front
  ends = let found = code_place text rest why read in record { place = found.1; no_code = found.2 }

  limits : (kind : NumberKind) → Passes {A = List Instr} kind (Err why) ↔ PassesLimit kind front rest
  limits kind = code_limit kind front rest why (ap (code_at standard) (sym ends.place.parts) ∙ read)

  front_taken : take (length text - length rest) text ≡ front
  front_taken = front_is text front rest ends.place.parts

  -- no code has the text
  no_code : (code : List Instr) → Text standard code text → ⊥
  no_code = ends.no_code

  -- the fault has its cause
  stop_refused : Refused text (fault_of why front)
  stop_refused = go why limits
    where
      go : (reason : Option NumberKind) → ((kind : NumberKind) → Passes {A = List Instr} kind (Err reason) ↔ PassesLimit kind front rest) → Refused text (fault_of reason front)
      go None limits = (front, rest, ends, λ kind passes. (limits kind).1 passes, refl)
      go (Some kinds.Offset) limits = (front, rest, ends, (limits kinds.Offset).0 refl, refl)
      go (Some kinds.Imm) limits = (front, rest, ends, (limits kinds.Imm).0 refl, refl)

  -- it stops at no number of a limited kind
  reason_none : ((kind : NumberKind) → PassesLimit kind front rest → ⊥) → why ≡ None
  reason_none never = go why limits
    where
      go : (reason : Option NumberKind) → ((kind : NumberKind) → Passes {A = List Instr} kind (Err reason) ↔ PassesLimit kind front rest) → reason ≡ None
      go None limits = refl
      go (Some kind) limits = absurd (never kind ((limits kind).0 refl))

  reason_is : (kind : NumberKind) → PassesLimit kind front rest → why ≡ Some kind
  reason_is kind passes = go why ((limits kind).1 passes)
    where
      go : (reason : Option NumberKind) → Passes {A = List Instr} kind (Err reason) → reason ≡ Some kind
      go None p = absurd p
      go (Some other) p = ap Some p

  same_place : (other left : List ℕ) → Ends text other left → (other ≡ front) × (left ≡ rest)
  same_place other left other_ends = one_place (Text standard) text other left front rest other_ends.place ends.place

  -- and no other fault has
  only_refused : (fault : AsmFault) → Refused text fault → fault_of why front ≡ fault
  only_refused (faults.Syntax place) h =
      let same = same_place h.0 h.1 h.2 in
      let never : (kind : NumberKind) → PassesLimit kind front rest → ⊥ =
      λ kind passes. h.3 kind (subst (λ (f : List ℕ). PassesLimit kind f h.1) (sym same.0) (subst (λ (r : List ℕ). PassesLimit kind front r) (sym same.1) passes)) in
      ap (λ w. fault_of w front) (reason_none never) ∙ ap (λ (f : List ℕ). faults.Syntax (place_behind f)) (sym same.0) ∙ ap faults.Syntax (sym h.4)
  only_refused (faults.OffsetRange line) h =
      let same = same_place h.0 h.1 h.2 in
      let passes : PassesLimit kinds.Offset front rest = subst (λ (f : List ℕ). PassesLimit kinds.Offset f rest) same.0 (subst (λ (r : List ℕ). PassesLimit kinds.Offset h.0 r) same.1 h.3) in
      ap (λ w. fault_of w front) (reason_is kinds.Offset passes) ∙ ap (λ (f : List ℕ). faults.OffsetRange (line_behind f)) (sym same.0) ∙ ap faults.OffsetRange (sym h.4)
  only_refused (faults.ImmRange line) h =
      let same = same_place h.0 h.1 h.2 in
      let passes : PassesLimit kinds.Imm front rest = subst (λ (f : List ℕ). PassesLimit kinds.Imm f rest) same.0 (subst (λ (r : List ℕ). PassesLimit kinds.Imm h.0 r) same.1 h.3) in
      ap (λ w. fault_of w front) (reason_is kinds.Imm passes) ∙ ap (λ (f : List ℕ). faults.ImmRange (line_behind f)) (sym same.0) ∙ ap faults.ImmRange (sym h.4)
  only_refused faults.TooLong h = absurd (no_code h.0 h.1)
  only_refused faults.Memory h = absurd h

-- ---- by what the reader answered

module _ (text rest : List ℕ) where
  abbrev taken : List ℕ
  taken = take (length text - length rest) text

  -- the fault of a stop, with its cause
  record Stopped (fault : AsmFault) : Type 0 where
    none : (code : List Instr) → Text standard code text → ⊥
    cause : Refused text fault
    only : (other : AsmFault) → Refused text other → fault ≡ other

  stopped : (why : Option NumberKind) → code_at standard text ≡ answers (Err why) rest → Stopped (fault_of why taken)
  stopped why read =
      let same = front_taken text rest why read in
      subst (λ (f : List ℕ). Stopped (fault_of why f)) (sym same)
      (record { none = no_code text rest why read; cause = stop_refused text rest why read; only = only_refused text rest why read })

  pub stop_only : (stop : Stop NumberKind) → Gives {X = List Instr} (λ code. code) (Err stop) rest (code_at standard text)
      → (code : List Instr) → Text standard code text → IsShort code → refusal_of stop taken ≡ faults.Memory
  stop_only stops.Syntax read code h short = absurd ((stopped None read).none code h)
  stop_only (stops.Limit kinds.Offset) read code h short = absurd ((stopped (Some kinds.Offset) read).none code h)
  stop_only (stops.Limit kinds.Imm) read code h short = absurd ((stopped (Some kinds.Imm) read).none code h)
  stop_only stops.Memory read code h short = refl

  pub stop_cause : (stop : Stop NumberKind) → Gives {X = List Instr} (λ code. code) (Err stop) rest (code_at standard text)
      → refusal_of stop taken ≢ faults.Memory → Refused text (refusal_of stop taken)
  stop_cause stops.Syntax read some = (stopped None read).cause
  stop_cause (stops.Limit kinds.Offset) read some = (stopped (Some kinds.Offset) read).cause
  stop_cause (stops.Limit kinds.Imm) read some = (stopped (Some kinds.Imm) read).cause
  stop_cause stops.Memory read some = absurd (some refl)

  pub stop_exact : (stop : Stop NumberKind) → Gives {X = List Instr} (λ code. code) (Err stop) rest (code_at standard text)
      → (fault : AsmFault) → Refused text fault → (refusal_of stop taken ≡ fault) ⊎ (refusal_of stop taken ≡ faults.Memory)
  stop_exact stops.Syntax read fault h = inl ((stopped None read).only fault h)
  stop_exact (stops.Limit kinds.Offset) read fault h = inl ((stopped (Some kinds.Offset) read).only fault h)
  stop_exact (stops.Limit kinds.Imm) read fault h = inl ((stopped (Some kinds.Imm) read).only fault h)
  stop_exact stops.Memory read fault h = inr refl

-- code of which a test says that it isn't short
pub is_long : (code : List Instr) → IsTrue false ↔ IsShort code → IsShort code → ⊥
is_long code test short = let clash : false ≡ true = test.1 short in cc

-- ---- laws

pub one_code : (a b : List Instr) (text : List ℕ) → Text standard a text → Text standard b text → a ≡ b
one_code a b text h k = same_code text [] a (code_complete text a h) b k

pub one_refusal : (text : List ℕ) (a b : AsmFault) → Refused text a → Refused text b → a ≡ b
one_refusal text a b h k = go (code_at standard text) refl
  where
    too_long : (fault : AsmFault) → (faults.TooLong ≡ fault) ⊎ (faults.TooLong ≡ faults.Memory) → faults.TooLong ≡ fault
    too_long fault (inl same) = same
    too_long fault (inr clash) = absurd cc

    go : (answer : Answer NumberKind (List Instr)) → code_at standard text ≡ answer → a ≡ b
    go (answers (Ok code) rest) read = sym (too_long a (long_refused text rest code read a h)) ∙ too_long b (long_refused text rest code read b k)
    go (answers (Err why) rest) read = sym (only_refused text rest why read a h) ∙ only_refused text rest why read b k

-- each text is that of code that is short, or is refused
pub code_or_refusal : (text : List ℕ) → ((code : List Instr) × Text standard code text × IsShort code) ⊎ ((fault : AsmFault) × Refused text fault)
code_or_refusal text = go (code_at standard text) refl
  where
    by_length : (code : List Instr) → Text standard code text → ((code : List Instr) × Text standard code text × IsShort code) ⊎ ((fault : AsmFault) × Refused text fault)
    by_length code has = elim (cases_lt (2 ^ 24) (word_count code)) [
      | inl beyond ↦ inr (faults.TooLong, (code, has, beyond))
      | inr within ↦ inl (code, has, omega arith)
    ]

    go : (answer : Answer NumberKind (List Instr)) → code_at standard text ≡ answer → ((code : List Instr) × Text standard code text × IsShort code) ⊎ ((fault : AsmFault) × Refused text fault)
    go (answers (Ok code) rest) read = by_length code (read_code text rest code read)
    go (answers (Err why) rest) read = inr (fault_of why (front text rest why read), stop_refused text rest why read)

-- .. and not both
pub never_both : (text : List ℕ) (code : List Instr) (fault : AsmFault) → Refused text fault → Text standard code text → IsShort code → ⊥
never_both text code fault refused has short = short_not_refused text [] code (code_complete text code has) short fault refused
