-- What reading answers, by what the reader on lists gives.
use Rattle.std.proofs.Common.{◌≡◌, ◌≢◌, ◌↔◌, ℕ, ◌-◌, ◌^◌, List, length, take, Option, None, Some, Ok, Err, refl, sym, ◌∙◌, ap, subst, inl, inr, ◌⊎◌, arith}
use Rattle.text_reading.specs.declared.stop.Stop.{Stop}
use Rattle.text_reading.specs.declared.stop.Stop.TheVariants as stops
use Rattle.text_reading.specs.Given.{Gives}
use Rattle.std.proofs.lemmas.Bool.{cases_lt}
use Rattle.text_reading.specs.Reading.{Answer, Answer.answers}
use Rattle.text_reading.proofs.Limits.{Passes}
use Rattle.text_reading.proofs.OnePlace.{one_place, front_is}
use Rattle.text_reading.proofs.WholeReaders.{IsWhole, one_tree, whole_place, whole_limit}
use Rattle.sierra_types.specs.declared.program.Program.{Program}
use Rattle.sierra_text.specs.declared.fault.TextFault.{TextFault}
use Rattle.sierra_text.specs.declared.fault.TextFault.TheVariants as faults
use Rattle.sierra_text.specs.Text.{Text, standard, unlimited}
use Rattle.sierra_text.specs.LabelReading.{too_wide}
use Rattle.sierra_text.specs.ProgramReading.{program_at}
use Rattle.sierra_text.specs.Refusals.{IsShort, IsLong, place_behind, before_digits, refusal_of, Ends, PassesLimit, Refused, ReadsAs}
use Rattle.sierra_text.specs.Layout.{layout}
use Rattle.sierra_text.proofs.PrintedTexts.{layout_is_text}
use Rattle.sierra_text.proofs.ProgramForms.{standard_wide, unlimited_wide, program_whole, program_lifts}

abbrev pub whole : IsWhole (program_at standard) (Text standard)
whole = program_whole standard standard_wide

-- the text of a program is the text of no other
pub same_program : (text : List ℕ) (one other : Program) → Text standard one text → Text standard other text → one ≡ other
same_program = one_tree (program_at standard) (Text standard) whole

pub not_both : (program : Program) → IsShort program → IsLong program → ⊥
not_both program short (inl (inl more)) = omega (arith, short.types)
not_both program short (inl (inr more)) = omega (arith, short.libfuncs)
not_both program short (inr (inl more)) = omega (arith, short.statements)
not_both program short (inr (inr more)) = omega (arith, short.functions)

short_or_long : (program : Program) → IsShort program ⊎ IsLong program
short_or_long program = elim (cases_lt (2 ^ 16) (length program.types)) [
  | inl more ↦ inr (inl (inl more))
  | inr types ↦ elim (cases_lt (2 ^ 16) (length program.libfuncs)) [
    | inl more ↦ inr (inl (inr more))
    | inr libfuncs ↦ elim (cases_lt (2 ^ 20) (length program.statements)) [
      | inl more ↦ inr (inr (inl more))
      | inr statements ↦ elim (cases_lt (2 ^ 16) (length program.functions)) [
        | inl more ↦ inr (inr (inr more))
        | inr functions ↦ inl (record { types = omega arith; libfuncs = omega arith; statements = omega arith; functions = omega arith })
      ]
    ]
  ]
]

-- ---- a text of a program

-- that of a short program is not refused
pub short_not_refused : (program : Program) (text : List ℕ) → Text standard program text → IsShort program → (fault : TextFault) → Refused text fault → ⊥
short_not_refused program text is short (faults.Syntax place) h = h.2.no_program program is
short_not_refused program text is short (faults.NumberTooWide place) h = h.2.no_program program is
short_not_refused program text is short faults.TooLong h = not_both program short (subst IsLong (same_program text h.0 program h.1 is) h.2)
short_not_refused program text is short faults.Memory h = h

-- what is read of the plain layout
pub layout_reads_back : (program : Program) (text : List ℕ) → Text standard program text → IsShort program → ReadsAs program (layout program)
layout_reads_back program text is short =
    let printed = layout_is_text program text is in
    record {
      is_text = printed;
      no_other = λ other h. same_program (layout program) other program h printed;
      accepted = short_not_refused program (layout program) printed short;
    }

-- two programs with one layout have one text
pub same_layout : (one other : Program) (text other_text : List ℕ) → Text standard one text → Text standard other other_text → layout one ≡ layout other → one ≡ other
same_layout one other text other_text is other_is same =
    same_program (layout other) one other (subst (Text standard one) same (layout_is_text one text is)) (layout_is_text other other_text other_is)

module _ (text rest : List ℕ) (program : Program) (read : program_at standard text ≡ answers (Ok program) rest) where
  pub read_program : Text standard program text
  read_program = (whole.sound text rest program read).0

  pub same_as_read : (other : Program) → Text standard other text → program ≡ other
  same_as_read other h = same_program text program other read_program h

  not_at_a_place : (front left : List ℕ) → Ends text front left → ⊥
  not_at_a_place front left ends = ends.no_program program read_program

  -- a program that is long is refused as too long alone
  pub long_refused : (fault : TextFault) → Refused text fault → (faults.TooLong ≡ fault) ⊎ (faults.TooLong ≡ faults.Memory)
  long_refused (faults.Syntax place) h = absurd (not_at_a_place h.0 h.1 h.2)
  long_refused (faults.NumberTooWide place) h = absurd (not_at_a_place h.0 h.1 h.2)
  long_refused faults.TooLong h = inl refl
  long_refused faults.Memory h = absurd h

-- ---- a text that is refused at a place

-- the fault of a stop
abbrev fault_of : Option (Unit {0}) → List ℕ → TextFault
fault_of None front = faults.Syntax (place_behind front)
fault_of (Some kind) front = faults.NumberTooWide (place_behind (before_digits front))

module _ (text rest : List ℕ) (why : Option (Unit {0})) (read : program_at standard text ≡ answers (Err why) rest) where
  front : List ℕ
  front = (whole_place (program_at standard) (Text standard) whole text rest why read).0

  ends : Ends text front rest
  unfolding front
  ends = let found = whole_place (program_at standard) (Text standard) whole text rest why read in record { place = found.1; no_program = found.2 }

  limits : Passes {A = Program} too_wide (Err why) ↔ PassesLimit front rest
  limits =
      whole_limit too_wide (program_at standard) (program_at unlimited) (Text unlimited) (program_whole unlimited unlimited_wide) (program_lifts standard) front rest why
      (ap (program_at standard) (sym ends.place.parts) ∙ read)

  front_taken : take (length text - length rest) text ≡ front
  front_taken = front_is text front rest ends.place.parts

  -- no program has the text
  no_program : (program : Program) → Text standard program text → ⊥
  no_program = ends.no_program

  -- the fault has its cause
  stop_refused : Refused text (fault_of why front)
  stop_refused = go why limits
    where
      go : (reason : Option (Unit {0})) → (Passes {A = Program} too_wide (Err reason) ↔ PassesLimit front rest) → Refused text (fault_of reason front)
      go None passing = (front, rest, ends, λ passes. passing.1 passes, refl)
      go (Some kind) passing = (front, rest, ends, passing.0 refl, refl)

  reason_none : (PassesLimit front rest → ⊥) → why ≡ None
  reason_none never = go why limits
    where
      go : (reason : Option (Unit {0})) → (Passes {A = Program} too_wide (Err reason) ↔ PassesLimit front rest) → reason ≡ None
      go None passing = refl
      go (Some kind) passing = absurd (never (passing.0 refl))

  reason_some : PassesLimit front rest → why ≡ Some too_wide
  reason_some passes = go why (limits.1 passes)
    where
      go : (reason : Option (Unit {0})) → Passes {A = Program} too_wide (Err reason) → reason ≡ Some too_wide
      go None p = absurd p
      go (Some other) p = ap Some p

  same_place : (other left : List ℕ) → Ends text other left → (other ≡ front) × (left ≡ rest)
  same_place other left other_ends = one_place (Text standard) text other left front rest other_ends.place ends.place

  -- and no other fault has
  only_refused : (fault : TextFault) → Refused text fault → fault_of why front ≡ fault
  only_refused (faults.Syntax place) h =
      let same = same_place h.0 h.1 h.2 in
      let never : PassesLimit front rest → ⊥ =
      λ passes. h.3 (subst (λ (f : List ℕ). PassesLimit f h.1) (sym same.0) (subst (λ (r : List ℕ). PassesLimit front r) (sym same.1) passes)) in
      ap (λ w. fault_of w front) (reason_none never) ∙ ap (λ (f : List ℕ). faults.Syntax (place_behind f)) (sym same.0) ∙ ap faults.Syntax (sym h.4)
  only_refused (faults.NumberTooWide place) h =
      let same = same_place h.0 h.1 h.2 in
      let passes : PassesLimit front rest = subst (λ (f : List ℕ). PassesLimit f rest) same.0 (subst (λ (r : List ℕ). PassesLimit h.0 r) same.1 h.3) in
      ap (λ w. fault_of w front) (reason_some passes) ∙ ap (λ (f : List ℕ). faults.NumberTooWide (place_behind (before_digits f))) (sym same.0) ∙ ap faults.NumberTooWide (sym h.4)
  only_refused faults.TooLong h = absurd (no_program h.0 h.1)
  only_refused faults.Memory h = absurd h

-- ---- by what the reader answered

module _ (text rest : List ℕ) where
  abbrev taken : List ℕ
  taken = take (length text - length rest) text

  -- the fault of a stop, with its cause
  record Stopped (fault : TextFault) : Type 0 where
    none : (program : Program) → Text standard program text → ⊥
    cause : Refused text fault
    only : (other : TextFault) → Refused text other → fault ≡ other

  stopped : (why : Option (Unit {0})) → program_at standard text ≡ answers (Err why) rest → Stopped (fault_of why taken)
  stopped why read =
      let same = front_taken text rest why read in
      subst (λ (f : List ℕ). Stopped (fault_of why f)) (sym same)
      (record { none = no_program text rest why read; cause = stop_refused text rest why read; only = only_refused text rest why read })

  pub stop_only : (stop : Stop (Unit {0})) → Gives {X = Program} (λ program. program) (Err stop) rest (program_at standard text)
      → (program : Program) → Text standard program text → refusal_of stop taken ≡ faults.Memory
  stop_only stops.Syntax read program h = absurd ((stopped None read).none program h)
  stop_only (stops.Limit kind) read program h = absurd ((stopped (Some kind) read).none program h)
  stop_only stops.Memory read program h = refl

  pub stop_cause : (stop : Stop (Unit {0})) → Gives {X = Program} (λ program. program) (Err stop) rest (program_at standard text)
      → refusal_of stop taken ≢ faults.Memory → Refused text (refusal_of stop taken)
  stop_cause stops.Syntax read some = (stopped None read).cause
  stop_cause (stops.Limit kind) read some = (stopped (Some kind) read).cause
  stop_cause stops.Memory read some = absurd (some refl)

  pub stop_exact : (stop : Stop (Unit {0})) → Gives {X = Program} (λ program. program) (Err stop) rest (program_at standard text)
      → (fault : TextFault) → Refused text fault → (refusal_of stop taken ≡ fault) ⊎ (refusal_of stop taken ≡ faults.Memory)
  stop_exact stops.Syntax read fault h = inl ((stopped None read).only fault h)
  stop_exact (stops.Limit kind) read fault h = inl ((stopped (Some kind) read).only fault h)
  stop_exact stops.Memory read fault h = inr refl

-- ---- laws

-- a text is refused for one reason, ..
pub one_refusal : (text : List ℕ) (a b : TextFault) → Refused text a → Refused text b → a ≡ b
one_refusal text a b h k = go (program_at standard text) refl
  where
    too_long : (fault : TextFault) → (faults.TooLong ≡ fault) ⊎ (faults.TooLong ≡ faults.Memory) → faults.TooLong ≡ fault
    too_long fault (inl same) = same
    too_long fault (inr clash) = absurd cc

    go : (answer : Answer (Unit {0}) Program) → program_at standard text ≡ answer → a ≡ b
    go (answers (Ok program) rest) read = sym (too_long a (long_refused text rest program read a h)) ∙ too_long b (long_refused text rest program read b k)
    go (answers (Err why) rest) read = sym (only_refused text rest why read a h) ∙ only_refused text rest why read b k

-- .. each text is refused or that of a short program, ..
pub program_or_refusal : (text : List ℕ) → ((program : Program) × Text standard program text × IsShort program) ⊎ ((fault : TextFault) × Refused text fault)
program_or_refusal text = go (program_at standard text) refl
  where
    by_length : (program : Program) → Text standard program text → ((program : Program) × Text standard program text × IsShort program) ⊎ ((fault : TextFault) × Refused text fault)
    by_length program has = elim (short_or_long program) [
      | inl short ↦ inl (program, has, short)
      | inr long ↦ inr (faults.TooLong, (program, has, long))
    ]

    go : (answer : Answer (Unit {0}) Program) → program_at standard text ≡ answer → ((program : Program) × Text standard program text × IsShort program) ⊎ ((fault : TextFault) × Refused text fault)
    go (answers (Ok program) rest) read = by_length program (read_program text rest program read)
    go (answers (Err why) rest) read = inr (fault_of why (front text rest why read), stop_refused text rest why read)

-- .. and not both
pub never_both : (text : List ℕ) (program : Program) (fault : TextFault) → Refused text fault → Text standard program text → IsShort program → ⊥
never_both text program fault refused has short = short_not_refused program text has short fault refused
