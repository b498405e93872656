-- Programs: what is read is the program of the text, and where reading stops is the place.
use Rattle.std.proofs.Common.{◌≡◌, ℕ, ◌<◌, arith, length, List, [], ◌∷◌, ◌++◌, true, false, Ok, refl, sym, ◌∙◌, ap, subst, append_assoc, lit≤}
use Rattle.std.proofs.lemmas.List.{append-nil}
use Rattle.text_reading.specs.Tokens.{Form, ◌then◌}
use Rattle.text_reading.specs.Reading.{Answer.answers, done}
use Rattle.text_reading.specs.TokenReading.{blanks_at}
use Rattle.text_reading.specs.Repeating.{is_end, finish_at}
use Rattle.text_reading.proofs.Readers.{Starts, IsReader, bind_is, bind_read, then_next}
use Rattle.text_reading.proofs.Limits.{Lifts, bind_lifts}
use Rattle.text_reading.proofs.BlankFacts.{Fresh, blanks_is, blanks_sound, blanks_complete}
use Rattle.text_reading.proofs.TokenFacts.{blanks_lift}
use Rattle.text_reading.proofs.WholeTexts.{AtEnd, Moves}
use Rattle.text_reading.proofs.Languages.{Limited, limited_then, limited_done, moves_then}
use Rattle.text_reading.proofs.Exact.{IsExact, exact_last, Begins}
use Rattle.text_reading.proofs.Repeats.{OpensBy, is_end-looks, Turns, Turns.ended, Turns.turned, repeat_exact, repeat_is, repeat_starts, repeat_lifts}
use Rattle.text_reading.proofs.WholeReaders.{finish_is, finish_lifts, finish_test, IsWhole}
use Rattle.sierra_types.specs.declared.program.Program.{Program}
use Rattle.sierra_types.specs.declared.program.TypeDecl.{TypeDecl}
use Rattle.sierra_types.specs.declared.program.LibfuncDecl.{LibfuncDecl}
use Rattle.sierra_types.specs.declared.program.Statement.{Statement}
use Rattle.sierra_types.specs.declared.program.Function.{Function}
use Rattle.sierra_text.specs.declared.part.Part.{Part}
use Rattle.sierra_text.specs.declared.part.Part.TheVariants as parts
use Rattle.sierra_text.specs.declared.declaration.Declaration.{Declaration}
use Rattle.sierra_text.specs.declared.declaration.Declaration.TheVariants as declarations
use Rattle.sierra_text.specs.Text.{Limits, standard, unlimited, Each, TypeText, LibfuncText, StatementText, FunctionText, Text}
use Rattle.sierra_text.specs.LabelReading.{Sierra, too_wide, may_begin}
use Rattle.sierra_text.specs.ProgramReading.{has_statements, Progress, no_program, at_start, added, declaration_at, next_at, declarations_at, program_at}
use Rattle.sierra_text.proofs.ExactForms.{AreWide}
use Rattle.sierra_text.proofs.DeclarationForms.{DeclarationText, declaration_exact, declaration_limited, declaration_moves}

pub standard_wide : AreWide standard
standard_wide = record { number = lit≤ tt; position = lit≤ tt }

pub unlimited_wide : AreWide unlimited
unlimited_wide = record { number = tt; position = tt }

-- ---- one declaration more, and the end

module _ (limits : Limits) where
  pub next_limited : (so_far : Progress) → Limited too_wide (next_at limits so_far) (next_at unlimited so_far)
  unfolding next_at
  next_limited so_far = limited_then too_wide (declaration_limited limits so_far.part) (λ d. limited_done too_wide (added so_far d))

  pub next_moves : (so_far : Progress) → Moves (next_at limits so_far)
  unfolding next_at
  next_moves so_far = moves_then (declaration_at limits so_far.part) (λ d. done (added so_far d)) (declaration_moves limits so_far.part) (λ d. (limited_done too_wide (added so_far d)).reads)

abbrev end_at : Progress → Sierra Program
end_at so_far = finish_at so_far.program

end_opens : (so_far : Progress) → OpensBy is_end AtEnd (end_at so_far)
end_opens so_far = ([], so_far.program, λ rest end. (rw end refl, rw end tt, rw end refl))

module _ (limits : Limits) where
  declarations_is : (so_far : Progress) → IsReader AtEnd (declarations_at limits so_far)
  unfolding declarations_at
  declarations_is so_far =
      repeat_is is_end end_at (next_at limits) (λ s text rest x e. finish_test s.program x text rest e) is_end-looks end_opens (λ s. finish_is s.program)
      (λ s. (next_limited limits s).reads.is) (next_moves limits) so_far

  declarations_starts : (so_far : Progress) → Starts Fresh AtEnd (declarations_at limits so_far)
  unfolding declarations_at
  declarations_starts so_far =
      repeat_starts is_end end_at (next_at limits) (λ s text rest x e. finish_test s.program x text rest e) is_end-looks end_opens (λ s. finish_is s.program)
      (λ s. (next_limited limits s).reads.is) (next_moves limits) so_far

  program_is : IsReader AtEnd (program_at limits)
  unfolding program_at
  program_is = bind_is blanks_at (λ _. declarations_at limits at_start) blanks_is (λ _. declarations_is at_start) (λ _. declarations_starts at_start)

module _ (limits : Limits) where
  declarations_lifts : (so_far : Progress) → Lifts too_wide (declarations_at limits so_far) (declarations_at unlimited so_far)
  unfolding declarations_at
  declarations_lifts so_far =
      repeat_lifts is_end is_end-looks too_wide end_at end_at (next_at limits) (next_at unlimited) end_opens end_opens (λ s. finish_is s.program) (λ s. finish_is s.program)
      (λ s. finish_lifts too_wide s.program) (next_limited limits) (next_moves limits) (next_moves unlimited) so_far

  pub program_lifts : Lifts too_wide (program_at limits) (program_at unlimited)
  unfolding program_at
  program_lifts =
      bind_lifts too_wide blanks_at blanks_at (λ _. declarations_at limits at_start) (λ _. declarations_at unlimited at_start)
      blanks_is (λ _. declarations_is limits at_start) blanks_is (λ _. declarations_is unlimited at_start) (blanks_lift too_wide) (λ _. declarations_lifts at_start)

-- ---- what declarations make a program

module _ (limits : Limits) (wide : AreWide limits) where
  abbrev NextForm : Progress → Progress → Form
  NextForm so_far after text rest = (d : Declaration) × (added so_far d ≡ after) × DeclarationText limits wide so_far.part d text rest

  abbrev EndForm : Progress → Program → Form
  EndForm so_far program text rest = (so_far.program ≡ program) × (text ≡ []) × (rest ≡ [])

  next_exact : (so_far : Progress) → IsExact (next_at limits so_far) (NextForm so_far)
  unfolding next_at
  next_exact so_far = exact_last (added so_far) (declaration_exact limits wide so_far.part)

  end_exact : (so_far : Progress) → IsExact (end_at so_far) (EndForm so_far)
  end_exact so_far = record { sound = sound; complete = complete }
    where
      sound : (text rest : List ℕ) (x : Program) → end_at so_far text ≡ answers (Ok x) rest → EndForm so_far x text rest
      sound [] rest x e = let same : so_far.program ≡ x = cc in let none : [] ≡ rest = cc in (same, refl, sym none)
      sound (byte ∷ text) rest x e = absurd cc

      complete : (text rest : List ℕ) (x : Program) → EndForm so_far x text rest → end_at so_far text ≡ answers (Ok x) rest
      complete text rest x h = ap (end_at so_far) h.1 ∙ ap (λ p. answers (Ok p) []) h.0 ∙ ap (λ (t : List ℕ). answers (Ok x) t) (sym h.2)

  next_begins : (so_far : Progress) → Begins is_end false (NextForm so_far)
  next_begins so_far after text rest h = go text (next_moves limits so_far text rest after ((next_exact so_far).complete text rest after h))
    where
      go : (t : List ℕ) → length rest < length t → is_end t ≡ false
      go [] less = absurd (omega arith)
      go (byte ∷ t) less = refl

  declarations_exact : (so_far : Progress) → IsExact (declarations_at limits so_far) (Turns NextForm EndForm so_far)
  unfolding declarations_at
  declarations_exact so_far =
      repeat_exact is_end end_at (next_at limits) EndForm NextForm end_exact next_exact (next_moves limits)
      (λ s program text rest h. ap is_end h.1) next_begins so_far

  -- ---- the four parts

  abbrev FunctionsText : List Function → List ℕ → Type 0
  FunctionsText fs text = Each (FunctionText limits) fs text []

  abbrev StatementsText : List Statement → List Function → List ℕ → Type 0
  StatementsText ss fs text = (Each (StatementText limits) ss then Each (FunctionText limits) fs) text []

  abbrev LibfuncsText : List LibfuncDecl → List Statement → List Function → List ℕ → Type 0
  LibfuncsText ls ss fs text = (Each (LibfuncText limits) ls then Each (StatementText limits) ss then Each (FunctionText limits) fs) text []

  abbrev TypesText : List TypeDecl → List LibfuncDecl → List Statement → List Function → List ℕ → Type 0
  TypesText ts ls ss fs text =
      (Each (TypeText limits) ts then Each (LibfuncText limits) ls then Each (StatementText limits) ss then Each (FunctionText limits) fs) text []

  abbrev with_functions : Program → List Function → Program
  with_functions p fs = record p { functions = p.functions ++ fs }

  abbrev with_statements : Program → List Statement → List Function → Program
  with_statements p ss fs = record p { statements = p.statements ++ ss; functions = p.functions ++ fs }

  abbrev with_libfuncs : Program → List LibfuncDecl → List Statement → List Function → Program
  with_libfuncs p ls ss fs = record p { libfuncs = p.libfuncs ++ ls; statements = p.statements ++ ss; functions = p.functions ++ fs }

  abbrev with_types : Program → List TypeDecl → List LibfuncDecl → List Statement → List Function → Program
  with_types p ts ls ss fs = record { types = p.types ++ ts; libfuncs = p.libfuncs ++ ls; statements = p.statements ++ ss; functions = p.functions ++ fs }

  -- the rest of a text behind a declaration of this part
  abbrev RestText : Part → Program → Program → List ℕ → Type 0
  RestText parts.Types before program text =
      (ts : List TypeDecl) × (ls : List LibfuncDecl) × (ss : List Statement) × (fs : List Function) × (with_types before ts ls ss fs ≡ program) × TypesText ts ls ss fs text
  RestText parts.Libfuncs before program text =
      (ls : List LibfuncDecl) × (ss : List Statement) × (fs : List Function) × (with_libfuncs before ls ss fs ≡ program) × LibfuncsText ls ss fs text
  RestText parts.Statements before program text = (ss : List Statement) × (fs : List Function) × (with_statements before ss fs ≡ program) × StatementsText ss fs text
  RestText parts.Functions before program text = (fs : List Function) × (with_functions before fs ≡ program) × FunctionsText fs text

  to_statements : (before program : Program) (text : List ℕ) → RestText parts.Functions before program text → RestText parts.Statements before program text
  to_statements before program text h =
      ([], h.0, ap (λ (l : List Statement). record before { statements = l; functions = before.functions ++ h.0 }) (append-nil before.statements) ∙ h.1, (text, refl, h.2))

  to_libfuncs : (before program : Program) (text : List ℕ) → RestText parts.Statements before program text → RestText parts.Libfuncs before program text
  to_libfuncs before program text h =
      ([], h.0, h.1, ap (λ (l : List LibfuncDecl). record before { libfuncs = l; statements = before.statements ++ h.0; functions = before.functions ++ h.1 }) (append-nil before.libfuncs) ∙ h.2, (text, refl, h.3))

  to_types : (before program : Program) (text : List ℕ) → RestText parts.Libfuncs before program text → RestText parts.Types before program text
  to_types before program text h = (
    [],
    h.0,
    h.1,
    h.2,
    ap (λ (l : List TypeDecl). record { types = l; libfuncs = before.libfuncs ++ h.0; statements = before.statements ++ h.1; functions = before.functions ++ h.2 }) (append-nil before.types) ∙ h.3,
    (text, refl, h.4),
  )

  -- a declaration and the rest behind it
  declared : (so_far : Progress) (d : Declaration) (program : Program) (text between : List ℕ) → DeclarationText limits wide so_far.part d text between
      → RestText (added so_far d).part (added so_far d).program program between → RestText so_far.part so_far.program program text
  declared so_far (declarations.OfFunction f) program text between form h =
      weaken so_far.part
      (f ∷ h.0, ap (λ (l : List Function). record so_far.program { functions = l }) (sym (append_assoc so_far.program.functions (f ∷ []) h.0)) ∙ h.1, (between, form, h.2))
    where
      weaken : (part : Part) → RestText parts.Functions so_far.program program text → RestText part so_far.program program text
      weaken parts.Functions rest = rest
      weaken parts.Statements rest = to_statements so_far.program program text rest
      weaken parts.Libfuncs rest = to_libfuncs so_far.program program text (to_statements so_far.program program text rest)
      weaken parts.Types rest = to_types so_far.program program text (to_libfuncs so_far.program program text (to_statements so_far.program program text rest))
  declared so_far (declarations.OfStatement s) program text between form h =
      weaken so_far.part form.0 (
        s ∷ h.0,
        h.1,
        ap (λ (l : List Statement). record so_far.program { statements = l; functions = so_far.program.functions ++ h.1 }) (sym (append_assoc so_far.program.statements (s ∷ []) h.0)) ∙ h.2,
        (h.3.0, (between, form.1, h.3.1), h.3.2),
      )
    where
      weaken : (part : Part) → has_statements part ≡ true → RestText parts.Statements so_far.program program text → RestText part so_far.program program text
      weaken parts.Functions may rest = absurd cc
      weaken parts.Statements may rest = rest
      weaken parts.Libfuncs may rest = to_libfuncs so_far.program program text rest
      weaken parts.Types may rest = to_types so_far.program program text (to_libfuncs so_far.program program text rest)
  declared so_far (declarations.OfLibfunc l) program text between form h =
      weaken so_far.part form.0 (
        l ∷ h.0,
        h.1,
        h.2,
        ap (λ (k : List LibfuncDecl). record so_far.program { libfuncs = k; statements = so_far.program.statements ++ h.1; functions = so_far.program.functions ++ h.2 })
            (sym (append_assoc so_far.program.libfuncs (l ∷ []) h.0)) ∙ h.3,
        (h.4.0, (between, form.1, h.4.1), h.4.2),
      )
    where
      weaken : (part : Part) → may_begin part (108 ∷ 105 ∷ 98 ∷ 102 ∷ 117 ∷ 110 ∷ 99 ∷ []) ≡ true → RestText parts.Libfuncs so_far.program program text → RestText part so_far.program program text
      weaken parts.Functions may rest = absurd cc
      weaken parts.Statements may rest = absurd cc
      weaken parts.Libfuncs may rest = rest
      weaken parts.Types may rest = to_types so_far.program program text rest
  declared so_far (declarations.OfType t) program text between form h =
      weaken so_far.part form.0 (
        t ∷ h.0,
        h.1,
        h.2,
        h.3,
        ap (λ (k : List TypeDecl). record { types = k; libfuncs = so_far.program.libfuncs ++ h.1; statements = so_far.program.statements ++ h.2; functions = so_far.program.functions ++ h.3 })
            (sym (append_assoc so_far.program.types (t ∷ []) h.0)) ∙ h.4,
        (h.5.0, (between, form.1, h.5.1), h.5.2),
      )
    where
      weaken : (part : Part) → may_begin part (116 ∷ 121 ∷ 112 ∷ 101 ∷ []) ≡ true → RestText parts.Types so_far.program program text → RestText part so_far.program program text
      weaken parts.Functions may rest = absurd cc
      weaken parts.Statements may rest = absurd cc
      weaken parts.Libfuncs may rest = absurd cc
      weaken parts.Types may rest = rest

  no_functions_more : (before program : Program) → before ≡ program → RestText parts.Functions before program []
  no_functions_more before program same = ([], ap (λ (l : List Function). record before { functions = l }) (append-nil before.functions) ∙ same, refl)

  nothing_more : (part : Part) (before program : Program) → before ≡ program → RestText part before program []
  nothing_more parts.Functions before program same = no_functions_more before program same
  nothing_more parts.Statements before program same = to_statements before program [] (no_functions_more before program same)
  nothing_more parts.Libfuncs before program same = to_libfuncs before program [] (to_statements before program [] (no_functions_more before program same))
  nothing_more parts.Types before program same =
      to_types before program [] (to_libfuncs before program [] (to_statements before program [] (no_functions_more before program same)))

  rest_of : (so_far : Progress) (program : Program) (text rest : List ℕ) → Turns NextForm EndForm so_far program text rest → RestText so_far.part so_far.program program text × (rest ≡ [])
  rest_of so_far program text rest (ended _ _ _ _ h) =
      (subst (λ (t : List ℕ). RestText so_far.part so_far.program program t) (sym h.1) (nothing_more so_far.part so_far.program program h.0), h.2)
  rest_of so_far program text rest (turned _ after _ _ between _ h more) =
      let others = rest_of after program between rest more in
      let behind = subst (λ (s : Progress). RestText s.part s.program program between) (sym h.1) others.0 in
      (declared so_far h.0 program text between h.2 behind, others.1)

  -- ---- and back: the lists of a program are declarations

  functions_turn : (fs : List Function) (so_far : Progress) (text : List ℕ) → FunctionsText fs text → Turns NextForm EndForm so_far (with_functions so_far.program fs) text []
  functions_turn [] so_far text h =
      ended so_far (with_functions so_far.program []) text [] (ap (λ (l : List Function). record so_far.program { functions = l }) (sym (append-nil so_far.program.functions)), h, refl)
  functions_turn (f ∷ fs) so_far text h =
      turned so_far (added so_far (declarations.OfFunction f)) (with_functions so_far.program (f ∷ fs)) text h.0 [] (declarations.OfFunction f, refl, h.1)
      (subst (λ (l : List Function). Turns NextForm EndForm (added so_far (declarations.OfFunction f)) (record so_far.program { functions = l }) h.0 [])
      (append_assoc so_far.program.functions (f ∷ []) fs) (functions_turn fs (added so_far (declarations.OfFunction f)) h.0 h.2))

  statements_turn : (ss : List Statement) (fs : List Function) (so_far : Progress) (text : List ℕ) → has_statements so_far.part ≡ true → StatementsText ss fs text
      → Turns NextForm EndForm so_far (with_statements so_far.program ss fs) text []
  statements_turn [] fs so_far text may h =
      subst (λ (l : List Statement). Turns NextForm EndForm so_far (record so_far.program { statements = l; functions = so_far.program.functions ++ fs }) text []) (sym (append-nil so_far.program.statements))
      (subst (λ (t : List ℕ). Turns NextForm EndForm so_far (with_functions so_far.program fs) t []) (sym h.1) (functions_turn fs so_far h.0 h.2))
  statements_turn (s ∷ ss) fs so_far text may h =
      let after = added so_far (declarations.OfStatement s) in
      turned so_far after (with_statements so_far.program (s ∷ ss) fs) text h.1.0 [] (declarations.OfStatement s, refl, (may, h.1.1))
      (subst (λ (l : List Statement). Turns NextForm EndForm (added so_far (declarations.OfStatement s)) (record so_far.program { statements = l; functions = so_far.program.functions ++ fs }) h.1.0 [])
      (append_assoc so_far.program.statements (s ∷ []) ss) (statements_turn ss fs after h.1.0 refl (h.0, h.1.2, h.2)))

  libfuncs_turn : (ls : List LibfuncDecl) (ss : List Statement) (fs : List Function) (so_far : Progress) (text : List ℕ)
      → may_begin so_far.part (108 ∷ 105 ∷ 98 ∷ 102 ∷ 117 ∷ 110 ∷ 99 ∷ []) ≡ true → has_statements so_far.part ≡ true
      → LibfuncsText ls ss fs text → Turns NextForm EndForm so_far (with_libfuncs so_far.program ls ss fs) text []
  libfuncs_turn [] ss fs so_far text may statements_may h =
      subst (λ (l : List LibfuncDecl). Turns NextForm EndForm so_far (record so_far.program { libfuncs = l; statements = so_far.program.statements ++ ss; functions = so_far.program.functions ++ fs }) text [])
      (sym (append-nil so_far.program.libfuncs))
      (subst (λ (t : List ℕ). Turns NextForm EndForm so_far (with_statements so_far.program ss fs) t []) (sym h.1) (statements_turn ss fs so_far h.0 statements_may h.2))
  libfuncs_turn (l ∷ ls) ss fs so_far text may statements_may h =
      let after = added so_far (declarations.OfLibfunc l) in
      turned so_far after (with_libfuncs so_far.program (l ∷ ls) ss fs) text h.1.0 [] (declarations.OfLibfunc l, refl, (may, h.1.1))
      (subst (λ (k : List LibfuncDecl). Turns NextForm EndForm (added so_far (declarations.OfLibfunc l)) (record so_far.program { libfuncs = k; statements = so_far.program.statements ++ ss; functions = so_far.program.functions ++ fs }) h.1.0 [])
      (append_assoc so_far.program.libfuncs (l ∷ []) ls) (libfuncs_turn ls ss fs after h.1.0 refl refl (h.0, h.1.2, h.2)))

  types_turn : (ts : List TypeDecl) (ls : List LibfuncDecl) (ss : List Statement) (fs : List Function) (before : Program) (text : List ℕ) → TypesText ts ls ss fs text
      → Turns NextForm EndForm (record { part = parts.Types; program = before }) (with_types before ts ls ss fs) text []
  types_turn [] ls ss fs before text h =
      subst (λ (l : List TypeDecl). Turns NextForm EndForm (record { part = parts.Types; program = before })
      (record { types = l; libfuncs = before.libfuncs ++ ls; statements = before.statements ++ ss; functions = before.functions ++ fs }) text [])
      (sym (append-nil before.types))
      (subst (λ (t : List ℕ). Turns NextForm EndForm (record { part = parts.Types; program = before }) (with_libfuncs before ls ss fs) t []) (sym h.1)
      (libfuncs_turn ls ss fs (record { part = parts.Types; program = before }) h.0 refl refl h.2))
  types_turn (t ∷ ts) ls ss fs before text h =
      turned (record { part = parts.Types; program = before }) (record { part = parts.Types; program = record before { types = before.types ++ t ∷ [] } }) (with_types before (t ∷ ts) ls ss fs) text h.1.0 []
      (declarations.OfType t, refl, (refl, h.1.1))
      (subst (λ (k : List TypeDecl). Turns NextForm EndForm (record { part = parts.Types; program = record before { types = before.types ++ t ∷ [] } })
      (record { types = k; libfuncs = before.libfuncs ++ ls; statements = before.statements ++ ss; functions = before.functions ++ fs }) h.1.0 [])
      (append_assoc before.types (t ∷ []) ts) (types_turn ts ls ss fs (record before { types = before.types ++ t ∷ [] }) h.1.0 (h.0, h.1.2, h.2)))

  -- ---- whole programs

  pub program_whole : IsWhole (program_at limits) (Text limits)
  unfolding program_at
  program_whole = record {
    is = program_is limits;
    sound = λ text rest program e.
        let front = bind_read blanks_at (λ _. declarations_at limits at_start) text rest program e in
        let all = rest_of at_start program front.1 rest ((declarations_exact at_start).sound front.1 rest program front.3) in
        let h = all.0 in
        (subst (λ p. Text limits p text) h.4 (front.1, blanks_sound text front.1 front.2, h.5), all.1);
    complete = λ text program h.
        let read = (declarations_exact at_start).complete h.0 [] program (types_turn program.types program.libfuncs program.statements program.functions no_program h.0 h.2) in
        then_next blanks_at (λ _. declarations_at limits at_start) text h.0 tt (answers (Ok program) []) (blanks_complete {K = Unit {0}} text h.0 h.1) read;
  }
