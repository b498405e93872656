-- Declarations: their reader reads exactly the forms of the definition that may follow what was read before.
use Rattle.std.proofs.Common.{◌≡◌, ℕ, List, [], ◌∷◌, Bool, true, false, cond, ◌||◌, refl, sym, ◌∙◌, ap, subst, inl, inr, ◌⊎◌}
use Rattle.std.specs.Prelude.{codes}
use Rattle.std.specs.Str.{bytes_eq}
use Rattle.std.proofs.lemmas.Bool.{or_parts}
use Rattle.text_reading.specs.Tokens.{Form, ◌then◌, Blanks, Mark, Number}
use Rattle.text_reading.specs.Reading.{done, ◌>>=◌, begins}
use Rattle.text_reading.specs.TokenReading.{blanks_at, mark_at, number_at, token}
use Rattle.text_reading.proofs.WholeTexts.{Moves}
use Rattle.text_reading.proofs.Languages.{Limited, LimitedFrom, limited_then, from_then, limited_done, limited_number, limited_branch, from_mark, moves_then, moves_mark, moves_branch}
use Rattle.text_reading.proofs.Exact.{IsExact, exact_as, exact_then, exact_last, exact_branch, exact_mark, mark_begins}
use Rattle.sierra_types.specs.declared.program.TypeDecl.{TypeDecl}
use Rattle.sierra_types.specs.declared.program.LibfuncDecl.{LibfuncDecl}
use Rattle.sierra_types.specs.declared.program.Statement.{Statement}
use Rattle.sierra_types.specs.declared.program.Statement.TheVariants as statements
use Rattle.sierra_types.specs.declared.program.Branch.{Branch}
use Rattle.sierra_types.specs.declared.program.Function.{Function}
use Rattle.sierra_text.specs.declared.part.Part.{Part}
use Rattle.sierra_text.specs.declared.part.Part.TheVariants as parts
use Rattle.sierra_text.specs.declared.declaration.Head.{Head}
use Rattle.sierra_text.specs.declared.declaration.Head.TheVariants as heads
use Rattle.sierra_text.specs.declared.declaration.Declaration.{Declaration}
use Rattle.sierra_text.specs.declared.declaration.Declaration.TheVariants as declarations
use Rattle.sierra_text.specs.Ids.{is_reserved, Reserved}
use Rattle.sierra_text.specs.Text.{Limits, unlimited, numbered, InParentheses, NumberedId, Id, InfoOrNothing, Declared, TypeText, LibfuncText, Var, Branches, StatementText, Param, FunctionText}
use Rattle.sierra_text.specs.LabelReading.{Sierra, too_wide, may_begin, label_at}
use Rattle.sierra_text.specs.Reading.{numbered_at, id_at, type_at, libfunc_at, invoke_at, return_at, function_at, param_at}
use Rattle.sierra_text.specs.ProgramReading.{head_of, has_statements, head_at, function_declared_at, statement_declared_at, behind_head_at, declaration_at}
use Rattle.sierra_text.proofs.LabelForms.{AnyLabel, reserved_cases}
use Rattle.sierra_text.proofs.Tokens.{exact_label_token, exact_any_word, limited_label, limited_blanks, label_moves}
use Rattle.sierra_text.proofs.LimitedLists.{comma_more_moves}
use Rattle.sierra_text.proofs.LimitedForms.{numbered_limited, id_limited, param_limited, type_limited, libfunc_limited, invoke_limited, return_limited, function_limited}
use Rattle.sierra_text.proofs.ExactLists.{in_parentheses_exact}
use Rattle.sierra_text.proofs.ExactForms.{AreWide, exact_cond, numbered_exact, id_exact, id_begins, label_begins, position_exact, vars_exact, branches_exact, param_exact, args_exact, info_or_nothing_exact}

-- ---- heads

-- what a declaration of this part begins with
abbrev pub HeadText : Limits → Part → Head → Form
HeadText limits part heads.TypeWord text rest = (may_begin part (codes "type") ≡ true) × (Reserved (codes "type") then Blanks) text rest
HeadText limits part heads.LibfuncWord text rest = (may_begin part (codes "libfunc") ≡ true) × (Reserved (codes "libfunc") then Blanks) text rest
HeadText limits part heads.ReturnWord text rest = (may_begin part (codes "return") ≡ true) × (Reserved (codes "return") then Blanks) text rest
HeadText limits part (heads.Id id) text rest = Id limits id text rest

head_of_id : (label : List ℕ) → is_reserved label ≡ false → head_of label ≡ heads.Id label
head_of_id label free =
    let first_parts = or_parts (bytes_eq label (codes "type")) (bytes_eq label (codes "libfunc") || bytes_eq label (codes "return")) free in
    let others = or_parts (bytes_eq label (codes "libfunc")) (bytes_eq label (codes "return")) first_parts.1 in
    rw (first_parts.0, others.0, others.1) refl

module _ (limits : Limits) (wide : AreWide limits) (part : Part) where
  abbrev RawHead : Head → Form
  RawHead head text rest =
      ((name : List ℕ) × (heads.Id name ≡ head) × NumberedId limits name text rest)
      ⊎ ((begins 91 text ≡ false) × ((label : List ℕ) × (head_of label ≡ head) × (AnyLabel part label then Blanks) text rest))

  reserved_head : (label : List ℕ) (text rest : List ℕ) → (label ≡ codes "type") ⊎ (label ≡ codes "libfunc") ⊎ (label ≡ codes "return")
      → may_begin part label ≡ true → (Reserved label then Blanks) text rest → HeadText limits part (head_of label) text rest
  reserved_head label text rest (inl e) may form =
      subst (λ (l : List ℕ). HeadText limits part (head_of l) text rest) (sym e)
      (subst (λ (l : List ℕ). may_begin part l ≡ true) e may, subst (λ (l : List ℕ). (Reserved l then Blanks) text rest) e form)
  reserved_head label text rest (inr (inl e)) may form =
      subst (λ (l : List ℕ). HeadText limits part (head_of l) text rest) (sym e)
      (subst (λ (l : List ℕ). may_begin part l ≡ true) e may, subst (λ (l : List ℕ). (Reserved l then Blanks) text rest) e form)
  reserved_head label text rest (inr (inr e)) may form =
      subst (λ (l : List ℕ). HeadText limits part (head_of l) text rest) (sym e)
      (subst (λ (l : List ℕ). may_begin part l ≡ true) e may, subst (λ (l : List ℕ). (Reserved l then Blanks) text rest) e form)

  head_there : (head : Head) (text rest : List ℕ) → RawHead head text rest → HeadText limits part head text rest
  head_there head text rest (inl h) = subst (λ k. HeadText limits part k text rest) h.1 (inr h.2)
  head_there head text rest (inr (open_, (label, is, (between, inl form, blanks)))) =
      subst (λ k. HeadText limits part k text rest) (sym (head_of_id label form.0) ∙ is) (inl (form.0, (between, form.1, blanks)))
  head_there head text rest (inr (open_, (label, is, (between, inr form, blanks)))) =
      subst (λ k. HeadText limits part k text rest) is (reserved_head label text rest (reserved_cases label form.0) form.1 (between, form.2, blanks))

  head_back : (head : Head) (text rest : List ℕ) → HeadText limits part head text rest → RawHead head text rest
  head_back heads.TypeWord text rest h = inr (ap (begins 91) h.1.1.0, (codes "type", refl, (h.1.0, inr (refl, h.0, h.1.1), h.1.2)))
  head_back heads.LibfuncWord text rest h = inr (ap (begins 91) h.1.1.0, (codes "libfunc", refl, (h.1.0, inr (refl, h.0, h.1.1), h.1.2)))
  head_back heads.ReturnWord text rest h = inr (ap (begins 91) h.1.1.0, (codes "return", refl, (h.1.0, inr (refl, h.0, h.1.1), h.1.2)))
  head_back (heads.Id id) text rest (inl h) =
      inr (label_begins id text h.1.0 91 refl h.1.1, (id, head_of_id id h.0, (h.1.0, inl (h.0, h.1.1), h.1.2)))
  head_back (heads.Id id) text rest (inr h) = inl (id, refl, h)

  head_exact : IsExact (head_at limits part) (HeadText limits part)
  unfolding head_at
  head_exact =
      exact_as
      (exact_branch 91 (exact_last (λ name. heads.Id name) (numbered_exact limits wide)) (exact_last head_of (exact_label_token part))
      (λ head text rest h. mark_begins 91 91 [] text h.2.2.0 h.2.2.1))
      head_there head_back

-- ---- what is behind a head

module _ (limits : Limits) (wide : AreWide limits) where
  -- a declaration behind its reserved word
  abbrev TypeBody : TypeDecl → Form
  TypeBody decl = Declared limits decl.id decl.generic decl.args then InfoOrNothing decl.info then Mark (codes ";")

  type_exact : IsExact (type_at limits) TypeBody
  unfolding type_at
  type_exact =
      exact_as
      (exact_then (id_exact limits wide) (λ id. exact_then (exact_mark (codes "=")) (λ _. exact_then exact_any_word (λ generic. exact_then (args_exact limits wide) (λ args.
      exact_then info_or_nothing_exact (λ info. exact_last (λ _. record { id = id; generic = generic; args = args; info = info }) (exact_mark (codes ";"))))))))
      (λ decl text rest h. subst (λ d. TypeBody d text rest) h.3.3.3.3.3.1
      (h.3.3.3.1, (h.1, h.2, (h.3.1, h.3.2, (h.3.3.1, h.3.3.2, h.3.3.3.2))), (h.3.3.3.3.1, h.3.3.3.3.2, h.3.3.3.3.3.2)))
      (λ decl text rest h. (decl.id, h.1.0, h.1.1, (tt, h.1.2.0, h.1.2.1, (decl.generic, h.1.2.2.0, h.1.2.2.1, (decl.args, h.0, h.1.2.2.2, (decl.info, h.2.0, h.2.1, (tt, refl, h.2.2)))))))

  abbrev LibfuncBody : LibfuncDecl → Form
  LibfuncBody decl = Declared limits decl.id decl.generic decl.args then Mark (codes ";")

  libfunc_exact : IsExact (libfunc_at limits) LibfuncBody
  unfolding libfunc_at
  libfunc_exact =
      exact_as
      (exact_then (id_exact limits wide) (λ id. exact_then (exact_mark (codes "=")) (λ _. exact_then exact_any_word (λ generic. exact_then (args_exact limits wide) (λ args.
      exact_last (λ _. record { id = id; generic = generic; args = args }) (exact_mark (codes ";")))))))
      (λ decl text rest h. subst (λ d. LibfuncBody d text rest) h.3.3.3.3.1 (h.3.3.3.1, (h.1, h.2, (h.3.1, h.3.2, (h.3.3.1, h.3.3.2, h.3.3.3.2))), h.3.3.3.3.2))
      (λ decl text rest h. (decl.id, h.1.0, h.1.1, (tt, h.1.2.0, h.1.2.1, (decl.generic, h.1.2.2.0, h.1.2.2.1, (decl.args, h.0, h.1.2.2.2, (tt, refl, h.2))))))

  abbrev InvokeBody : List ℕ → Statement → Form
  InvokeBody libfunc statement text rest =
      (vars : List ℕ) × (branches : List Branch) × (statements.Invoke libfunc vars branches ≡ statement)
      × (InParentheses (Var limits) vars then Branches limits branches then Mark (codes ";")) text rest

  invoke_exact : (libfunc : List ℕ) → IsExact (invoke_at limits libfunc) (InvokeBody libfunc)
  unfolding invoke_at
  invoke_exact libfunc =
      exact_as
      (exact_then (vars_exact limits wide) (λ vars. exact_then (branches_exact limits wide) (λ branches. exact_last (λ _. statements.Invoke libfunc vars branches) (exact_mark (codes ";")))))
      (λ statement text rest h. (h.0, h.3.0, h.3.3.1, (h.1, h.2, (h.3.1, h.3.2, h.3.3.2))))
      (λ statement text rest h. (h.0, h.3.0, h.3.1, (h.1, h.3.2.0, h.3.2.1, (tt, h.2, h.3.2.2))))

  abbrev ReturnBody : Statement → Form
  ReturnBody statement text rest = (vars : List ℕ) × (statements.Return vars ≡ statement) × (InParentheses (Var limits) vars then Mark (codes ";")) text rest

  return_exact : IsExact (return_at limits) ReturnBody
  unfolding return_at
  return_exact =
      exact_as
      (exact_then (vars_exact limits wide) (λ vars. exact_last (λ _. statements.Return vars) (exact_mark (codes ";"))))
      (λ statement text rest h. (h.0, h.3.1, (h.1, h.2, h.3.2)))
      (λ statement text rest h. (h.0, h.2.0, h.2.1, (tt, h.1, h.2.2)))

  abbrev FunctionEnd : Function → Form
  FunctionEnd function =
      Mark (codes "@") then Number limits.position function.entry then InParentheses (Param limits) function.params
      then Mark (codes "->") then InParentheses (Id limits) function.results then Mark (codes ";")

  abbrev FunctionBody : List ℕ → Function → Form
  FunctionBody id function text rest = (id ≡ function.id) × FunctionEnd function text rest

  function_exact : (id : List ℕ) → IsExact (function_at limits id) (FunctionBody id)
  unfolding function_at
  function_exact id =
      exact_as
      (exact_then (exact_mark (codes "@")) (λ _. exact_then (position_exact limits wide) (λ entry.
      exact_then (in_parentheses_exact (param_at limits) (Param limits) (param_exact limits wide) (comma_more_moves 41 (param_at limits) (param_at unlimited) (param_limited limits).limited)
      (λ p text rest h. mark_begins 91 41 [] text h.1.0 h.1.1)) (λ params.
      exact_then (exact_mark (codes "->")) (λ _.
      exact_then (in_parentheses_exact (id_at limits) (Id limits) (id_exact limits wide) (comma_more_moves 41 (id_at limits) (id_at unlimited) (id_limited limits))
      (id_begins limits wide 41 refl refl)) (λ results.
      exact_last (λ _. record { id = id; entry = entry; params = params; results = results }) (exact_mark (codes ";"))))))))
      (λ f text rest h. subst (λ g. FunctionBody id g text rest) h.3.3.3.3.3.1
      (refl, (h.1, h.2, (h.3.1, h.3.2, (h.3.3.1, h.3.3.2, (h.3.3.3.1, h.3.3.3.2, (h.3.3.3.3.1, h.3.3.3.3.2, h.3.3.3.3.3.2)))))))
      (λ f text rest h. (
        tt,
        h.1.0,
        h.1.1,
        (
          f.entry,
          h.1.2.0,
          h.1.2.1,
          (
            f.params,
            h.1.2.2.0,
            h.1.2.2.1,
            (
              tt,
              h.1.2.2.2.0,
              h.1.2.2.2.1,
              (
                f.results,
                h.1.2.2.2.2.0,
                h.1.2.2.2.2.1,
                (tt, ap (λ i. record f { id = i }) h.0, h.1.2.2.2.2.2),
              ),
            ),
          ),
        ),
      ))

  -- a declaration that may follow in this part
  abbrev pub DeclarationText : Part → Declaration → Form
  DeclarationText part (declarations.OfType decl) text rest = (may_begin part (codes "type") ≡ true) × TypeText limits decl text rest
  DeclarationText part (declarations.OfLibfunc decl) text rest = (may_begin part (codes "libfunc") ≡ true) × LibfuncText limits decl text rest
  DeclarationText part (declarations.OfStatement statement) text rest = (has_statements part ≡ true) × StatementText limits statement text rest
  DeclarationText part (declarations.OfFunction function) text rest = FunctionText limits function text rest

  abbrev StatementDeclared : List ℕ → Declaration → Form
  StatementDeclared id d text rest = (s : Statement) × (declarations.OfStatement s ≡ d) × InvokeBody id s text rest

  abbrev FunctionDeclared : List ℕ → Declaration → Form
  FunctionDeclared id d text rest = (f : Function) × (declarations.OfFunction f ≡ d) × FunctionBody id f text rest

  abbrev BehindHead : Part → Head → Declaration → Form
  BehindHead part heads.TypeWord d text rest = (decl : TypeDecl) × (declarations.OfType decl ≡ d) × TypeBody decl text rest
  BehindHead part heads.LibfuncWord d text rest = (decl : LibfuncDecl) × (declarations.OfLibfunc decl ≡ d) × LibfuncBody decl text rest
  BehindHead part heads.ReturnWord d text rest = (s : Statement) × (declarations.OfStatement s ≡ d) × ReturnBody s text rest
  BehindHead part (heads.Id id) d text rest =
      ((has_statements part ≡ true) × (StatementDeclared id d text rest ⊎ ((begins 40 text ≡ false) × FunctionDeclared id d text rest)))
      ⊎ ((has_statements part ≡ false) × FunctionDeclared id d text rest)

  behind_head_exact : (part : Part) (head : Head) → IsExact (behind_head_at limits part head) (BehindHead part head)
  unfolding behind_head_at statement_declared_at function_declared_at
  behind_head_exact part heads.TypeWord = exact_last (λ decl. declarations.OfType decl) type_exact
  behind_head_exact part heads.LibfuncWord = exact_last (λ decl. declarations.OfLibfunc decl) libfunc_exact
  behind_head_exact part heads.ReturnWord = exact_last (λ s. declarations.OfStatement s) return_exact
  behind_head_exact part (heads.Id id) =
      exact_cond (has_statements part)
      (exact_branch 40 (exact_last (λ s. declarations.OfStatement s) (invoke_exact id)) (exact_last (λ f. declarations.OfFunction f) (function_exact id))
      (λ d text rest h. mark_begins 40 40 [] text h.2.3.1.0 h.2.3.1.1))
      (exact_last (λ f. declarations.OfFunction f) (function_exact id))

  return_may : (part : Part) → may_begin part (codes "return") ≡ has_statements part
  return_may parts.Types = refl
  return_may parts.Libfuncs = refl
  return_may parts.Statements = refl
  return_may parts.Functions = refl

  function_there : (part : Part) (id : List ℕ) (d : Declaration) (text between rest : List ℕ) → Id limits id text between → FunctionDeclared id d between rest → DeclarationText part d text rest
  function_there part id d text between rest is h =
      subst (λ e. DeclarationText part e text rest) h.1 (between, subst (λ (i : List ℕ). Id limits i text between) h.2.0 is, h.2.1)

  there : (part : Part) (head : Head) (d : Declaration) (text between rest : List ℕ) → HeadText limits part head text between → BehindHead part head d between rest → DeclarationText part d text rest
  there part heads.TypeWord d text between rest is h = subst (λ e. DeclarationText part e text rest) h.1 (is.0, (between, is.1, h.2))
  there part heads.LibfuncWord d text between rest is h = subst (λ e. DeclarationText part e text rest) h.1 (is.0, (between, is.1, h.2))
  there part heads.ReturnWord d text between rest is h =
      subst (λ e. DeclarationText part e text rest) h.1
      (sym (return_may part) ∙ is.0, subst (λ s. StatementText limits s text rest) h.2.1 (between, is.1, h.2.2))
  there part (heads.Id id) d text between rest is (inl (may, inl h)) =
      subst (λ e. DeclarationText part e text rest) h.1 (may, subst (λ s. StatementText limits s text rest) h.2.2 (between, is, h.2.3))
  there part (heads.Id id) d text between rest is (inl (may, inr h)) = function_there part id d text between rest is h.1
  there part (heads.Id id) d text between rest is (inr h) = function_there part id d text between rest is h.1

  abbrev RawDeclaration : Part → Declaration → Form
  RawDeclaration part d text rest = (head : Head) × (between : List ℕ) × HeadText limits part head text between × BehindHead part head d between rest

  statement_back : (part : Part) (s : Statement) (text rest : List ℕ) → has_statements part ≡ true → StatementText limits s text rest → RawDeclaration part (declarations.OfStatement s) text rest
  statement_back part (statements.Invoke libfunc vars branches) text rest may h =
      (heads.Id libfunc, h.0, h.1, inl (may, inl (statements.Invoke libfunc vars branches, refl, (vars, branches, refl, h.2))))
  statement_back part (statements.Return vars) text rest may h =
      (heads.ReturnWord, h.0, (return_may part ∙ may, h.1), (statements.Return vars, refl, (vars, refl, h.2)))

  back : (part : Part) (d : Declaration) (text rest : List ℕ) → DeclarationText part d text rest → RawDeclaration part d text rest
  back part (declarations.OfType decl) text rest h = (heads.TypeWord, h.1.0, (h.0, h.1.1), (decl, refl, h.1.2))
  back part (declarations.OfLibfunc decl) text rest h = (heads.LibfuncWord, h.1.0, (h.0, h.1.1), (decl, refl, h.1.2))
  back part (declarations.OfStatement s) text rest h = statement_back part s text rest h.0 h.1
  back part (declarations.OfFunction f) text rest h = (heads.Id f.id, h.0, h.1, go (has_statements part) refl)
    where
      go : (b : Bool) → has_statements part ≡ b → BehindHead part (heads.Id f.id) (declarations.OfFunction f) h.0 rest
      go true was = inl (was, inr (mark_begins 64 40 [] h.0 h.2.0 h.2.1, (f, refl, (refl, h.2))))
      go false was = inr (was, (f, refl, (refl, h.2)))

  pub declaration_exact : (part : Part) → IsExact (declaration_at limits part) (DeclarationText part)
  unfolding declaration_at
  declaration_exact part =
      exact_as (exact_then (head_exact limits wide part) (behind_head_exact part))
      (λ d text rest h. there part h.0 d text h.1 rest h.2 h.3) (back part)

-- ---- as readers

module _ (limits : Limits) (part : Part) where
  head_limited : Limited too_wide (head_at limits part) (head_at unlimited part)
  unfolding head_at
  head_limited =
      (limited_branch 91 too_wide refl (from_then too_wide 91 (numbered_limited limits) (λ name. limited_done too_wide (heads.Id name)))
      (limited_then too_wide (limited_label part) (λ label. limited_done too_wide (head_of label))))

  limited_cond : {A : Type 0} (b : Bool) {reader bare other other_bare : Sierra A} → Limited too_wide reader bare → Limited too_wide other other_bare → Limited too_wide (cond b reader other) (cond b bare other_bare)
  limited_cond true form others = form
  limited_cond false form others = others

  function_declared_limited : (id : List ℕ) → LimitedFrom 64 too_wide (function_declared_at limits id) (function_declared_at unlimited id)
  unfolding function_declared_at
  function_declared_limited id = from_then too_wide 64 (function_limited limits id) (λ f. limited_done too_wide (declarations.OfFunction f))

  statement_declared_limited : (id : List ℕ) → LimitedFrom 40 too_wide (statement_declared_at limits id) (statement_declared_at unlimited id)
  unfolding statement_declared_at
  statement_declared_limited id = from_then too_wide 40 (invoke_limited limits id) (λ s. limited_done too_wide (declarations.OfStatement s))

  behind_head_limited : (head : Head) → Limited too_wide (behind_head_at limits part head) (behind_head_at unlimited part head)
  unfolding behind_head_at
  behind_head_limited heads.TypeWord = limited_then too_wide (type_limited limits) (λ decl. limited_done too_wide (declarations.OfType decl))
  behind_head_limited heads.LibfuncWord = limited_then too_wide (libfunc_limited limits) (λ decl. limited_done too_wide (declarations.OfLibfunc decl))
  behind_head_limited heads.ReturnWord = limited_then too_wide (return_limited limits).limited (λ s. limited_done too_wide (declarations.OfStatement s))
  behind_head_limited (heads.Id id) =
      limited_cond (has_statements part) (limited_branch 40 too_wide refl (statement_declared_limited id) (function_declared_limited id).limited) (function_declared_limited id).limited

  pub declaration_limited : Limited too_wide (declaration_at limits part) (declaration_at unlimited part)
  unfolding declaration_at
  declaration_limited = limited_then too_wide head_limited behind_head_limited

  -- a head takes a byte at least
  numbered_moves : Moves (numbered_at limits)
  unfolding numbered_at
  numbered_moves =
      moves_then (mark_at (91 ∷ [])) (λ _. number_at limits.number true too_wide >>= λ n. mark_at (93 ∷ []) >>= λ _. done (numbered n)) (moves_mark 91 [])
      (λ _. (limited_then too_wide (limited_number limits.number true too_wide) (λ n. limited_then too_wide (from_mark too_wide 93 [] refl).limited (λ _. limited_done too_wide (numbered n)))).reads)

  label_token_moves : Moves (token (label_at part))
  label_token_moves =
      moves_then (label_at part) (λ label. blanks_at >>= λ _. done label) (label_moves part) (λ label. (limited_then too_wide limited_blanks (λ _. limited_done too_wide label)).reads)

  head_moves : Moves (head_at limits part)
  unfolding head_at
  head_moves =
      moves_branch 91 (numbered_at limits >>= λ name. done (heads.Id name)) (token (label_at part) >>= λ label. done (head_of label))
      (moves_then (numbered_at limits) (λ name. done (heads.Id name)) numbered_moves (λ name. (limited_done too_wide (heads.Id name)).reads))
      (moves_then (token (label_at part)) (λ label. done (head_of label)) label_token_moves (λ label. (limited_done too_wide (head_of label)).reads))

  pub declaration_moves : Moves (declaration_at limits part)
  unfolding declaration_at
  declaration_moves = moves_then (head_at limits part) (behind_head_at limits part) head_moves (λ head. (behind_head_limited head).reads)
