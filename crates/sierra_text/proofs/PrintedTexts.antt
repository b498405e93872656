-- The plain layout of a text's program is a text of it: declarations, parts and the whole.
use Rattle.std.proofs.Common.{arith, ◌≡◌, ℕ, List, [], ◌∷◌, ◌++◌, Bool, true, false, Option, None, Some, refl, sym, ap, subst, append_assoc, inl, inr}
use Rattle.std.specs.Prelude.{codes, flat_map, ◌==◌}
use Rattle.std.specs.List.{join_by, All}
use Rattle.std.specs.Str.{IsAscii}
use Rattle.std.proofs.lemmas.List.Elements.{All-nil, All-cons}
use Rattle.std.proofs.lemmas.List.{append-nil}
use Rattle.std.proofs.lemmas.Bool.Decides.{nat_tests}
use Rattle.byte_reading.specs.Decimal.{decimal_text}
use Rattle.text_reading.specs.Tokens.{Form, ◌then◌, NoneNext, is_word_byte, Blanks, Mark}
use Rattle.text_reading.proofs.BlankFacts.{Fresh, is_gap}
use Rattle.text_reading.proofs.Written.{blanks_here, blank_space, blank_line, mark_written, word_written}
use Rattle.sierra_types.specs.declared.program.Program.{Program}
use Rattle.sierra_types.specs.declared.program.TypeDecl.{TypeDecl}
use Rattle.sierra_types.specs.declared.program.LibfuncDecl.{LibfuncDecl}
use Rattle.sierra_types.specs.declared.program.Arg.{Arg}
use Rattle.sierra_types.specs.declared.program.Arg.TheVariants as args
use Rattle.sierra_types.specs.declared.program.Info.{Info}
use Rattle.sierra_types.specs.declared.program.Statement.{Statement}
use Rattle.sierra_types.specs.declared.program.Statement.TheVariants as statements
use Rattle.sierra_types.specs.declared.program.Branch.{Branch}
use Rattle.sierra_types.specs.declared.program.Target.{Target}
use Rattle.sierra_types.specs.declared.program.Target.TheVariants as targets
use Rattle.sierra_types.specs.declared.program.Function.{Function}
use Rattle.sierra_text.specs.Ids.{is_word_start, IsWord}
use Rattle.sierra_text.specs.Text.{standard, OneOrMore, InParentheses, Each, AnyWord, BoolText, Id, Ability, InfoText, InfoOrNothing, ArgText, Args, Declared, TypeText, LibfuncText, Var, TargetText, BranchText, Branches, StatementText, Param, FunctionText, Text}
use Rattle.sierra_text.specs.AsciiNames.{IsAsciiArg, IsAsciiType, IsAsciiLibfunc, IsAsciiStatement, IsAsciiParam, IsAsciiFunction, HasAsciiNames}
use Rattle.sierra_text.specs.Layout.{in_parentheses, bool_text, arg_text, args_text, ability_text, abilities_text, info_text, type_line, libfunc_line, var_text, target_text, branch_text, in_braces, one_branch, branches_text, statement_line, param_text, function_line, next_part, layout}
use Rattle.sierra_text.proofs.LabelFacts.{ends_label, no_label_byte}
use Rattle.sierra_text.proofs.MovedLabels.{is_word_ascii}
use Rattle.sierra_text.proofs.PrintedLists.{HasText, has, AllHaveText, each_has, one_or_more_has, EndsItem, label_ends_there, Follows, position_small, decimal_fresh, number_printed, in_brackets, id_fresh, id_printed, id_ascii, parentheses_have, arg_fresh, arg_printed, Joins, comma_joins, one_or_more_printed, parentheses_printed, vars_printed}

-- ---- infos

bool_fresh : (value : Bool) (after : List ℕ) → Fresh (bool_text value ++ after)
bool_fresh true after = refl
bool_fresh false after = refl

bool_printed : (value : Bool) (after rest : List ℕ) → NoneNext is_word_byte after → Blanks after rest → BoolText value (bool_text value ++ after) rest
bool_printed true after rest ends blanks = word_written (codes "true") after rest ends blanks
bool_printed false after rest ends blanks = word_written (codes "false") after rest ends blanks

ability_printed : (word : List ℕ) (value : Bool) (after rest : List ℕ) → NoneNext is_word_byte after → Blanks after rest → Ability word value (word ++ (codes ": " ++ (bool_text value ++ after))) rest
ability_printed word value after rest ends blanks =
    let truth : List ℕ = bool_text value ++ after in
    let colon : List ℕ = 58 ∷ 32 ∷ truth in
    (colon, word_written word colon colon refl (blanks_here colon refl), (truth, mark_written (codes ":") (32 ∷ truth) truth (blank_space truth (bool_fresh value after)), bool_printed value after rest ends blanks))

-- a comma, and the ability behind it
next_ability : (word : List ℕ) (value : Bool) (behind : Form) (after rest : List ℕ) → Fresh (word ++ (codes ": " ++ (bool_text value ++ after))) → NoneNext is_word_byte after → Fresh after → behind after rest
    → (Mark (codes ",") then Ability word value then behind) (codes ", " ++ (word ++ (codes ": " ++ (bool_text value ++ after)))) rest
next_ability word value behind after rest fresh ends after_fresh is =
    let ability : List ℕ = word ++ (codes ": " ++ (bool_text value ++ after)) in
    (ability, mark_written (codes ",") (32 ∷ ability) ability (blank_space ability fresh), (after, ability_printed word value after after ends (blanks_here after after_fresh), is))

four_parts : (a b c d e f g h end after : List ℕ) → ((a ++ b) ++ ((c ++ d) ++ ((e ++ f) ++ ((g ++ h) ++ end)))) ++ after ≡ a ++ (b ++ (c ++ (d ++ (e ++ (f ++ (g ++ (h ++ (end ++ after))))))))
four_parts a b c d e f g h end after = simp append_assoc

abilities_are : (info : Info) (after : List ℕ) → abilities_text info ++ after
    ≡ codes " [storable: " ++ (bool_text info.storable ++ (codes ", drop: " ++ (bool_text info.drop ++ (codes ", dup: " ++ (bool_text info.dup ++ (codes ", zero_sized: " ++ (bool_text info.zero_sized ++ (93 ∷ after))))))))
unfolding ability_text
abilities_are info after =
    four_parts (codes " [storable: ") (bool_text info.storable) (codes ", drop: ") (bool_text info.drop) (codes ", dup: ") (bool_text info.dup) (codes ", zero_sized: ") (bool_text info.zero_sized) (codes "]") after

info_printed : (info : Info) (after rest : List ℕ) → Blanks after rest → Follows (InfoText info) (abilities_text info ++ after) rest
info_printed info after rest blanks =
    let end : List ℕ = 93 ∷ after in
    let zero_sized : List ℕ = codes ", zero_sized: " ++ (bool_text info.zero_sized ++ end) in
    let dup : List ℕ = codes ", dup: " ++ (bool_text info.dup ++ zero_sized) in
    let dropped : List ℕ = codes ", drop: " ++ (bool_text info.drop ++ dup) in
    let storable : List ℕ = codes "storable: " ++ (bool_text info.storable ++ dropped) in
    subst (λ (t : List ℕ). Follows (InfoText info) t rest) (sym (abilities_are info after)) (record {
      ends = refl;
      start = 91 ∷ storable;
      blanks = blank_space (91 ∷ storable) refl;
      is = (
        storable,
        mark_written (codes "[") storable storable (blanks_here storable refl),
        (
          dropped,
          ability_printed (codes "storable") info.storable dropped dropped refl (blanks_here dropped refl),
          next_ability (codes "drop") info.drop (Mark (codes ",") then Ability (codes "dup") info.dup then Mark (codes ",") then Ability (codes "zero_sized") info.zero_sized then Mark (codes "]"))
              dup rest refl refl refl
              (next_ability (codes "dup") info.dup (Mark (codes ",") then Ability (codes "zero_sized") info.zero_sized then Mark (codes "]")) zero_sized rest refl refl refl
              (next_ability (codes "zero_sized") info.zero_sized (Mark (codes "]")) end rest refl refl refl (mark_written (codes "]") after rest blanks))),
        ),
      );
    })

-- ---- types and libfuncs

-- the end of a declaration and of its line
end_printed : (after rest : List ℕ) → Blanks after rest → Mark (codes ";") (59 ∷ 10 ∷ after) rest
end_printed after rest blanks = mark_written (codes ";") (10 ∷ after) rest blanks

args_printed : (arguments : List Arg) (after rest : List ℕ) → HasText (Args standard arguments) → NoneNext is_word_byte after → Blanks after rest → NoneNext (λ byte. byte == 60) rest
    → NoneNext is_word_byte (args_text arguments ++ after) × (start : List ℕ) × Blanks (args_text arguments ++ after) start × Args standard arguments start rest
args_printed [] after rest h ends blanks none = (ends, rest, blanks, (refl, none))
args_printed (arg ∷ more) after rest h ends blanks none =
    let all = one_or_more_has (ArgText standard) (Mark (codes ",")) (Mark (codes ">")) (arg ∷ more) h.is.0 h.rest h.is.2 in
    let end : List ℕ = 62 ∷ after in
    let inside : List ℕ = join_by arg_text (codes ", ") (arg ∷ more) ++ end in
    let closed : Follows (Mark (codes ">")) end rest = record { ends = refl; start = end; blanks = blanks_here end refl; is = mark_written (codes ">") after rest blanks } in
    let both = one_or_more_printed (Mark (codes ",")) (Mark (codes ">")) (ArgText standard) arg_text (codes ", ") comma_joins arg_fresh arg_printed arg more end rest all closed in
    let whole : args_text (arg ∷ more) ++ after ≡ 60 ∷ inside = ap (λ (t : List ℕ). 60 ∷ t) (append_assoc (join_by arg_text (codes ", ") (arg ∷ more)) (codes ">") after) in
    subst (λ (t : List ℕ). NoneNext is_word_byte t × (start : List ℕ) × Blanks t start × Args standard (arg ∷ more) start rest) (sym whole)
    (refl, 60 ∷ inside, blanks_here (60 ∷ inside) refl, (inside, mark_written (codes "<") inside inside (blanks_here inside both.0), both.1))

word_fresh : (word after : List ℕ) → HasText (AnyWord word) → Fresh (word ++ after)
word_fresh word after h = go word h.is.1.is_word
  where
    start_fresh : (byte : ℕ) → is_word_start byte ≡ true → is_gap byte ≡ false
    start_fresh byte is = grind (arith, nat_tests)

    go : (word : List ℕ) → IsWord word → Fresh (word ++ after)
    go [] is = absurd is
    go (byte ∷ more) is = start_fresh byte is.0

-- `id = word<args>`, before whatever stands behind it
pub declared_printed : (id generic : List ℕ) (arguments : List Arg) (after rest : List ℕ) → HasText (Declared standard id generic arguments) → NoneNext is_word_byte after → Blanks after rest
    → NoneNext (λ byte. byte == 60) rest → Declared standard id generic arguments (id ++ (codes " = " ++ (generic ++ (args_text arguments ++ after)))) rest
declared_printed id generic arguments after rest h ends blanks none =
    let name : HasText (Id standard id) = has h.text h.is.0 h.is.1 in
    let word : HasText (AnyWord generic) = has h.is.2.0 h.is.2.2.0 h.is.2.2.1 in
    let arguments_have : HasText (Args standard arguments) = has h.is.2.2.0 h.rest h.is.2.2.2 in
    let behind = args_printed arguments after rest arguments_have ends blanks none in
    let behind_word : List ℕ = args_text arguments ++ after in
    let word_text : List ℕ = generic ++ behind_word in
    let equals : List ℕ = 61 ∷ 32 ∷ word_text in (
      equals,
      id_printed id (32 ∷ equals) equals name refl (blank_space equals refl),
      (
        word_text,
        mark_written (codes "=") (32 ∷ word_text) word_text (blank_space word_text (word_fresh generic behind_word word)),
        (behind.1, (behind_word, record { is_word = word.is.1.is_word; whole = (refl, behind.0) }, behind.2), behind.3),
      ),
    )

-- a declaration's infos, and its end
info_end : (info : Option Info) (after rest : List ℕ) → HasText (InfoOrNothing info) → Blanks after rest
    → (text : Follows (InfoOrNothing info then Mark (codes ";")) (info_text info ++ (59 ∷ 10 ∷ after)) rest) × NoneNext (λ byte. byte == 60) text.start
info_end None after rest h blanks =
    let end : List ℕ = 59 ∷ 10 ∷ after in
    (record { ends = refl; start = end; blanks = blanks_here end refl; is = (end, (refl, refl), end_printed after rest blanks) }, refl)
info_end (Some info) after rest h blanks =
    let end : List ℕ = 59 ∷ 10 ∷ after in
    let text = info_printed info end end (blanks_here end refl) in
    (record { ends = text.ends; start = text.start; blanks = text.blanks; is = (end, text.is, end_printed after rest blanks) }, group_free text.start text.is)
  where
    group_free : (start : List ℕ) → InfoText info start (59 ∷ 10 ∷ after) → NoneNext (λ byte. byte == 60) start
    group_free start is = subst (NoneNext (λ byte. byte == 60)) (sym is.1.1) refl

word_ends : (after : List ℕ) → EndsItem after → NoneNext is_word_byte after
word_ends after ends = no_word after (label_ends_there after ends)
  where
    no_word : (after : List ℕ) → ends_label after → NoneNext is_word_byte after
    no_word [] none = tt
    no_word (byte ∷ more) none = (no_label_byte byte none).no_word

type_line_is : (decl : TypeDecl) (after : List ℕ) → type_line decl ++ after
    ≡ codes "type " ++ (decl.id ++ (codes " = " ++ (decl.generic ++ (args_text decl.args ++ (info_text decl.info ++ (59 ∷ 10 ∷ after))))))
type_line_is decl after = simp append_assoc refl

type_printed : (decl : TypeDecl) (after rest : List ℕ) → HasText (TypeText standard decl) → Blanks after rest → TypeText standard decl (type_line decl ++ after) rest
type_printed decl after rest h blanks =
    let declared : HasText (Declared standard decl.id decl.generic decl.args) = has h.is.0 h.is.2.0 h.is.2.1 in
    let info : HasText (InfoOrNothing decl.info) = has h.is.2.0 h.is.2.2.0 h.is.2.2.1 in
    let name : HasText (Id standard decl.id) = has declared.text declared.is.0 declared.is.1 in
    let end = info_end decl.info after rest info blanks in
    let tail : List ℕ = info_text decl.info ++ (59 ∷ 10 ∷ after) in
    let line : List ℕ = decl.id ++ (codes " = " ++ (decl.generic ++ (args_text decl.args ++ tail))) in
    subst (λ (t : List ℕ). TypeText standard decl t rest) (sym (type_line_is decl after)) (
      line,
      (32 ∷ line, (refl, refl), blank_space line (id_fresh decl.id (codes " = " ++ (decl.generic ++ (args_text decl.args ++ tail))) name)),
      (end.0.start, declared_printed decl.id decl.generic decl.args tail end.0.start declared (word_ends tail end.0.ends) end.0.blanks end.1, end.0.is),
    )

libfunc_line_is : (decl : LibfuncDecl) (after : List ℕ) → libfunc_line decl ++ after
    ≡ codes "libfunc " ++ (decl.id ++ (codes " = " ++ (decl.generic ++ (args_text decl.args ++ (59 ∷ 10 ∷ after)))))
libfunc_line_is decl after = simp append_assoc refl

libfunc_printed : (decl : LibfuncDecl) (after rest : List ℕ) → HasText (LibfuncText standard decl) → Blanks after rest → LibfuncText standard decl (libfunc_line decl ++ after) rest
libfunc_printed decl after rest h blanks =
    let declared : HasText (Declared standard decl.id decl.generic decl.args) = has h.is.0 h.is.2.0 h.is.2.1 in
    let name : HasText (Id standard decl.id) = has declared.text declared.is.0 declared.is.1 in
    let tail : List ℕ = 59 ∷ 10 ∷ after in
    let line : List ℕ = decl.id ++ (codes " = " ++ (decl.generic ++ (args_text decl.args ++ tail))) in
    subst (λ (t : List ℕ). LibfuncText standard decl t rest) (sym (libfunc_line_is decl after)) (
      line,
      (32 ∷ line, (refl, refl), blank_space line (id_fresh decl.id (codes " = " ++ (decl.generic ++ (args_text decl.args ++ tail))) name)),
      (tail, declared_printed decl.id decl.generic decl.args tail tail declared refl (blanks_here tail refl) refl, end_printed after rest blanks),
    )

-- ---- statements

target_fresh : (target : Target) (more : List ℕ) → HasText (TargetText standard target) → Fresh (target_text target ++ more)
target_fresh targets.Fallthrough more h = refl
target_fresh (targets.To statement) more h = decimal_fresh statement more (position_small statement h.is.1.within)

target_printed : (target : Target) (after : List ℕ) → HasText (TargetText standard target) → TargetText standard target (target_text target ++ (40 ∷ after)) (40 ∷ after)
target_printed targets.Fallthrough after h = word_written (codes "fallthrough") (40 ∷ after) (40 ∷ after) refl (blanks_here (40 ∷ after) refl)
target_printed (targets.To statement) after h = number_printed standard.position statement (40 ∷ after) (40 ∷ after) h.is.1.within refl (blanks_here (40 ∷ after) refl)

branch_fresh : (branch : Branch) (more : List ℕ) → HasText (BranchText standard branch) → Fresh (branch_text branch ++ more)
branch_fresh branch more h =
    subst Fresh (sym (append_assoc (target_text branch.target) (in_parentheses var_text branch.results) more))
    (target_fresh branch.target (in_parentheses var_text branch.results ++ more) (has h.text h.is.0 h.is.1))

branch_printed : (branch : Branch) (after rest : List ℕ) → HasText (BranchText standard branch) → EndsItem after → Blanks after rest → BranchText standard branch (branch_text branch ++ after) rest
branch_printed branch after rest h ends blanks =
    let results : HasText (InParentheses (Var standard) branch.results) = has h.is.0 h.rest h.is.2 in
    let vars : List ℕ = in_parentheses var_text branch.results ++ after in
    subst (λ (t : List ℕ). BranchText standard branch t rest) (sym (append_assoc (target_text branch.target) (in_parentheses var_text branch.results) after)) (
      vars,
      target_printed branch.target ((join_by var_text (codes ", ") branch.results ++ codes ")") ++ after) (has h.text h.is.0 h.is.1),
      vars_printed branch.results after rest results blanks,
    )

-- nothing but a space between two branches
space_joins : Joins (λ text rest. text ≡ rest) (codes " ")
space_joins = record { step = λ next fresh. record { ends = refl; start = next; blanks = blank_space next fresh; is = refl } }

braces_printed : (branch : Branch) (more : List Branch) (after rest : List ℕ) → AllHaveText (BranchText standard) (branch ∷ more) → Blanks after rest
    → Follows (Branches standard (branch ∷ more)) (in_braces (branch ∷ more) ++ after) rest
braces_printed branch more after rest all blanks =
    let end : List ℕ = 32 ∷ 125 ∷ after in
    let inside : List ℕ = join_by branch_text (codes " ") (branch ∷ more) ++ end in
    let closed : Follows (Mark (codes "}")) end rest = record { ends = refl; start = 125 ∷ after; blanks = blank_space (125 ∷ after) refl; is = mark_written (codes "}") after rest blanks } in
    let both = one_or_more_printed (λ text rest. text ≡ rest) (Mark (codes "}")) (BranchText standard) branch_text (codes " ") space_joins branch_fresh branch_printed branch more end rest all closed in
    let whole : in_braces (branch ∷ more) ++ after ≡ 32 ∷ 123 ∷ 32 ∷ inside = ap (λ (t : List ℕ). 32 ∷ 123 ∷ 32 ∷ t) (append_assoc (join_by branch_text (codes " ") (branch ∷ more)) (codes " }") after) in
    subst (λ (t : List ℕ). Follows (Branches standard (branch ∷ more)) t rest) (sym whole) (record {
      ends = refl;
      start = 123 ∷ 32 ∷ inside;
      blanks = blank_space (123 ∷ 32 ∷ inside) refl;
      is = inr (inside, mark_written (codes "{") (32 ∷ inside) inside (blank_space inside both.0), both.1);
    })

-- `->` and the results
arrow_printed : (results after rest : List ℕ) → HasText (InParentheses (Var standard) results) → Blanks after rest
    → Follows (Branches standard (record { target = targets.Fallthrough; results = results } ∷ [])) (one_branch targets.Fallthrough results ++ after) rest
arrow_printed results after rest h blanks =
    let vars : List ℕ = in_parentheses var_text results ++ after in
    record {
      ends = refl;
      start = 45 ∷ 62 ∷ 32 ∷ vars;
      blanks = blank_space (45 ∷ 62 ∷ 32 ∷ vars) refl;
      is = inl (results, refl, (vars, mark_written (codes "->") (32 ∷ vars) vars (blank_space vars refl), vars_printed results after rest h blanks));
    }

abbrev first_results : List Branch → List ℕ
first_results [] = []
first_results (branch ∷ more) = branch.results

abbrev first_target : List Branch → Target
first_target [] = targets.Fallthrough
first_target (branch ∷ more) = branch.target

module _ (text rest : List ℕ) where
  braced : (branches : List Branch) → (Mark (codes "{") then OneOrMore (λ text rest. text ≡ rest) (Mark (codes "}")) (BranchText standard) branches) text rest → AllHaveText (BranchText standard) branches
  braced branches (inside, mark, is) = one_or_more_has (BranchText standard) (λ text rest. text ≡ rest) (Mark (codes "}")) branches inside rest is

  one_branch_printed : (target : Target) (results after behind : List ℕ) → Branches standard (record { target = target; results = results } ∷ []) text rest → Blanks after behind
      → Follows (Branches standard (record { target = target; results = results } ∷ [])) (one_branch target results ++ after) behind
  one_branch_printed targets.Fallthrough results after behind (inl (others, same, (between, mark, form))) blanks =
      let results_are : others ≡ results = sym (ap first_results same) in
      arrow_printed results after behind (has between rest (subst (λ (vars : List ℕ). InParentheses (Var standard) vars between rest) results_are form)) blanks
  one_branch_printed targets.Fallthrough results after behind (inr is) blanks =
      let branch = (braced (record { target = targets.Fallthrough; results = results } ∷ []) is).0 in
      arrow_printed results after behind (has branch.is.0 branch.rest branch.is.2) blanks
  one_branch_printed (targets.To statement) results after behind (inl (others, same, form)) blanks =
      let clash : targets.To statement ≡ targets.Fallthrough = ap first_target same in
      absurd cc
  one_branch_printed (targets.To statement) results after behind (inr is) blanks =
      let branch : Branch = record { target = targets.To statement; results = results } in
      braces_printed branch [] after behind (braced (branch ∷ []) is) blanks

  branches_printed : (branches : List Branch) (after behind : List ℕ) → Branches standard branches text rest → Blanks after behind → Follows (Branches standard branches) (branches_text branches ++ after) behind
  branches_printed [] after behind (inl (results, same, form)) blanks = absurd cc
  branches_printed [] after behind (inr (inside, mark, none)) blanks = absurd none
  branches_printed (branch ∷ []) after behind is blanks = one_branch_printed branch.target branch.results after behind is blanks
  branches_printed (branch ∷ other ∷ more) after behind (inl (results, same, form)) blanks = absurd cc
  branches_printed (branch ∷ other ∷ more) after behind (inr is) blanks = braces_printed branch (other ∷ more) after behind (braced (branch ∷ other ∷ more) is) blanks

invoke_line_is : (libfunc : List ℕ) (vars : List ℕ) (branches : List Branch) (after : List ℕ) → statement_line (statements.Invoke libfunc vars branches) ++ after
    ≡ libfunc ++ (in_parentheses var_text vars ++ (branches_text branches ++ (59 ∷ 10 ∷ after)))
invoke_line_is libfunc vars branches after = three_parts libfunc (in_parentheses var_text vars) (branches_text branches) (codes ";\n") after
  where
    three_parts : (a b c d after : List ℕ) → (a ++ (b ++ (c ++ d))) ++ after ≡ a ++ (b ++ (c ++ (d ++ after)))
    three_parts a b c d after = simp append_assoc

statement_fresh : (statement : Statement) (more : List ℕ) → HasText (StatementText standard statement) → Fresh (statement_line statement ++ more)
statement_fresh (statements.Invoke libfunc vars branches) more h =
    subst Fresh (sym (invoke_line_is libfunc vars branches more)) (id_fresh libfunc (in_parentheses var_text vars ++ (branches_text branches ++ (59 ∷ 10 ∷ more))) (has h.text h.is.0 h.is.1))
statement_fresh (statements.Return vars) more h = refl

statement_printed : (statement : Statement) (after rest : List ℕ) → HasText (StatementText standard statement) → Blanks after rest → StatementText standard statement (statement_line statement ++ after) rest
statement_printed (statements.Invoke libfunc vars branches) after rest h blanks =
    let name : HasText (Id standard libfunc) = has h.text h.is.0 h.is.1 in
    let vars_have : HasText (InParentheses (Var standard) vars) = has h.is.0 h.is.2.0 h.is.2.1 in
    let end : List ℕ = 59 ∷ 10 ∷ after in
    let behind = branches_printed h.is.2.0 h.is.2.2.0 branches end end h.is.2.2.1 (blanks_here end refl) in
    let arguments : List ℕ = in_parentheses var_text vars ++ (branches_text branches ++ end) in
    subst (λ (t : List ℕ). StatementText standard (statements.Invoke libfunc vars branches) t rest) (sym (invoke_line_is libfunc vars branches after)) (
      arguments,
      id_printed libfunc arguments arguments name refl (blanks_here arguments refl),
      (behind.start, vars_printed vars (branches_text branches ++ end) behind.start vars_have behind.blanks, (end, behind.is, end_printed after rest blanks)),
    )
statement_printed (statements.Return vars) after rest h blanks =
    let vars_have : HasText (InParentheses (Var standard) vars) = has h.is.0 h.is.2.0 h.is.2.1 in
    let end : List ℕ = 59 ∷ 10 ∷ after in
    let arguments : List ℕ = in_parentheses var_text vars ++ end in
    let whole : statement_line (statements.Return vars) ++ after ≡ codes "return" ++ arguments = ap (λ (t : List ℕ). codes "return" ++ t) (append_assoc (in_parentheses var_text vars) (codes ";\n") after) in
    subst (λ (t : List ℕ). StatementText standard (statements.Return vars) t rest) (sym whole) (
      arguments,
      (arguments, (refl, refl), blanks_here arguments refl),
      (end, vars_printed vars end end vars_have (blanks_here end refl), end_printed after rest blanks),
    )

-- ---- functions

param_fresh : (param : ℕ × List ℕ) (more : List ℕ) → HasText (Param standard param) → Fresh (param_text param ++ more)
param_fresh param more h = refl

param_printed : (param : ℕ × List ℕ) (after rest : List ℕ) → HasText (Param standard param) → EndsItem after → Blanks after rest → Param standard param (param_text param ++ after) rest
param_printed param after rest h ends blanks =
    let var : HasText (Var standard param.0) = has h.text h.is.0 h.is.1 in
    let name : HasText (Id standard param.1) = has h.is.2.0 h.rest h.is.2.2 in
    let type_id : List ℕ = param.1 ++ after in
    let colon : List ℕ = 58 ∷ 32 ∷ type_id in
    let whole : param_text param ++ after ≡ var_text param.0 ++ colon = append_assoc (var_text param.0) (codes ": " ++ param.1) after in
    subst (λ (t : List ℕ). Param standard param t rest) (sym whole) (
      colon,
      in_brackets standard.position param.0 colon colon (position_small param.0 var.is.2.1.1.within) var.is.2.1.1.within (blanks_here colon refl),
      (type_id, mark_written (codes ":") (32 ∷ type_id) type_id (blank_space type_id (id_fresh param.1 after name)), id_printed param.1 after rest name (label_ends_there after ends) blanks),
    )

function_line_is : (function : Function) (after : List ℕ) → function_line function ++ after
    ≡ function.id ++ (64 ∷ (decimal_text function.entry ++ (in_parentheses param_text function.params
    ++ (codes " -> " ++ (in_parentheses (λ name. name) function.results ++ (59 ∷ 10 ∷ after))))))
function_line_is function after =
    six_parts function.id (codes "@") (decimal_text function.entry) (in_parentheses param_text function.params) (codes " -> ") (in_parentheses (λ name. name) function.results) (codes ";\n") after
  where
    six_parts : (a b c d e f g after : List ℕ) → (a ++ (b ++ (c ++ (d ++ (e ++ (f ++ g)))))) ++ after ≡ a ++ (b ++ (c ++ (d ++ (e ++ (f ++ (g ++ after))))))
    six_parts a b c d e f g after = simp append_assoc

function_fresh : (function : Function) (more : List ℕ) → HasText (FunctionText standard function) → Fresh (function_line function ++ more)
function_fresh function more h =
    subst Fresh (sym (function_line_is function more))
    (id_fresh function.id (64 ∷ (decimal_text function.entry ++ (in_parentheses param_text function.params
    ++ (codes " -> " ++ (in_parentheses (λ name. name) function.results ++ (59 ∷ 10 ∷ more)))))) (has h.text h.is.0 h.is.1))

result_printed : (name after rest : List ℕ) → HasText (Id standard name) → EndsItem after → Blanks after rest → Id standard name (name ++ after) rest
result_printed name after rest h ends blanks = id_printed name after rest h (label_ends_there after ends) blanks

function_printed : (function : Function) (after rest : List ℕ) → HasText (FunctionText standard function) → Blanks after rest → FunctionText standard function (function_line function ++ after) rest
function_printed function after rest h blanks =
    let name : HasText (Id standard function.id) = has h.text h.is.0 h.is.1 in
    let entry = h.is.2.2.1.1.within in
    let params : HasText (InParentheses (Param standard) function.params) = has h.is.2.2.0 h.is.2.2.2.0 h.is.2.2.2.1 in
    let results : HasText (InParentheses (Id standard) function.results) = has h.is.2.2.2.2.0 h.is.2.2.2.2.2.0 h.is.2.2.2.2.2.1 in
    let end : List ℕ = 59 ∷ 10 ∷ after in
    let results_text : List ℕ = in_parentheses (λ name. name) function.results ++ end in
    let arrow : List ℕ = 45 ∷ 62 ∷ 32 ∷ results_text in
    let params_text : List ℕ = in_parentheses param_text function.params ++ (32 ∷ arrow) in
    let entry_text : List ℕ = decimal_text function.entry ++ params_text in
    let at : List ℕ = 64 ∷ entry_text in
    subst (λ (t : List ℕ). FunctionText standard function t rest) (sym (function_line_is function after)) (
      at,
      id_printed function.id at at name refl (blanks_here at refl),
      (
        entry_text,
        mark_written (codes "@") entry_text entry_text (blanks_here entry_text (decimal_fresh function.entry params_text (position_small function.entry entry))),
        (
          params_text,
          number_printed standard.position function.entry params_text params_text entry refl (blanks_here params_text refl),
          (
            arrow,
            parentheses_printed (Param standard) param_text param_fresh param_printed function.params (32 ∷ arrow) arrow params (blank_space arrow refl),
            (
              results_text,
              mark_written (codes "->") (32 ∷ results_text) results_text (blank_space results_text refl),
              (end, parentheses_printed (Id standard) (λ name. name) id_fresh result_printed function.results end end results (blanks_here end refl), end_printed after rest blanks),
            ),
          ),
        ),
      ),
    )

-- ---- parts and programs

-- this text, before any blanks, is that form
record Printed (form : Form) (text : List ℕ) : Type 0 where
  is : (after rest : List ℕ) → Blanks after rest → form (text ++ after) rest

module _ {A : Type 0} (item : A → Form) (line : A → List ℕ) (fresh : (x : A) (more : List ℕ) → HasText (item x) → Fresh (line x ++ more))
    (printed : (x : A) (after rest : List ℕ) → HasText (item x) → Blanks after rest → item x (line x ++ after) rest) where
  lines_fresh : (x : A) (xs : List A) (more : List ℕ) → HasText (item x) → Fresh (flat_map line (x ∷ xs) ++ more)
  lines_fresh x xs more h = subst Fresh (sym (append_assoc (line x) (flat_map line xs) more)) (fresh x (flat_map line xs ++ more) h)

  lines_printed : (x : A) (xs : List A) (after rest : List ℕ) → AllHaveText item (x ∷ xs) → Blanks after rest → Each item (x ∷ xs) (flat_map line (x ∷ xs) ++ after) rest
  lines_printed x [] after rest all blanks =
      subst (λ (t : List ℕ). Each item (x ∷ []) (t ++ after) rest) (sym (append-nil (line x))) (rest, printed x after rest all.0 blanks, refl)
  lines_printed x (y ∷ ys) after rest all blanks =
      let behind : List ℕ = flat_map line (y ∷ ys) ++ after in
      subst (λ (t : List ℕ). Each item (x ∷ y ∷ ys) t rest) (sym (append_assoc (line x) (flat_map line (y ∷ ys)) after))
      (behind, printed x behind behind all.0 (blanks_here behind (lines_fresh y ys after all.1.0)), lines_printed y ys after rest all.1 blanks)

  -- a part behind those before it
  part_printed : (form : Form) (before : List ℕ) (xs : List A) → Printed form before → AllHaveText item xs → Printed (form then Each item xs) (next_part line before xs)
  part_printed form before [] front all = record { is = λ after rest blanks. (rest, front.is after rest blanks, refl) }
  part_printed form [] (x ∷ xs) front all = record {
    is = λ after rest blanks.
        let lines : List ℕ = flat_map line (x ∷ xs) ++ after in
        (lines, front.is lines lines (blanks_here lines (lines_fresh x xs after all.0)), lines_printed x xs after rest all blanks);
  }
  part_printed form (byte ∷ before) (x ∷ xs) front all = record {
    is = λ after rest blanks.
        let lines : List ℕ = flat_map line (x ∷ xs) ++ after in
        subst (λ (t : List ℕ). (form then Each item (x ∷ xs)) t rest) (sym (append_assoc (byte ∷ before) (10 ∷ flat_map line (x ∷ xs)) after))
        (lines, front.is (10 ∷ lines) lines (blank_line lines (lines_fresh x xs after all.0)), lines_printed x xs after rest all blanks);
  }

-- the declarations of a text's program have texts
record AllDeclared (program : Program) : Type 0 where
  types : AllHaveText (TypeText standard) program.types
  libfuncs : AllHaveText (LibfuncText standard) program.libfuncs
  statements : AllHaveText (StatementText standard) program.statements
  functions : AllHaveText (FunctionText standard) program.functions

all_declared : (program : Program) (text : List ℕ) → Text standard program text → AllDeclared program
all_declared program text (types, blanks, (libfuncs, in_types, (statements, in_libfuncs, (functions, in_statements, in_functions)))) = record {
  types = each_has (TypeText standard) program.types types libfuncs in_types;
  libfuncs = each_has (LibfuncText standard) program.libfuncs libfuncs statements in_libfuncs;
  statements = each_has (StatementText standard) program.statements statements functions in_statements;
  functions = each_has (FunctionText standard) program.functions functions [] in_functions;
}

-- the plain layout of a text's program is a text of it
pub layout_is_text : (program : Program) (text : List ℕ) → Text standard program text → Text standard program (layout program)
layout_is_text program text is = regroup (subst (λ (t : List ℕ). Whole t) (append-nil (layout program)) (all.is [] [] refl))
  where
    Whole : List ℕ → Type 0
    Whole t = ((((Blanks then Each (TypeText standard) program.types) then Each (LibfuncText standard) program.libfuncs) then Each (StatementText standard) program.statements)
        then Each (FunctionText standard) program.functions) t []

    declared : AllDeclared program
    declared = all_declared program text is

    all : Printed
        ((((Blanks then Each (TypeText standard) program.types) then Each (LibfuncText standard) program.libfuncs) then Each (StatementText standard) program.statements)
        then Each (FunctionText standard) program.functions) (layout program)
    all =
        part_printed (FunctionText standard) function_line function_fresh function_printed _ _ program.functions
        (part_printed (StatementText standard) statement_line statement_fresh statement_printed _ _ program.statements
        (part_printed (LibfuncText standard) libfunc_line (λ decl more h. refl) libfunc_printed _ _ program.libfuncs
        (part_printed (TypeText standard) type_line (λ decl more h. refl) type_printed Blanks [] program.types (record { is = λ after rest blanks. blanks }) declared.types)
        declared.libfuncs) declared.statements) declared.functions

    regroup : Whole (layout program) → Text standard program (layout program)
    regroup (functions, (statements, (libfuncs, (types, blanks, in_types), in_libfuncs), in_statements), in_functions) =
        (types, blanks, (libfuncs, in_types, (statements, in_libfuncs, (functions, in_statements, in_functions))))

-- ---- names

all_are : {A : Type 0} (item : A → Form) (P : A → Type 0) → ((x : A) → HasText (item x) → P x) → (xs : List A) → AllHaveText item xs → All P xs
all_are item P each [] all = All-nil P
all_are item P each (x ∷ xs) all = All-cons P x xs (each x all.0) (all_are item P each xs all.1)

arg_ascii : (arg : Arg) → HasText (ArgText standard arg) → IsAsciiArg arg
arg_ascii (args.OfType name) h = id_ascii name (has h.text h.rest h.is.0)
arg_ascii (args.User name) h = id_ascii name (has h.is.0 h.rest h.is.2)
arg_ascii (args.Callee name) h = id_ascii name (has h.is.0 h.rest h.is.2)
arg_ascii (args.Number negative n) h = tt

args_ascii : (arguments : List Arg) → HasText (Args standard arguments) → All IsAsciiArg arguments
args_ascii [] h = All-nil IsAsciiArg
args_ascii (arg ∷ more) h =
    all_are (ArgText standard) IsAsciiArg arg_ascii (arg ∷ more) (one_or_more_has (ArgText standard) (Mark (codes ",")) (Mark (codes ">")) (arg ∷ more) h.is.0 h.rest h.is.2)

-- the names and the word of what is declared
declared_ascii : (id generic : List ℕ) (arguments : List Arg) → HasText (Declared standard id generic arguments) → IsAscii id × IsAscii generic × All IsAsciiArg arguments
declared_ascii id generic arguments h =
    (id_ascii id (has h.text h.is.0 h.is.1), is_word_ascii generic h.is.2.2.1.1.is_word, args_ascii arguments (has h.is.2.2.0 h.rest h.is.2.2.2))

type_ascii : (decl : TypeDecl) → HasText (TypeText standard decl) → IsAsciiType decl
type_ascii decl h =
    let all = declared_ascii decl.id decl.generic decl.args (has h.is.0 h.is.2.0 h.is.2.1) in
    record { id = all.0; generic = all.1; args = all.2 }

libfunc_ascii : (decl : LibfuncDecl) → HasText (LibfuncText standard decl) → IsAsciiLibfunc decl
libfunc_ascii decl h =
    let all = declared_ascii decl.id decl.generic decl.args (has h.is.0 h.is.2.0 h.is.2.1) in
    record { id = all.0; generic = all.1; args = all.2 }

statement_ascii : (statement : Statement) → HasText (StatementText standard statement) → IsAsciiStatement statement
statement_ascii (statements.Invoke libfunc vars branches) h = id_ascii libfunc (has h.text h.is.0 h.is.1)
statement_ascii (statements.Return vars) h = tt

function_ascii : (function : Function) → HasText (FunctionText standard function) → IsAsciiFunction function
function_ascii function h = record {
  id = id_ascii function.id (has h.text h.is.0 h.is.1);
  params =
      all_are (Param standard) IsAsciiParam (λ param h. id_ascii param.1 (has h.is.2.0 h.rest h.is.2.2)) function.params
      (parentheses_have (Param standard) function.params (has h.is.2.2.0 h.is.2.2.2.0 h.is.2.2.2.1));
  results =
      all_are (Id standard) IsAscii id_ascii function.results (parentheses_have (Id standard) function.results (has h.is.2.2.2.2.0 h.is.2.2.2.2.2.0 h.is.2.2.2.2.2.1));
}

pub names_ascii : (program : Program) (text : List ℕ) → Text standard program text → HasAsciiNames program
names_ascii program text is =
    let declared = all_declared program text is in
    record {
      types = all_are (TypeText standard) IsAsciiType type_ascii program.types declared.types;
      libfuncs = all_are (LibfuncText standard) IsAsciiLibfunc libfunc_ascii program.libfuncs declared.libfuncs;
      statements = all_are (StatementText standard) IsAsciiStatement statement_ascii program.statements declared.statements;
      functions = all_are (FunctionText standard) IsAsciiFunction function_ascii program.functions declared.functions;
    }
