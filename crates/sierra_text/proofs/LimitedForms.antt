-- The forms of Sierra text as readers: what each takes can be ended, and without the limits of numbers it reads the
-- same, but where a number passes its limit.
use Rattle.std.proofs.Common.{◌≡◌, ℕ, List, [], ◌∷◌, ◌++◌, Bool, true, false, cond, None, Some, Ok, refl}
use Rattle.std.specs.Prelude.{codes}
use Rattle.std.specs.Str.{bytes_eq}
use Rattle.text_reading.specs.Tokens.{is_digit}
use Rattle.text_reading.specs.Reading.{Answer.answers, done, ◌>>=◌}
use Rattle.text_reading.specs.TokenReading.{mark_at, number_at, digits_at}
use Rattle.text_reading.specs.Repeating.{begins_with}
use Rattle.text_reading.proofs.Readers.{Starts, then_next, bind_is, bind_starts}
use Rattle.text_reading.proofs.Limits.{bind_lifts}
use Rattle.text_reading.proofs.BlankFacts.{Fresh, is_gap, blanks_line, token_reads}
use Rattle.text_reading.proofs.TokenFacts.{one_reads}
use Rattle.text_reading.proofs.WholeTexts.{Moves}
use Rattle.text_reading.proofs.Languages.{Reads, Limited, LimitedFrom, limited_then, from_then, limited_done, limited_branch, from_mark, from_word, limited_number, moves_then}
use Rattle.text_reading.proofs.Repeats.{OpensBy, begins_with-looks, limited_choice}
use Rattle.sierra_types.specs.declared.program.Arg.{Arg}
use Rattle.sierra_types.specs.declared.program.Arg.TheVariants as args
use Rattle.sierra_types.specs.declared.program.Statement.TheVariants as statements
use Rattle.sierra_types.specs.declared.program.Branch.{Branch}
use Rattle.sierra_types.specs.declared.program.Target.TheVariants as targets
use Rattle.sierra_text.specs.declared.part.Part.TheVariants as parts
use Rattle.sierra_text.specs.Text.{Limits, unlimited, numbered}
use Rattle.sierra_text.specs.LabelReading.{Sierra, too_wide, label_at}
use Rattle.sierra_text.specs.Reading.{one_more_at, comma_at, bool_at, numbered_at, id_at, negative_at, size_at, plain_at, marked_at, behind_label_at, labelled_at, arg_at, args_at, ability_at, info_at, info_or_nothing_at, type_at, libfunc_at, position_at, var_at, vars_at, target_at, branch_at, branches_at, invoke_at, return_at, param_at, function_at}
use Rattle.sierra_text.proofs.LabelFacts.{ends_label, label_is}
use Rattle.sierra_text.proofs.Tokens.{limited_blanks, label_starts, label_lifts, limited_label, limited_any_word}
use Rattle.sierra_text.proofs.LimitedLists.{in_parentheses_moves, moves_behind, comma_limited, one_or_more_limited, comma_more_moves, comma_bare_moves, in_parentheses_limited}

pub bool_limited : Limited too_wide bool_at bool_at
unfolding bool_at
bool_limited =
    limited_branch 116 too_wide refl
    (from_then too_wide 116 (from_word too_wide 116 (114 ∷ 117 ∷ 101 ∷ []) refl) (λ _. limited_done too_wide true))
    (limited_then too_wide (from_word too_wide 102 (97 ∷ 108 ∷ 115 ∷ 101 ∷ []) refl).limited (λ _. limited_done too_wide false))

-- one of two readers
limited_cond : {A : Type 0} (b : Bool) {reader bare other other_bare : Sierra A} → Limited too_wide reader bare → Limited too_wide other other_bare → Limited too_wide (cond b reader other) (cond b bare other_bare)
limited_cond true form others = form
limited_cond false form others = others

abbrev closing : ℕ → Limited too_wide (mark_at (59 ∷ [])) (mark_at (59 ∷ []))
closing n = (from_mark too_wide 59 [] refl).limited

ability_limited : (byte : ℕ) (bytes : List ℕ) → is_gap byte ≡ false → Limited too_wide (ability_at (byte ∷ bytes)) (ability_at (byte ∷ bytes))
unfolding ability_at
ability_limited byte bytes solid =
    limited_then too_wide (from_word too_wide byte bytes solid).limited (λ _. limited_then too_wide (from_mark too_wide 58 [] refl).limited (λ _. bool_limited))

info_limited : LimitedFrom 91 too_wide info_at info_at
unfolding info_at
info_limited =
    from_then too_wide 91 (from_mark too_wide 91 [] refl) (λ _.
    limited_then too_wide (ability_limited 115 (116 ∷ 111 ∷ 114 ∷ 97 ∷ 98 ∷ 108 ∷ 101 ∷ []) refl) (λ storable. limited_then too_wide comma_limited (λ _.
    limited_then too_wide (ability_limited 100 (114 ∷ 111 ∷ 112 ∷ []) refl) (λ dropped. limited_then too_wide comma_limited (λ _.
    limited_then too_wide (ability_limited 100 (117 ∷ 112 ∷ []) refl) (λ dup. limited_then too_wide comma_limited (λ _.
    limited_then too_wide (ability_limited 122 (101 ∷ 114 ∷ 111 ∷ 95 ∷ 115 ∷ 105 ∷ 122 ∷ 101 ∷ 100 ∷ []) refl) (λ zero_sized. limited_then too_wide (from_mark too_wide 93 [] refl).limited (λ _.
    limited_done too_wide (record { storable = storable; drop = dropped; dup = dup; zero_sized = zero_sized }))))))))))

pub info_or_nothing_limited : Limited too_wide info_or_nothing_at info_or_nothing_at
unfolding info_or_nothing_at
info_or_nothing_limited = limited_branch 91 too_wide refl (from_then too_wide 91 info_limited (λ info. limited_done too_wide (Some info))) (limited_done too_wide None)

module _ (limits : Limits) where
  pub numbered_limited : LimitedFrom 91 too_wide (numbered_at limits) (numbered_at unlimited)
  unfolding numbered_at
  numbered_limited =
      from_then too_wide 91 (from_mark too_wide 91 [] refl) (λ _. limited_then too_wide (limited_number limits.number true too_wide) (λ n.
      limited_then too_wide (from_mark too_wide 93 [] refl).limited (λ _. limited_done too_wide (numbered n))))

  pub id_limited : Limited too_wide (id_at limits) (id_at unlimited)
  unfolding id_at
  id_limited = limited_branch 91 too_wide refl numbered_limited (limited_label parts.Functions)

  -- ---- arguments

  negative_limited : LimitedFrom 45 too_wide (negative_at limits) (negative_at unlimited)
  unfolding negative_at
  negative_limited =
      from_then too_wide 45 (from_mark too_wide 45 [] refl) (λ _. limited_then too_wide (limited_number limits.number false too_wide) (λ n. limited_done too_wide (args.Number true n)))

  size_limited : Limited too_wide (size_at limits) (size_at unlimited)
  unfolding size_at
  size_limited = limited_then too_wide (limited_number limits.number true too_wide) (λ n. limited_done too_wide (args.Number false n))

  plain_limited : (label : List ℕ) → Limited too_wide (plain_at limits label) (plain_at unlimited label)
  plain_limited label = limited_then too_wide limited_blanks (λ _. limited_done too_wide (args.OfType label))

  marked_limited : (make : List ℕ → Arg) (label : List ℕ) → Limited too_wide (marked_at limits make label) (marked_at unlimited make label)
  marked_limited make label =
      (limited_branch 64 too_wide refl
      (from_then too_wide 64 (from_mark too_wide 64 [] refl) (λ _. limited_then too_wide id_limited (λ name. limited_done too_wide (make name))))
      (plain_limited label))

  behind_label_limited : (label : List ℕ) → Limited too_wide (behind_label_at limits label) (behind_label_at unlimited label)
  unfolding behind_label_at
  behind_label_limited label =
      limited_cond (bytes_eq label (codes "ut")) (marked_limited args.User label)
      (limited_cond (bytes_eq label (codes "user")) (marked_limited args.Callee label) (plain_limited label))

-- behind a label stands a line end, and then nothing
behind_label_starts : (limits : Limits) (label : List ℕ) → Starts ends_label Fresh (behind_label_at limits label)
unfolding behind_label_at
behind_label_starts limits label = (10 ∷ [], args.OfType label, λ rest fresh. (refl, go (bytes_eq label (codes "ut")) (bytes_eq label (codes "user")) rest fresh))
  where
    line : (rest : List ℕ) → Fresh rest → plain_at limits label (10 ∷ rest) ≡ answers (Ok (args.OfType label)) rest
    line rest fresh = rw (blanks_line {K = Unit {0}} rest fresh) refl

    go : (a b : Bool) (rest : List ℕ) → Fresh rest
        → (cond a (marked_at limits args.User label) (cond b (marked_at limits args.Callee label) (plain_at limits label))) (10 ∷ rest) ≡ answers (Ok (args.OfType label)) rest
    go true b rest fresh = line rest fresh
    go false true rest fresh = line rest fresh
    go false false rest fresh = line rest fresh

module _ (limits : Limits) where
  labelled_reads : Reads (labelled_at limits)
  unfolding labelled_at
  labelled_reads = record {
    is = bind_is (label_at parts.Functions) (behind_label_at limits) (label_is parts.Functions) (λ label. (behind_label_limited limits label).reads.is) (behind_label_starts limits);
    starts = bind_starts Fresh ends_label Fresh (label_at parts.Functions) (behind_label_at limits) (label_starts parts.Functions) (behind_label_starts limits);
  }

module _ (limits : Limits) where
  labelled_limited : Limited too_wide (labelled_at limits) (labelled_at unlimited)
  unfolding labelled_at
  labelled_limited = record {
    reads = labelled_reads limits;
    bare_reads = labelled_reads unlimited;
    lifts = bind_lifts too_wide (label_at parts.Functions) (label_at parts.Functions) (behind_label_at limits) (behind_label_at unlimited)
        (label_is parts.Functions) (λ label. (behind_label_limited limits label).reads.is) (label_is parts.Functions) (λ label. (behind_label_limited limits label).bare_reads.is)
        (label_lifts parts.Functions) (λ label. (behind_label_limited limits label).lifts);
  }

-- a number opens with a digit: its text is `1`
size_opens : (limits : Limits) → OpensBy (begins_with is_digit) Fresh (size_at limits)
unfolding size_at number_at digits_at
size_opens limits = (
  49 ∷ 10 ∷ [],
  args.Number false 1,
  λ rest fresh. (
    refl,
    refl,
    then_next (number_at limits.number true too_wide) (λ n. done (args.Number false n)) (49 ∷ 10 ∷ rest) rest 1 (answers (Ok (args.Number false 1)) rest)
        (token_reads (digits_at limits.number true too_wide) (49 ∷ 10 ∷ rest) (10 ∷ rest) rest 1 (one_reads limits.number true too_wide (10 ∷ rest) refl) (blanks_line {K = Unit {0}} rest fresh)) refl,
  ),
)

module _ (limits : Limits) where
  pub arg_limited : Limited too_wide (arg_at limits) (arg_at unlimited)
  unfolding arg_at
  arg_limited =
      limited_branch 45 too_wide refl (negative_limited limits)
      (limited_branch 91 too_wide refl (from_then too_wide 91 (numbered_limited limits) (λ name. limited_done too_wide (args.OfType name)))
      (limited_choice (begins_with is_digit) (begins_with-looks is_digit) too_wide (size_opens limits) (size_opens unlimited) (size_limited limits) (labelled_limited limits)))

  pub args_limited : Limited too_wide (args_at limits) (args_at unlimited)
  unfolding args_at
  args_limited =
      limited_branch 60 too_wide refl
      (from_then too_wide 60 (from_mark too_wide 60 [] refl) (λ _.
      one_or_more_limited comma_at comma_limited 62 refl (arg_at limits) (arg_at unlimited) arg_limited
      (comma_more_moves 62 (arg_at limits) (arg_at unlimited) arg_limited) (comma_bare_moves 62 (arg_at limits) (arg_at unlimited) arg_limited)))
      (limited_done too_wide [])

  -- ---- declarations

  pub type_limited : Limited too_wide (type_at limits) (type_at unlimited)
  unfolding type_at
  type_limited =
      limited_then too_wide (id_limited limits) (λ id. limited_then too_wide (from_mark too_wide 61 [] refl).limited (λ _. limited_then too_wide limited_any_word (λ generic.
      limited_then too_wide args_limited (λ args. limited_then too_wide info_or_nothing_limited (λ info. limited_then too_wide (from_mark too_wide 59 [] refl).limited (λ _.
      limited_done too_wide (record { id = id; generic = generic; args = args; info = info })))))))

  pub libfunc_limited : Limited too_wide (libfunc_at limits) (libfunc_at unlimited)
  unfolding libfunc_at
  libfunc_limited =
      limited_then too_wide (id_limited limits) (λ id. limited_then too_wide (from_mark too_wide 61 [] refl).limited (λ _. limited_then too_wide limited_any_word (λ generic.
      limited_then too_wide args_limited (λ args. limited_then too_wide (from_mark too_wide 59 [] refl).limited (λ _.
      limited_done too_wide (record { id = id; generic = generic; args = args }))))))

  pub position_limited : Limited too_wide (position_at limits) (position_at unlimited)
  unfolding position_at
  position_limited = limited_number limits.position true too_wide

  pub var_limited : LimitedFrom 91 too_wide (var_at limits) (var_at unlimited)
  unfolding var_at
  var_limited =
      from_then too_wide 91 (from_mark too_wide 91 [] refl) (λ _. limited_then too_wide position_limited (λ n. limited_then too_wide (from_mark too_wide 93 [] refl).limited (λ _. limited_done too_wide n)))

  pub vars_limited : LimitedFrom 40 too_wide (vars_at limits) (vars_at unlimited)
  unfolding vars_at
  vars_limited = in_parentheses_limited (var_at limits) (var_at unlimited) var_limited.limited

  pub target_limited : Limited too_wide (target_at limits) (target_at unlimited)
  unfolding target_at
  target_limited =
      limited_branch 102 too_wide refl
      (from_then too_wide 102 (from_word too_wide 102 (97 ∷ 108 ∷ 108 ∷ 116 ∷ 104 ∷ 114 ∷ 111 ∷ 117 ∷ 103 ∷ 104 ∷ []) refl) (λ _. limited_done too_wide targets.Fallthrough))
      (limited_then too_wide position_limited (λ n. limited_done too_wide (targets.To n)))

  pub branch_limited : Limited too_wide (branch_at limits) (branch_at unlimited)
  unfolding branch_at
  branch_limited =
      limited_then too_wide target_limited (λ target. limited_then too_wide vars_limited.limited (λ results. limited_done too_wide (record { target = target; results = results })))

module _ (limits : Limits) where
  pub more_branches_move : (branches : List Branch) → Moves (one_more_at (done tt) 125 (branch_at limits) branches)
  unfolding branch_at vars_at
  more_branches_move branches =
      moves_then (branch_at limits) (λ branch. done (branches ++ branch ∷ []))
      (moves_behind (target_at limits) (λ target. vars_at limits >>= λ results. done (record { target = target; results = results })) (target_limited limits).reads
      (λ target. moves_then (vars_at limits) (λ results. done (record { target = target; results = results })) (in_parentheses_moves (var_at limits) (var_at unlimited) (var_limited limits).limited)
      (λ results. (limited_done too_wide (record { target = target; results = results })).reads)))
      (λ branch. (limited_done too_wide (branches ++ branch ∷ [])).reads)

module _ (limits : Limits) where
  pub branches_limited : Limited too_wide (branches_at limits) (branches_at unlimited)
  unfolding branches_at
  branches_limited =
      limited_branch 45 too_wide refl
      (from_then too_wide 45 (from_mark too_wide 45 (62 ∷ []) refl) (λ _. limited_then too_wide (vars_limited limits).limited (λ results.
      limited_done too_wide (record { target = targets.Fallthrough; results = results } ∷ []))))
      (limited_then too_wide (from_mark too_wide 123 [] refl).limited (λ _.
      one_or_more_limited (done tt) (limited_done too_wide tt) 125 refl (branch_at limits) (branch_at unlimited) (branch_limited limits) (more_branches_move limits) (more_branches_move unlimited)))

  pub invoke_limited : (libfunc : List ℕ) → LimitedFrom 40 too_wide (invoke_at limits libfunc) (invoke_at unlimited libfunc)
  unfolding invoke_at
  invoke_limited libfunc =
      from_then too_wide 40 (vars_limited limits) (λ vars. limited_then too_wide branches_limited (λ branches. limited_then too_wide (from_mark too_wide 59 [] refl).limited (λ _.
      limited_done too_wide (statements.Invoke libfunc vars branches))))

  pub return_limited : LimitedFrom 40 too_wide (return_at limits) (return_at unlimited)
  unfolding return_at
  return_limited =
      from_then too_wide 40 (vars_limited limits) (λ vars. limited_then too_wide (from_mark too_wide 59 [] refl).limited (λ _. limited_done too_wide (statements.Return vars)))

  pub param_limited : LimitedFrom 91 too_wide (param_at limits) (param_at unlimited)
  unfolding param_at
  param_limited =
      from_then too_wide 91 (var_limited limits) (λ var. limited_then too_wide (from_mark too_wide 58 [] refl).limited (λ _. limited_then too_wide (id_limited limits) (λ id. limited_done too_wide (var, id))))

  pub function_limited : (id : List ℕ) → LimitedFrom 64 too_wide (function_at limits id) (function_at unlimited id)
  unfolding function_at
  function_limited id =
      from_then too_wide 64 (from_mark too_wide 64 [] refl) (λ _. limited_then too_wide (position_limited limits) (λ entry.
      limited_then too_wide (in_parentheses_limited (param_at limits) (param_at unlimited) param_limited.limited).limited (λ params.
      limited_then too_wide (from_mark too_wide 45 (62 ∷ []) refl).limited (λ _. limited_then too_wide (in_parentheses_limited (id_at limits) (id_at unlimited) (id_limited limits)).limited (λ results.
      limited_then too_wide (from_mark too_wide 59 [] refl).limited (λ _. limited_done too_wide (record { id = id; entry = entry; params = params; results = results })))))))
