-- The readers of Sierra text read exactly the forms of its definition.
use Rattle.std.proofs.Common.{◌≡◌, ◌≢◌, ℕ, List, [], ◌∷◌, ◌++◌, Bool, true, false, cond, ◌&&◌, ◌<◌, ◌-◌, leb, arith, eqb, Option, None, Some, Ok, refl, sym, ◌∙◌, ap, subst, append_assoc, inl, inr, ◌⊎◌}
use Rattle.std.specs.Prelude.{codes}
use Rattle.std.specs.Str.{bytes_eq}
use Rattle.std.proofs.lemmas.Bool.{eqb-true, ne_eqb, leb-true}
use Rattle.text_reading.specs.Tokens.{Form, ◌then◌, is_digit, Blanks, Mark, Word, Number}
use Rattle.text_reading.specs.Reading.{Answer.answers, done, begins, scan, scan_from}
use Rattle.text_reading.specs.TokenReading.{next_number, number_end, digits_at, token}
use Rattle.text_reading.specs.Repeating.{begins_with}
use Rattle.text_reading.proofs.TokenFacts.{IsWide}
use Rattle.text_reading.proofs.NumberFacts.{digits_complete, digit_bounds}
use Rattle.text_reading.proofs.Exact.{IsExact, exact_as, exact_then, exact_last, exact_done, exact_branch, exact_mark, exact_word, exact_number, exact_positive, Begins, mark_begins, word_begins, number_begins}
use Rattle.text_reading.proofs.Repeats.{exact_choice}
use Rattle.sierra_types.specs.declared.program.Arg.{Arg}
use Rattle.sierra_types.specs.declared.program.Arg.TheVariants as args
use Rattle.sierra_types.specs.declared.program.Info.{Info}
use Rattle.sierra_types.specs.declared.program.Branch.{Branch}
use Rattle.sierra_types.specs.declared.program.Target.{Target}
use Rattle.sierra_types.specs.declared.program.Target.TheVariants as targets
use Rattle.sierra_text.specs.declared.part.Part.TheVariants as parts
use Rattle.sierra_text.specs.Ids.{is_word_start, is_reserved, IsWord, Label, Tails.no_more}
use Rattle.sierra_text.specs.Text.{Limits, unlimited, numbered, Without, OneOrMore, InParentheses, BoolText, BeginsNot, LabelId, NumberedId, Id, ArgText, Args, Ability, InfoText, InfoOrNothing, Var, TargetText, BranchText, Branches, Param}
use Rattle.sierra_text.specs.LabelReading.{Sierra, too_wide, label_at}
use Rattle.sierra_text.specs.Reading.{comma_at, bool_at, numbered_at, id_at, negative_at, size_at, marked_at, behind_label_at, labelled_at, arg_at, args_at, ability_at, info_at, info_or_nothing_at, position_at, var_at, vars_at, target_at, branch_at, branches_at, param_at}
use Rattle.sierra_text.proofs.LabelFacts.{label_answer}
use Rattle.sierra_text.proofs.LabelForms.{AnyLabel, same_bytes}
use Rattle.sierra_text.proofs.LabelSound.{label_exact}
use Rattle.sierra_text.proofs.Tokens.{exact_blanks, exact_label_token}
use Rattle.sierra_text.proofs.LimitedLists.{comma_more_moves}
use Rattle.sierra_text.proofs.LimitedForms.{arg_limited, var_limited, more_branches_move}
use Rattle.sierra_text.proofs.ExactLists.{one_or_more_exact, comma_exact, comma_begins, in_parentheses_exact}

-- the limits that a text may have: a first digit passes none
pub record AreWide (limits : Limits) : Type 0 where
  pub number : IsWide limits.number
  pub position : IsWide limits.position

-- ---- what texts begin with

pub label_begins : (label text rest : List ℕ) (other : ℕ) → is_word_start other ≡ false → Label label text rest → begins other text ≡ false
label_begins label text rest other differs form = go form.word form.first_word.is_word form.first_word.whole.0
  where
    go : (word : List ℕ) → IsWord word → text ≡ word ++ form.tails → begins other text ≡ false
    go [] is text_is = absurd is
    go (byte ∷ more) is text_is = ap (begins other) text_is ∙ ne_eqb byte other (λ same. let clash : true ≡ false = sym is.0 ∙ ap is_word_start same ∙ differs in absurd cc)

too_small : (low byte : ℕ) → byte < low → leb low byte ≡ false
too_small low byte less = go (leb low byte) refl
  where
    go : (b : Bool) → leb low byte ≡ b → b ≡ false
    go false was = refl
    go true was = let clash = leb-true low byte was in absurd (omega arith)

-- a digit begins no word
digit_no_letter : (byte : ℕ) → is_digit byte ≡ true → is_word_start byte ≡ false
digit_no_letter byte is =
    let bounds = digit_bounds byte is in
    let no_upper = too_small 65 byte (omega arith) in
    let no_lower = too_small 97 byte (omega arith) in
    let no_line = ne_eqb byte 95 (λ e. omega arith) in
    rw (no_upper, no_lower, no_line) refl

label_no_digit : (label text rest : List ℕ) → Label label text rest → begins_with is_digit text ≡ false
label_no_digit label text rest form = go form.word form.first_word.is_word form.first_word.whole.0
  where
    letter : (byte : ℕ) (b : Bool) → is_digit byte ≡ b → is_word_start byte ≡ true → b ≡ false
    letter byte false was is = refl
    letter byte true was is = let clash : true ≡ false = sym is ∙ digit_no_letter byte was in absurd cc

    go : (word : List ℕ) → IsWord word → text ≡ word ++ form.tails → begins_with is_digit text ≡ false
    go [] is text_is = absurd is
    go (byte ∷ more) is text_is = ap (begins_with is_digit) text_is ∙ letter byte (is_digit byte) refl is.0

bool_back : (b : Bool) (text rest : List ℕ) → BoolText b text rest
    → ((unit : Unit {0}) × (true ≡ b) × Word (codes "true") text rest) ⊎ ((begins 116 text ≡ false) × ((unit : Unit {0}) × (false ≡ b) × Word (codes "false") text rest))
bool_back true text rest h = inl (tt, refl, h)
bool_back false text rest h = inr (word_begins 102 116 (97 ∷ 108 ∷ 115 ∷ 101 ∷ []) text rest h, (tt, refl, h))

bool_exact : IsExact bool_at BoolText
unfolding bool_at
bool_exact =
    exact_as
    (exact_branch 116 (exact_last (λ _. true) (exact_word (codes "true"))) (exact_last (λ _. false) (exact_word (codes "false")))
    (λ b text rest h. word_begins 116 116 (114 ∷ 117 ∷ 101 ∷ []) text rest h.2))
    (λ b text rest h. elim h [ inl w ↦ subst (λ r. BoolText r text rest) w.1 w.2 | inr w ↦ subst (λ r. BoolText r text rest) w.1.1 w.1.2 ])
    bool_back

ability_exact : (word : List ℕ) → IsExact (ability_at word) (Ability word)
unfolding ability_at
ability_exact word =
    exact_as (exact_then (exact_word word) (λ _. exact_then (exact_mark (codes ":")) (λ _. bool_exact)))
    (λ b text rest h. (h.1, h.2, (h.3.1, h.3.2, h.3.3)))
    (λ b text rest h. (tt, h.0, h.1, (tt, h.2.0, h.2.1, h.2.2)))

info_exact : IsExact info_at InfoText
unfolding info_at
info_exact =
    exact_as
    (exact_then (exact_mark (codes "[")) (λ _. exact_then (ability_exact (codes "storable")) (λ storable. exact_then comma_exact (λ _.
    exact_then (ability_exact (codes "drop")) (λ dropped. exact_then comma_exact (λ _. exact_then (ability_exact (codes "dup")) (λ dup. exact_then comma_exact (λ _.
    exact_then (ability_exact (codes "zero_sized")) (λ zero_sized.
    exact_last (λ _. record { storable = storable; drop = dropped; dup = dup; zero_sized = zero_sized }) (exact_mark (codes "]")))))))))))
    (λ info text rest h. subst (λ i. InfoText i text rest) h.3.3.3.3.3.3.3.3.1 (
      h.1,
      h.2,
      (
        h.3.1,
        h.3.2,
        (
          h.3.3.1,
          h.3.3.2,
          (
            h.3.3.3.1,
            h.3.3.3.2,
            (
              h.3.3.3.3.1,
              h.3.3.3.3.2,
              (
                h.3.3.3.3.3.1,
                h.3.3.3.3.3.2,
                (h.3.3.3.3.3.3.1, h.3.3.3.3.3.3.2, (h.3.3.3.3.3.3.3.1, h.3.3.3.3.3.3.3.2, h.3.3.3.3.3.3.3.3.2)),
              ),
            ),
          ),
        ),
      ),
    ))
    (λ info text rest h. (
      tt,
      h.0,
      h.1,
      (
        info.storable,
        h.2.0,
        h.2.1,
        (
          tt,
          h.2.2.0,
          h.2.2.1,
          (
            info.drop,
            h.2.2.2.0,
            h.2.2.2.1,
            (
              tt,
              h.2.2.2.2.0,
              h.2.2.2.2.1,
              (info.dup, h.2.2.2.2.2.0, h.2.2.2.2.2.1, (tt, h.2.2.2.2.2.2.0, h.2.2.2.2.2.2.1, (info.zero_sized, h.2.2.2.2.2.2.2.0, h.2.2.2.2.2.2.2.1, (tt, refl, h.2.2.2.2.2.2.2.2)))),
            ),
          ),
        ),
      ),
    ))

-- nothing, where a byte isn't next
without : (byte : ℕ) (text rest : List ℕ) → begins byte text ≡ false → text ≡ rest → Without byte text rest
without byte [] rest none same = (same, tt)
without byte (first ∷ text) rest none same = (same, none)

without_begins : (byte : ℕ) (text rest : List ℕ) → Without byte text rest → begins byte text ≡ false
without_begins byte [] rest h = refl
without_begins byte (first ∷ text) rest h = h.1

pub info_or_nothing_exact : IsExact info_or_nothing_at InfoOrNothing
unfolding info_or_nothing_at
info_or_nothing_exact =
    exact_as
    (exact_branch 91 (exact_last (λ i. Some i) info_exact) (exact_done None) (λ o text rest h. mark_begins 91 91 [] text h.2.0 h.2.1))
    there back
  where
    there : (o : Option Info) (text rest : List ℕ) → ((info : Info) × (Some info ≡ o) × InfoText info text rest) ⊎ ((begins 91 text ≡ false) × ((None ≡ o) × (text ≡ rest))) → InfoOrNothing o text rest
    there o text rest (inl h) = subst (λ p. InfoOrNothing p text rest) h.1 h.2
    there o text rest (inr h) = subst (λ p. InfoOrNothing p text rest) h.1.0 (without 91 text rest h.0 h.1.1)

    back : (o : Option Info) (text rest : List ℕ) → InfoOrNothing o text rest → ((info : Info) × (Some info ≡ o) × InfoText info text rest) ⊎ ((begins 91 text ≡ false) × ((None ≡ o) × (text ≡ rest)))
    back None text rest h = inr (without_begins 91 text rest h, (refl, h.0))
    back (Some info) text rest h = inl (info, refl, h)

module _ (limits : Limits) (wide : AreWide limits) where
  -- ---- ids

  pub numbered_exact : IsExact (numbered_at limits) (NumberedId limits)
  unfolding numbered_at
  numbered_exact =
      exact_as
      (exact_then (exact_mark (codes "[")) (λ _. exact_then (exact_number limits.number too_wide wide.number) (λ n. exact_last (λ _. numbered n) (exact_mark (codes "]")))))
      (λ name text rest h. (h.3.0, sym h.3.3.1, (h.1, h.2, (h.3.1, h.3.2, h.3.3.2))))
      (λ name text rest h. (tt, h.2.0, h.2.1, (h.0, h.2.2.0, h.2.2.1, (tt, sym h.1, h.2.2.2))))

  pub label_id_exact : IsExact (token (label_at parts.Functions)) (LabelId)
  label_id_exact = exact_as (exact_label_token parts.Functions) there back
    where
      there : (name text rest : List ℕ) → (AnyLabel parts.Functions name then Blanks) text rest → LabelId name text rest
      there name text rest (between, inl h, blanks) = (h.0, (between, h.1, blanks))
      there name text rest (between, inr h, blanks) = let clash : false ≡ true = h.1 in absurd cc

      back : (name text rest : List ℕ) → LabelId name text rest → (AnyLabel parts.Functions name then Blanks) text rest
      back name text rest h = (h.1.0, inl (h.0, h.1.1), h.1.2)

  pub id_exact : IsExact (id_at limits) (Id limits)
  unfolding id_at
  id_exact =
      exact_as (exact_branch 91 numbered_exact label_id_exact (λ name text rest h. mark_begins 91 91 [] text h.2.0 h.2.1))
      (λ name text rest h. elim h [ inl w ↦ inr w | inr w ↦ inl w.1 ])
      back
    where
      back : (name text rest : List ℕ) → Id limits name text rest → NumberedId limits name text rest ⊎ ((begins 91 text ≡ false) × LabelId name text rest)
      back name text rest (inl h) = inr (label_begins name text h.1.0 91 refl h.1.1, h)
      back name text rest (inr h) = inl h

  pub id_begins : (other : ℕ) → eqb 91 other ≡ false → is_word_start other ≡ false → Begins (begins other) false (Id limits)
  id_begins other bracket letter name text rest (inl h) = label_begins name text h.1.0 other letter h.1.1
  id_begins other bracket letter name text rest (inr h) = mark_begins 91 other [] text h.2.0 h.2.1 ∙ bracket

  -- ---- numbers of statements and variables

  pub position_exact : IsExact (position_at limits) (Number limits.position)
  unfolding position_at
  position_exact = exact_number limits.position too_wide wide.position

  var_exact : IsExact (var_at limits) (Var limits)
  unfolding var_at
  var_exact =
      exact_as
      (exact_then (exact_mark (codes "[")) (λ _. exact_then position_exact (λ n. exact_last (λ _. n) (exact_mark (codes "]")))))
      (λ n text rest h. subst (λ (m : ℕ). Var limits m text rest) h.3.3.1 (h.1, h.2, (h.3.1, h.3.2, h.3.3.2)))
      (λ n text rest h. (tt, h.0, h.1, (n, h.2.0, h.2.1, (tt, refl, h.2.2))))

  pub vars_exact : IsExact (vars_at limits) (InParentheses (Var limits))
  unfolding vars_at
  vars_exact =
      in_parentheses_exact (var_at limits) (Var limits) var_exact (comma_more_moves 41 (var_at limits) (var_at unlimited) (var_limited limits).limited)
      (λ n text rest h. mark_begins 91 41 [] text h.0 h.1)

  target_exact : IsExact (target_at limits) (TargetText limits)
  unfolding target_at
  target_exact =
      exact_as
      (exact_branch 102 (exact_last (λ _. targets.Fallthrough) (exact_word (codes "fallthrough"))) (exact_last (λ n. targets.To n) position_exact)
      (λ t text rest h. word_begins 102 102 (97 ∷ 108 ∷ 108 ∷ 116 ∷ 104 ∷ 114 ∷ 111 ∷ 117 ∷ 103 ∷ 104 ∷ []) text rest h.2))
      (λ t text rest h. elim h [ inl w ↦ subst (λ r. TargetText limits r text rest) w.1 w.2 | inr w ↦ subst (λ r. TargetText limits r text rest) w.1.1 w.1.2 ])
      back
    where
      back : (t : Target) (text rest : List ℕ) → TargetText limits t text rest
          → ((unit : Unit {0}) × (targets.Fallthrough ≡ t) × Word (codes "fallthrough") text rest) ⊎ ((begins 102 text ≡ false) × ((n : ℕ) × (targets.To n ≡ t) × Number limits.position n text rest))
      back targets.Fallthrough text rest h = inl (tt, refl, h)
      back (targets.To n) text rest h = inr (number_begins limits.position n 102 text rest refl h, (n, refl, h))

  target_begins : (target : Target) (text rest : List ℕ) → TargetText limits target text rest → begins 125 text ≡ false
  target_begins targets.Fallthrough text rest h = word_begins 102 125 (97 ∷ 108 ∷ 108 ∷ 116 ∷ 104 ∷ 114 ∷ 111 ∷ 117 ∷ 103 ∷ 104 ∷ []) text rest h
  target_begins (targets.To n) text rest h = number_begins limits.position n 125 text rest refl h

  branch_exact : IsExact (branch_at limits) (BranchText limits)
  unfolding branch_at
  branch_exact =
      exact_as
      (exact_then target_exact (λ target. exact_last (λ results. record { target = target; results = results }) vars_exact))
      (λ b text rest h. subst (λ c. BranchText limits c text rest) h.3.1 (h.1, h.2, h.3.2))
      (λ b text rest h. (b.target, h.0, h.1, (b.results, refl, h.2)))

  abbrev nothing_between : Form
  nothing_between text rest = text ≡ rest

  more_begin : (xs : List Branch) → Begins (begins 125) false
      (λ (ys : List Branch) (text rest : List ℕ). (unit : Unit {0}) × (between : List ℕ) × nothing_between text between × ((x : Branch) × (xs ++ x ∷ [] ≡ ys) × BranchText limits x between rest))
  more_begin xs ys text rest h = ap (begins 125) h.2 ∙ target_begins h.3.0.target h.1 h.3.2.0 h.3.2.1

  pub branches_exact : IsExact (branches_at limits) (Branches limits)
  unfolding branches_at
  branches_exact =
      exact_as
      (exact_branch 45
      (exact_then (exact_mark (codes "->")) (λ _. exact_last (λ results. record { target = targets.Fallthrough; results = results } ∷ []) vars_exact))
      (exact_then (exact_mark (codes "{")) (λ _.
      one_or_more_exact (done tt) nothing_between (exact_as (exact_done tt) (λ unit text rest h. h.1) (λ unit text rest h. (refl, h))) 125 (branch_at limits) (BranchText limits) branch_exact
      (more_branches_move limits) more_begin))
      (λ branches text rest h. mark_begins 45 45 (62 ∷ []) text h.1 h.2))
      (λ branches text rest h. elim h [ inl w ↦ inl (w.3.0, sym w.3.1, (w.1, w.2, w.3.2)) | inr w ↦ inr (w.1.1, w.1.2, w.1.3) ])
      (λ branches text rest h. elim h [ inl w ↦ inl (tt, w.2.0, w.2.1, (w.0, sym w.1, w.2.2)) | inr w ↦ inr (mark_begins 123 45 [] text w.0 w.1, (tt, w.0, w.1, w.2)) ])

  pub param_exact : IsExact (param_at limits) (Param limits)
  unfolding param_at
  param_exact =
      exact_as
      (exact_then var_exact (λ var. exact_then (exact_mark (codes ":")) (λ _. exact_last (λ id. (var, id)) id_exact)))
      (λ p text rest h. subst (λ q. Param limits q text rest) h.3.3.1 (h.1, h.2, (h.3.1, h.3.2, h.3.3.2)))
      (λ p text rest h. (p.0, h.0, h.1, (tt, h.2.0, h.2.1, (p.1, refl, h.2.2))))

-- ---- arguments

-- a label is read in one way
same_label : (text left right one other : List ℕ) → AnyLabel parts.Functions one text left → AnyLabel parts.Functions other text right → (one ≡ other) × (left ≡ right)
same_label text left right one other is_one is_other =
    let same = sym ((label_exact parts.Functions).complete text left one is_one) ∙ (label_exact parts.Functions).complete text right other is_other in
    both same
  where
    both : label_answer (Ok one) left ≡ answers (Ok other) right → (one ≡ other) × (left ≡ right)
    both same = (cc, cc)

ut_label : (rest : List ℕ) → Label (codes "ut") (codes "ut" ++ (64 ∷ rest)) (64 ∷ rest)
ut_label rest = record {
  word = codes "ut";
  tails = 64 ∷ rest;
  first_word = record { is_word = (refl, refl); whole = (refl, refl) };
  tails_are = no_more (64 ∷ rest);
  no_bracket = λ clash. absurd cc;
  text_is = refl;
  whole = refl;
}

user_label : (rest : List ℕ) → Label (codes "user") (codes "user" ++ (64 ∷ rest)) (64 ∷ rest)
user_label rest = record {
  word = codes "user";
  tails = 64 ∷ rest;
  first_word = record { is_word = (refl, refl); whole = (refl, refl) };
  tails_are = no_more (64 ∷ rest);
  no_bracket = λ clash. absurd cc;
  text_is = refl;
  whole = refl;
}

-- one of two readers
pub exact_cond : {A : Type 0} (b : Bool) {reader other : Sierra A} {form other_form : A → Form} → IsExact reader form → IsExact other other_form
    → IsExact (cond b reader other) (λ x text rest. ((b ≡ true) × form x text rest) ⊎ ((b ≡ false) × other_form x text rest))
exact_cond true exact others =
    exact_as exact (λ x text rest h. inl (refl, h)) (λ x text rest h. elim h [ inl w ↦ w.1 | inr w ↦ let clash : true ≡ false = w.0 in absurd cc ])
exact_cond false exact others =
    exact_as others (λ x text rest h. inr (refl, h)) (λ x text rest h. elim h [ inl w ↦ let clash : false ≡ true = w.0 in absurd cc | inr w ↦ w.1 ])

module _ (limits : Limits) (wide : AreWide limits) where
  abbrev Plain : List ℕ → Arg → Form
  Plain label arg text rest = (unit : Unit {0}) × (args.OfType label ≡ arg) × Blanks text rest

  abbrev Marked : (List ℕ → Arg) → List ℕ → Arg → Form
  Marked make label arg text rest =
      ((unit : Unit {0}) × (between : List ℕ) × Mark (codes "@") text between × ((name : List ℕ) × (make name ≡ arg) × Id limits name between rest))
      ⊎ ((begins 64 text ≡ false) × Plain label arg text rest)

  abbrev BehindLabel : List ℕ → Arg → Form
  BehindLabel label arg text rest =
      ((bytes_eq label (codes "ut") ≡ true) × Marked args.User label arg text rest)
      ⊎ ((bytes_eq label (codes "ut") ≡ false)
      × (((bytes_eq label (codes "user") ≡ true) × Marked args.Callee label arg text rest) ⊎ ((bytes_eq label (codes "user") ≡ false) × Plain label arg text rest)))

  marked_exact : (make : List ℕ → Arg) (label : List ℕ) → IsExact (marked_at limits make label) (Marked make label)
  marked_exact make label =
      exact_branch 64 (exact_then (exact_mark (codes "@")) (λ _. exact_last make (id_exact limits wide))) (exact_last (λ _. args.OfType label) exact_blanks)
      (λ arg text rest h. mark_begins 64 64 [] text h.1 h.2)

  behind_label_exact : (label : List ℕ) → IsExact (behind_label_at limits label) (BehindLabel label)
  unfolding behind_label_at
  behind_label_exact label =
      exact_cond (bytes_eq label (codes "ut")) (marked_exact args.User label)
      (exact_cond (bytes_eq label (codes "user")) (marked_exact args.Callee label) (exact_last (λ _. args.OfType label) exact_blanks))

  -- an argument that begins with a label
  abbrev Labelled : Arg → Form
  Labelled arg text rest = (label : List ℕ) × (between : List ℕ) × AnyLabel parts.Functions label text between × BehindLabel label arg between rest

  labelled_exact : IsExact (labelled_at limits) Labelled
  unfolding labelled_at
  labelled_exact = exact_then (label_exact parts.Functions) behind_label_exact

  -- the mark behind a label, and the mark with the label
  mark_there : (label text between after : List ℕ) → text ≡ label ++ between → Mark (codes "@") between after → Mark (label ++ codes "@") text after
  mark_there label text between after text_is mark =
      (mark.0, text_is ∙ ap (λ (t : List ℕ). label ++ t) mark.1 ∙ sym (append_assoc label (codes "@") mark.0), mark.2)

  plain_there : (label text between rest : List ℕ) (arg : Arg) → (is_reserved label ≡ false) × Label label text between → BeginsNot (codes "ut@") text → BeginsNot (codes "user@") text
      → Plain label arg between rest → ArgText limits arg text rest
  plain_there label text between rest arg form no_ut no_user plain = subst (λ a. ArgText limits a text rest) plain.1 (inl (form.0, (between, form.1, plain.2)), no_ut, no_user)

  -- where a label isn't followed by `@`, or is no such word, no mark stands there
  no_mark : (mark label text between : List ℕ) → ((rest : List ℕ) → Label mark (mark ++ (64 ∷ rest)) (64 ∷ rest)) → is_reserved mark ≡ false
      → AnyLabel parts.Functions label text between → (label ≡ mark → begins 64 between ≡ false) → BeginsNot (mark ++ codes "@") text
  no_mark mark label text between label_of free form not_at rest text_is =
      let whole : text ≡ mark ++ (64 ∷ rest) = text_is ∙ append_assoc mark (codes "@") rest in
      let there : AnyLabel parts.Functions mark text (64 ∷ rest) = inl (free, subst (λ (t : List ℕ). Label mark t (64 ∷ rest)) (sym whole) (label_of rest)) in
      let same = same_label text between (64 ∷ rest) label mark form there in
      let clash : true ≡ false = sym (ap (begins 64) same.1) ∙ not_at same.0 in
      absurd cc

  differs : (label word : List ℕ) → bytes_eq label word ≡ false → bytes_eq word word ≡ true → label ≡ word → ⊥
  differs label word unlike alike same = let clash : true ≡ false = sym alike ∙ ap (λ (l : List ℕ). bytes_eq l word) (sym same) ∙ unlike in absurd cc

  labelled_there : (arg : Arg) (text rest : List ℕ) → Labelled arg text rest → ArgText limits arg text rest
  labelled_there arg text rest (label, between, inr form, behind) = let clash : false ≡ true = form.1 in absurd cc
  labelled_there arg text rest (label, between, inl form, inl (is, inl marked)) =
      let same = same_bytes label (codes "ut") is in
      let mark = mark_there label text between marked.1 form.1.text_is marked.2 in
      subst (λ a. ArgText limits a text rest) marked.3.1 (marked.1, subst (λ (l : List ℕ). Mark (l ++ codes "@") text marked.1) same mark, marked.3.2)
  labelled_there arg text rest (label, between, inl form, inl (is, inr plain)) =
      plain_there label text between rest arg form
      (no_mark (codes "ut") label text between ut_label refl (inl form) (λ same. plain.0))
      (no_mark (codes "user") label text between user_label refl (inl form) (λ same. plain.0))
      plain.1
  labelled_there arg text rest (label, between, inl form, inr (no_ut, inl (is, inl marked))) =
      let same = same_bytes label (codes "user") is in
      let mark = mark_there label text between marked.1 form.1.text_is marked.2 in
      subst (λ a. ArgText limits a text rest) marked.3.1 (marked.1, subst (λ (l : List ℕ). Mark (l ++ codes "@") text marked.1) same mark, marked.3.2)
  labelled_there arg text rest (label, between, inl form, inr (no_ut, inl (is, inr plain))) =
      plain_there label text between rest arg form
      (no_mark (codes "ut") label text between ut_label refl (inl form) (λ same. plain.0))
      (no_mark (codes "user") label text between user_label refl (inl form) (λ same. plain.0))
      plain.1
  labelled_there arg text rest (label, between, inl form, inr (no_ut, inr (no_user, plain))) =
      plain_there label text between rest arg form
      (no_mark (codes "ut") label text between ut_label refl (inl form) (λ same. absurd (differs label (codes "ut") no_ut refl same)))
      (no_mark (codes "user") label text between user_label refl (inl form) (λ same. absurd (differs label (codes "user") no_user refl same)))
      plain

  -- no `@` follows an id where no mark stands
  no_at : (label text between : List ℕ) → text ≡ label ++ between → BeginsNot (label ++ codes "@") text → begins 64 between ≡ false
  no_at label text [] text_is none = refl
  no_at label text (byte ∷ between) text_is none = go (eqb byte 64) refl
    where
      go : (b : Bool) → eqb byte 64 ≡ b → b ≡ false
      go false was = refl
      go true was =
          absurd (none between (text_is ∙ ap (λ (c : ℕ). label ++ (c ∷ between)) (eqb-true byte 64 was) ∙ sym (append_assoc label (codes "@") between)))

  plain_back : (name text rest : List ℕ) → (h : LabelId name text rest) → BeginsNot (codes "ut@") text → BeginsNot (codes "user@") text → BehindLabel name (args.OfType name) h.1.0 rest
  plain_back name text rest h no_ut no_user = go (bytes_eq name (codes "ut")) (bytes_eq name (codes "user")) refl refl
    where
      between : List ℕ
      between = h.1.0

      text_is : text ≡ name ++ between
      text_is = h.1.1.text_is

      plain : Plain name (args.OfType name) between rest
      plain = (tt, refl, h.1.2)

      at_ut : bytes_eq name (codes "ut") ≡ true → begins 64 between ≡ false
      at_ut was = no_at name text between text_is (subst (λ (l : List ℕ). BeginsNot (l ++ codes "@") text) (sym (same_bytes name (codes "ut") was)) no_ut)

      at_user : bytes_eq name (codes "user") ≡ true → begins 64 between ≡ false
      at_user was = no_at name text between text_is (subst (λ (l : List ℕ). BeginsNot (l ++ codes "@") text) (sym (same_bytes name (codes "user") was)) no_user)

      go : (a b : Bool) → bytes_eq name (codes "ut") ≡ a → bytes_eq name (codes "user") ≡ b → BehindLabel name (args.OfType name) between rest
      go true b was_a was_b = inl (was_a, inr (at_ut was_a, plain))
      go false true was_a was_b = inr (was_a, inl (was_b, inr (at_user was_b, plain)))
      go false false was_a was_b = inr (was_a, inr (was_b, plain))

  -- ---- any argument

  abbrev Sized : Arg → Form
  Sized arg text rest = (n : ℕ) × (args.Number false n ≡ arg) × Number limits.number n text rest

  abbrev NegativeArg : Arg → Form
  NegativeArg arg text rest =
      (unit : Unit {0}) × (between : List ℕ) × Mark (codes "-") text between × ((n : ℕ) × (args.Number true n ≡ arg) × ((n ≢ 0) × Number limits.number n between rest))

  abbrev NumberedArg : Arg → Form
  NumberedArg arg text rest = (name : List ℕ) × (args.OfType name ≡ arg) × NumberedId limits name text rest

  abbrev LetterArg : Arg → Form
  LetterArg arg text rest = ((begins_with is_digit text ≡ true) × Sized arg text rest) ⊎ ((begins_with is_digit text ≡ false) × Labelled arg text rest)

  abbrev AnyArg : Arg → Form
  AnyArg arg text rest = NegativeArg arg text rest ⊎ ((begins 45 text ≡ false) × (NumberedArg arg text rest ⊎ ((begins 91 text ≡ false) × LetterArg arg text rest)))

  bracket_no_mark : (byte : ℕ) (bytes text rest : List ℕ) → begins 91 text ≡ true → eqb byte 91 ≡ false → BeginsNot (byte ∷ bytes) text
  bracket_no_mark byte bytes text rest is unlike more text_is = let clash : true ≡ false = sym is ∙ ap (begins 91) text_is ∙ unlike in absurd cc

  arg_there : (arg : Arg) (text rest : List ℕ) → AnyArg arg text rest → ArgText limits arg text rest
  arg_there arg text rest (inl h) = subst (λ a. ArgText limits a text rest) h.3.1 (h.3.2.0, (h.1, h.2, h.3.2.1))
  arg_there arg text rest (inr (minus, inl h)) =
      let bracket = mark_begins 91 91 [] text h.2.2.0 h.2.2.1 in
      subst (λ a. ArgText limits a text rest) h.1
      (inr h.2, bracket_no_mark 117 (116 ∷ 64 ∷ []) text rest bracket refl, bracket_no_mark 117 (115 ∷ 101 ∷ 114 ∷ 64 ∷ []) text rest bracket refl)
  arg_there arg text rest (inr (minus, inr (open_, inl (digit, h)))) = subst (λ a. ArgText limits a text rest) h.1 h.2
  arg_there arg text rest (inr (minus, inr (open_, inr (letter, h)))) = labelled_there arg text rest h

  -- a number begins with a digit
  number_digit : (n : ℕ) (text rest : List ℕ) → Number limits.number n text rest → begins_with is_digit text ≡ true
  unfolding digits_at
  number_digit n text rest h = go text (digits_complete limits.number true too_wide text h.0 n h.1 (λ clash. absurd (true_is_false clash)))
    where
      true_is_false : true ≡ false → ⊥
      true_is_false clash = cc

      first_digit : (byte : ℕ) (t : List ℕ) (b : Bool) → is_digit byte ≡ b
          → scan_from (next_number limits.number true) (number_end too_wide) (cond (b && true) (Some (Some (byte - 48))) None) None byte t (λ a. scan (next_number limits.number true) (number_end too_wide) a t) ≡ answers (Ok n) h.0
          → is_digit byte ≡ true
      first_digit byte t true is e = is
      first_digit byte t false is e = absurd cc

      go : (t : List ℕ) → digits_at limits.number true too_wide t ≡ answers (Ok n) h.0 → begins_with is_digit t ≡ true
      go [] e = absurd cc
      go (byte ∷ t) e = first_digit byte t (is_digit byte) refl e

  marked_begins : (byte : ℕ) (bytes text rest : List ℕ) (other : ℕ) → eqb byte other ≡ false → Mark (byte ∷ bytes) text rest → begins other text ≡ false
  marked_begins byte bytes text rest other unlike mark = mark_begins byte other bytes text rest mark ∙ unlike

  arg_back : (arg : Arg) (text rest : List ℕ) → ArgText limits arg text rest → AnyArg arg text rest
  arg_back (args.OfType name) text rest (inl h, no_ut, no_user) =
      let label = h.1.1 in
      inr (
        label_begins name text h.1.0 45 refl label,
        inr (
          label_begins name text h.1.0 91 refl label,
          inr (
            label_no_digit name text h.1.0 label,
            (name, h.1.0, inl (h.0, label), plain_back name text rest h no_ut no_user),
          ),
        ),
      )
  arg_back (args.OfType name) text rest (inr h, no_ut, no_user) = inr (mark_begins 91 45 [] text h.2.0 h.2.1, inl (name, refl, h))
  arg_back (args.User name) text rest h =
      let whole : text ≡ codes "ut" ++ (64 ∷ h.1.0) = h.1.1 in
      inr (
        marked_begins 117 (116 ∷ 64 ∷ []) text h.0 45 refl h.1,
        inr (
          marked_begins 117 (116 ∷ 64 ∷ []) text h.0 91 refl h.1,
          inr (
            ap (begins_with is_digit) whole,
            (
              codes "ut",
              64 ∷ h.1.0,
              inl (refl, subst (λ (t : List ℕ). Label (codes "ut") t (64 ∷ h.1.0)) (sym whole) (ut_label h.1.0)),
              inl (refl, inl (tt, h.0, (h.1.0, refl, h.1.2), (name, refl, h.2))),
            ),
          ),
        ),
      )
  arg_back (args.Callee name) text rest h =
      let whole : text ≡ codes "user" ++ (64 ∷ h.1.0) = h.1.1 in
      inr (
        marked_begins 117 (115 ∷ 101 ∷ 114 ∷ 64 ∷ []) text h.0 45 refl h.1,
        inr (
          marked_begins 117 (115 ∷ 101 ∷ 114 ∷ 64 ∷ []) text h.0 91 refl h.1,
          inr (
            ap (begins_with is_digit) whole,
            (
              codes "user",
              64 ∷ h.1.0,
              inl (refl, subst (λ (t : List ℕ). Label (codes "user") t (64 ∷ h.1.0)) (sym whole) (user_label h.1.0)),
              inr (refl, inl (refl, inl (tt, h.0, (h.1.0, refl, h.1.2), (name, refl, h.2)))),
            ),
          ),
        ),
      )
  arg_back (args.Number false n) text rest h =
      inr (number_begins limits.number n 45 text rest refl h, inr (number_begins limits.number n 91 text rest refl h, inl (number_digit n text rest h, (n, refl, h))))
  arg_back (args.Number true n) text rest h = inl (tt, h.1.0, h.1.1, (n, refl, (h.0, h.1.2)))

  pub arg_exact : IsExact (arg_at limits) (ArgText limits)
  unfolding arg_at negative_at size_at
  arg_exact =
      exact_as
      (exact_branch 45 (exact_then (exact_mark (codes "-")) (λ _. exact_last (λ n. args.Number true n) (exact_positive limits.number too_wide wide.number)))
      (exact_branch 91 (exact_last (λ name. args.OfType name) (numbered_exact limits wide))
      (exact_choice (begins_with is_digit) (exact_last (λ n. args.Number false n) (exact_number limits.number too_wide wide.number)) labelled_exact)
      (λ arg text rest h. mark_begins 91 91 [] text h.2.2.0 h.2.2.1))
      (λ arg text rest h. mark_begins 45 45 [] text h.1 h.2))
      arg_there arg_back

  pub args_exact : IsExact (args_at limits) (Args limits)
  unfolding args_at
  args_exact =
      exact_as
      (exact_branch 60
      (exact_then (exact_mark (codes "<")) (λ _. one_or_more_exact comma_at (Mark (codes ",")) comma_exact 62 (arg_at limits) (ArgText limits) arg_exact
      (comma_more_moves 62 (arg_at limits) (arg_at unlimited) (arg_limited limits)) (comma_begins 62 refl (ArgText limits))))
      (exact_done [])
      (λ xs text rest h. mark_begins 60 60 [] text h.1 h.2))
      there back
    where
      there_more : (xs : List Arg) (text between rest : List ℕ) → Mark (codes "<") text between → OneOrMore (Mark (codes ",")) (Mark (codes ">")) (ArgText limits) xs between rest → Args limits xs text rest
      there_more [] text between rest mark h = absurd h
      there_more (arg ∷ more) text between rest mark h = (between, mark, h)

      there : (xs : List Arg) (text rest : List ℕ)
          → ((unit : Unit {0}) × (between : List ℕ) × Mark (codes "<") text between × OneOrMore (Mark (codes ",")) (Mark (codes ">")) (ArgText limits) xs between rest) ⊎ ((begins 60 text ≡ false) × (([] ≡ xs) × (text ≡ rest)))
          → Args limits xs text rest
      there xs text rest (inl h) = there_more xs text h.1 rest h.2 h.3
      there xs text rest (inr h) = subst (λ (l : List Arg). Args limits l text rest) h.1.0 (without 60 text rest h.0 h.1.1)

      back : (xs : List Arg) (text rest : List ℕ) → Args limits xs text rest
          → ((unit : Unit {0}) × (between : List ℕ) × Mark (codes "<") text between × OneOrMore (Mark (codes ",")) (Mark (codes ">")) (ArgText limits) xs between rest) ⊎ ((begins 60 text ≡ false) × (([] ≡ xs) × (text ≡ rest)))
      back [] text rest h = inr (without_begins 60 text rest h, (refl, h.0))
      back (arg ∷ more) text rest h = inl (tt, h.0, h.1, h.2)
