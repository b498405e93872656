-- What is printed is read as its form: tokens, ids, arguments and lists of them. Of a tree nothing is asked but that each
-- of its parts stands in some text.
use Rattle.std.proofs.Common.{◌≡◌, ℕ, ◌<◌, ◌^◌, List, [], ◌∷◌, ◌++◌, Bool, true, false, ◌||◌, eqb, Option, refl, sym, ◌∙◌, ap, subst, append_assoc, inl, inr, arith}
use Rattle.std.specs.Prelude.{codes, flat_map, ◌==◌}
use Rattle.std.specs.List.{join_by, list_all, AllByRecursion}
use Rattle.std.specs.Str.{IsAscii}
use Rattle.std.proofs.lemmas.Bool.{or_parts, and_parts, ltb-true}
use Rattle.std.proofs.lemmas.Bool.Decides.{nat_tests}
use Rattle.std.proofs.lemmas.Fmt.{IsAscii-decimal_wide}
use Rattle.std.proofs.lemmas.Str.{IsAscii-append}
use Rattle.std.proofs.lemmas.Str.Ascii.{IsAscii-nil, IsAscii-cons}
use Rattle.byte_reading.specs.Decimal.{decimal_text}
use Rattle.byte_reading.proofs.DecimalLaws.{decimal_is_decimal_text}
use Rattle.text_reading.specs.Tokens.{Form, ◌then◌, NoneNext, is_digit, is_word_byte, is_within, Blanks, Mark, Number}
use Rattle.text_reading.proofs.BlankFacts.{Fresh, is_gap}
use Rattle.text_reading.proofs.Written.{blanks_here, blank_space, mark_written, number_fresh}
use Rattle.sierra_types.specs.declared.program.Arg.{Arg}
use Rattle.sierra_types.specs.declared.program.Arg.TheVariants as args
use Rattle.sierra_text.specs.Ids.{is_word_start, is_label_byte}
use Rattle.sierra_text.specs.Text.{standard, BehindItem, OneOrMore, AnyNumber, InParentheses, Each, numbered, BeginsNot, Id, ArgText, Var}
use Rattle.sierra_text.specs.Layout.{in_parentheses, arg_text, var_text}
use Rattle.sierra_text.proofs.LabelFacts.{ends_label, no_label_byte}
use Rattle.sierra_text.proofs.MovedLabels.{label_ascii, label_moves_to, label_first}

-- this form stands in some text
pub record HasText (form : Form) : Type 0 where
  pub text : List ℕ
  pub rest : List ℕ
  pub is : form text rest

abbrev pub has : {form : Form} (text rest : List ℕ) → form text rest → HasText form
has text rest is = record { text = text; rest = rest; is = is }

-- ---- lists whose items stand in some text

module _ {A : Type 0} (item : A → Form) where
  abbrev pub AllHaveText : List A → Type 0
  AllHaveText = AllByRecursion (λ x. HasText (item x))

  pub each_has : (xs : List A) (text rest : List ℕ) → Each item xs text rest → AllHaveText xs
  each_has [] text rest is = tt
  each_has (x ∷ xs) text rest (between, first, others) = (has text between first, each_has xs between rest others)

  module _ (separator finish : Form) where
    behind_has : (xs : List A) (text rest : List ℕ) → BehindItem separator finish item xs text rest → AllHaveText xs
    behind_has [] text rest is = tt
    behind_has (x ∷ xs) text rest (start, between, (behind, first, others)) = (has start behind first, behind_has xs behind rest others)

    pub one_or_more_has : (xs : List A) (text rest : List ℕ) → OneOrMore separator finish item xs text rest → AllHaveText xs
    one_or_more_has [] text rest is = tt
    one_or_more_has (x ∷ xs) text rest (between, first, others) = (has text between first, behind_has xs between rest others)

    pub any_number_has : (xs : List A) (text rest : List ℕ) → AnyNumber separator finish item xs text rest → AllHaveText xs
    any_number_has [] text rest is = tt
    any_number_has (x ∷ xs) text rest (between, first, others) = (has text between first, behind_has xs between rest others)

  pub parentheses_have : (xs : List A) → HasText (InParentheses item xs) → AllHaveText xs
  parentheses_have xs h = any_number_has (Mark (codes ",")) (Mark (codes ")")) xs h.is.0 h.rest h.is.2

-- ---- what follows

-- in a list no byte of an item is next: neither a label nor a number goes on, and no `@` stands behind `ut` and `user`
abbrev pub is_item_byte : ℕ → Bool
is_item_byte byte = is_label_byte byte || byte == 64

abbrev pub EndsItem : List ℕ → Type 0
EndsItem = NoneNext is_item_byte

pub label_ends_there : (after : List ℕ) → EndsItem after → ends_label after
label_ends_there [] ends = tt
label_ends_there (byte ∷ after) ends = (or_parts (is_label_byte byte) (eqb byte 64) ends).0

pub digits_end_there : (after : List ℕ) → EndsItem after → NoneNext is_digit after
digits_end_there [] ends = tt
digits_end_there (byte ∷ after) ends = no_digit byte (no_label_byte byte (label_ends_there (byte ∷ after) ends)).no_word
  where
    no_digit : (byte : ℕ) → is_word_byte byte ≡ false → is_digit byte ≡ false
    no_digit byte none = grind (arith, nat_tests)

-- behind some token stands this text: blanks, and the form
pub record Follows (form : Form) (text rest : List ℕ) : Type 0 where
  pub ends : EndsItem text
  pub start : List ℕ
  pub blanks : Blanks text start
  pub is : form start rest

-- ---- numbers

pub number_small : (n : ℕ) → is_within standard.number n ≡ true → n < 10 ^ 64
number_small n within = let below = ltb-true n (2 ^ 128) within in omega arith

pub position_small : (n : ℕ) → is_within standard.position n ≡ true → n < 10 ^ 64
position_small n within = let below = ltb-true n (2 ^ 64) within in omega arith

pub decimal_fresh : (n : ℕ) (after : List ℕ) → n < 10 ^ 64 → Fresh (decimal_text n ++ after)
decimal_fresh n after small = subst (λ (t : List ℕ). Fresh (t ++ after)) (decimal_is_decimal_text n small) (number_fresh n after small)

pub number_printed : (limit : Option ℕ) (n : ℕ) (after rest : List ℕ) → is_within limit n ≡ true → NoneNext is_digit after → Blanks after rest → Number limit n (decimal_text n ++ after) rest
number_printed limit n after rest within ends blanks = (after, record { text_is = refl; whole = ends; within = within }, blanks)

-- `[n]`
pub in_brackets : (limit : Option ℕ) (n : ℕ) (after rest : List ℕ) → n < 10 ^ 64 → is_within limit n ≡ true → Blanks after rest
    → (Mark (codes "[") then Number limit n then Mark (codes "]")) (numbered n ++ after) rest
in_brackets limit n after rest small within blanks =
    let end : List ℕ = 93 ∷ after in
    let number : List ℕ = decimal_text n ++ end in
    let whole : numbered n ++ after ≡ 91 ∷ number = ap (λ (t : List ℕ). 91 ∷ t) (append_assoc (decimal_text n) (93 ∷ []) after) in
    subst (λ (t : List ℕ). (Mark (codes "[") then Number limit n then Mark (codes "]")) t rest) (sym whole) (
      number,
      mark_written (codes "[") number number (blanks_here number (decimal_fresh n end small)),
      (end, number_printed limit n end end within refl (blanks_here end refl), mark_written (codes "]") after rest blanks),
    )

-- ---- variables

pub var_fresh : (n : ℕ) (more : List ℕ) → HasText (Var standard n) → Fresh (var_text n ++ more)
var_fresh n more h = refl

pub var_printed : (n : ℕ) (after rest : List ℕ) → HasText (Var standard n) → EndsItem after → Blanks after rest → Var standard n (var_text n ++ after) rest
var_printed n after rest h ends blanks = let within = h.is.2.1.1.within in in_brackets standard.position n after rest (position_small n within) within blanks

-- ---- ids

start_no_gap : (byte : ℕ) → is_word_start byte ≡ true → is_gap byte ≡ false
start_no_gap byte is = grind (arith, nat_tests)

pub id_fresh : (name more : List ℕ) → HasText (Id standard name) → Fresh (name ++ more)
id_fresh name more h = go h.is
  where
    go : Id standard name h.text h.rest → Fresh (name ++ more)
    go (inl (free, (between, label, others))) =
        let begins = label_first name h.text between label in
        subst (λ (t : List ℕ). Fresh (t ++ more)) (sym begins.2) (start_no_gap begins.0 begins.3)
    go (inr (n, name_is, form)) = subst (λ (t : List ℕ). Fresh (t ++ more)) (sym name_is) refl

pub id_printed : (name after rest : List ℕ) → HasText (Id standard name) → ends_label after → Blanks after rest → Id standard name (name ++ after) rest
id_printed name after rest h ends blanks = go h.is
  where
    go : Id standard name h.text h.rest → Id standard name (name ++ after) rest
    go (inl (free, (between, label, others))) = inl (free, (after, label_moves_to name h.text between label after ends, blanks))
    go (inr (n, name_is, form)) =
        let within = form.2.1.1.within in
        inr (
          n,
          name_is,
          subst (λ (t : List ℕ). (Mark (codes "[") then Number standard.number n then Mark (codes "]")) (t ++ after) rest) (sym name_is)
              (in_brackets standard.number n after rest (number_small n within) within blanks),
        )

pub id_ascii : (name : List ℕ) → HasText (Id standard name) → IsAscii name
id_ascii name h = go h.is
  where
    go : Id standard name h.text h.rest → IsAscii name
    go (inl (free, (between, label, others))) = label_ascii name h.text between label
    go (inr (n, name_is, form)) =
        let small : n < 10 ^ 64 = number_small n form.2.1.1.within in
        subst IsAscii (sym name_is)
        (IsAscii-cons 91 (decimal_text n ++ (93 ∷ [])) (omega arith)
        (IsAscii-append (decimal_text n) (93 ∷ []) (subst IsAscii (decimal_is_decimal_text n small) (IsAscii-decimal_wide n small)) (IsAscii-cons 93 [] (omega arith) IsAscii-nil)))

-- ---- arguments

-- a text that doesn't begin so, doesn't with another end either
still_begins_not : (bytes name old after : List ℕ) → list_all is_item_byte bytes ≡ true → BeginsNot bytes (name ++ old) → EndsItem after → BeginsNot bytes (name ++ after)
still_begins_not [] name old after all not ends rest same = not (name ++ old) refl
still_begins_not (byte ∷ bytes) [] old [] all not ends rest same = absurd cc
still_begins_not (byte ∷ bytes) [] old (first ∷ after) all not ends rest same =
    let is = (and_parts (is_item_byte byte) (list_all is_item_byte bytes) all).0 in
    let first_is : first ≡ byte = cc in
    let clash : true ≡ false = sym is ∙ ap is_item_byte (sym first_is) ∙ ends in
    absurd cc
still_begins_not (byte ∷ bytes) (first ∷ name) old after all not ends rest same =
    let first_is : first ≡ byte = cc in
    let others : name ++ after ≡ bytes ++ rest = cc in
    still_begins_not bytes name old after (and_parts (is_item_byte byte) (list_all is_item_byte bytes) all).1
    (λ more e. not more (ap (λ (b : ℕ). b ∷ (name ++ old)) first_is ∙ ap (λ (t : List ℕ). byte ∷ t) e)) ends rest others

id_begins_not : (byte : ℕ) (bytes name after : List ℕ) (h : HasText (Id standard name)) → eqb 91 byte ≡ false → list_all is_item_byte (byte ∷ bytes) ≡ true → BeginsNot (byte ∷ bytes) h.text → EndsItem after
    → BeginsNot (byte ∷ bytes) (name ++ after)
id_begins_not byte bytes name after h no_bracket all not ends = go h.is
  where
    go : Id standard name h.text h.rest → BeginsNot (byte ∷ bytes) (name ++ after)
    go (inl (free, (between, label, others))) = still_begins_not (byte ∷ bytes) name between after all (subst (BeginsNot (byte ∷ bytes)) label.text_is not) ends
    go (inr (n, name_is, form)) = λ rest same.
        let whole : 91 ∷ ((decimal_text n ++ (93 ∷ [])) ++ after) ≡ byte ∷ (bytes ++ rest) = ap (λ (t : List ℕ). t ++ after) (sym name_is) ∙ same in
        let first_is : 91 ≡ byte = cc in
        let clash : true ≡ false = ap (eqb 91) first_is ∙ no_bracket in
        absurd cc

pub arg_fresh : (arg : Arg) (more : List ℕ) → HasText (ArgText standard arg) → Fresh (arg_text arg ++ more)
arg_fresh (args.OfType name) more h = id_fresh name more (has h.text h.rest h.is.0)
arg_fresh (args.User name) more h = refl
arg_fresh (args.Callee name) more h = refl
arg_fresh (args.Number false n) more h = decimal_fresh n more (number_small n h.is.1.within)
arg_fresh (args.Number true n) more h = refl

pub arg_printed : (arg : Arg) (after rest : List ℕ) → HasText (ArgText standard arg) → EndsItem after → Blanks after rest → ArgText standard arg (arg_text arg ++ after) rest
arg_printed (args.OfType name) after rest h ends blanks =
    let id : HasText (Id standard name) = has h.text h.rest h.is.0 in (
      id_printed name after rest id (label_ends_there after ends) blanks,
      id_begins_not 117 (116 ∷ 64 ∷ []) name after id refl refl h.is.1 ends,
      id_begins_not 117 (115 ∷ 101 ∷ 114 ∷ 64 ∷ []) name after id refl refl h.is.2 ends,
    )
arg_printed (args.User name) after rest h ends blanks =
    let id : HasText (Id standard name) = has h.is.0 h.rest h.is.2 in
    (name ++ after, mark_written (codes "ut@") (name ++ after) (name ++ after) (blanks_here (name ++ after) (id_fresh name after id)), id_printed name after rest id (label_ends_there after ends) blanks)
arg_printed (args.Callee name) after rest h ends blanks =
    let id : HasText (Id standard name) = has h.is.0 h.rest h.is.2 in
    (name ++ after, mark_written (codes "user@") (name ++ after) (name ++ after) (blanks_here (name ++ after) (id_fresh name after id)), id_printed name after rest id (label_ends_there after ends) blanks)
arg_printed (args.Number false n) after rest h ends blanks = number_printed standard.number n after rest h.is.1.within (digits_end_there after ends) blanks
arg_printed (args.Number true n) after rest h ends blanks =
    let within = h.is.1.2.1.within in
    let number : List ℕ = decimal_text n ++ after in (
      h.is.0,
      (
        number,
        mark_written (codes "-") number number (blanks_here number (decimal_fresh n after (number_small n within))),
        number_printed standard.number n after rest within (digits_end_there after ends) blanks,
      ),
    )

-- ---- lists

-- what stands between two items
pub record Joins (separator : Form) (between : List ℕ) : Type 0 where
  pub step : (next : List ℕ) → Fresh next → Follows separator (between ++ next) next

pub comma_joins : Joins (Mark (codes ",")) (codes ", ")
comma_joins = record {
  step = λ next fresh.
      record { ends = refl; start = 44 ∷ 32 ∷ next; blanks = blanks_here (44 ∷ 32 ∷ next) refl; is = mark_written (codes ",") (32 ∷ next) next (blank_space next fresh) };
}

module _ {A : Type 0} (separator finish : Form) (item : A → Form) (written : A → List ℕ) (between : List ℕ) (joins : Joins separator between)
    (fresh : (x : A) (more : List ℕ) → HasText (item x) → Fresh (written x ++ more))
    (printed : (x : A) (after rest : List ℕ) → HasText (item x) → EndsItem after → Blanks after rest → item x (written x ++ after) rest) where
  abbrev others_text : List A → List ℕ
  others_text xs = flat_map (λ x. between ++ written x) xs

  behind_printed : (xs : List A) (tail rest : List ℕ) → AllHaveText item xs → Follows finish tail rest → Follows (BehindItem separator finish item xs) (others_text xs ++ tail) rest
  behind_printed [] tail rest all end = end
  behind_printed (x ∷ xs) tail rest all end =
      let behind = behind_printed xs tail rest all.1 end in
      let after : List ℕ = others_text xs ++ tail in
      let next : List ℕ = written x ++ after in
      let joined = joins.step next (fresh x after all.0) in
      let whole : others_text (x ∷ xs) ++ tail ≡ between ++ next = append_assoc (between ++ written x) (others_text xs) tail ∙ append_assoc between (written x) after in
      subst (λ (t : List ℕ). Follows (BehindItem separator finish item (x ∷ xs)) t rest) (sym whole) (record {
        ends = joined.ends;
        start = joined.start;
        blanks = joined.blanks;
        is = (next, joined.is, (behind.start, printed x after behind.start all.0 behind.ends behind.blanks, behind.is));
      })

  first_printed : (x : A) (xs : List A) (tail rest : List ℕ) → AllHaveText item (x ∷ xs) → Follows finish tail rest
      → (item x then BehindItem separator finish item xs) (join_by written between (x ∷ xs) ++ tail) rest
  first_printed x xs tail rest all end =
      let behind = behind_printed xs tail rest all.1 end in
      subst (λ (t : List ℕ). (item x then BehindItem separator finish item xs) t rest) (sym (append_assoc (written x) (others_text xs) tail))
      (behind.start, printed x (others_text xs ++ tail) behind.start all.0 behind.ends behind.blanks, behind.is)

  first_fresh : (x : A) (xs : List A) (tail : List ℕ) → HasText (item x) → Fresh (join_by written between (x ∷ xs) ++ tail)
  first_fresh x xs tail h = subst Fresh (sym (append_assoc (written x) (others_text xs) tail)) (fresh x (others_text xs ++ tail) h)

  pub one_or_more_printed : (x : A) (xs : List A) (tail rest : List ℕ) → AllHaveText item (x ∷ xs) → Follows finish tail rest
      → Fresh (join_by written between (x ∷ xs) ++ tail) × OneOrMore separator finish item (x ∷ xs) (join_by written between (x ∷ xs) ++ tail) rest
  one_or_more_printed x xs tail rest all end = (first_fresh x xs tail all.0, first_printed x xs tail rest all end)

  pub any_number_printed : (xs : List A) (tail rest : List ℕ) → AllHaveText item xs → Fresh tail → EndsItem tail → finish tail rest
      → Fresh (join_by written between xs ++ tail) × AnyNumber separator finish item xs (join_by written between xs ++ tail) rest
  any_number_printed [] tail rest all tail_fresh ends end = (tail_fresh, end)
  any_number_printed (x ∷ xs) tail rest all tail_fresh ends end =
      (first_fresh x xs tail all.0, first_printed x xs tail rest all (record { ends = ends; start = tail; blanks = blanks_here tail tail_fresh; is = end }))

-- items in `(` and `)`
pub parentheses_printed : {A : Type 0} (item : A → Form) (written : A → List ℕ)
    → ((x : A) (more : List ℕ) → HasText (item x) → Fresh (written x ++ more))
    → ((x : A) (after rest : List ℕ) → HasText (item x) → EndsItem after → Blanks after rest → item x (written x ++ after) rest)
    → (xs : List A) (after rest : List ℕ) → HasText (InParentheses item xs) → Blanks after rest → InParentheses item xs (in_parentheses written xs ++ after) rest
parentheses_printed item written fresh printed xs after rest h blanks =
    let end : List ℕ = 41 ∷ after in
    let inside : List ℕ = join_by written (codes ", ") xs ++ end in
    let both = any_number_printed (Mark (codes ",")) (Mark (codes ")")) item written (codes ", ") comma_joins fresh printed xs end rest (parentheses_have item xs h) refl refl (mark_written (codes ")") after rest blanks) in
    let whole : in_parentheses written xs ++ after ≡ 40 ∷ inside = ap (λ (t : List ℕ). 40 ∷ t) (append_assoc (join_by written (codes ", ") xs) (codes ")") after) in
    subst (λ (t : List ℕ). InParentheses item xs t rest) (sym whole) (inside, mark_written (codes "(") inside inside (blanks_here inside both.0), both.1)

pub vars_printed : (vars : List ℕ) (after rest : List ℕ) → HasText (InParentheses (Var standard) vars) → Blanks after rest → InParentheses (Var standard) vars (in_parentheses var_text vars ++ after) rest
vars_printed = parentheses_printed (Var standard) var_text var_fresh var_printed
