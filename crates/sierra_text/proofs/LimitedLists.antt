-- Lists in Sierra text as readers, with the limits of numbers and without.
use Rattle.std.proofs.Common.{◌≡◌, ℕ, arith, length, List, [], ◌∷◌, ◌++◌, true, false, Ok, refl, ◌∙◌, ap}
use Rattle.std.proofs.lemmas.Bool.{eq-eqb}
use Rattle.std.proofs.lemmas.List.{length-append}
use Rattle.text_reading.specs.Reading.{Answer.answers, done, ◌>>=◌, begins}
use Rattle.text_reading.specs.TokenReading.{mark_at}
use Rattle.text_reading.proofs.Readers.{Opens, bind_opens, done_starts, bind_read}
use Rattle.text_reading.proofs.BlankFacts.{Fresh, is_gap}
use Rattle.text_reading.proofs.TokenFacts.{mark_opens, mark_sound}
use Rattle.text_reading.proofs.WholeTexts.{Moves}
use Rattle.text_reading.proofs.Languages.{Reads, Limited, LimitedFrom, limited_then, from_then, limited_done, limited_branch, from_mark, moves_then, moves_mark}
use Rattle.text_reading.proofs.Exact.{mark_begins}
use Rattle.text_reading.proofs.Repeats.{OpensBy, begins-looks, repeat_is, repeat_starts, repeat_lifts}
use Rattle.sierra_text.specs.LabelReading.{Sierra, too_wide}
use Rattle.sierra_text.specs.Reading.{close_at, one_more_at, behind_items_at, one_or_more_at, any_number_at, comma_at, in_parentheses_at}

-- what can begin with a byte, by a test of that byte
opens_by : {A : Type 0} (byte : ℕ) (reader : Sierra A) → is_gap byte ≡ false → Opens byte Fresh reader → OpensBy (begins byte) Fresh reader
opens_by byte reader solid opens = (byte ∷ opens.0, opens.1, λ rest fits. (eq-eqb byte byte refl, solid, opens.2 rest fits))

module _ {A : Type 0} (separator : Sierra (Unit {0})) (close : ℕ) (item bare : Sierra A) (solid : is_gap close ≡ false) where
  close_opens : (items : List A) → OpensBy (begins close) Fresh (close_at separator close item items)
  close_opens items =
      opens_by close (close_at separator close item items) solid
      (bind_opens Fresh Fresh close (mark_at (close ∷ [])) (λ _. done items) (mark_opens close []) (λ _. done_starts Fresh items))

  close_limited : (items : List A) → Limited too_wide (close_at separator close item items) (close_at separator close bare items)
  close_limited items = limited_then too_wide (from_mark too_wide close [] solid).limited (λ _. limited_done too_wide items)

  close_test : (items : List A) (text rest : List ℕ) (x : List A) → close_at separator close item items text ≡ answers (Ok x) rest → begins close text ≡ true
  close_test items text rest x e =
      let both = bind_read (mark_at (close ∷ [])) (λ _. done items) text rest x e in
      mark_begins close close [] text both.1 (mark_sound (close ∷ []) text both.1 both.2) ∙ eq-eqb close close refl

module _ {A : Type 0} (separator : Sierra (Unit {0})) (separates : Limited too_wide separator separator) (close : ℕ) (solid : is_gap close ≡ false) (item bare : Sierra A) (items : Limited too_wide item bare)
    (moves : (xs : List A) → Moves (one_more_at separator close item xs)) (bare_moves : (xs : List A) → Moves (one_more_at separator close bare xs)) where
  one_more_limited : (xs : List A) → Limited too_wide (one_more_at separator close item xs) (one_more_at separator close bare xs)
  one_more_limited xs = limited_then too_wide separates (λ _. limited_then too_wide items (λ x. limited_done too_wide (xs ++ x ∷ [])))

  pub behind_items_limited : (xs : List A) → Limited too_wide (behind_items_at separator close item xs) (behind_items_at separator close bare xs)
  unfolding behind_items_at
  behind_items_limited xs = record {
    reads = record {
      is = repeat_is (begins close) (close_at separator close item) (one_more_at separator close item) (close_test separator close item bare solid) (begins-looks close)
          (close_opens separator close item bare solid) (λ ys. (close_limited separator close item bare solid ys).reads.is) (λ ys. (one_more_limited ys).reads.is) moves xs;
      starts = repeat_starts (begins close) (close_at separator close item) (one_more_at separator close item) (close_test separator close item bare solid) (begins-looks close)
          (close_opens separator close item bare solid) (λ ys. (close_limited separator close item bare solid ys).reads.is) (λ ys. (one_more_limited ys).reads.is) moves xs;
    };
    bare_reads = record {
      is = repeat_is (begins close) (close_at separator close bare) (one_more_at separator close bare) (close_test separator close bare item solid) (begins-looks close)
          (close_opens separator close bare item solid) (λ ys. (close_limited separator close item bare solid ys).bare_reads.is) (λ ys. (one_more_limited ys).bare_reads.is) bare_moves xs;
      starts = repeat_starts (begins close) (close_at separator close bare) (one_more_at separator close bare) (close_test separator close bare item solid) (begins-looks close)
          (close_opens separator close bare item solid) (λ ys. (close_limited separator close item bare solid ys).bare_reads.is) (λ ys. (one_more_limited ys).bare_reads.is) bare_moves xs;
    };
    lifts = repeat_lifts (begins close) (begins-looks close) too_wide (close_at separator close item) (close_at separator close bare) (one_more_at separator close item) (one_more_at separator close bare)
        (close_opens separator close item bare solid) (close_opens separator close bare item solid)
        (λ ys. (close_limited separator close item bare solid ys).reads.is) (λ ys. (close_limited separator close item bare solid ys).bare_reads.is)
        (λ ys. (close_limited separator close item bare solid ys).lifts) one_more_limited moves bare_moves xs;
  }

  pub one_or_more_limited : Limited too_wide (one_or_more_at separator close item) (one_or_more_at separator close bare)
  unfolding one_or_more_at
  one_or_more_limited = limited_then too_wide items (λ x. behind_items_limited (x ∷ []))

  pub any_number_limited : Limited too_wide (any_number_at separator close item) (any_number_at separator close bare)
  unfolding any_number_at
  any_number_limited =
      limited_branch close too_wide solid (from_then too_wide close (from_mark too_wide close [] solid) (λ _. limited_done too_wide [])) one_or_more_limited

-- ---- with `,` between the items

pub comma_limited : Limited too_wide comma_at comma_at
unfolding comma_at
comma_limited = (from_mark too_wide 44 [] refl).limited

comma_moves : Moves comma_at
unfolding comma_at
comma_moves = moves_mark 44 []

-- an item behind a comma takes a byte at least
module _ {A : Type 0} (close : ℕ) (item bare : Sierra A) (items : Limited too_wide item bare) where
  item_done : (xs : List A) → Limited too_wide (item >>= λ x. done (xs ++ x ∷ [])) (bare >>= λ x. done (xs ++ x ∷ []))
  item_done xs = limited_then too_wide items (λ x. limited_done too_wide (xs ++ x ∷ []))

  pub comma_more_moves : (xs : List A) → Moves (one_more_at comma_at close item xs)
  comma_more_moves xs = moves_then comma_at (λ _. item >>= λ x. done (xs ++ x ∷ [])) comma_moves (λ _. (item_done xs).reads)

  pub comma_bare_moves : (xs : List A) → Moves (one_more_at comma_at close bare xs)
  comma_bare_moves xs = moves_then comma_at (λ _. bare >>= λ x. done (xs ++ x ∷ [])) comma_moves (λ _. (item_done xs).bare_reads)

pub in_parentheses_limited : {A : Type 0} (item bare : Sierra A) → Limited too_wide item bare → LimitedFrom 40 too_wide (in_parentheses_at item) (in_parentheses_at bare)
unfolding in_parentheses_at
in_parentheses_limited item bare items =
    from_then too_wide 40 (from_mark too_wide 40 [] refl)
    (λ _. any_number_limited comma_at comma_limited 41 refl item bare items (comma_more_moves 41 item bare items) (comma_bare_moves 41 item bare items))

pub in_parentheses_moves : {A : Type 0} (item bare : Sierra A) → Limited too_wide item bare → Moves (in_parentheses_at item)
unfolding in_parentheses_at
in_parentheses_moves item bare items =
    moves_then (mark_at (40 ∷ [])) (λ _. any_number_at comma_at 41 item) (moves_mark 40 [])
    (λ _. (any_number_limited comma_at comma_limited 41 refl item bare items (comma_more_moves 41 item bare items) (comma_bare_moves 41 item bare items)).reads)

-- what comes behind takes a byte at least
pub moves_behind : {A B : Type 0} (reader : Sierra A) (next : A → Sierra B) → Reads reader → ((x : A) → Moves (next x)) → Moves (reader >>= next)
moves_behind reader next reads moves text rest y e =
    let both = bind_read reader next text rest y e in
    let front = reads.is.takes text both.1 (Ok both.0) both.2 in
    let less = moves both.0 both.1 rest y both.3 in
    omega (arith, ap length front.1, length-append front.0 both.1)
