-- A reader with limits and the same reader where one kind of number has no limit, joined form by form: what a
-- format's table of forms is made of.
use Rattle.std.proofs.Common.{◌≡◌, ◌≢◌, ℕ, ◌<◌, ◌≤◌, List, ◌∷◌, length, Bool, true, false, cond, Option, None, Ok, ap, arith}
use Rattle.std.proofs.lemmas.List.{length-append}
use Rattle.text_reading.specs.Reading.{Answer.answers, Reader, done, ◌>>=◌, begins, branch}
use Rattle.text_reading.specs.TokenReading.{mark_at, word_at, number_at}
use Rattle.text_reading.proofs.Readers.{Starts, Opens, IsReader, bind_is, bind_starts, bind_opens, bind_read, done_is, done_starts, branch_is, branch_opens, opens_starts}
use Rattle.text_reading.proofs.Limits.{Lifts, bind_lifts, lifts_done, branch_lifts}
use Rattle.text_reading.specs.Tokens.{Blanks}
use Rattle.text_reading.proofs.BlankFacts.{Fresh, is_gap, blanks_is, blanks_complete}
use Rattle.text_reading.proofs.TokenFacts.{mark_is, mark_opens, mark_lifts, mark_sound, word_is, word_opens, word_lifts, word_sound, number_is, number_starts}
use Rattle.text_reading.proofs.NumberFacts.{number_lifts, number_keeps}
use Rattle.text_reading.proofs.WholeTexts.{Moves}

-- a reader that can be begun where any token may begin
pub record Reads {K A : Type 0} (reader : Reader K A) : Type 0 where
  pub is : IsReader Fresh reader
  pub starts : Starts Fresh Fresh reader

-- a reader, and the same without the limit of one kind
pub record Limited {K A : Type 0} (kind : K) (reader bare : Reader K A) : Type 0 where
  pub reads : Reads reader
  pub bare_reads : Reads bare
  pub lifts : Lifts kind reader bare

-- the same, both can begin with this byte, and the reader takes a byte at least
pub record LimitedFrom {K A : Type 0} (byte : ℕ) (kind : K) (reader bare : Reader K A) : Type 0 where
  pub opens : Opens byte Fresh reader
  pub bare_opens : Opens byte Fresh bare
  pub moves : Moves reader
  pub limited : Limited kind reader bare

pub moves_then : {K A B : Type 0} (reader : Reader K A) (next : A → Reader K B) → Moves reader → ((x : A) → Reads (next x)) → Moves (reader >>= next)
moves_then reader next moves reads text rest y e =
    let front = bind_read reader next text rest y e in
    let less = moves text front.1 front.0 front.2 in
    let back = (reads front.0).is.takes front.1 rest (Ok y) front.3 in
    omega (arith, ap length back.1, length-append back.0 rest)

pub moves_branch : {K A : Type 0} (byte : ℕ) (reader other : Reader K A) → Moves reader → Moves other → Moves (branch byte reader other)
moves_branch {K} {A} byte reader other moves others text rest x e = go (begins byte text) e
  where
    go : (b : Bool) → cond b (reader text) (other text) ≡ answers (Ok x) rest → length rest < length text
    go true e = moves text rest x e
    go false e = others text rest x e

-- blanks are no longer than what they stand in
blanks_short : (text rest : List ℕ) → Blanks text rest → length rest ≤ length text
blanks_short text rest form =
    let front = (blanks_is {K = ℕ}).takes text rest (Ok tt) (blanks_complete text rest form) in
    omega (arith, ap length front.1, length-append front.0 rest)

pub moves_mark : {K : Type 0} (byte : ℕ) (bytes : List ℕ) → Moves (mark_at {K = K} (byte ∷ bytes))
moves_mark byte bytes text rest unit e =
    let form = mark_sound (byte ∷ bytes) text rest e in
    let short = blanks_short form.0 rest form.2 in
    omega (arith, ap length form.1, length-append bytes form.0)

pub moves_word : {K : Type 0} (byte : ℕ) (bytes : List ℕ) → Moves (word_at {K = K} (byte ∷ bytes))
moves_word byte bytes text rest unit e =
    let form = word_sound (byte ∷ bytes) text rest e in
    let short = blanks_short form.0 rest form.2 in
    omega (arith, ap length form.1.0, length-append bytes form.0)

then_reads : {K A B : Type 0} (reader : Reader K A) (next : A → Reader K B) → Reads reader → ((x : A) → Reads (next x)) → Reads (reader >>= next)
then_reads reader next reads nexts = record {
  is = bind_is reader next reads.is (λ x. (nexts x).is) (λ x. (nexts x).starts);
  starts = bind_starts Fresh Fresh Fresh reader next reads.starts (λ x. (nexts x).starts);
}

module _ {K A B : Type 0} (kind : K) {reader bare : Reader K A} {next next_bare : A → Reader K B} where
  -- one form and then the next
  pub limited_then : Limited kind reader bare → ((x : A) → Limited kind (next x) (next_bare x)) → Limited kind (reader >>= next) (bare >>= next_bare)
  limited_then first_form then_form = record {
    reads = then_reads reader next first_form.reads (λ x. (then_form x).reads);
    bare_reads = then_reads bare next_bare first_form.bare_reads (λ x. (then_form x).bare_reads);
    lifts = bind_lifts kind reader bare next next_bare first_form.reads.is (λ x. (then_form x).reads.is) first_form.bare_reads.is (λ x. (then_form x).bare_reads.is)
        first_form.lifts (λ x. (then_form x).lifts);
  }

  pub from_then : (byte : ℕ) → LimitedFrom byte kind reader bare → ((x : A) → Limited kind (next x) (next_bare x)) → LimitedFrom byte kind (reader >>= next) (bare >>= next_bare)
  from_then byte first_form then_form = record {
    opens = bind_opens Fresh Fresh byte reader next first_form.opens (λ x. (then_form x).reads.starts);
    bare_opens = bind_opens Fresh Fresh byte bare next_bare first_form.bare_opens (λ x. (then_form x).bare_reads.starts);
    moves = moves_then reader next first_form.moves (λ x. (then_form x).reads);
    limited = limited_then first_form.limited then_form;
  }

-- nothing
pub limited_done : {K A : Type 0} (kind : K) (x : A) → Limited kind (done x) (done x)
limited_done kind x =
    let reads : Reads (done x) = record { is = done_is Fresh x; starts = done_starts Fresh x } in
    record { reads = reads; bare_reads = reads; lifts = lifts_done kind x }

branch_reads : {K A : Type 0} (byte : ℕ) (reader other : Reader K A) → is_gap byte ≡ false → Opens byte Fresh reader → Reads reader → Reads other → Reads (branch byte reader other)
branch_reads byte reader other solid opens reads others = record {
  is = branch_is byte reader other opens reads.is others.is;
  starts = opens_starts Fresh byte (branch byte reader other) (λ rest. solid) (branch_opens byte reader other opens reads.is others.is);
}

-- the choice by the next byte
pub limited_branch : {K A : Type 0} (byte : ℕ) (kind : K) {reader bare other other_bare : Reader K A} → is_gap byte ≡ false → LimitedFrom byte kind reader bare → Limited kind other other_bare
    → Limited kind (branch byte reader other) (branch byte bare other_bare)
limited_branch byte kind {reader} {bare} {other} {other_bare} solid form others = record {
  reads = branch_reads byte reader other solid form.opens form.limited.reads others.reads;
  bare_reads = branch_reads byte bare other_bare solid form.bare_opens form.limited.bare_reads others.bare_reads;
  lifts = branch_lifts kind byte reader bare other other_bare form.limited.lifts others.lifts;
}

-- the same where the other form takes a byte too
pub from_branch : {K A : Type 0} (byte other_byte : ℕ) (kind : K) {reader bare other other_bare : Reader K A} → is_gap byte ≡ false → LimitedFrom byte kind reader bare → LimitedFrom other_byte kind other other_bare
    → LimitedFrom byte kind (branch byte reader other) (branch byte bare other_bare)
from_branch byte other_byte kind {reader} {bare} {other} {other_bare} solid form others = record {
  opens = branch_opens byte reader other form.opens form.limited.reads.is others.limited.reads.is;
  bare_opens = branch_opens byte bare other_bare form.bare_opens form.limited.bare_reads.is others.limited.bare_reads.is;
  moves = moves_branch byte reader other form.moves others.moves;
  limited = limited_branch byte kind solid form others.limited;
}

pub from_mark : {K : Type 0} (kind : K) (byte : ℕ) (bytes : List ℕ) → is_gap byte ≡ false → LimitedFrom byte kind (mark_at (byte ∷ bytes)) (mark_at (byte ∷ bytes))
from_mark kind byte bytes solid =
    let opens = mark_opens byte bytes in
    let reads : Reads (mark_at (byte ∷ bytes)) = record { is = mark_is (byte ∷ bytes); starts = opens_starts Fresh byte (mark_at (byte ∷ bytes)) (λ rest. solid) opens } in
    record { opens = opens; bare_opens = opens; moves = moves_mark byte bytes; limited = record { reads = reads; bare_reads = reads; lifts = mark_lifts kind (byte ∷ bytes) } }

pub from_word : {K : Type 0} (kind : K) (byte : ℕ) (bytes : List ℕ) → is_gap byte ≡ false → LimitedFrom byte kind (word_at (byte ∷ bytes)) (word_at (byte ∷ bytes))
from_word kind byte bytes solid =
    let opens = word_opens byte bytes in
    let reads : Reads (word_at (byte ∷ bytes)) = record { is = word_is (byte ∷ bytes); starts = opens_starts Fresh byte (word_at (byte ∷ bytes)) (λ rest. solid) opens } in
    record { opens = opens; bare_opens = opens; moves = moves_word byte bytes; limited = record { reads = reads; bare_reads = reads; lifts = word_lifts kind (byte ∷ bytes) } }

number_reads : {K : Type 0} (limit : Option ℕ) (zero_too : Bool) (kind : K) → Reads (number_at limit zero_too kind)
number_reads limit zero_too kind = record { is = number_is limit zero_too kind; starts = number_starts limit zero_too kind }

-- a number of the kind that has no limit in the other reader
pub limited_number : {K : Type 0} (limit : Option ℕ) (zero_too : Bool) (kind : K) → Limited kind (number_at limit zero_too kind) (number_at None zero_too kind)
limited_number limit zero_too kind =
    record { reads = number_reads limit zero_too kind; bare_reads = number_reads None zero_too kind; lifts = number_lifts limit zero_too kind }

-- a number of another kind
pub limited_other : {K : Type 0} (limit : Option ℕ) (zero_too : Bool) (kind other : K) → other ≢ kind → Limited other (number_at limit zero_too kind) (number_at limit zero_too kind)
limited_other limit zero_too kind other differs =
    let reads = number_reads limit zero_too kind in
    record { reads = reads; bare_reads = reads; lifts = number_keeps limit zero_too kind other differs }
