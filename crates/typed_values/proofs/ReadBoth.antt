-- One reader and then the next, both read.
use Rattle.std.proofs.Common.{◌≡◌, ℕ, List, [], ◌∷◌, Bool, true, false, cond, ◌==◌, Option, Some, None, Result, Ok, Err, refl, sym, ap, ◌∙◌, subst, arith}
use Rattle.std.proofs.lemmas.Bool.Decides.{nat_tests}
use Rattle.text_reading.specs.Reading.{Answer, Answer.answers, Reader, done, go_on, ◌>>=◌, begins, branch}
use Rattle.typed_values.specs.Marks.{ValueReader, byte_at}
use Rattle.typed_values.specs.declared.fault.ValueLimit.{ValueLimit}

-- what the first gave, what was left, and that the next went on from there
abbrev pub Both : {A B : Type 0} → ValueReader A → (A → ValueReader B) → List ℕ → B → List ℕ → Type 0
Both {A} reader next bytes x rest = (y : A) × (between : List ℕ) × (reader bytes ≡ answers (Ok y) between) × (next y between ≡ answers (Ok x) rest)

pub both : {A B : Type 0} (reader : ValueReader A) (next : A → ValueReader B) (bytes rest : List ℕ) (x : B)
    → (reader >>= next) bytes ≡ answers (Ok x) rest → Both reader next bytes x rest
both {A} {B} reader next bytes rest x is = go (reader bytes) refl is
  where
    go : (answer : Answer ValueLimit A) → reader bytes ≡ answer → go_on answer next ≡ answers (Ok x) rest → Both reader next bytes x rest
    go (answers (Ok y) between) was is = (y, between, was, is)
    go (answers (Err why) between) was is = let never : ⊥ = cc in absurd never

-- where the first read, the next goes on
pub after : {A B : Type 0} (reader : ValueReader A) (next : A → ValueReader B) (bytes between : List ℕ) (y : A)
    → reader bytes ≡ answers (Ok y) between → (reader >>= next) bytes ≡ next y between
after reader next bytes between y is = ap (λ a. go_on a next) is

-- nothing is taken
pub done_is : {A : Type 0} (x y : A) (bytes rest : List ℕ) → done {K = ValueLimit} x bytes ≡ answers (Ok y) rest → (x ≡ y) × (bytes ≡ rest)
done_is x y bytes rest is = (cc, cc)

-- ---- a byte

pub byte_sound : (wanted : ℕ) (bytes rest : List ℕ) (unit : Unit {0}) → byte_at wanted bytes ≡ answers (Ok unit) rest → bytes ≡ wanted ∷ rest
unfolding byte_at
byte_sound wanted [] rest unit is = let never : ⊥ = cc in absurd never
byte_sound wanted (byte ∷ more) rest unit is = go (byte == wanted) refl is
  where
    same : (x y : ℕ) → (x == y) ≡ true → x ≡ y
    same x y h = grind (arith, nat_tests)

    go : (t : Bool) → (byte == wanted) ≡ t → ◌≡◌ {A = Answer ValueLimit (Unit {0})} (cond t (answers (Ok tt) more) (answers (Err None) (byte ∷ more))) (answers (Ok unit) rest) → byte ∷ more ≡ wanted ∷ rest
    go true test is = let byte_is : byte ≡ wanted = same byte wanted test in let more_is : more ≡ rest = cc in cc
    go false test is = let never : ⊥ = cc in absurd never

pub byte_complete : (wanted : ℕ) (rest : List ℕ) → byte_at wanted (wanted ∷ rest) ≡ answers (Ok tt) rest
unfolding byte_at
byte_complete wanted rest = ap (λ t. cond t (answers (Ok tt) rest) (answers (Err None) (wanted ∷ rest))) (self wanted)
  where
    self : (x : ℕ) → (x == x) ≡ true
    self x = grind (arith, nat_tests)

-- a byte and what comes behind it
pub byte_then : {A : Type 0} (wanted : ℕ) (next : ValueReader A) (bytes rest : List ℕ) (x : A)
    → (byte_at wanted >>= λ _. next) bytes ≡ answers (Ok x) rest → (between : List ℕ) × (bytes ≡ wanted ∷ between) × (next between ≡ answers (Ok x) rest)
byte_then wanted next bytes rest x is =
    let found = both (byte_at wanted) (λ _. next) bytes rest x is in
    (found.1, byte_sound wanted bytes found.1 found.0 found.2, found.3)

pub then_byte : {A : Type 0} (wanted : ℕ) (next : ValueReader A) (rest : List ℕ) → (byte_at wanted >>= λ _. next) (wanted ∷ rest) ≡ next rest
then_byte wanted next rest = after (byte_at wanted) (λ _. next) (wanted ∷ rest) rest tt (byte_complete wanted rest)

-- ---- a choice by the next byte

pub begins_is : (byte : ℕ) (bytes : List ℕ) → begins byte bytes ≡ true → (rest : List ℕ) × (bytes ≡ byte ∷ rest)
begins_is byte [] is = let never : ⊥ = cc in absurd never
begins_is byte (other ∷ rest) is = (rest, ap (λ b. b ∷ rest) (same other byte is))
  where
    same : (x y : ℕ) → (x == y) ≡ true → x ≡ y
    same x y h = grind (arith, nat_tests)

pub begins_self : (byte : ℕ) (rest : List ℕ) → begins byte (byte ∷ rest) ≡ true
begins_self byte rest = self byte
  where
    self : (x : ℕ) → (x == x) ≡ true
    self x = grind (arith, nat_tests)
