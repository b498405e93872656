-- Limits: where a number passes its limit, the same text goes on in the language where that kind of number has no
-- limit; and every other stop is a stop there too.
use Rattle.std.proofs.Common.{◌≡◌, ℕ, List, [], ◌∷◌, ◌++◌, Bool, true, false, cond, Option, None, Some, Result, Ok, Err, refl, sym, ◌∙◌, ap, subst, append_assoc}
use Rattle.text_reading.specs.Tokens.{is_digit}
use Rattle.text_reading.specs.Reading.{first, Answer, Answer.answers, Reader, done, ◌>>=◌, begins, branch, scan, scan_from}
use Rattle.text_reading.proofs.Readers.{IsReader, Parts, Parts.stopped, Parts.went_on, parts, first-append, then_next, then_stops, begins-first}

-- it stops at a number of this kind that passes its limit
abbrev pub Passes : {K A : Type 0} → K → Result A (Option K) → Type 0
Passes kind (Ok x) = ⊥
Passes kind (Err None) = ⊥
Passes kind (Err (Some other)) = other ≡ kind

-- how a reader without the limits of one kind answers where the reader with limits took these bytes and no more
pub data Lifted {K A : Type 0} (kind : K) (bare : Reader K A) (taken rest : List ℕ) (out : Result A (Option K)) : Type 0 where
  kept : (Passes kind out → ⊥) → bare (taken ++ rest) ≡ answers out rest → Lifted kind bare taken rest out
  passed : Passes kind out → (digit : ℕ) (more : List ℕ) → rest ≡ digit ∷ more → is_digit digit ≡ true
      → (bare_out : Result A (Option K)) → bare (taken ++ (digit ∷ [])) ≡ answers bare_out [] → Lifted kind bare taken rest out

abbrev pub Lifts : {K A : Type 0} → K → Reader K A → Reader K A → Type 0
Lifts {K} {A} kind reader bare = (taken rest : List ℕ) (out : Result A (Option K)) → reader (taken ++ rest) ≡ answers out rest → Lifted kind bare taken rest out

-- a reader that never stops at such a number
pub lifts_itself : {K A : Type 0} (kind : K) (reader : Reader K A)
    → ((text rest : List ℕ) (out : Result A (Option K)) → reader text ≡ answers out rest → Passes kind out → ⊥) → Lifts kind reader reader
lifts_itself kind reader never taken rest out e = kept (never (taken ++ rest) rest out e) e

pub lifts_done : {K A : Type 0} (kind : K) (x : A) → Lifts kind (done x) (done x)
lifts_done {K} {A} kind x = lifts_itself kind (done x) never
  where
    never : (text rest : List ℕ) (out : Result A (Option K)) → done x text ≡ answers out rest → Passes kind out → ⊥
    never text rest (Ok y) e p = p
    never text rest (Err why) e p = absurd cc

-- a stop of one type is that of another
passes_stop : {K : Type 0} (A B : Type 0) (kind : K) (why : Option K) → Passes {A = A} kind (Err why) → Passes {A = B} kind (Err why)
passes_stop A B kind None p = p
passes_stop A B kind (Some other) p = p

module _ {K A B : Type 0} {behind follow : List ℕ → Type 0} (kind : K) (reader bare : Reader K A) (next next_bare : A → Reader K B)
    (is : IsReader behind reader) (nexts : (x : A) → IsReader follow (next x))
    (bare_is : IsReader behind bare) (nexts_bare : (x : A) → IsReader follow (next_bare x))
    (lifts : Lifts kind reader bare) (next_lifts : (x : A) → Lifts kind (next x) (next_bare x)) where
  -- what follows an answer that left nothing leaves nothing
  leaves_nothing : (text : List ℕ) (out : Result A (Option K)) → bare text ≡ answers out [] → (both : Result B (Option K)) × ((bare >>= next_bare) text ≡ answers both [])
  leaves_nothing text (Err why) e = (Err why, then_stops bare next_bare text [] why e)
  leaves_nothing text (Ok x) e = go (next_bare x []) refl
    where
      go : (answer : Answer K B) → next_bare x [] ≡ answer → (both : Result B (Option K)) × ((bare >>= next_bare) text ≡ answers both [])
      go (answers both left) was =
          let front = (nexts_bare x).takes [] left both was in
          let none : left ≡ [] = nothing front.0 left front.1 in
          (both, then_next bare next_bare text [] x (answers both []) e (was ∙ ap (answers both) none))
        where
          nothing : (a b : List ℕ) → [] ≡ a ++ b → b ≡ []
          nothing [] b e = sym e
          nothing (c ∷ a) b e = absurd cc

  pub bind_lifts : Lifts kind (reader >>= next) (bare >>= next_bare)
  bind_lifts taken rest out e = go (parts reader next taken rest out is nexts e)
    where
      go_first : (why : Option K) → out ≡ Err why → Lifted kind bare taken rest (Err why) → Lifted kind (bare >>= next_bare) taken rest out
      go_first why out_is (kept never same) =
          kept (λ p. never (passes_stop B A kind why (subst (Passes kind) out_is p)))
          (then_stops bare next_bare (taken ++ rest) rest why same ∙ ap (λ o. answers o rest) (sym out_is))
      go_first why out_is (passed p digit more rest_is is_one bare_out same) =
          let both = leaves_nothing (taken ++ (digit ∷ [])) bare_out same in
          passed (subst (Passes kind) (sym out_is) (passes_stop A B kind why p)) digit more rest_is is_one both.0 both.1

      go_next : (x : A) (before after : List ℕ) → taken ≡ before ++ after → bare (before ++ (after ++ rest)) ≡ answers (Ok x) (after ++ rest)
          → Lifted kind (next_bare x) after rest out → Lifted kind (bare >>= next_bare) taken rest out
      go_next x before after taken_is was (kept never same) =
          let whole : taken ++ rest ≡ before ++ (after ++ rest) = ap (λ (t : List ℕ). t ++ rest) taken_is ∙ append_assoc before after rest in
          kept never (ap (bare >>= next_bare) whole ∙ then_next bare next_bare (before ++ (after ++ rest)) (after ++ rest) x (answers out rest) was same)
      go_next x before after taken_is was (passed p digit more rest_is is_one bare_out same) =
          let whole : taken ++ (digit ∷ []) ≡ before ++ (after ++ (digit ∷ [])) = ap (λ (t : List ℕ). t ++ (digit ∷ [])) taken_is ∙ append_assoc before after (digit ∷ []) in
          let heads : first rest ≡ first (digit ∷ []) = ap first rest_is in
          passed p digit more rest_is is_one bare_out
          (ap (bare >>= next_bare) whole
          ∙ then_next bare next_bare (before ++ (after ++ (digit ∷ []))) (after ++ (digit ∷ [])) x (answers bare_out [])
          (bare_is.local before (after ++ rest) (after ++ (digit ∷ [])) (Ok x) was (first-append after rest (digit ∷ []) heads)) same)

      go_read : (x : A) (before after : List ℕ) → taken ≡ before ++ after → next x (after ++ rest) ≡ answers out rest
          → Lifted kind bare before (after ++ rest) (Ok x) → Lifted kind (bare >>= next_bare) taken rest out
      go_read x before after taken_is after_is (kept never same) = go_next x before after taken_is same (next_lifts x after rest out after_is)
      go_read x before after taken_is after_is (passed p digit more rest_is is_one bare_out same) = absurd p

      go : Parts reader next taken rest out → Lifted kind (bare >>= next_bare) taken rest out
      go (stopped why was out_is) = go_first why out_is (lifts taken rest (Err why) was)
      go (went_on x before after taken_is was after_is) = go_read x before after taken_is after_is (lifts before (after ++ rest) (Ok x) was)

pub branch_lifts : {K A : Type 0} (kind : K) (byte : ℕ) (reader bare other other_bare : Reader K A)
    → Lifts kind reader bare → Lifts kind other other_bare → Lifts kind (branch byte reader other) (branch byte bare other_bare)
branch_lifts {K} {A} kind byte reader bare other other_bare lifts other_lifts taken rest out e = go (begins byte (taken ++ rest)) refl e
  where
    both : (b : Bool) (text : List ℕ) → begins byte text ≡ b → branch byte bare other_bare text ≡ cond b (bare text) (other_bare text)
    both b text is = ap (λ c. cond c (bare text) (other_bare text)) is

    lifted : (b : Bool) → begins byte (taken ++ rest) ≡ b → Lifted kind (λ text. cond b (bare text) (other_bare text)) taken rest out → Lifted kind (branch byte bare other_bare) taken rest out
    lifted b is (kept never same) = kept never (both b (taken ++ rest) is ∙ same)
    lifted b is (passed p digit more rest_is is_one bare_out same) =
        let heads : first (digit ∷ []) ≡ first rest = ap first (sym rest_is) in
        let here = begins-first byte (taken ++ (digit ∷ [])) (taken ++ rest) (first-append taken (digit ∷ []) rest heads) in
        passed p digit more rest_is is_one bare_out (both b (taken ++ (digit ∷ [])) (here ∙ is) ∙ same)

    go : (b : Bool) → begins byte (taken ++ rest) ≡ b → cond b (reader (taken ++ rest)) (other (taken ++ rest)) ≡ answers out rest → Lifted kind (branch byte bare other_bare) taken rest out
    go true is e = lifted true is (lifts taken rest out e)
    go false is e = lifted false is (other_lifts taken rest out e)

-- a scan that ends with no such stop
pub scan_never : {K A S : Type 0} (kind : K) (next : S → ℕ → Option S) (finish : S → Option ℕ → Result A (Option K))
    → ((state : S) (byte : Option ℕ) → Passes kind (finish state byte) → ⊥)
    → (text : List ℕ) (state : S) (rest : List ℕ) (out : Result A (Option K)) → scan next finish state text ≡ answers out rest → Passes kind out → ⊥
scan_never kind next finish never [] state rest out e p =
    let same : out ≡ finish state None = cc in never state None (subst (Passes kind) same p)
scan_never {K} {A} {S} kind next finish never (byte ∷ text) state rest out e p = go (next state byte) (scan_never kind next finish never text) e
  where
    go : (after : Option S) → ((s : S) (left : List ℕ) (o : Result A (Option K)) → scan next finish s text ≡ answers o left → Passes kind o → ⊥)
        → scan_from next finish after state byte text (λ a. scan next finish a text) ≡ answers out rest → ⊥
    go None more e = let same : out ≡ finish state (Some byte) = cc in never state (Some byte) (subst (Passes kind) same p)
    go (Some after) more e = more after rest out e p
