-- What carries an exact place: four properties of readers, each closed under the ways to join readers.
use Rattle.std.proofs.Common.{◌≡◌, ℕ, List, [], ◌∷◌, ◌++◌, length, Bool, true, false, cond, eqb, Option, None, Some, Result, Ok, Err, refl, sym, ◌∙◌, ap, subst, append_assoc, arith}
use Rattle.std.proofs.lemmas.List.{length-append, append-nil}
use Rattle.std.proofs.lemmas.Bool.{eq-eqb}
use Rattle.text_reading.specs.Reading.{first, Answer, Answer.answers, Reader, done, go_on, ◌>>=◌, begins, branch, scan, scan_from}

-- no bytes are longer than themselves
pub not_longer : (front rest : List ℕ) → front ++ rest ≡ rest → front ≡ []
not_longer [] rest same = refl
not_longer (byte ∷ front) rest same = absurd (omega (arith, ap length same, length-append front rest))

-- What was taken can be ended: some bytes end it, whatever follows them.
abbrev pub Ends : {K A : Type 0} → (List ℕ → Type 0) → Reader K A → List ℕ → Type 0
Ends {K} {A} follow reader taken =
    (ending : List ℕ) × (x : A) × ((rest : List ℕ) → follow rest → reader (taken ++ (ending ++ rest)) ≡ answers (Ok x) rest)

pub record IsReader {K A : Type 0} (follow : List ℕ → Type 0) (reader : Reader K A) : Type 0 where
  -- it takes bytes from the head
  pub takes : (bytes rest : List ℕ) (out : Result A (Option K)) → reader bytes ≡ answers out rest → (taken : List ℕ) × (bytes ≡ taken ++ rest)
  -- what it answers depends on no byte after the next one
  pub local : (taken rest other : List ℕ) (out : Result A (Option K)) → reader (taken ++ rest) ≡ answers out rest → first rest ≡ first other → reader (taken ++ other) ≡ answers out other
  -- what it took can be ended
  pub viable : (taken rest : List ℕ) (out : Result A (Option K)) → reader (taken ++ rest) ≡ answers out rest → Ends follow reader taken

-- Bytes that the reader reads, before which what was read before may end.
abbrev pub Starts : {K A : Type 0} → (List ℕ → Type 0) → (List ℕ → Type 0) → Reader K A → Type 0
Starts {K} {A} behind follow reader =
    (text : List ℕ) × (x : A) × ((rest : List ℕ) → follow rest → behind (text ++ rest) × (reader (text ++ rest) ≡ answers (Ok x) rest))

-- ---- one reader and then the next

-- how the answer of two readers comes about
pub data Parts {K A B : Type 0} (reader : Reader K A) (next : A → Reader K B) (taken rest : List ℕ) (out : Result B (Option K)) : Type 0 where
  stopped : (why : Option K) → reader (taken ++ rest) ≡ answers (Err why) rest → out ≡ Err why → Parts reader next taken rest out
  went_on : (x : A) (before after : List ℕ) → taken ≡ before ++ after → reader (before ++ (after ++ rest)) ≡ answers (Ok x) (after ++ rest)
      → next x (after ++ rest) ≡ answers out rest → Parts reader next taken rest out

pub cancel : (a b rest : List ℕ) → a ++ rest ≡ b ++ rest → a ≡ b
cancel [] b rest same = sym (not_longer b rest (sym same))
cancel (x ∷ a) [] rest same = not_longer (x ∷ a) rest same
cancel (x ∷ a) (y ∷ b) rest same =
    let tails : a ++ rest ≡ b ++ rest = cc in
    let tail = cancel a b rest tails in
    let heads : x ≡ y = cc in
    cc

pub parts : {K A B : Type 0} {behind follow : List ℕ → Type 0} (reader : Reader K A) (next : A → Reader K B) (taken rest : List ℕ) (out : Result B (Option K))
    → IsReader behind reader → ((x : A) → IsReader follow (next x)) → (reader >>= next) (taken ++ rest) ≡ answers out rest
    → Parts reader next taken rest out
parts {K} {A} {B} reader next taken rest out is nexts e = go (reader (taken ++ rest)) refl e
  where
    go : (answer : Answer K A) → reader (taken ++ rest) ≡ answer → go_on answer next ≡ answers out rest → Parts reader next taken rest out
    go (answers (Err why) left) was e =
        let left_is : left ≡ rest = cc in
        let out_is : out ≡ Err why = cc in
        stopped why (was ∙ ap (answers (Err why)) left_is) out_is
    go (answers (Ok x) left) was e =
        let front = is.takes (taken ++ rest) left (Ok x) was in
        let back = (nexts x).takes left rest out e in
        let taken_is : taken ≡ front.0 ++ back.0 =
        cancel taken (front.0 ++ back.0) rest (front.1 ∙ ap (λ (t : List ℕ). front.0 ++ t) back.1 ∙ sym (append_assoc front.0 back.0 rest)) in
        let whole : taken ++ rest ≡ front.0 ++ (back.0 ++ rest) = front.1 ∙ ap (λ (t : List ℕ). front.0 ++ t) back.1 in
        went_on x front.0 back.0 taken_is
        (ap reader (sym whole) ∙ was ∙ ap (answers (Ok x)) back.1)
        (ap (next x) (sym back.1) ∙ e)

pub first-append : (after rest other : List ℕ) → first rest ≡ first other → first (after ++ rest) ≡ first (after ++ other)
first-append [] rest other same = same
first-append (byte ∷ after) rest other same = refl

-- the next reader goes on after what was read
pub then_next : {K A B : Type 0} (reader : Reader K A) (next : A → Reader K B) (text rest : List ℕ) (x : A) (answer : Answer K B)
    → reader text ≡ answers (Ok x) rest → next x rest ≡ answer → (reader >>= next) text ≡ answer
then_next reader next text rest x answer read after = ap (λ a. go_on a next) read ∙ after

-- a stop stays
pub then_stops : {K A B : Type 0} (reader : Reader K A) (next : A → Reader K B) (text rest : List ℕ) (why : Option K)
    → reader text ≡ answers (Err why) rest → (reader >>= next) text ≡ answers (Err why) rest
then_stops reader next text rest why read = ap (λ a. go_on a next) read

-- what two readers read
pub bind_read : {K A B : Type 0} (reader : Reader K A) (next : A → Reader K B) (text rest : List ℕ) (y : B) → (reader >>= next) text ≡ answers (Ok y) rest
    → (x : A) × (between : List ℕ) × (reader text ≡ answers (Ok x) between) × (next x between ≡ answers (Ok y) rest)
bind_read {K} {A} {B} reader next text rest y e = go (reader text) refl e
  where
    go : (answer : Answer K A) → reader text ≡ answer → go_on answer next ≡ answers (Ok y) rest
        → (x : A) × (between : List ℕ) × (reader text ≡ answers (Ok x) between) × (next x between ≡ answers (Ok y) rest)
    go (answers (Err why) left) was e = absurd cc
    go (answers (Ok x) left) was e = (x, left, was, e)

module _ {K A B : Type 0} {behind follow : List ℕ → Type 0} (reader : Reader K A) (next : A → Reader K B)
    (is : IsReader behind reader) (nexts : (x : A) → IsReader follow (next x)) (starts : (x : A) → Starts behind follow (next x)) where
  bind_takes : (bytes rest : List ℕ) (out : Result B (Option K)) → (reader >>= next) bytes ≡ answers out rest → (taken : List ℕ) × (bytes ≡ taken ++ rest)
  bind_takes bytes rest out e = go (reader bytes) refl e
    where
      go : (answer : Answer K A) → reader bytes ≡ answer → go_on answer next ≡ answers out rest → (taken : List ℕ) × (bytes ≡ taken ++ rest)
      go (answers (Err why) left) was e =
          let front = is.takes bytes left (Err why) was in
          let left_is : left ≡ rest = cc in
          (front.0, front.1 ∙ ap (λ (t : List ℕ). front.0 ++ t) left_is)
      go (answers (Ok x) left) was e =
          let front = is.takes bytes left (Ok x) was in
          let back = (nexts x).takes left rest out e in
          (front.0 ++ back.0, front.1 ∙ ap (λ (t : List ℕ). front.0 ++ t) back.1 ∙ sym (append_assoc front.0 back.0 rest))

  bind_local : (taken rest other : List ℕ) (out : Result B (Option K)) → (reader >>= next) (taken ++ rest) ≡ answers out rest → first rest ≡ first other
      → (reader >>= next) (taken ++ other) ≡ answers out other
  bind_local taken rest other out e same = go (parts reader next taken rest out is nexts e)
    where
      go : Parts reader next taken rest out → (reader >>= next) (taken ++ other) ≡ answers out other
      go (stopped why was out_is) =
          then_stops reader next (taken ++ other) other why (is.local taken rest other (Err why) was same) ∙ ap (λ o. answers o other) (sym out_is)
      go (went_on x before after taken_is was after_is) =
          let whole : taken ++ other ≡ before ++ (after ++ other) = ap (λ (t : List ℕ). t ++ other) taken_is ∙ append_assoc before after other in
          ap (reader >>= next) whole
          ∙ then_next reader next (before ++ (after ++ other)) (after ++ other) x (answers out other)
          (is.local before (after ++ rest) (after ++ other) (Ok x) was (first-append after rest other same))
          ((nexts x).local after rest other out after_is same)

  -- what the first reader took can be ended, by its ending and the start of the next
  ends_first : (taken : List ℕ) → Ends behind reader taken → Ends follow (reader >>= next) taken
  ends_first taken ends =
      let start = starts ends.1 in (
        ends.0 ++ start.0,
        start.1,
        λ rest fits.
            let go = start.2 rest fits in
            let whole : taken ++ ((ends.0 ++ start.0) ++ rest) ≡ taken ++ (ends.0 ++ (start.0 ++ rest)) = ap (λ (t : List ℕ). taken ++ t) (append_assoc ends.0 start.0 rest) in
            ap (reader >>= next) whole
            ∙ then_next reader next (taken ++ (ends.0 ++ (start.0 ++ rest))) (start.0 ++ rest) ends.1 (answers (Ok start.1) rest) (ends.2 (start.0 ++ rest) go.0) go.1,
      )

  bind_viable : (taken rest : List ℕ) (out : Result B (Option K)) → (reader >>= next) (taken ++ rest) ≡ answers out rest → Ends follow (reader >>= next) taken
  bind_viable taken rest out e = go (parts reader next taken rest out is nexts e)
    where
      go : Parts reader next taken rest out → Ends follow (reader >>= next) taken
      go (stopped why was out_is) = ends_first taken (is.viable taken rest (Err why) was)
      go (went_on x before [] taken_is was after_is) =
          let same : before ≡ taken = sym (append-nil before) ∙ sym taken_is in
          ends_first taken (subst (λ (t : List ℕ). Ends behind reader t) same (is.viable before rest (Ok x) was))
      go (went_on x before (byte ∷ after) taken_is was after_is) =
          let ends = (nexts x).viable (byte ∷ after) rest out after_is in (
            ends.0,
            ends.1,
            λ end fits.
                let whole : taken ++ (ends.0 ++ end) ≡ before ++ ((byte ∷ after) ++ (ends.0 ++ end)) =
                ap (λ (t : List ℕ). t ++ (ends.0 ++ end)) taken_is ∙ append_assoc before (byte ∷ after) (ends.0 ++ end) in
                ap (reader >>= next) whole
                ∙ then_next reader next (before ++ ((byte ∷ after) ++ (ends.0 ++ end))) ((byte ∷ after) ++ (ends.0 ++ end)) x (answers (Ok ends.1) end)
                (is.local before ((byte ∷ after) ++ rest) ((byte ∷ after) ++ (ends.0 ++ end)) (Ok x) was refl)
                (ends.2 end fits),
          )

  pub bind_is : IsReader follow (reader >>= next)
  bind_is = record { takes = bind_takes; local = bind_local; viable = bind_viable }

pub bind_starts : {K A B : Type 0} (outer behind follow : List ℕ → Type 0) (reader : Reader K A) (next : A → Reader K B)
    → Starts outer behind reader → ((x : A) → Starts behind follow (next x)) → Starts outer follow (reader >>= next)
bind_starts outer behind follow reader next start starts =
    let then = starts start.1 in (
      start.0 ++ then.0,
      then.1,
      λ rest fits.
          let back = then.2 rest fits in
          let front = start.2 (then.0 ++ rest) back.0 in
          let whole = append_assoc start.0 then.0 rest in (
            subst outer (sym whole) front.0,
            ap (reader >>= next) whole ∙ then_next reader next (start.0 ++ (then.0 ++ rest)) (then.0 ++ rest) start.1 (answers (Ok then.1) rest) front.1 back.1,
          ),
    )

-- ---- a reader that takes nothing

pub done_is : {K A : Type 0} (follow : List ℕ → Type 0) (x : A) → IsReader follow (done {K = K} x)
done_is {K} {A} follow x = record {
  takes = λ bytes rest out e. ([], let same : bytes ≡ rest = cc in same);
  local = λ taken rest other out e same.
      let whole : taken ++ rest ≡ rest = cc in
      let none = not_longer taken rest whole in
      let out_is : out ≡ Ok x = cc in
      ap (λ (t : List ℕ). answers (Ok x) (t ++ other)) none ∙ ap (λ o. answers o other) (sym out_is);
  viable = λ taken rest out e.
      let whole : taken ++ rest ≡ rest = cc in
      let none = not_longer taken rest whole in
      ([], x, λ end fits. ap (λ (t : List ℕ). answers (Ok x) (t ++ end)) none);
}

pub done_starts : {K A : Type 0} (follow : List ℕ → Type 0) (x : A) → Starts follow follow (done {K = K} x)
done_starts follow x = ([], x, λ rest fits. (fits, refl))

-- ---- the choice by the next byte

-- a reader that can begin with this byte
abbrev pub Opens : {K A : Type 0} → ℕ → (List ℕ → Type 0) → Reader K A → Type 0
Opens {K} {A} byte follow reader = (text : List ℕ) × (x : A) × ((rest : List ℕ) → follow rest → reader (byte ∷ (text ++ rest)) ≡ answers (Ok x) rest)

begins-self : (byte : ℕ) (rest : List ℕ) → begins byte (byte ∷ rest) ≡ true
begins-self byte rest = eq-eqb byte byte refl

pub begins-first : (byte : ℕ) (rest other : List ℕ) → first rest ≡ first other → begins byte rest ≡ begins byte other
begins-first byte [] [] same = refl
begins-first byte [] (c ∷ other) same = absurd cc
begins-first byte (b ∷ rest) [] same = absurd cc
begins-first byte (b ∷ rest) (c ∷ other) same = let one : b ≡ c = cc in ap (λ n. eqb n byte) one

module _ {K A : Type 0} {follow : List ℕ → Type 0} (byte : ℕ) (reader other : Reader K A)
    (opens : Opens byte follow reader) (is : IsReader follow reader) (other_is : IsReader follow other) where
  branch_takes : (bytes rest : List ℕ) (out : Result A (Option K)) → branch byte reader other bytes ≡ answers out rest → (taken : List ℕ) × (bytes ≡ taken ++ rest)
  branch_takes bytes rest out e = go (begins byte bytes) e
    where
      go : (b : Bool) → cond b (reader bytes) (other bytes) ≡ answers out rest → (taken : List ℕ) × (bytes ≡ taken ++ rest)
      go true e = is.takes bytes rest out e
      go false e = other_is.takes bytes rest out e

  branch_local : (taken rest more : List ℕ) (out : Result A (Option K)) → branch byte reader other (taken ++ rest) ≡ answers out rest → first rest ≡ first more
      → branch byte reader other (taken ++ more) ≡ answers out more
  branch_local taken rest more out e same =
      let one : begins byte (taken ++ rest) ≡ begins byte (taken ++ more) =
      begins-first byte (taken ++ rest) (taken ++ more) (first-append taken rest more same) in
      ap (λ b. cond b (reader (taken ++ more)) (other (taken ++ more))) (sym one) ∙ go (begins byte (taken ++ rest)) e
    where
      go : (b : Bool) → cond b (reader (taken ++ rest)) (other (taken ++ rest)) ≡ answers out rest → cond b (reader (taken ++ more)) (other (taken ++ more)) ≡ answers out more
      go true e = is.local taken rest more out e same
      go false e = other_is.local taken rest more out e same

  branch_viable : (taken rest : List ℕ) (out : Result A (Option K)) → branch byte reader other (taken ++ rest) ≡ answers out rest → Ends follow (branch byte reader other) taken
  branch_viable [] rest out e = (
    byte ∷ opens.0,
    opens.1,
    λ end fits.
        ap (λ b. cond b (reader (byte ∷ (opens.0 ++ end))) (other (byte ∷ (opens.0 ++ end)))) (begins-self byte (opens.0 ++ end)) ∙ opens.2 end fits,
  )
  branch_viable (c ∷ taken) rest out e = go (eqb c byte) e
    where
      go : (b : Bool) → cond b (reader (c ∷ (taken ++ rest))) (other (c ∷ (taken ++ rest))) ≡ answers out rest
          → (ending : List ℕ) × (x : A) × ((end : List ℕ) → follow end → cond b (reader (c ∷ (taken ++ (ending ++ end)))) (other (c ∷ (taken ++ (ending ++ end)))) ≡ answers (Ok x) end)
      go true e = is.viable (c ∷ taken) rest out e
      go false e = other_is.viable (c ∷ taken) rest out e

  pub branch_is : IsReader follow (branch byte reader other)
  branch_is = record { takes = branch_takes; local = branch_local; viable = branch_viable }

  pub branch_opens : Opens byte follow (branch byte reader other)
  branch_opens = (
    opens.0,
    opens.1,
    λ end fits.
        ap (λ b. cond b (reader (byte ∷ (opens.0 ++ end))) (other (byte ∷ (opens.0 ++ end)))) (begins-self byte (opens.0 ++ end)) ∙ opens.2 end fits,
  )

pub opens_starts : {K A : Type 0} {follow : List ℕ → Type 0} (behind : List ℕ → Type 0) (byte : ℕ) (reader : Reader K A)
    → ((rest : List ℕ) → behind (byte ∷ rest)) → Opens byte follow reader → Starts behind follow reader
opens_starts behind byte reader may opens = (byte ∷ opens.0, opens.1, λ rest fits. (may (opens.0 ++ rest), opens.2 rest fits))

pub bind_opens : {K A B : Type 0} (behind follow : List ℕ → Type 0) (byte : ℕ) (reader : Reader K A) (next : A → Reader K B)
    → Opens byte behind reader → ((x : A) → Starts behind follow (next x)) → Opens byte follow (reader >>= next)
bind_opens behind follow byte reader next opens starts =
    let then = starts opens.1 in (
      opens.0 ++ then.0,
      then.1,
      λ rest fits.
          let back = then.2 rest fits in
          let whole : byte ∷ ((opens.0 ++ then.0) ++ rest) ≡ byte ∷ (opens.0 ++ (then.0 ++ rest)) = ap (λ (t : List ℕ). byte ∷ t) (append_assoc opens.0 then.0 rest) in
          ap (reader >>= next) whole
          ∙ then_next reader next (byte ∷ (opens.0 ++ (then.0 ++ rest))) (then.0 ++ rest) opens.1 (answers (Ok then.1) rest) (opens.2 (then.0 ++ rest) back.0) back.1,
    )

-- ---- scans

module _ {K A S : Type 0} (next : S → ℕ → Option S) (finish : S → Option ℕ → Result A (Option K)) where
  pub scan_takes : (state : S) (bytes rest : List ℕ) (out : Result A (Option K)) → scan next finish state bytes ≡ answers out rest → (taken : List ℕ) × (bytes ≡ taken ++ rest)
  scan_takes state [] rest out e = ([], let same : [] ≡ rest = cc in same)
  scan_takes state (byte ∷ bytes) rest out e = go (next state byte) (λ after. scan_takes after bytes rest out) e
    where
      go : (after : Option S) → ((a : S) → scan next finish a bytes ≡ answers out rest → (taken : List ℕ) × (bytes ≡ taken ++ rest))
          → scan_from next finish after state byte bytes (λ a. scan next finish a bytes) ≡ answers out rest → (taken : List ℕ) × (byte ∷ bytes ≡ taken ++ rest)
      go None more e = ([], let same : byte ∷ bytes ≡ rest = cc in same)
      go (Some after) more e = let front = more after e in (byte ∷ front.0, ap (λ (t : List ℕ). byte ∷ t) front.1)

  pub scan_short : (state : S) (byte : ℕ) (bytes : List ℕ) (out : Result A (Option K)) → scan next finish state bytes ≡ answers out (byte ∷ bytes) → ⊥
  scan_short state byte bytes out e =
      let front = scan_takes state bytes (byte ∷ bytes) out e in
      omega (arith, ap length front.1, length-append front.0 (byte ∷ bytes))

  pub scan_local : (state : S) (taken rest other : List ℕ) (out : Result A (Option K)) → scan next finish state (taken ++ rest) ≡ answers out rest → first rest ≡ first other
      → scan next finish state (taken ++ other) ≡ answers out other
  scan_local state [] [] [] out e same = e
  scan_local state [] [] (c ∷ other) out e same = absurd cc
  scan_local state [] (byte ∷ rest) [] out e same = absurd cc
  scan_local state [] (byte ∷ rest) (c ∷ other) out e same =
      let one : byte ≡ c = cc in
      subst (λ (d : ℕ). scan_from next finish (next state d) state d other (λ a. scan next finish a other) ≡ answers out (d ∷ other)) one (go (next state byte) e)
    where
      go : (after : Option S) → scan_from next finish after state byte rest (λ a. scan next finish a rest) ≡ answers out (byte ∷ rest)
          → scan_from next finish after state byte other (λ a. scan next finish a other) ≡ answers out (byte ∷ other)
      go None e = let out_is : finish state (Some byte) ≡ out = cc in ap (λ o. answers o (byte ∷ other)) out_is
      go (Some after) e = absurd (scan_short after byte rest out e)
  scan_local state (byte ∷ taken) rest other out e same = go (next state byte) (λ after h. scan_local after taken rest other out h same) e
    where
      go : (after : Option S) → ((a : S) → scan next finish a (taken ++ rest) ≡ answers out rest → scan next finish a (taken ++ other) ≡ answers out other)
          → scan_from next finish after state byte (taken ++ rest) (λ a. scan next finish a (taken ++ rest)) ≡ answers out rest
          → scan_from next finish after state byte (taken ++ other) (λ a. scan next finish a (taken ++ other)) ≡ answers out other
      go None more e =
          let whole : byte ∷ (taken ++ rest) ≡ rest = cc in
          let none = not_longer (byte ∷ taken) rest whole in absurd cc
      go (Some after) more e = more after e

  -- the state behind what was taken
  pub scan_state : (state : S) (taken rest : List ℕ) (out : Result A (Option K)) → scan next finish state (taken ++ rest) ≡ answers out rest
      → (behind : S) × ((other : List ℕ) → scan next finish state (taken ++ other) ≡ scan next finish behind other)
  scan_state state [] rest out e = (state, λ other. refl)
  scan_state state (byte ∷ taken) rest out e = go (next state byte) (λ after h. scan_state after taken rest out h) e
    where
      go : (after : Option S) → ((a : S) → scan next finish a (taken ++ rest) ≡ answers out rest → (behind : S) × ((other : List ℕ) → scan next finish a (taken ++ other) ≡ scan next finish behind other))
          → scan_from next finish after state byte (taken ++ rest) (λ a. scan next finish a (taken ++ rest)) ≡ answers out rest
          → (behind : S) × ((other : List ℕ) → scan_from next finish after state byte (taken ++ other) (λ a. scan next finish a (taken ++ other)) ≡ scan next finish behind other)
      go None more e =
          let whole : byte ∷ (taken ++ rest) ≡ rest = cc in
          let none = not_longer (byte ∷ taken) rest whole in absurd cc
      go (Some after) more e = more after e

  -- A scan is a reader where each state can be ended.
  pub scan_is : {follow : List ℕ → Type 0} → ((state : S) → Ends follow (scan next finish state) []) → (state : S) → IsReader follow (scan next finish state)
  scan_is ends state = record {
    takes = scan_takes state;
    local = scan_local state;
    viable = λ taken rest out e.
        let behind = scan_state state taken rest out e in
        let end = ends behind.0 in
        (end.0, end.1, λ after fits. behind.1 (end.0 ++ after) ∙ end.2 after fits);
  }
