-- What is known of a file while it is read, piece by piece.
use Rattle.std.proofs.lemmas.List.{length-take-le}
use Rattle.std.proofs.Common.{ap, ◌∙◌, length-append, ℕ, ◌≡◌, ◌+◌, ◌-◌, ◌≤◌, List, ◌++◌, length, take, Option, Some, None, arith}
use Rattle.std.specs.Prelude.{MatchOption}
use Rattle.std.proofs.Math.Seq.{take-add}
use Rattle.std.specs.FinMap.{get}
use Rattle.edge_io.specs.Files.{FileMap, FilesView, Keeps, ForFile, ReadsAt}

there_both : (found : Option (List ℕ)) (A B C : Type 0) (P Q R : List ℕ → Type 0) → (A → B → C) → ((bytes : List ℕ) → P bytes → Q bytes → R bytes) → MatchOption found A P → MatchOption found B Q → MatchOption found C R
there_both None A B C P Q R f h p q = f p q
there_both (Some bytes) A B C P Q R f h p q = h bytes p q

-- what two calls keep, both keep
pub Keeps-more : (a b c : FilesView) → Keeps a b → Keeps b c → Keeps a c
Keeps-more a b c h k = record { contents = k.contents ∙ h.contents; faults = omega arith; misses = omega arith }

-- two facts of a known file give a third
pub ForFile-both : (files : Option FileMap) (name : List ℕ) (A B C : Type 0) (P Q R : List ℕ → Type 0) → (A → B → C) → ((bytes : List ℕ) → P bytes → Q bytes → R bytes) → ForFile files name A P → ForFile files name B Q → ForFile files name C R
ForFile-both None name A B C P Q R f h p q = tt
ForFile-both (Some files) name A B C P Q R f h p q = there_both (get files name) A B C P Q R f h p q

-- a piece's first bytes add their count
pub length-more : (n : ℕ) (whole now buffer : List ℕ) → n ≤ length buffer → now ≡ whole ++ take n buffer → length now ≡ length whole + n
length-more n whole now buffer h e =
    ap length e ∙ (length-append whole (take n buffer) ∙ ap (λ m. length whole + m) (length-take-le n buffer h))

-- one more piece
pub is_front-more : (limit room n : ℕ) (whole now buffer bytes : List ℕ) → n ≤ room → room ≤ limit → now ≡ whole ++ take n buffer → whole ≡ take (limit - room) bytes → ReadsAt bytes (limit - room) buffer n → now ≡ take (limit - (room - n)) bytes
is_front-more limit room n whole now buffer bytes h k e w r =
    let at : limit - (room - n) ≡ (limit - room) + n = omega arith in
    rw (at, take-add (limit - room) n bytes, ← w, ← r.same) e
