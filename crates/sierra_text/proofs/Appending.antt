-- Texts that are made by appending one piece after another.
use Rattle.std.proofs.Common.{◌≡◌, ℕ, List, ◌++◌, if◌then◌else◌, Result, Ok, Err, append_assoc}
use Rattle.std.specs.Prelude.{OnOk, is_ok}

-- four pieces, and one by a last call
pub five_pieces : {T E : Type 0} (result : Result T E) (before first second third fourth after one two three four five : List ℕ) → first ≡ before ++ one → second ≡ first ++ two
    → third ≡ second ++ three → fourth ≡ third ++ four → after ≡ (if is_ok result then fourth ++ five else fourth)
    → OnOk result (after ≡ before ++ (one ++ (two ++ (three ++ (four ++ five)))))
five_pieces (Ok unit) before first second third fourth after one two three four five a b c d e = rw (e, d, c, b, a) (simp append_assoc)
five_pieces (Err fault) before first second third fourth after one two three four five a b c d e = tt
