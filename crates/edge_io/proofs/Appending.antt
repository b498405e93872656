-- What two writes append one after another.
use Rattle.std.proofs.Common.{ℕ, ◌≡◌, ◌+◌, ◌≤◌, List, length, take, drop, Option, Some, None, append_assoc, arith}
use Rattle.std.specs.List.{between}
use Rattle.std.proofs.lemmas.List.{length-drop}
use Rattle.std.proofs.lemmas.Slice.{between_to_end}
use Rattle.std.proofs.Math.Seq.{take-add}
use Rattle.edge_io.specs.Sinks.{Appends}

-- the rest of the bytes, as code cuts it
rest_is : (n : ℕ) (xs : List ℕ) → between n (length xs) xs ≡ drop n xs
rest_is n xs = between_to_end xs n (length xs) (omega arith)

-- a prefix of the rest is no longer than the rest
pub le_length-of_rest : (n m : ℕ) (xs : List ℕ) → n ≤ length xs → m ≤ length (between n (length xs) xs) → n + m ≤ length xs
le_length-of_rest n m xs h k =
    let e : m ≤ length (drop n xs) = rw (rest_is n xs) at k in omega (arith, length-drop n xs)

-- a prefix, and then a prefix of the rest
pub Appends-take-more : (a b c : Option (List ℕ)) (n m : ℕ) (xs : List ℕ) → Appends a b (take n xs) → Appends b c (take m (between n (length xs) xs)) → Appends a c (take (n + m) xs)
Appends-take-more a b None n m xs h k = tt
Appends-take-more a None (Some z) n m xs h k = absurd k
Appends-take-more None (Some y) (Some z) n m xs h k = absurd h
Appends-take-more (Some x) (Some y) (Some z) n m xs h k =
    rw (take-add n m xs, ← append_assoc x (take n xs) (take m (drop n xs)), ← h, ← rest_is n xs) k
