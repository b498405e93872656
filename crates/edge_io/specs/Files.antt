-- What files tell of themselves, and what a read answers, of files that are known and of files that aren't.
use Rattle.std.specs.Prelude.{ℕ, ◌≡◌, ◌≤◌, ◌⊎◌, ◌↔◌, List, length, take, drop, Option, Some, None, MatchOption}
use Rattle.std.specs.Ordering.{nat_cmp}
use Rattle.std.specs.Cmp.Lexicographic.{slice_cmp}
use Rattle.std.specs.FinMap.{FinMap, get}

-- a finite map from names to bytes
abbrev pub FileMap : Type 0
FileMap = FinMap (slice_cmp nat_cmp) (List ℕ)

-- What files tell of themselves: the bytes under each name, where they are known, how many reads have failed so far, and
-- how many have named no file.
pub record FilesView : Type 0 where
  pub contents : Option FileMap
  pub faults : ℕ
  pub misses : ℕ

-- the contents are unchanged, and no count falls
pub record Keeps (before now : FilesView) : Type 0 where
  pub contents : now.contents ≡ before.contents
  pub faults : before.faults ≤ now.faults
  pub misses : before.misses ≤ now.misses

-- Of a known map: absent where it lacks the name, and else there of the file's bytes. Of an unknown one nothing.
abbrev pub ForFile : Option FileMap → List ℕ → Type 0 → (List ℕ → Type 0) → Type 0
ForFile None name absent there = Unit {0}
ForFile (Some files) name absent there = MatchOption (get files name) absent there

-- the buffer begins with n bytes of the file from this place on, and n is 0 if and only if the buffer is empty or the end
-- is reached
pub record ReadsAt (bytes : List ℕ) (at : ℕ) (buffer : List ℕ) (n : ℕ) : Type 0 where
  pub same : take n buffer ≡ take n (drop at bytes)
  pub none : (n ≡ 0) ↔ ((length buffer ≡ 0) ⊎ (length bytes ≤ at))
