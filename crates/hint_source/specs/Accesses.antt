-- What is read off the list of a log's accesses: the key of each and the word that was written for it, the oldest first.
use Rattle.std.specs.Prelude.{ℕ, ◌+◌, ◌-◌, ◌==◌, List, reverse, drop, position, slice_get, Option, unwrap_or}
use Rattle.std.specs.Option.{option_map, option_map_or}
use Rattle.std.specs.Ordering.{nat_cmp}
use Rattle.std.specs.FinMap.{FinMap, from_entries, get, keys, len}

abbrev pub Accesses : Type 0
Accesses = List (ℕ × ℕ)

-- for each key the last word that was written: the first one that is found from the newest access back
abbrev pub last_words : Accesses → FinMap nat_cmp ℕ
last_words accesses = from_entries (reverse accesses)

-- the last word written for the key, or 0
abbrev pub last_word : Accesses → ℕ → ℕ
last_word accesses key = unwrap_or (get (last_words accesses) key) 0

-- the number of distinct keys
abbrev pub key_count : Accesses → ℕ
key_count accesses = len (last_words accesses)

-- the i-th smallest of the distinct keys, from 0
abbrev pub key_at : Accesses → ℕ → Option ℕ
key_at accesses i = slice_get (keys (last_words accesses)) i

-- the number of the first access of the key from the access number `start` on, accesses being numbered from 0
abbrev pub next_access : Accesses → ℕ → ℕ → Option ℕ
next_access accesses key start = option_map (λ n. start + n) (position (λ access. access.0 == key) (drop start accesses))

-- the number of the key's first access
abbrev pub first_access : Accesses → ℕ → Option ℕ
first_access accesses key = next_access accesses key 0

-- the distance from access `index` to the key's next one, 0 where there is none; a key without an access has none
abbrev pub distance_to_next : Accesses → ℕ → ℕ → Option ℕ
distance_to_next accesses key index = option_map
    (λ _. option_map_or (λ next. next - index) (next_access accesses key (index + 1)) 0)
    (first_access accesses key)
