-- A sorted list of entries, and the finite map that it is.
use Rattle.std.proofs.Common.{◌≡◌, ℕ, List, [], ◌∷◌, length, Option, Some, Bool, true, false, ◌&&◌, T, cond, Less, refl, sym, ap, ◌∙◌}
use Rattle.std.proofs.lemmas.Map.Lookups.{exact_unsigned}
use Rattle.std.specs.BTreeMap.{is_at}
use Rattle.std.specs.Cmp.{eq_by_cmp_equiv, nat_cmp_total}
use Rattle.std.specs.FinMap.{find, get, insert, len, entries, is_sorted, from_entries, from_sorted, get-from_entries, get-from_sorted, get-insert, entries-from_sorted, len-entries, same_map}
use Rattle.std.specs.FinMap.Entries.{below_all}
use Rattle.std.specs.List.{AllByRecursion}
use Rattle.std.specs.List.Sorted.{IsStrictlySortedBy}
use Rattle.std.specs.Map.{keys_of, lookup}
use Rattle.std.specs.Ordering.{nat_cmp}

abbrev pub word_at : List (ℕ × ℕ) → ℕ → Option ℕ
word_at es key = lookup (is_at (nat_cmp key)) es

find_word : (es : List (ℕ × ℕ)) (key : ℕ) → find nat_cmp key es ≡ word_at es key
find_word [] key = refl
find_word (e ∷ es) key = ap (cond (is_at (nat_cmp key) e.0) (Some e.1)) (find_word es key)

pub get_word : (es : List (ℕ × ℕ)) (key : ℕ) → get (from_entries {R = nat_cmp} es) key ≡ word_at es key
get_word es key = get-from_entries nat_cmp_total es key ∙ find_word es key

-- entries that differ at one key make maps that differ there
pub one_put : (es fs : List (ℕ × ℕ)) (key word : ℕ) → ((q : ℕ) → word_at fs q ≡ cond (is_at (nat_cmp key) q) (Some word) (word_at es q)) → from_entries {R = nat_cmp} fs ≡ insert (from_entries es) key word
one_put es fs key word h = same_map nat_cmp_total exact_unsigned _ _ (λ q.
    get_word fs q ∙ h q ∙ ap (λ b. cond b (Some word) (word_at es q)) ((eq_by_cmp_equiv nat_cmp_total).symm key q)
    ∙ sym (get-insert nat_cmp_total (from_entries es) key word q ∙ ap (cond (is_at (nat_cmp q) key) (Some word)) (get_word es q)))

below : (key : ℕ) (es : List (ℕ × ℕ)) → AllByRecursion (λ k. nat_cmp key k ≡ Less) (keys_of es) → T (below_all nat_cmp key es)
below key [] h = tt
below key (e ∷ es) h = rw h.0 (below key es h.1)

rising : (es : List (ℕ × ℕ)) → IsStrictlySortedBy nat_cmp (keys_of es) → T (is_sorted nat_cmp es)
unfolding IsStrictlySortedBy
rising [] h = tt
rising (e ∷ es) h = both (below_all nat_cmp e.0 es) (is_sorted nat_cmp es) (below e.0 es h.0) (rising es h.1)
  where
    both : (a b : Bool) → T a → T b → T (a && b)
    both true b p q = q
    both false b p q = p

-- the map of entries that rise has these entries
pub entries_back : (es : List (ℕ × ℕ)) → IsStrictlySortedBy nat_cmp (keys_of es) → entries (from_entries {R = nat_cmp} es) ≡ es
entries_back es h =
    let same : from_entries {R = nat_cmp} es ≡ from_sorted es = same_map nat_cmp_total exact_unsigned _ _ (λ q.
    get-from_entries nat_cmp_total es q ∙ sym (get-from_sorted nat_cmp es q (rising es h))) in
    ap entries same ∙ entries-from_sorted nat_cmp es (rising es h)

pub len_back : (es : List (ℕ × ℕ)) → IsStrictlySortedBy nat_cmp (keys_of es) → len (from_entries {R = nat_cmp} es) ≡ length es
len_back es h = len-entries (from_entries {R = nat_cmp} es) ∙ ap length (entries_back es h)
