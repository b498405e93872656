-- Rows kept as one list of items, row after row, and where each row ends.
use Rattle.std.specs.Prelude.{◌≡◌, ℕ, ◌≤◌, List, [], ◌∷◌, slice_range}

-- the items of each row, where the first row starts here
abbrev pub rows : {A : Type 0} → ℕ → List ℕ → List A → List (List A)
rows start [] items = []
rows start (end ∷ ends) items = slice_range items start end ∷ rows end ends items

-- No row ends before it starts, and the last one ends where all end.
abbrev pub EndAt : ℕ → List ℕ → ℕ → Type 0
EndAt start [] total = start ≡ total
EndAt start (end ∷ ends) total = (start ≤ end) × EndAt end ends total
