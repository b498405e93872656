-- What is found of all declarations.
use Rattle.std.specs.Prelude.{ℕ, ◌≡◌, ◌<◌, List, length, Option, Some, None, slice_get, slice_index, slice_index_or, if◌then◌else◌, nat_lt}
use Rattle.sierra_types.specs.declared.program.TypeDecl.{TypeDecl}
use Rattle.type_table.specs.declared.judging.Broken.{Broken}
use Rattle.type_table.specs.declared.outcome.Known.{Known}
use Rattle.type_table.specs.declared.outcome.Outcome.{Outcome}
use Rattle.type_table.specs.declared.outcome.Outcome.TheVariants as outcomes
use Rattle.type_table.specs.declared.rules.TypeRule.{TypeRule}
use Rattle.type_table.specs.Found.{IsKnownAt, IsRightAt, BreaksFirst, BreaksNone}

abbrev pub known_of : Outcome → Option Known
known_of (outcomes.Type known) = Some known
known_of outcomes.Hidden = None
known_of (outcomes.Broken rule) = None

-- the earlier of the first broken rule so far and this one
abbrev pub earlier : Option Broken → ℕ → TypeRule → Option Broken
earlier None i rule = Some (record { position = i; rule = rule })
earlier (Some first) i rule = if nat_lt first.position i then Some first else Some (record { position = i; rule = rule })

abbrev pub first_after : Option Broken → ℕ → Outcome → Option Broken
first_after first i (outcomes.Type known) = first
first_after first i outcomes.Hidden = first
first_after first i (outcomes.Broken rule) = earlier first i rule

-- before the first broken rule, if there is one
abbrev pub ComesBefore : ℕ → Option Broken → Type 0
ComesBefore i None = Unit {0}
ComesBefore i (Some first) = i < first.position

module _ (ds : List TypeDecl) where
  -- the type of each declaration is known, or this is the first rule that is broken
  abbrev pub AreJudged : Option Broken → List (Option Known) → Type 0
  AreJudged None known = (length known ≡ length ds) × ((i : ℕ) → i < length ds → (k : Known) × (slice_index_or known i None ≡ Some k) × IsKnownAt ds i k)
  AreJudged (Some first) known = (d : TypeDecl) × (slice_get ds first.position ≡ Some d) × BreaksFirst ds first.position d first.rule
      × ((i : ℕ) (e : TypeDecl) → i < first.position → slice_get ds i ≡ Some e → BreaksNone ds i e)

  -- the rule is broken there, if there is one; else the types of the first m of the order are known
  abbrev pub IsFirstSoFar : List ℕ → ℕ → List (Option Known) → Option Broken → Type 0
  IsFirstSoFar order m known None = (j : ℕ) → j < m → (k : Known) × (slice_index_or known (slice_index order j) None ≡ Some k)
  IsFirstSoFar order m known (Some first) = (d : TypeDecl) × (slice_get ds first.position ≡ Some d) × BreaksFirst ds first.position d first.rule

  -- the first m of the order are judged
  pub record AreJudgedSoFar (order : List ℕ) (m : ℕ) (known : List (Option Known)) (first : Option Broken) : Type 0 where
    pub each : length known ≡ length ds
    pub right : (j : ℕ) → j < m → IsRightAt ds (slice_index order j) (slice_index_or known (slice_index order j) None)
    pub clean : (j : ℕ) (d : TypeDecl) → j < m → slice_get ds (slice_index order j) ≡ Some d → ComesBefore (slice_index order j) first → BreaksNone ds (slice_index order j) d
    pub broken : IsFirstSoFar order m known first
