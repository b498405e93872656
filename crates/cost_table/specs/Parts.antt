-- The terms of results as the code keeps them, in at most three parts.
use Rattle.std.specs.Prelude.{ℕ, ◌≡◌, ◌+◌, ◌<◌, ◌≤◌, ◌^◌, List, [], ◌∷◌, ◌++◌, Option, Some, None}
use Rattle.std.specs.Option.{option_map}
use Rattle.cell_terms.specs.declared.term.Slot.{Slot}
use Rattle.cell_terms.specs.declared.term.Slot.TheVariants as slots
use Rattle.cell_terms.specs.declared.term.Second.{Second}
use Rattle.cell_terms.specs.declared.term.Second.TheVariants as seconds
use Rattle.cell_terms.specs.declared.term.Term.{Term}
use Rattle.cell_terms.specs.declared.term.Term.TheVariants as terms
use Rattle.cost_table.specs.declared.part.Part.{Part}
use Rattle.cost_table.specs.declared.part.Part.TheVariants as part
use Rattle.cost_table.specs.declared.part.Parts.{Parts}
use Rattle.cost_table.specs.declared.part.Parts.TheVariants as parts
use Rattle.cost_table.specs.Terms.{run}

abbrev pub terms_in : Part → List Term
terms_in (part.One t) = t ∷ []
terms_in (part.Run t n) = run t n

abbrev pub all_terms : Parts → List Term
all_terms parts.Nothing = []
all_terms (parts.Single a) = terms_in a
all_terms (parts.Double a b) = terms_in a ++ terms_in b
all_terms (parts.Triple a b d) = terms_in a ++ (terms_in b ++ terms_in d)

-- more than any number of a term: with it, no offset passes 64 bits
abbrev pub wide : ℕ
wide = 2 ^ 62

abbrev pub IsSmallSlot : Slot → Type 0
IsSmallSlot (slots.Own k) = k < wide
IsSmallSlot (slots.Arg i) = Unit {0}
IsSmallSlot (slots.Frame k) = k < wide

abbrev pub IsSmallSecond : Second → Type 0
IsSmallSecond (seconds.Slot n) = IsSmallSlot n
IsSmallSecond (seconds.Number k) = Unit {0}

-- the numbers of the term are small
abbrev pub IsSmall : Term → Type 0
IsSmall (terms.Whole i) = Unit {0}
IsSmall (terms.Cell n) = IsSmallSlot n
IsSmall (terms.Behind n k) = IsSmallSlot n × (k < 2 ^ 15)
IsSmall (terms.Word k) = Unit {0}
IsSmall (terms.Add n o) = IsSmallSlot n × IsSmallSecond o
IsSmall (terms.Sub n o) = IsSmallSlot n × IsSmallSecond o
IsSmall (terms.Mul n o) = IsSmallSlot n × IsSmallSecond o

abbrev pub IsSmallRunSlot : Slot → ℕ → Type 0
IsSmallRunSlot (slots.Own k) n = k + n ≤ wide
IsSmallRunSlot (slots.Arg i) n = i + n ≤ wide
IsSmallRunSlot (slots.Frame k) n = k + n ≤ wide

-- so are those of the terms of a run
abbrev pub IsSmallRun : Term → ℕ → Type 0
IsSmallRun (terms.Whole i) n = i + n ≤ wide
IsSmallRun (terms.Cell s) n = IsSmallRunSlot s n
IsSmallRun (terms.Behind s k) n = IsSmallSlot s × (k + n ≤ 2 ^ 15)
IsSmallRun (terms.Word k) n = Unit {0}
IsSmallRun (terms.Add s o) n = IsSmallSlot s × IsSmallSecond o
IsSmallRun (terms.Sub s o) n = IsSmallSlot s × IsSmallSecond o
IsSmallRun (terms.Mul s o) n = IsSmallSlot s × IsSmallSecond o

abbrev pub IsSmallPart : Part → Type 0
IsSmallPart (part.One t) = IsSmall t
IsSmallPart (part.Run t n) = IsSmallRun t n

abbrev pub AreSmall : Parts → Type 0
AreSmall parts.Nothing = Unit {0}
AreSmall (parts.Single a) = IsSmallPart a
AreSmall (parts.Double a b) = IsSmallPart a × IsSmallPart b
AreSmall (parts.Triple a b d) = IsSmallPart a × IsSmallPart b × IsSmallPart d

abbrev pub AreSmallIfAny : Option Parts → Type 0
AreSmallIfAny (Some all) = AreSmall all
AreSmallIfAny None = Unit {0}

-- these are the parts of such terms, with small numbers, or none
pub record ArePartsOf (wanted : Option (List Term)) (told : Option Parts) : Type 0 where
  pub terms : option_map all_terms told ≡ wanted
  pub small : AreSmallIfAny told
