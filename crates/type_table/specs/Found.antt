-- What is found of a declaration is right.
use Rattle.std.specs.Prelude.{ℕ, ◌≡◌, ◌<◌, List, Option, Some, None, slice_index_or, Contains}
use Rattle.type_trees.specs.Ty.{Ty}
use Rattle.sierra_types.specs.declared.program.TypeDecl.{TypeDecl}
use Rattle.type_table.specs.declared.fault.TypeFault.{TypeFault}
use Rattle.type_table.specs.declared.outcome.Known.{Known}
use Rattle.type_table.specs.declared.outcome.Outcome.{Outcome}
use Rattle.type_table.specs.declared.outcome.Outcome.TheVariants as outcomes
use Rattle.type_table.specs.declared.rules.TypeRule.{TypeRule}
use Rattle.type_table.specs.Trees.{kind_of}
use Rattle.type_table.specs.Refusals.{BreaksType, type_answer}
use Rattle.type_table.specs.Rows.{IsTypeAt, targets}
use Rattle.type_table.specs.Facts.{facts_of}

-- what is known of the type at a position
pub record IsKnownAt (ds : List TypeDecl) (i : ℕ) (known : Known) : Type 0 where
  pub ty : Ty
  pub at : IsTypeAt ds ty i
  pub kind : known.kind ≡ kind_of ty
  pub facts : known.facts ≡ facts_of ty

-- a type is known at the position if there is one
abbrev pub IsRightAt : List TypeDecl → ℕ → Option Known → Type 0
IsRightAt ds i (Some known) = IsKnownAt ds i known
IsRightAt ds i None = (ty : Ty) → IsTypeAt ds ty i → ⊥

-- the declaration breaks this rule, and none with a lower number
pub record BreaksFirst (ds : List TypeDecl) (i : ℕ) (d : TypeDecl) (rule : TypeRule) : Type 0 where
  pub fault : TypeFault
  pub breaks : BreaksType ds i d rule fault
  pub none_lower : (other : TypeRule) (earlier : TypeFault) → type_answer other < type_answer rule → BreaksType ds i d other earlier → ⊥

abbrev pub BreaksNone : List TypeDecl → ℕ → TypeDecl → Type 0
BreaksNone ds i d = (rule : TypeRule) (fault : TypeFault) → BreaksType ds i d rule fault → ⊥

abbrev pub IsFoundOf : List TypeDecl → List (Option Known) → ℕ → TypeDecl → Outcome → Type 0
IsFoundOf ds known i d (outcomes.Type here) = IsKnownAt ds i here
IsFoundOf ds known i d outcomes.Hidden = BreaksNone ds i d × ((t : ℕ) × Contains (targets ds d) t × (slice_index_or known t None ≡ None))
IsFoundOf ds known i d (outcomes.Broken rule) = BreaksFirst ds i d rule
