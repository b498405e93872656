-- What is found of a declaration, as the code finds it.
use Rattle.std.specs.Prelude.{ℕ, ◌+◌, List, [], ◌∷◌, Bool, true, false, not, ◌&&◌, nat_lt, nat_le, length, option_map, if◌then◌else◌, Option, Some, None, slice_index_or}
use Rattle.sierra_types.specs.declared.program.TypeDecl.{TypeDecl}
use Rattle.type_table.specs.declared.facts.Facts.{Facts}
use Rattle.type_table.specs.declared.kind.TypeKind.{TypeKind}
use Rattle.type_table.specs.declared.outcome.Known.{Known}
use Rattle.type_table.specs.declared.outcome.Outcome.{Outcome}
use Rattle.type_table.specs.declared.outcome.Outcome.TheVariants as outcomes
use Rattle.type_table.specs.declared.rules.TypeRule.TheVariants as rules
use Rattle.type_table.specs.IsType.{most_cells, most_arguments, most_depth}
use Rattle.type_table.specs.Judging.{facts_given, is_allowed, info_fits}

abbrev pub is_within : ℕ → Facts → Bool
is_within arguments facts = nat_lt facts.size (most_cells + 1) && (nat_le arguments most_arguments && nat_lt facts.depth (most_depth + 1))

abbrev pub weighed : TypeDecl → TypeKind → List Facts → Outcome
weighed d kind parts =
    if not (is_allowed kind parts) then outcomes.Broken rules.ArgumentsFit else
    if not (info_fits d.info (facts_given kind parts)) then outcomes.Broken rules.InfoFits else
    if not (is_within (length d.args) (facts_given kind parts)) then outcomes.Broken rules.WithinLimits else
    outcomes.Type (record { kind = kind; facts = facts_given kind parts })

abbrev pub once : Bool → Outcome → Outcome
once true (outcomes.Type known) = outcomes.Broken rules.DeclaredOnce
once true outcomes.Hidden = outcomes.Broken rules.DeclaredOnce
once true (outcomes.Broken rule) = outcomes.Broken rule
once false outcome = outcome

abbrev pub weighed_parts : TypeDecl → TypeKind → Option (List Facts) → Outcome
weighed_parts d kind None = outcomes.Hidden
weighed_parts d kind (Some parts) = weighed d kind parts

abbrev pub found_of : TypeDecl → TypeKind → Option (List Facts) → Bool → Outcome
found_of d kind parts repeated = once repeated (weighed_parts d kind parts)

-- the facts of the type at a position, if one is known
abbrev pub facts_at : List (Option Known) → ℕ → Option Facts
facts_at known t = option_map (λ k. k.facts) (slice_index_or known t None)

abbrev pub with_first : Option Facts → Option (List Facts) → Option (List Facts)
with_first None parts = None
with_first (Some facts) parts = option_map (λ l. facts ∷ l) parts

-- the facts of the types at these positions, if all are known
abbrev pub parts_at : List (Option Known) → List ℕ → Option (List Facts)
parts_at known [] = Some []
parts_at known (t ∷ ts) = with_first (facts_at known t) (parts_at known ts)
