-- The parts of a flow up to the first fault, and what a fault of a walk says.
use Rattle.std.specs.Prelude.{◌≡◌, ℕ, List, [], ◌∷◌, Option, Some, None, Result, Ok, Err}
use Rattle.statement_walk.specs.Rules.{Rules}
use Rattle.statement_walk.specs.Walk.{Stops}
use Rattle.statement_walk.specs.declared.rules.WalkFault.{WalkFault}
use Rattle.statement_walk.specs.declared.rules.WalkFault.TheVariants.{Rule, Memory}

-- these are the parts, up to the first fault if there is one
abbrev pub AreFirst : {E F : Type 0} → List (ℕ × E) → Option F → List (Result (ℕ × E) F) → Type 0
AreFirst [] None [] = Unit {0}
AreFirst [] None (part ∷ parts) = ⊥
AreFirst [] (Some x) [] = ⊥
AreFirst [] (Some x) (Ok p ∷ parts) = ⊥
AreFirst [] (Some x) (Err y ∷ parts) = x ≡ y
AreFirst (p ∷ ps) fault [] = ⊥
AreFirst (p ∷ ps) fault (Err y ∷ parts) = ⊥
AreFirst (p ∷ ps) fault (Ok q ∷ parts) = (p ≡ q) × AreFirst ps fault parts

-- the walk stops with this fault, or memory ran out
abbrev pub StopsWith : {E F : Type 0} → Rules E F → WalkFault F → Type 0
StopsWith r (Rule x) = Stops r (Err x)
StopsWith r Memory = Unit {0}
