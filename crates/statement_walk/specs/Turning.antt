-- What the parts of a turn do to a trace, as the driver says it.
use Rattle.std.specs.Prelude.{◌≡◌, ℕ, ◌<◌, List, [], ◌∷◌, Option, Some, None, Result, Ok, Err}
use Rattle.std.specs.List.{AllByRecursion}
use Rattle.statement_walk.specs.Rules.{Rules}
use Rattle.statement_walk.specs.Walk.{Trace, go, stop, turn_of, after}
use Rattle.statement_walk.specs.declared.rules.WalkFault.{WalkFault}
use Rattle.statement_walk.specs.declared.rules.WalkFault.TheVariants.{Rule, Memory}

-- The work comes to this trace or to this fault, or memory runs out. `u` is the trace behind the work.
abbrev pub Comes : {E F : Type 0} → Result (Trace E) F → Result (Unit {0}) (WalkFault F) → Trace E → Type 0
Comes work (Ok done) u = work ≡ Ok u
Comes work (Err (Rule x)) u = work ≡ Err x
Comes work (Err Memory) u = Unit {0}

-- the parts that branches say, with their fault at the end
abbrev pub parts_of : {E F : Type 0} → List (ℕ × E) → Option F → List (Result (ℕ × E) F)
parts_of [] None = []
parts_of [] (Some x) = Err x ∷ []
parts_of (p ∷ ps) fault = Ok p ∷ parts_of ps fault

-- the targets are statements
abbrev pub AreInside : {E : Type 0} → ℕ → List (ℕ × E) → Type 0
AreInside size ps = AllByRecursion (λ p. p.0 < size) ps

-- a state that the walk comes to
abbrev pub IsState : {E F : Type 0} → Rules E F → Trace E → ℕ → Type 0
IsState r trace turn = (n : ℕ) × (after r n ≡ record { trace = trace; turn = turn })

-- The turn goes on to a state, or the walk stops with a fault, or memory runs out.
abbrev pub Turns : {E F : Type 0} → Rules E F → Trace E → ℕ → Result (Unit {0}) (WalkFault F) → Trace E → ℕ → Type 0
Turns r before turn (Ok done) later next = turn_of r (record { trace = before; turn = turn }) ≡ go (record { trace = later; turn = next })
Turns r before turn (Err (Rule x)) later next = turn_of r (record { trace = before; turn = turn }) ≡ stop (Err x)
Turns r before turn (Err Memory) later next = Unit {0}
