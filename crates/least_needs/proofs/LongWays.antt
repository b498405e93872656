-- A way of as many edges as there are nodes meets a node twice.
use Rattle.std.proofs.Common.{ℕ, zero, suc, ◌<◌, ◌≤◌, List, length, refl, sym, subst, arith}
use Rattle.graph_cycles.specs.Graph.{Way, OnCycle, IsClosed}
use Rattle.least_needs.proofs.Pigeonhole.{AreTwo, two_places}

-- the node of a way after so many edges
abbrev node_on : (g : List (List ℕ)) (j s t : ℕ) → Way g j s t → ℕ → ℕ
node_on g zero s t way i = s
node_on g (suc j) s t way zero = s
node_on g (suc j) s t way (suc i) = node_on g j way.0 t way.2 i

node_below : (g : List (List ℕ)) (j s t : ℕ) (way : Way g j s t) (i : ℕ) → IsClosed g → s < length g → node_on g j s t way i < length g
node_below g zero s t way i closed lt = lt
node_below g (suc j) s t way zero closed lt = lt
node_below g (suc j) s t way (suc i) closed lt = node_below g j way.0 t way.2 i closed (closed.targets s way.0 way.1)

way_to : (g : List (List ℕ)) (j s t : ℕ) (way : Way g j s t) (l : ℕ) → l ≤ j → Way g l s (node_on g j s t way l)
way_to g zero s t way zero le = refl
way_to g zero s t way (suc l) le = absurd (omega arith)
way_to g (suc j) s t way zero le = refl
way_to g (suc j) s t way (suc l) le = (way.0, way.1, way_to g j way.0 t way.2 l (omega arith))

way_between : (g : List (List ℕ)) (j s t : ℕ) (way : Way g j s t) (i l : ℕ) → i < l → l ≤ j → (m : ℕ) × Way g (suc m) (node_on g j s t way i) (node_on g j s t way l)
way_between g j s t way i zero lt le = absurd (omega arith)
way_between g zero s t way i (suc l) lt le = absurd (omega arith)
way_between g (suc j) s t way zero (suc l) lt le = (l, way_to g (suc j) s t way (suc l) le)
way_between g (suc j) s t way (suc i) (suc l) lt le = way_between g j way.0 t way.2 i l (omega arith) (omega arith)

pub long_way : (g : List (List ℕ)) (s t : ℕ) → IsClosed g → s < length g → Way g (length g) s t → (u : ℕ) × OnCycle g u
long_way g s t closed lt way =
    let f = λ (i : ℕ). node_on g (length g) s t way i in
    let two : AreTwo f (length g) = two_places (length g) f (λ i le. node_below g (length g) s t way i closed lt) in
    let back = way_between g (length g) s t way two.0 two.1 two.2 two.3 in
    (f two.0, (back.0, subst (λ u. Way g (suc back.0) (f two.0) u) (sym two.4) back.1))
