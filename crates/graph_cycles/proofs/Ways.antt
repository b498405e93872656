-- Ways of a graph one after another, and cycles made of ways there and back.
use Rattle.std.proofs.Common.{◌≡◌, ◌≢◌, ℕ, zero, suc, ◌<◌, List, length, get_or, refl, sym, subst, ◌∙◌}
use Rattle.std.proofs.lemmas.List.{get_or_default}
use Rattle.graph_cycles.specs.Graph.{targets_of, Leads, Way, Reaches, OnCycle}

-- a target by its index, and the index of a target

pub leads_at : (g : List (List ℕ)) (s e : ℕ) → e < length (targets_of g s) → Leads g s (get_or (targets_of g s) e 0)
leads_at g s e lt = (e, lt, get_or_default (targets_of g s) e _ 0 lt)

pub index_of : (g : List (List ℕ)) (s t : ℕ) → Leads g s t → (e : ℕ) × (e < length (targets_of g s)) × (get_or (targets_of g s) e 0 ≡ t)
index_of g s t leads = (leads.0, leads.1, get_or_default (targets_of g s) leads.0 0 t leads.1 ∙ leads.2)

-- ways one after another

pub reaches_itself : (g : List (List ℕ)) (s : ℕ) → Reaches g s s
reaches_itself g s = (0, refl)

pub way_then : (g : List (List ℕ)) (j s t u : ℕ) → Way g j s t → Reaches g t u → Reaches g s u
way_then g zero s t u way on = subst (λ v. Reaches g v u) (sym way) on
way_then g (suc j) s t u way on =
    let rest = way_then g j way.0 t u way.2 on in
    (suc rest.0, (way.0, way.1, rest.1))

pub reaches_then : (g : List (List ℕ)) (s t u : ℕ) → Reaches g s t → Reaches g t u → Reaches g s u
reaches_then g s t u there on = way_then g there.0 s t u there.1 on

pub leads_then : (g : List (List ℕ)) (s t u : ℕ) → Leads g s t → Reaches g t u → Reaches g s u
leads_then g s t u leads on = (suc on.0, (t, leads, on.1))

-- cycles

pub cycle_through : (g : List (List ℕ)) (s t : ℕ) → Leads g s t → Reaches g t s → OnCycle g s
cycle_through g s t leads back = (back.0, (t, leads, back.1))

pub there_and_back : (g : List (List ℕ)) (s t : ℕ) → s ≢ t → Reaches g s t → Reaches g t s → OnCycle g s
there_and_back g s t apart there back = by_length there.0 there.1
  where
    by_length : (j : ℕ) → Way g j s t → OnCycle g s
    by_length zero way = absurd (apart way)
    by_length (suc j) way = cycle_through g s way.0 way.1 (way_then g j way.0 t s way.2 back)
