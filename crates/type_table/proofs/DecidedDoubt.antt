-- What can't be denied, and how one such thing follows from another. No case is chosen by it, so it is had for claims that no test decides.

-- that there is such a one can't be denied
abbrev pub Undeniable : Type 0 → Type 0
Undeniable A = (A → ⊥) → ⊥

pub sure : {A : Type 0} → A → Undeniable A
sure a denied = denied a

pub and_then : {A B : Type 0} → Undeniable A → (A → Undeniable B) → Undeniable B
and_then a next denied = a (λ x. next x denied)
