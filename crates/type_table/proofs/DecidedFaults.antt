-- A program's first fault is one: two spots of which neither comes first are one, and one spot has one fault.
use Rattle.std.proofs.Common.{◌≡◌, ◌⊎◌, inl, inr, ℕ, ◌<◌, ◌==◌, if◌then◌else◌, Bool, true, false, true≢false, List, ◌++◌, slice_get, refl, ap, sym, subst, ◌∙◌}
use Rattle.std.proofs.lemmas.Bool.{cases_order}
use Rattle.sierra_types.specs.declared.program.Program.{Program}
use Rattle.sierra_types.specs.declared.program.TypeDecl.{TypeDecl}
use Rattle.sierra_types.specs.declared.program.Function.{Function}
use Rattle.type_table.specs.declared.fault.TypeFault.{TypeFault}
use Rattle.type_table.specs.declared.fault.TypeFault.TheVariants as faults
use Rattle.type_table.specs.declared.rules.TypeRule.{TypeRule}
use Rattle.type_table.specs.declared.rules.TypeRule.TheVariants as rules
use Rattle.type_table.specs.Refusals.{named_types, parameter_types, IsFirstUnknown, IsUnknownName, type_answer, FunctionRule, types_known, named_once, well_formed, function_answer, BreaksType, BreaksFunction, Spot, in_type, in_libfunc, in_function, Breaks, ComesBefore, FirstFault}
use Rattle.type_table.proofs.Plain.{some_is}

-- the first of ids that isn't declared is one
one_unknown : (ds : List TypeDecl) (ids : List (List ℕ)) (a b : List ℕ) → IsFirstUnknown ds ids a → IsFirstUnknown ds ids b → a ≡ b
one_unknown ds ids a b x y = by (cases_order x.at y.at)
  where
    by : (x.at ≡ y.at) ⊎ ((x.at < y.at) ⊎ (y.at < x.at)) → a ≡ b
    by (inl same) = some_is a b (sym x.here ∙ ap (slice_get ids) same ∙ y.here)
    by (inr (inl less)) = absurd (x.unknown (y.known_before x.at a less x.here))
    by (inr (inr less)) = absurd (y.unknown (x.known_before y.at b less y.here))

one_name : (ds : List TypeDecl) (d : TypeDecl) (a b : List ℕ) → IsUnknownName ds d a → IsUnknownName ds d b → a ≡ b
one_name ds d a b (inl x) (inl y) = x.1 ∙ sym y.1
one_name ds d a b (inl x) (inr y) = absurd (x.0 y.0)
one_name ds d a b (inr x) (inl y) = absurd (y.0 x.0)
one_name ds d a b (inr x) (inr y) = one_unknown ds (named_types d.args) a b x.1 y.1

-- a rule that is broken at one place has one fault
one_of_type : (ds : List TypeDecl) (i : ℕ) (d : TypeDecl) (rule : TypeRule) (a b : TypeFault) → BreaksType ds i d rule a → BreaksType ds i d rule b → a ≡ b
one_of_type ds i d rules.NamesKnown a b (m, x, p) (n, y, q) = p ∙ ap faults.UnknownType (one_name ds d m n x y) ∙ sym q
one_of_type ds i d rules.ArgumentsFit a b (x, p) (y, q) = p ∙ sym q
one_of_type ds i d rules.InfoFits a b (t, x, out, p) (u, y, off, q) = p ∙ sym q
one_of_type ds i d rules.NoCycle a b (x, p) (y, q) = p ∙ sym q
one_of_type ds i d rules.WithinLimits a b (t, x, out, p) (u, y, off, q) = p ∙ sym q
one_of_type ds i d rules.DeclaredOnce a b (x, p) (y, q) = p ∙ sym q

one_of_function : (p : Program) (i : ℕ) (f : Function) (rule : FunctionRule) (a b : TypeFault) → BreaksFunction p i f rule a → BreaksFunction p i f rule b → a ≡ b
one_of_function p i f types_known a b (m, x, r) (n, y, s) = r ∙ ap faults.UnknownType (one_unknown p.types (parameter_types f ++ f.results) m n x y) ∙ sym s
one_of_function p i f named_once a b (x, r) (y, s) = r ∙ sym s
one_of_function p i f well_formed a b (x, r) (y, s) = r ∙ sym s

one_at : (p : Program) (spot : Spot) (a b : TypeFault) → Breaks p spot a → Breaks p spot b → a ≡ b
one_at p (in_type i rule) a b (d, here, x) (e, there, y) =
    one_of_type p.types i e rule a b (subst (λ c. BreaksType p.types i c rule a) (some_is d e (sym here ∙ there)) x) y
one_at p (in_libfunc i) a b (d, here, x, is) (e, there, y, also) = is ∙ ap (λ c. faults.Duplicate c.id) (some_is d e (sym here ∙ there)) ∙ sym also
one_at p (in_function i rule) a b (f, here, x) (g, there, y) =
    one_of_function p i g rule a b (subst (λ c. BreaksFunction p i c rule a) (some_is f g (sym here ∙ there)) x) y

abbrev is_memory : TypeFault → Bool
is_memory faults.Memory = true
is_memory _ = false

type_memory : (ds : List TypeDecl) (i : ℕ) (d : TypeDecl) (rule : TypeRule) (fault : TypeFault) → BreaksType ds i d rule fault → is_memory fault ≡ false
type_memory ds i d rules.NamesKnown fault (name, x, is) = ap is_memory is
type_memory ds i d rules.ArgumentsFit fault (x, is) = ap is_memory is
type_memory ds i d rules.InfoFits fault (ty, x, out, is) = ap is_memory is
type_memory ds i d rules.NoCycle fault (x, is) = ap is_memory is
type_memory ds i d rules.WithinLimits fault (ty, x, out, is) = ap is_memory is
type_memory ds i d rules.DeclaredOnce fault (x, is) = ap is_memory is

function_memory : (p : Program) (i : ℕ) (f : Function) (rule : FunctionRule) (fault : TypeFault) → BreaksFunction p i f rule fault → is_memory fault ≡ false
function_memory p i f types_known fault (name, x, is) = ap is_memory is
function_memory p i f named_once fault (x, is) = ap is_memory is
function_memory p i f well_formed fault (x, is) = ap is_memory is

spot_memory : (p : Program) (spot : Spot) (fault : TypeFault) → Breaks p spot fault → is_memory fault ≡ false
spot_memory p (in_type i rule) fault (d, here, breaks) = type_memory p.types i d rule fault breaks
spot_memory p (in_libfunc i) fault (d, here, repeated, is) = ap is_memory is
spot_memory p (in_function i rule) fault (f, here, breaks) = function_memory p i f rule fault breaks

-- out of memory is no refusal
pub never_memory : (p : Program) → FirstFault p faults.Memory → ⊥
never_memory p first = true≢false (spot_memory p first.spot faults.Memory first.breaks)

-- of two rules one has the lower number, or they are one
abbrev Ordered : Spot → Spot → Type 0
Ordered s t = (s ≡ t) ⊎ (ComesBefore s t ⊎ ComesBefore t s)

abbrev rule_with : ℕ → TypeRule
rule_with answer =
    if answer == 10 then rules.NamesKnown else
    if answer == 12 then rules.ArgumentsFit else
    if answer == 13 then rules.InfoFits else
    if answer == 15 then rules.NoCycle else
    if answer == 16 then rules.WithinLimits else rules.DeclaredOnce

rule_is : (rule : TypeRule) → rule_with (type_answer rule) ≡ rule
rule_is rules.NamesKnown = refl
rule_is rules.ArgumentsFit = refl
rule_is rules.InfoFits = refl
rule_is rules.NoCycle = refl
rule_is rules.WithinLimits = refl
rule_is rules.DeclaredOnce = refl

abbrev function_rule_with : ℕ → FunctionRule
function_rule_with answer =
    if answer == 10 then types_known else
    if answer == 17 then named_once else well_formed

function_rule_is : (rule : FunctionRule) → function_rule_with (function_answer rule) ≡ rule
function_rule_is types_known = refl
function_rule_is named_once = refl
function_rule_is well_formed = refl

-- pairs of a position and a rule, the position first
ordered_pair : {R : Type 0} (answer : R → ℕ) (with_answer : ℕ → R) → ((r : R) → with_answer (answer r) ≡ r) → (spot : ℕ → R → Spot)
    → ((i j : ℕ) (r s : R) → (i < j) ⊎ ((i ≡ j) × (answer r < answer s)) → ComesBefore (spot i r) (spot j s))
    → (i j : ℕ) (r s : R) → (answer r ≡ answer s) ⊎ ((answer r < answer s) ⊎ (answer s < answer r)) → (i ≡ j) ⊎ ((i < j) ⊎ (j < i)) → Ordered (spot i r) (spot j s)
ordered_pair answer with_answer is spot before i j r s answers (inr (inl less)) = inr (inl (before i j r s (inl less)))
ordered_pair answer with_answer is spot before i j r s answers (inr (inr less)) = inr (inr (before j i s r (inl less)))
ordered_pair answer with_answer is spot before i j r s (inl equal) (inl same) = inl (ap (λ k. spot k r) same ∙ ap (spot j) (sym (is r) ∙ ap with_answer equal ∙ is s))
ordered_pair answer with_answer is spot before i j r s (inr (inl less)) (inl same) = inr (inl (before i j r s (inr (same, less))))
ordered_pair answer with_answer is spot before i j r s (inr (inr less)) (inl same) = inr (inr (before j i s r (inr (sym same, less))))

of_libfuncs : (i j : ℕ) → (i ≡ j) ⊎ ((i < j) ⊎ (j < i)) → Ordered (in_libfunc i) (in_libfunc j)
of_libfuncs i j (inl same) = inl (ap in_libfunc same)
of_libfuncs i j (inr less) = inr less

ordered : (s t : Spot) → Ordered s t
ordered (in_type i rule) (in_type j other) =
    ordered_pair type_answer rule_with rule_is in_type (λ a b r s less. less) i j rule other (cases_order (type_answer rule) (type_answer other)) (cases_order i j)
ordered (in_type i rule) (in_libfunc j) = inr (inl tt)
ordered (in_type i rule) (in_function j other) = inr (inl tt)
ordered (in_libfunc i) (in_type j other) = inr (inr tt)
ordered (in_libfunc i) (in_libfunc j) = of_libfuncs i j (cases_order i j)
ordered (in_libfunc i) (in_function j other) = inr (inl tt)
ordered (in_function i rule) (in_type j other) = inr (inr tt)
ordered (in_function i rule) (in_libfunc j) = inr (inr tt)
ordered (in_function i rule) (in_function j other) =
    ordered_pair function_answer function_rule_with function_rule_is in_function (λ a b r s less. less) i j rule other (cases_order (function_answer rule) (function_answer other)) (cases_order i j)

-- a program's first fault is one
pub one_fault : (p : Program) (a b : TypeFault) → FirstFault p a → FirstFault p b → a ≡ b
one_fault p a b x y = by (ordered x.spot y.spot)
  where
    by : Ordered x.spot y.spot → a ≡ b
    by (inl same) = one_at p y.spot a b (subst (λ s. Breaks p s a) same x.breaks) y.breaks
    by (inr (inl before)) = absurd (y.none_before x.spot a x.breaks before)
    by (inr (inr before)) = absurd (x.none_before y.spot b y.breaks before)
