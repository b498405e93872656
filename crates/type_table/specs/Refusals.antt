-- Refusals: each rule once, and which refusal of a program is the first.
use Rattle.std.specs.Prelude.{ℕ, ◌≡◌, ◌<◌, ◌⊎◌, List, ◌++◌, map, Option, Some, None, slice_get, filter_map, Contains, false}
use Rattle.graph_cycles.specs.Graph.{OnCycle}
use Rattle.type_trees.specs.Ty.{Ty, range_check, gas_builtin, storable}
use Rattle.sierra_types.specs.declared.program.Program.{Program}
use Rattle.sierra_types.specs.declared.program.TypeDecl.{TypeDecl}
use Rattle.sierra_types.specs.declared.program.LibfuncDecl.{LibfuncDecl}
use Rattle.sierra_types.specs.declared.program.Function.{Function}
use Rattle.sierra_types.specs.declared.program.Arg.{Arg}
use Rattle.sierra_types.specs.declared.program.Arg.TheVariants.{OfType, User, Callee, Number}
use Rattle.type_table.specs.declared.fault.TypeFault.{TypeFault}
use Rattle.type_table.specs.declared.fault.TypeFault.TheVariants as faults
use Rattle.type_table.specs.declared.rules.TypeRule.{TypeRule}
use Rattle.type_table.specs.declared.rules.TypeRule.TheVariants as rules
use Rattle.type_table.specs.Naming.{IsDeclared, ids_of, place_of}
use Rattle.type_table.specs.Generics.{IsGeneric, Fits}
use Rattle.type_table.specs.Trees.{IsAllowed}
use Rattle.type_table.specs.IsType.{InfoFits, IsWithin, IsRepeated, HasArgs, IsType}

-- ---- names

-- the type that an argument names
abbrev pub named_type : Arg → Option (List ℕ)
named_type (OfType id) = Some id
named_type (User name) = None
named_type (Callee id) = None
named_type (Number negative size) = None

-- the types that arguments name, in order
abbrev pub named_types : List Arg → List (List ℕ)
named_types args = filter_map named_type args

-- the first of these ids that isn't that of a declared type
pub record IsFirstUnknown (ds : List TypeDecl) (ids : List (List ℕ)) (id : List ℕ) : Type 0 where
  pub at : ℕ
  pub here : slice_get ids at ≡ Some id
  pub unknown : IsDeclared ds id → ⊥
  pub known_before : (j : ℕ) (other : List ℕ) → j < at → slice_get ids j ≡ Some other → IsDeclared ds other

-- of the generic name and the types that the arguments name, the first in the text that isn't known
abbrev pub IsUnknownName : List TypeDecl → TypeDecl → List ℕ → Type 0
IsUnknownName ds d name =
    ((IsGeneric d.generic → ⊥) × (name ≡ d.generic))
    ⊎ (IsGeneric d.generic × IsFirstUnknown ds (named_types d.args) name)

-- ---- types

-- the positions of the types that each declaration's arguments name
abbrev pub positions_of : List TypeDecl → List (List ℕ) → List ℕ
positions_of ds ids = filter_map (place_of (ids_of ds)) ids

abbrev pub arguments : List TypeDecl → List (List ℕ)
arguments ds = map (λ d. positions_of ds (named_types d.args)) ds

-- the number of the answer where the rule is broken
abbrev pub type_answer : TypeRule → ℕ
type_answer rules.NamesKnown = 10
type_answer rules.ArgumentsFit = 12
type_answer rules.InfoFits = 13
type_answer rules.NoCycle = 15
type_answer rules.WithinLimits = 16
type_answer rules.DeclaredOnce = 17

-- Declaration d, at position i, breaks the rule. Where its arguments make no type, since it reaches itself or a refused
-- type, nothing is asked of sizes, abilities and dictionaries, nor of limits.
abbrev pub BreaksType : List TypeDecl → ℕ → TypeDecl → TypeRule → TypeFault → Type 0
BreaksType ds i d rules.NamesKnown fault = (name : List ℕ) × IsUnknownName ds d name × (fault ≡ faults.UnknownType name)
BreaksType ds i d rules.ArgumentsFit fault =
    ((Fits ds d.generic d.args → ⊥) ⊎ ((ty : Ty) × HasArgs ds ty d × (IsAllowed ty → ⊥))) × (fault ≡ faults.BadArgs d.id)
BreaksType ds i d rules.InfoFits fault = (ty : Ty) × HasArgs ds ty d × (InfoFits d.info ty → ⊥) × (fault ≡ faults.TypeInfoDiffers d.id)
BreaksType ds i d rules.NoCycle fault = OnCycle (arguments ds) i × (fault ≡ faults.TypeCycle d.id)
BreaksType ds i d rules.WithinLimits fault = (ty : Ty) × HasArgs ds ty d × (IsWithin d ty → ⊥) × (fault ≡ faults.SizeAbove d.id)
BreaksType ds i d rules.DeclaredOnce fault = IsRepeated ds i d × (fault ≡ faults.Duplicate d.id)

-- ---- libfuncs and functions

-- an id before position i is this one
abbrev pub IsRepeatedId : List (List ℕ) → ℕ → List ℕ → Type 0
IsRepeatedId ids i id = (j : ℕ) × (j < i) × (slice_get ids j ≡ Some id)

-- the ids of a function's parameters' types, in order
abbrev pub parameter_types : Function → List (List ℕ)
parameter_types f = map (λ param. param.1) f.params

-- two of these types are one builtin
abbrev pub HasOneBuiltinTwice : List TypeDecl → List (List ℕ) → Type 0
HasOneBuiltinTwice ds ids =
    (ty : Ty) × (j k : ℕ) × (a b : List ℕ) × ((ty ≡ range_check) ⊎ (ty ≡ gas_builtin)) × (j < k)
    × (slice_get ids j ≡ Some a) × IsType ds ty a × (slice_get ids k ≡ Some b) × IsType ds ty b

-- one of these types can't be stored
abbrev pub HasUnstorable : List TypeDecl → List (List ℕ) → Type 0
HasUnstorable ds ids = (ty : Ty) × (id : List ℕ) × Contains ids id × IsType ds ty id × (storable ty ≡ false)

-- two parameters are one variable
abbrev pub HasOneVariableTwice : List (ℕ × List ℕ) → Type 0
HasOneVariableTwice params =
    (j k : ℕ) × (a b : ℕ × List ℕ) × (j < k) × (slice_get params j ≡ Some a) × (slice_get params k ≡ Some b) × (a.0 ≡ b.0)

pub data FunctionRule : Type 0 where
  types_known : FunctionRule
  named_once : FunctionRule
  well_formed : FunctionRule

abbrev pub function_answer : FunctionRule → ℕ
function_answer types_known = 10
function_answer named_once = 17
function_answer well_formed = 18

-- function f, at position i, breaks the rule
abbrev pub BreaksFunction : Program → ℕ → Function → FunctionRule → TypeFault → Type 0
BreaksFunction p i f types_known fault = (name : List ℕ) × IsFirstUnknown p.types (parameter_types f ++ f.results) name × (fault ≡ faults.UnknownType name)
BreaksFunction p i f named_once fault = IsRepeatedId (map (λ g. g.id) p.functions) i f.id × (fault ≡ faults.Duplicate f.id)
BreaksFunction p i f well_formed fault =
    (HasOneBuiltinTwice p.types (parameter_types f) ⊎ HasOneBuiltinTwice p.types f.results
    ⊎ HasUnstorable p.types (parameter_types f) ⊎ HasUnstorable p.types f.results ⊎ HasOneVariableTwice f.params)
    × (fault ≡ faults.FunctionType f.id)

-- ---- the first of a program

-- a rule that a declaration, at its position among those of its kind, may break
pub data Spot : Type 0 where
  in_type : ℕ → TypeRule → Spot
  in_libfunc : ℕ → Spot
  in_function : ℕ → FunctionRule → Spot

abbrev pub Breaks : Program → Spot → TypeFault → Type 0
Breaks p (in_type i rule) fault = (d : TypeDecl) × (slice_get p.types i ≡ Some d) × BreaksType p.types i d rule fault
Breaks p (in_libfunc i) fault =
    (d : LibfuncDecl) × (slice_get p.libfuncs i ≡ Some d) × IsRepeatedId (map (λ e. e.id) p.libfuncs) i d.id × (fault ≡ faults.Duplicate d.id)
Breaks p (in_function i rule) fault = (f : Function) × (slice_get p.functions i ≡ Some f) × BreaksFunction p i f rule fault

-- types come first, then libfuncs, then functions, each in declared order; within one declaration the lowest number
abbrev pub ComesBefore : Spot → Spot → Type 0
ComesBefore (in_type i rule) (in_type j other) = (i < j) ⊎ ((i ≡ j) × (type_answer rule < type_answer other))
ComesBefore (in_type i rule) (in_libfunc j) = Unit {0}
ComesBefore (in_type i rule) (in_function j other) = Unit {0}
ComesBefore (in_libfunc i) (in_type j other) = ⊥
ComesBefore (in_libfunc i) (in_libfunc j) = i < j
ComesBefore (in_libfunc i) (in_function j other) = Unit {0}
ComesBefore (in_function i rule) (in_type j other) = ⊥
ComesBefore (in_function i rule) (in_libfunc j) = ⊥
ComesBefore (in_function i rule) (in_function j other) = (i < j) ⊎ ((i ≡ j) × (function_answer rule < function_answer other))

-- the first rule that the program breaks has this fault
pub record FirstFault (p : Program) (fault : TypeFault) : Type 0 where
  pub spot : Spot
  pub breaks : Breaks p spot fault
  pub none_before : (other : Spot) (earlier : TypeFault) → Breaks p other earlier → ComesBefore other spot → ⊥
