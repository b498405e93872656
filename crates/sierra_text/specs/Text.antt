-- The text of a program: a relation between trees and bytes, by cases on the forms of declarations. Blanks may stand
-- between any two tokens, and before the first.
use Rattle.std.specs.Prelude.{◌≡◌, ◌≢◌, ◌⊎◌, ℕ, ◌^◌, List, [], ◌∷◌, ◌++◌, Bool, true, false, ◌==◌, Option, None, Some, codes}
use Rattle.byte_reading.specs.Decimal.{decimal_text}
use Rattle.text_reading.specs.Tokens.{Form, ◌then◌, Blanks, NoneNext, Mark, Word, Number}
use Rattle.sierra_types.specs.declared.program.Program.{Program}
use Rattle.sierra_types.specs.declared.program.TypeDecl.{TypeDecl}
use Rattle.sierra_types.specs.declared.program.LibfuncDecl.{LibfuncDecl}
use Rattle.sierra_types.specs.declared.program.Arg.{Arg}
use Rattle.sierra_types.specs.declared.program.Arg.TheVariants as args
use Rattle.sierra_types.specs.declared.program.Info.{Info}
use Rattle.sierra_types.specs.declared.program.Statement.{Statement}
use Rattle.sierra_types.specs.declared.program.Statement.TheVariants as statements
use Rattle.sierra_types.specs.declared.program.Branch.{Branch}
use Rattle.sierra_types.specs.declared.program.Target.{Target}
use Rattle.sierra_types.specs.declared.program.Target.TheVariants as targets
use Rattle.sierra_types.specs.declared.program.Function.{Function}
use Rattle.sierra_text.specs.Ids.{is_reserved, WordText, Label, Reserved}

-- The numbers that may stand in a text: arguments and numbered ids below the first limit; variables, targets and
-- entries below the second. `None` is no limit.
pub record Limits : Type 0 where
  pub number : Option ℕ
  pub position : Option ℕ

abbrev pub standard : Limits
standard = record { number = Some (2 ^ 128); position = Some (2 ^ 64) }

abbrev pub unlimited : Limits
unlimited = record { number = None; position = None }

-- nothing, where this byte isn't next
abbrev pub Without : ℕ → Form
Without byte text rest = (text ≡ rest) × NoneNext (λ next. next == byte) text

-- what is behind an item of a list: the list's end, or what separates items, and one more
abbrev pub BehindItem : {A : Type 0} → Form → Form → (A → Form) → List A → Form
BehindItem separator end item [] = end
BehindItem separator end item (x ∷ xs) = separator then item x then BehindItem separator end item xs

-- one item or more, and the end
abbrev pub OneOrMore : {A : Type 0} → Form → Form → (A → Form) → List A → Form
OneOrMore separator end item [] text rest = ⊥
OneOrMore separator end item (x ∷ xs) text rest = (item x then BehindItem separator end item xs) text rest

-- any number of items, and the end
abbrev pub AnyNumber : {A : Type 0} → Form → Form → (A → Form) → List A → Form
AnyNumber separator end item [] = end
AnyNumber separator end item (x ∷ xs) = item x then BehindItem separator end item xs

-- items in `(` and `)`, with `,` between them
abbrev pub InParentheses : {A : Type 0} → (A → Form) → List A → Form
InParentheses item xs = Mark (codes "(") then AnyNumber (Mark (codes ",")) (Mark (codes ")")) item xs

-- items one after another
abbrev pub Each : {A : Type 0} → (A → Form) → List A → Form
Each item [] text rest = text ≡ rest
Each item (x ∷ xs) text rest = (item x then Each item xs) text rest

-- a word, and the blanks behind it
abbrev pub AnyWord : List ℕ → Form
AnyWord word = WordText word then Blanks

-- the id `[n]`
abbrev pub numbered : ℕ → List ℕ
numbered n = 91 ∷ (decimal_text n ++ 93 ∷ [])

abbrev pub BoolText : Bool → Form
BoolText true = Word (codes "true")
BoolText false = Word (codes "false")

-- the text doesn't begin so
abbrev pub BeginsNot : List ℕ → List ℕ → Type 0
BeginsNot bytes text = (rest : List ℕ) → text ≢ bytes ++ rest

-- a label other than the reserved words
abbrev pub LabelId : List ℕ → Form
LabelId name text rest = (is_reserved name ≡ false) × (Label name then Blanks) text rest

abbrev pub Ability : List ℕ → Bool → Form
Ability word value = Word word then Mark (codes ":") then BoolText value

-- `[storable: B, drop: B, dup: B, zero_sized: B]`
abbrev pub InfoText : Info → Form
InfoText info =
    Mark (codes "[") then Ability (codes "storable") info.storable then Mark (codes ",") then Ability (codes "drop") info.drop then Mark (codes ",")
    then Ability (codes "dup") info.dup then Mark (codes ",") then Ability (codes "zero_sized") info.zero_sized then Mark (codes "]")

abbrev pub InfoOrNothing : Option Info → Form
InfoOrNothing None = Without 91
InfoOrNothing (Some info) = InfoText info

module _ (limits : Limits) where
  -- `[` number `]`, which is compared by its number
  abbrev pub NumberedId : List ℕ → Form
  NumberedId name text rest = (n : ℕ) × (name ≡ numbered n) × (Mark (codes "[") then Number limits.number n then Mark (codes "]")) text rest

  abbrev pub Id : List ℕ → Form
  Id name text rest = LabelId name text rest ⊎ NumberedId name text rest

  -- `-` and a number other than 0
  abbrev pub Negative : ℕ → Form
  Negative n text rest = (n ≢ 0) × (Mark (codes "-") then Number limits.number n) text rest

  -- `ut@` and `user@` are one mark each, so no id stands there
  abbrev pub ArgText : Arg → Form
  ArgText (args.OfType name) text rest = Id name text rest × BeginsNot (codes "ut@") text × BeginsNot (codes "user@") text
  ArgText (args.User name) text rest = (Mark (codes "ut@") then Id name) text rest
  ArgText (args.Callee name) text rest = (Mark (codes "user@") then Id name) text rest
  ArgText (args.Number false n) text rest = Number limits.number n text rest
  ArgText (args.Number true n) text rest = Negative n text rest

  -- `<` args `>`, or nothing
  abbrev pub Args : List Arg → Form
  Args [] = Without 60
  Args (arg ∷ more) = Mark (codes "<") then OneOrMore (Mark (codes ",")) (Mark (codes ">")) ArgText (arg ∷ more)

  -- `id = word<args>`
  abbrev pub Declared : List ℕ → List ℕ → List Arg → Form
  Declared id generic args = Id id then Mark (codes "=") then AnyWord generic then Args args

  abbrev pub TypeText : TypeDecl → Form
  TypeText decl = (Reserved (codes "type") then Blanks) then Declared decl.id decl.generic decl.args then InfoOrNothing decl.info then Mark (codes ";")

  abbrev pub LibfuncText : LibfuncDecl → Form
  LibfuncText decl = (Reserved (codes "libfunc") then Blanks) then Declared decl.id decl.generic decl.args then Mark (codes ";")

  abbrev pub Var : ℕ → Form
  Var n = Mark (codes "[") then Number limits.position n then Mark (codes "]")

  abbrev pub TargetText : Target → Form
  TargetText targets.Fallthrough = Word (codes "fallthrough")
  TargetText (targets.To statement) = Number limits.position statement

  abbrev pub BranchText : Branch → Form
  BranchText branch = TargetText branch.target then InParentheses Var branch.results

  -- `-> ( vars )` is one `fallthrough` branch
  abbrev pub Arrow : List Branch → Form
  Arrow branches text rest =
      (results : List ℕ) × (branches ≡ record { target = targets.Fallthrough; results = results } ∷ []) × (Mark (codes "->") then InParentheses Var results) text rest

  abbrev pub Branches : List Branch → Form
  Branches branches text rest =
      Arrow branches text rest ⊎ (Mark (codes "{") then OneOrMore (λ text rest. text ≡ rest) (Mark (codes "}")) BranchText branches) text rest

  abbrev pub StatementText : Statement → Form
  StatementText (statements.Invoke libfunc args branches) = Id libfunc then InParentheses Var args then Branches branches then Mark (codes ";")
  StatementText (statements.Return args) = (Reserved (codes "return") then Blanks) then InParentheses Var args then Mark (codes ";")

  -- a variable and its type
  abbrev pub Param : ℕ × List ℕ → Form
  Param param = Var param.0 then Mark (codes ":") then Id param.1

  abbrev pub FunctionText : Function → Form
  FunctionText function =
      Id function.id then Mark (codes "@") then Number limits.position function.entry then InParentheses Param function.params
      then Mark (codes "->") then InParentheses Id function.results then Mark (codes ";")

  -- the text of a program: its four parts, each possibly empty
  abbrev pub Text : Program → List ℕ → Type 0
  Text program text =
      (Blanks then Each TypeText program.types then Each LibfuncText program.libfuncs then Each StatementText program.statements then Each FunctionText program.functions) text []
