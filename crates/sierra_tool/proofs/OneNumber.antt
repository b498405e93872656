-- Inputs of one number of the field, as inputs of the form that is built, and main that takes one.
use Rattle.std.proofs.Common.{◌≡◌, ◌≢◌, ◌<◌, ◌^◌, ◌↔◌, ℕ, ◌++◌, List, [], ◌∷◌, length, Bool, true, false, refl, sym, ap, subst, ◌∙◌, arith}
use Rattle.std.specs.Prelude.{IsTrue, codes, decimal}
use Rattle.std.proofs.lemmas.List.{append-nil}
use Rattle.byte_reading.specs.Decimal.{decimal_text}
use Rattle.byte_reading.proofs.DecimalLaws.{decimal_is_decimal_text}
use Rattle.felt64.specs.Field.{modulus}
use Rattle.first_form.specs.declared.program.Program.{Program}
use Rattle.first_form.specs.declared.input.Input.{Input}
use Rattle.first_form.specs.Forms.{IsInput}
use Rattle.first_form.specs.Forms as forms
use Rattle.gas_solver.specs.Accepting.{AcceptedView}
use Rattle.type_table.specs.Trees.{kind_of}
use Rattle.type_table.specs.View.{TypesView, tree_of, trees_of}
use Rattle.type_table.specs.declared.type_id.TypeId.{TypeId}
use Rattle.type_trees.specs.Ty.{Ty, number, nonzero, range_check, gas_builtin, box, array, snapshot, struct, enum, dict, dict_entry, squashed_dict, uninitialized}
use Rattle.type_trees.specs.declared.num.Num.{Num}
use Rattle.type_trees.specs.declared.num.Num.TheVariants as nums
use Rattle.typed_values.specs.Inputs.{InputView, FitsMain, input_text}
use Rattle.value_trees.specs.Val as val
use Rattle.value_trees.specs.Val.{Plain}
use Rattle.sierra_tool.specs.Causes.{IsInputOf, TakesOneFelt}
use Rattle.sierra_tool.specs.OneNumber.{HasOneNumber, with_number, is_felt_kind, is_one_felt}

-- ---- Texts

twice_nothing : (xs : List ℕ) → (xs ++ []) ++ [] ≡ xs
twice_nothing xs = append-nil (xs ++ []) ∙ append-nil xs

same_texts : (gas argument : ℕ) (g n : List ℕ) → g ≡ decimal_text gas → n ≡ decimal_text argument
    → input_text (record { gas = gas; args = val.number nums.Felt64 argument ∷ [] }) ≡ forms.input_text g n
same_texts gas argument g n p q =
    ap (λ (t : List ℕ). codes "gas " ++ (decimal_text gas ++ (codes "\n" ++ t))) (twice_nothing (decimal_text argument ++ codes "\n"))
    ∙ ap (λ (t : List ℕ). codes "gas " ++ (t ++ (codes "\n" ++ (decimal_text argument ++ codes "\n")))) (sym p)
    ∙ ap (λ (t : List ℕ). codes "gas " ++ (g ++ (codes "\n" ++ (t ++ codes "\n")))) (sym q)

text_of_number : (input : Input) → input.gas < 2 ^ 32 → input.argument < modulus → input_text (with_number input) ≡ forms.input_text (decimal input.gas) (decimal input.argument)
text_of_number input gas argument =
    same_texts input.gas input.argument (decimal input.gas) (decimal input.argument) (decimal_is_decimal_text input.gas (omega arith)) (decimal_is_decimal_text input.argument (omega arith))

-- ---- The input of main that takes one number

same_args : (i : InputView) (v : Plain) (rest : List Plain) (n : ℕ) → i.args ≡ v ∷ rest → rest ≡ [] → v ≡ val.number nums.Felt64 n → i ≡ record { gas = i.gas; args = val.number nums.Felt64 n ∷ [] }
same_args i v rest n p q r =
    let args : i.args ≡ val.number nums.Felt64 n ∷ [] = cc in
    ap (λ (vs : List Plain). record { gas = i.gas; args = vs }) args

fits_one : (i : InputView) → FitsMain (number nums.Felt64 ∷ []) i → HasOneNumber i
fits_one i fits =
    let given = fits.args in
    let value = given.3 in
    record {
      number = record { gas = i.gas; argument = value.0 };
      gas_below = fits.gas;
      argument_below = value.2;
      is = same_args i given.0 given.1 value.0 given.2 given.4 value.1;
    }

one_fits : (input : Input) → input.gas < 2 ^ 32 → input.argument < modulus → FitsMain (number nums.Felt64 ∷ []) (with_number input)
one_fits input gas argument = record { gas = gas; args = (val.number nums.Felt64 input.argument, [], refl, (input.argument, refl, argument), refl) }

pub has_one_number : (a : AcceptedView) (text : List ℕ) (i : InputView) → TakesOneFelt a → IsInputOf a text i → HasOneNumber i
has_one_number a text i takes is = fits_one i (subst (λ (tys : List Ty). FitsMain tys i) takes is.0)

of_parts : (g h m n : ℕ) → g ≡ h → m ≡ n → ◌≡◌ {A = Input} (record { gas = g; argument = m }) (record { gas = h; argument = n })
of_parts g h m n p q = cc

abbrev number_in : Plain → ℕ
number_in (val.number k n) = n
number_in _ = 0

abbrev first_number : List Plain → ℕ
first_number [] = 0
first_number (v ∷ vs) = number_in v

same_number : (x y : Input) → with_number x ≡ with_number y → x ≡ y
same_number x y e = of_parts x.gas y.gas x.argument y.argument (ap (λ (i : InputView). i.gas) e) (ap (λ (i : InputView). first_number i.args) e)

-- an input of the program is one of the form, and the other way round
pub to_form : (a : AcceptedView) (program : Program) (text : List ℕ) (i : InputView) (input : Input) → TakesOneFelt a → IsInputOf a text i → i ≡ with_number input → IsInput program text input
to_form a program text i input takes is same =
    let one = has_one_number a text i takes is in
    let number : one.number ≡ input = same_number one.number input (sym one.is ∙ same) in
    let gas : input.gas < 2 ^ 32 = subst (λ (x : Input). x.gas < 2 ^ 32) number one.gas_below in
    let argument : input.argument < modulus = subst (λ (x : Input). x.argument < modulus) number one.argument_below in
    record { gas_below = gas; argument_below = argument; text_is = is.1 ∙ ap input_text same ∙ text_of_number input gas argument }

pub from_form : (a : AcceptedView) (program : Program) (text : List ℕ) (input : Input) → TakesOneFelt a → IsInput program text input → IsInputOf a text (with_number input)
from_form a program text input takes is = (
  subst (λ (tys : List Ty). FitsMain tys (with_number input)) (sym takes) (one_fits input is.gas_below is.argument_below),
  is.text_is ∙ sym (text_of_number input is.gas_below is.argument_below),
)

-- ---- The types of main's parameters

felt_kind : (ty : Ty) → is_felt_kind (kind_of ty) ≡ true → ty ≡ number nums.Felt64
felt_kind (number nums.Felt64) e = refl
felt_kind (number nums.U8) e = absurd cc
felt_kind (number nums.U16) e = absurd cc
felt_kind (number nums.U32) e = absurd cc
felt_kind (nonzero k) e = absurd cc
felt_kind range_check e = absurd cc
felt_kind gas_builtin e = absurd cc
felt_kind (box ty) e = absurd cc
felt_kind (array ty) e = absurd cc
felt_kind (snapshot ty) e = absurd cc
felt_kind (struct name tys) e = absurd cc
felt_kind (enum name tys) e = absurd cc
felt_kind (dict k) e = absurd cc
felt_kind (dict_entry k) e = absurd cc
felt_kind (squashed_dict k) e = absurd cc
felt_kind (uninitialized ty) e = absurd cc

one_felt : (tys : List Ty) → is_one_felt tys ≡ true → tys ≡ number nums.Felt64 ∷ []
one_felt [] e = absurd cc
one_felt (ty ∷ []) e = ap (λ (x : Ty). x ∷ []) (felt_kind ty e)
one_felt (ty ∷ other ∷ tys) e = absurd cc

-- that they are one number of the field is tested
pub tested : (tys whole : List Ty) (b : Bool) → b ≡ is_one_felt tys → tys ≡ whole → IsTrue b ↔ (whole ≡ number nums.Felt64 ∷ [])
tested tys whole b p q = (
  λ told. sym q ∙ one_felt tys (forth (is_one_felt tys) b p told),
  λ is. back (is_one_felt tys) b p (ap is_one_felt (q ∙ is)),
)
  where
    forth : (t b : Bool) → b ≡ t → IsTrue b → t ≡ true
    forth t b p told = cc

    back : (t b : Bool) → b ≡ t → t ≡ true → IsTrue b
    back t b p told = cc

-- the test of one type, and of another number of types
pub one_of_one : (t : TypesView) (ids : List TypeId) (id : TypeId) (b : Bool) → ids ≡ id ∷ [] → b ≡ is_felt_kind (kind_of (tree_of t id.0)) → b ≡ is_one_felt (trees_of t ids)
one_of_one t ids id b is told = told ∙ sym (ap (λ (xs : List TypeId). is_one_felt (trees_of t xs)) is)

pub one_of_others : (t : TypesView) (ids : List TypeId) → length ids ≢ 1 → false ≡ is_one_felt (trees_of t ids)
one_of_others t [] e = refl
one_of_others t (id ∷ []) e = absurd (e refl)
one_of_others t (id ∷ other ∷ ids) e = refl
