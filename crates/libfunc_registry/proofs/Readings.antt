-- Rows of the table of libfuncs by name: what is read of a name and arguments is what is written, and back.
use Rattle.std.proofs.Common.{◌≡◌, ℕ, zero, suc, ◌+◌, ◌<◌, ◌&&◌, not, Bool, true, false, cond, List, [], ◌∷◌, ◌++◌, length, get_or, Option, Some, None, refl, sym, ap, subst, ◌∙◌, arith, true≢false}
use Rattle.std.specs.List.{Contains}
use Rattle.std.specs.Str.{bytes_eq}
use Rattle.std.proofs.lemmas.Slice.Eq.{bytes_eq-Decides}
use Rattle.sierra_types.specs.declared.program.Arg.{Arg}
use Rattle.type_table.specs.View.{TypesView, IsTable}
use Rattle.libfunc_registry.specs.declared.libfunc.Libfunc.{Libfunc}
use Rattle.libfunc_registry.specs.Arguments.{Form, Makes}
use Rattle.libfunc_registry.specs.Control.{control_rows}
use Rattle.libfunc_registry.specs.Gas.{gas_rows}
use Rattle.libfunc_registry.specs.Felts.{felts_rows}
use Rattle.libfunc_registry.specs.Integers.{u8_rows, u16_rows, u32_rows, cast_rows}
use Rattle.libfunc_registry.specs.Data.{data_rows}
use Rattle.libfunc_registry.specs.Arrays.{arrays_rows}
use Rattle.libfunc_registry.specs.Dictionaries.{dictionaries_rows}
use Rattle.libfunc_registry.specs.Fam.{rows, IsFamily, IsWritten}
use Rattle.libfunc_registry.specs.Reading.{made, read, read_integers, read_all, first_of}
use Rattle.libfunc_registry.proofs.Named.{none_some, some_in}
use Rattle.libfunc_registry.proofs.Forms.{made-makes, makes-made}

read-append : (types : TypesView) (xs ys : List (List ℕ × Form)) (name : List ℕ) (given : List Arg)
    → read types (xs ++ ys) name given ≡ first_of (read types xs name given) (read types ys name given)
read-append types [] ys name given = refl
read-append types (x ∷ xs) ys name given = elim (bytes_eq name x.0) as (λ b. cond b (Some (made types x.1 given)) (read types (xs ++ ys) name given)
    ≡ first_of (cond b (Some (made types x.1 given)) (read types xs name given)) (read types ys name given)) [
      | true ↦ refl
      | false ↦ read-append types xs ys name given
    ]

-- all groups together are the rows
pub read_all-is : (types : TypesView) (name : List ℕ) (given : List Arg) → read_all types name given ≡ read types rows name given
read_all-is types name given =
    let r = λ (xs : List (List ℕ × Form)). read types xs name given in
    let join = λ (xs ys : List (List ℕ × Form)) (rest : Option (Option Libfunc)) (e : rest ≡ r ys).
    ap (first_of (r xs)) e ∙ sym (read-append types xs ys name given) in
    let later = first_of (r data_rows) (first_of (r arrays_rows) (r dictionaries_rows)) in
    let integers : read_integers types name given ≡ r (u8_rows ++ (u16_rows ++ (u32_rows ++ cast_rows))) =
    join u8_rows (u16_rows ++ (u32_rows ++ cast_rows)) _ (join u16_rows (u32_rows ++ cast_rows) _ (join u32_rows cast_rows _ refl)) in
    join control_rows _ _ (join gas_rows _ _ (join felts_rows _ _ (
    ap (λ o. first_of o later) integers
    ∙ join (u8_rows ++ (u16_rows ++ (u32_rows ++ cast_rows))) _ _
    (join data_rows _ _ (join arrays_rows dictionaries_rows _ refl))
    )))

pub read-at : (types : TypesView) (xs : List (List ℕ × Form)) (name : List ℕ) (given : List Arg) (m : Option Libfunc)
    → read types xs name given ≡ Some m → (form : Form) × Contains xs (name, form) × (m ≡ made types form given)
read-at types [] name given m e = absurd (none_some m e)
read-at types (x ∷ xs) name given m e =
    elim (bytes_eq name x.0) as (λ b. bytes_eq name x.0 ≡ b → cond b (Some (made types x.1 given)) (read types xs name given) ≡ Some m
    → (form : Form) × Contains (x ∷ xs) (name, form) × (m ≡ made types form given)) [
      | true ↦ λ same f.
          let named : name ≡ x.0 = (bytes_eq-Decides name x.0).0 same in
          (x.1, (0, omega arith, ap (λ n. (n, x.1)) (sym named)), sym (some_in _ m f))
      | false ↦ λ _ f.
          let later = read-at types xs name given m f in
          let within : suc later.1.0 < length (x ∷ xs) = (let below : later.1.0 < length xs = later.1.1 in omega arith) in
          (later.0, (suc later.1.0, within, later.1.2), later.2)
    ] refl e

pub read-none : (types : TypesView) (xs : List (List ℕ × Form)) (name : List ℕ) (given : List Arg)
    → read types xs name given ≡ None → (form : Form) (k : ℕ) → k < length xs → get_or xs k (name, form) ≡ (name, form) → ⊥
read-none types [] name given e form k within at = omega arith
read-none types (x ∷ xs) name given e form k within at =
    elim (bytes_eq name x.0) as (λ b. bytes_eq name x.0 ≡ b → cond b (Some (made types x.1 given)) (read types xs name given) ≡ None → ⊥) [
      | true ↦ λ _ f. none_some _ (sym f)
      | false ↦ λ differs f. here k within at differs (λ j. read-none types xs name given f form j)
    ] refl e
  where
    here : (k : ℕ) → k < length (x ∷ xs) → get_or (x ∷ xs) k (name, form) ≡ (name, form) → bytes_eq name x.0 ≡ false
        → ((j : ℕ) → j < length xs → get_or xs j (name, form) ≡ (name, form) → ⊥) → ⊥
    here zero within at differs later =
        let named : name ≡ x.0 = ap (λ (r : List ℕ × Form). r.0) (sym at) in
        let tested : bytes_eq name x.0 ≡ true = (bytes_eq-Decides name x.0).1 named in
        true≢false (sym tested ∙ differs)
    here (suc j) within at differs later = later j (omega arith) at

-- no row has the name
abbrev is_apart : List ℕ → List (List ℕ × Form) → Bool
is_apart name [] = true
is_apart name (x ∷ xs) = not (bytes_eq name x.0) && is_apart name xs

-- no two rows have one name
abbrev are_apart : List (List ℕ × Form) → Bool
are_apart [] = true
are_apart (x ∷ xs) = is_apart x.0 xs && are_apart xs

and_first : (a b : Bool) → (a && b) ≡ true → a ≡ true
and_first true b e = refl
and_first false b e = e

and_second : (a b : Bool) → (a && b) ≡ true → b ≡ true
and_second true b e = e
and_second false b e = absurd (false_true e)
  where
    false_true : false ≡ true → ⊥
    false_true e = cc

not_true : (a : Bool) → not a ≡ true → a ≡ false
not_true true e = absurd (false_true e)
  where
    false_true : false ≡ true → ⊥
    false_true e = cc
not_true false e = refl

apart-at : (name : List ℕ) (xs : List (List ℕ × Form)) → is_apart name xs ≡ true → (k : ℕ) → k < length xs → (y : List ℕ × Form)
    → get_or xs k y ≡ y → bytes_eq name y.0 ≡ false
apart-at name [] apart k within y at = absurd (omega arith)
apart-at name (x ∷ xs) apart zero within y at =
    subst (λ (z : List ℕ × Form). bytes_eq name z.0 ≡ false) at (not_true (bytes_eq name x.0) (and_first (not (bytes_eq name x.0)) (is_apart name xs) apart))
apart-at name (x ∷ xs) apart (suc k) within y at =
    apart-at name xs (and_second (not (bytes_eq name x.0)) (is_apart name xs) apart) k (omega arith) y at

bytes_eq-same : (xs : List ℕ) → bytes_eq xs xs ≡ true
bytes_eq-same xs = (bytes_eq-Decides xs xs).1 refl

bytes_eq-other : (xs ys : List ℕ) → bytes_eq xs ys ≡ false → bytes_eq ys xs ≡ false
bytes_eq-other xs ys differs = elim (bytes_eq ys xs) as (λ b. bytes_eq ys xs ≡ b → b ≡ false) [
  | true ↦ λ same.
      let equal : xs ≡ ys = sym ((bytes_eq-Decides ys xs).0 same) in
      sym ((bytes_eq-Decides xs ys).1 equal) ∙ differs
  | false ↦ λ _. refl
] refl

-- where each name is of one row, a row is read by its name
read-here : (types : TypesView) (xs : List (List ℕ × Form)) → are_apart xs ≡ true → (name : List ℕ) (given : List Arg) (form : Form) (k : ℕ)
    → k < length xs → get_or xs k (name, form) ≡ (name, form) → read types xs name given ≡ Some (made types form given)
read-here types [] apart name given form k within at = absurd (omega arith)
read-here types (x ∷ xs) apart name given form zero within at =
    let tested : bytes_eq name x.0 ≡ true = (bytes_eq-Decides name x.0).1 (ap (λ (r : List ℕ × Form). r.0) (sym at)) in
    ap (λ b. cond b (Some (made types x.1 given)) (read types xs name given)) tested ∙ ap (λ (r : List ℕ × Form). Some (made types r.1 given)) at
read-here types (x ∷ xs) apart name given form (suc k) within at =
    let differs : bytes_eq x.0 name ≡ false = apart-at x.0 xs (and_first (is_apart x.0 xs) (are_apart xs) apart) k (omega arith) (name, form) at in
    ap (λ b. cond b (Some (made types x.1 given)) (read types xs name given)) (bytes_eq-other x.0 name differs)
    ∙ read-here types xs (and_second (is_apart x.0 xs) (are_apart xs) apart) name given form k (omega arith) at

rows-apart : are_apart rows ≡ true
unfolding control_rows gas_rows felts_rows u8_rows u16_rows u32_rows cast_rows data_rows arrays_rows dictionaries_rows
rows-apart = refl

-- what is read is written
pub read-written : (types : TypesView) (name : List ℕ) (given : List Arg) (l : Libfunc) → read_all types name given ≡ Some (Some l) → IsWritten types l name given
read-written types name given l e =
    let at = read-at types rows name given (Some l) (sym (read_all-is types name given) ∙ e) in
    (at.0, at.1, made-makes types at.0 given l (sym at.2))

-- what is written is read
pub written-read : (types : TypesView) → IsTable types → (name : List ℕ) (given : List Arg) (l : Libfunc) → IsWritten types l name given → read_all types name given ≡ Some (Some l)
written-read types kept name given l (form, here, makes) =
    read_all-is types name given ∙ read-here types rows rows-apart name given form here.0 here.1 here.2 ∙ ap Some (makes-made types kept form given l makes)

-- a name is of a family if it is read at all
pub read-family : (types : TypesView) (name : List ℕ) (given : List Arg) (m : Option Libfunc) → read_all types name given ≡ Some m → IsFamily name
read-family types name given m e = let at = read-at types rows name given m (sym (read_all-is types name given) ∙ e) in (at.0, at.1)

pub read-no_family : (types : TypesView) (name : List ℕ) (given : List Arg) → read_all types name given ≡ None → IsFamily name → ⊥
read-no_family types name given e (form, here) = read-none types rows name given (sym (read_all-is types name given) ∙ e) form here.0 here.1 here.2

-- what a call tells of its own name and arguments
pub read-given : (types : TypesView) (n m : List ℕ) (a b : List Arg) (r q : Option (Option Libfunc))
    → r ≡ read_all types n a → n ≡ m → a ≡ b → r ≡ q → read_all types m b ≡ q
read-given types n m a b r q told same_name same_args is =
    sym (ap (λ x. read_all types x a) same_name ∙ ap (λ y. read_all types m y) same_args) ∙ sym told ∙ is

some_none : {A : Type 0} (x : A) → Some x ≡ None → ⊥
some_none x e = none_some x (sym e)

-- one libfunc is written by a name and arguments
pub one_written : (types : TypesView) → IsTable types → (name : List ℕ) (given : List Arg) (l m : Libfunc) → IsWritten types l name given → IsWritten types m name given → l ≡ m
one_written types kept name given l m as_l as_m =
    some_in l m (some_in (Some l) (Some m) (sym (written-read types kept name given l as_l) ∙ written-read types kept name given m as_m))

-- none is where the arguments are wrong
pub none_written : (types : TypesView) → IsTable types → (name : List ℕ) (given : List Arg) (l : Libfunc) → read_all types name given ≡ Some None → IsWritten types l name given → ⊥
none_written types kept name given l e written =
    some_none l (some_in (Some l) None (sym (written-read types kept name given l written) ∙ e))
