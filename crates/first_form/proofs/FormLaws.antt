-- The numbers in the texts of a program and of an input.
use Rattle.std.proofs.Common.{◌≡◌, ℕ, ◌<◌, ◌≤◌, ◌^◌, ◌%◌, List, ◌++◌, get_or, inr, refl, sym, ◌∙◌, ap, arith}
use Rattle.std.specs.Prelude.{decimal}
use Rattle.std.proofs.lemmas.List.{append_cancel_left}
use Rattle.byte_reading.specs.Decimal.{StartsWithNoDigit}
use Rattle.byte_reading.proofs.DecimalLaws.{decimal_is_decimal_text, one_leading_number}
use Rattle.felt64.specs.Field.{modulus}
use Rattle.felt64.proofs.FieldLaws.{remainder_same}
use Rattle.first_form.specs.Forms.{libfunc_name, IsProgram, IsInput}
use Rattle.first_form.specs.Scan.{HasNumber, HasName}
use Rattle.first_form.specs.declared.operation.Operation.{Operation}
use Rattle.first_form.specs.declared.operation.Operation.TheVariants as operations
use Rattle.first_form.specs.declared.program.Program.{Program}
use Rattle.first_form.specs.declared.program.TheConstants.{GREATEST, HEAD, DECLARED, LIBFUNC, EQUALS, BODY, CALL, END}
use Rattle.first_form.specs.declared.input.TheConstants.{GAS, LINE_END}
use Rattle.first_form.specs.declared.input.Input.{Input}

-- a prefix, a number's text, and a part that begins with no digit
pub has_number : (text before : List ℕ) (greatest n : ℕ) (rest : List ℕ) → n ≤ greatest → n < 10 ^ 64 → StartsWithNoDigit rest → text ≡ before ++ (decimal n ++ rest) → HasNumber text before greatest n rest
has_number text before greatest n rest below short none is = record {
  behind = decimal n ++ rest;
  text_is = is;
  number = record { text_is = ap (λ (digits : List ℕ). digits ++ rest) (decimal_is_decimal_text n short); longest = inr none };
  below = below;
}

-- behind one prefix stands one number
pub one_number : (text before : List ℕ) (greatest m : ℕ) (behind_m : List ℕ) (n : ℕ) (behind_n : List ℕ) → HasNumber text before greatest m behind_m → HasNumber text before greatest n behind_n → (m ≡ n) × (behind_m ≡ behind_n)
one_number text before greatest m behind_m n behind_n first second =
    let same : first.behind ≡ second.behind = append_cancel_left before _ _ (sym first.text_is ∙ second.text_is) in
    one_leading_number first.behind m behind_m n behind_n first.number (rw same second.number)

-- the text that a number was read from
pub text_of : (text before : List ℕ) (greatest n : ℕ) (rest : List ℕ) → n < 10 ^ 64 → HasNumber text before greatest n rest → text ≡ before ++ (decimal n ++ rest)
text_of text before greatest n rest short has =
    has.text_is ∙ ap (λ (behind : List ℕ). before ++ behind) (has.number.text_is ∙ ap (λ (digits : List ℕ). digits ++ rest) (sym (decimal_is_decimal_text n short)))

-- behind one prefix stands the name of one operation
names : (a b : Operation) (x y : List ℕ) → libfunc_name a ++ x ≡ libfunc_name b ++ y → (a ≡ b) × (x ≡ y)
names operations.Add operations.Add x y same = (refl, append_cancel_left (libfunc_name operations.Add) x y same)
names operations.Add operations.Sub x y same = let seventh = ap (λ l. get_or l 7 0) same in absurd (omega arith)
names operations.Add operations.Mul x y same = let seventh = ap (λ l. get_or l 7 0) same in absurd (omega arith)
names operations.Sub operations.Add x y same = let seventh = ap (λ l. get_or l 7 0) same in absurd (omega arith)
names operations.Sub operations.Sub x y same = (refl, append_cancel_left (libfunc_name operations.Sub) x y same)
names operations.Sub operations.Mul x y same = let seventh = ap (λ l. get_or l 7 0) same in absurd (omega arith)
names operations.Mul operations.Add x y same = let seventh = ap (λ l. get_or l 7 0) same in absurd (omega arith)
names operations.Mul operations.Sub x y same = let seventh = ap (λ l. get_or l 7 0) same in absurd (omega arith)
names operations.Mul operations.Mul x y same = (refl, append_cancel_left (libfunc_name operations.Mul) x y same)

pub one_name : (text before : List ℕ) (a : Operation) (behind_a : List ℕ) (b : Operation) (behind_b : List ℕ) → HasName text before a behind_a → HasName text before b behind_b → (a ≡ b) × (behind_a ≡ behind_b)
one_name text before a behind_a b behind_b first second = names a b behind_a behind_b (append_cancel_left before _ _ (sym first.text_is ∙ second.text_is))

-- ---- a program

-- what follows each number and each name in a program's text
abbrev pub behind_third : Program → List ℕ
behind_third p = CALL.now ++ (libfunc_name p.operation ++ END.now)

abbrev pub behind_equals : Program → List ℕ
behind_equals p = BODY.now ++ (decimal p.constant ++ behind_third p)

abbrev pub behind_libfunc : Program → List ℕ
behind_libfunc p = EQUALS.now ++ (libfunc_name p.operation ++ behind_equals p)

abbrev pub behind_second : Program → List ℕ
behind_second p = LIBFUNC.now ++ (libfunc_name p.operation ++ behind_libfunc p)

abbrev pub behind_first : Program → List ℕ
behind_first p = DECLARED.now ++ (decimal p.constant ++ behind_second p)

-- a number or a name that was read is the program's, and so is what follows it
abbrev pub IsNext : {X : Type 0} → X → X → List ℕ → List ℕ → Type 0
IsNext found own rest own_rest = (found ≡ own) × (rest ≡ own_rest)

-- the numbers and names of a text that were read one behind the other, and the last part
pub record Reads (text : List ℕ) (first second third : ℕ) (operation : Operation) (end : List ℕ) : Type 0 where
  pub declared : List ℕ
  pub libfunc : List ℕ
  pub equals : List ℕ
  pub body : List ℕ
  pub call : List ℕ
  pub at_head : HasNumber text HEAD.now GREATEST first declared
  pub at_declared : HasNumber declared DECLARED.now GREATEST second libfunc
  pub at_libfunc : HasName libfunc LIBFUNC.now operation equals
  pub at_equals : HasName equals EQUALS.now operation body
  pub at_body : HasNumber body BODY.now GREATEST third call
  pub at_call : HasName call CALL.now operation end

-- in a program's text each number is the constant, and it ends there
pub record AreParts (n first second third : ℕ) (end : List ℕ) : Type 0 where
  pub first_is : first ≡ n
  pub second_is : second ≡ n
  pub third_is : third ≡ n
  pub end_is : end ≡ END.now

-- what can be read of a program's text, part by part
module _ (text : List ℕ) (p : Program) (is : IsProgram text p) where
  pub first_read : HasNumber text HEAD.now GREATEST p.constant (behind_first p)
  first_read = has_number text HEAD.now GREATEST p.constant _ (omega (arith, is.below)) (omega (arith, is.below)) (λ digit. omega (arith, digit)) is.text_is

  pub second_read : (declared : List ℕ) → declared ≡ behind_first p → HasNumber declared DECLARED.now GREATEST p.constant (behind_second p)
  second_read declared here = has_number declared DECLARED.now GREATEST p.constant _ (omega (arith, is.below)) (omega (arith, is.below)) (λ digit. omega (arith, digit)) here

  pub libfunc_read : (libfunc : List ℕ) → libfunc ≡ behind_second p → HasName libfunc LIBFUNC.now p.operation (behind_libfunc p)
  libfunc_read libfunc here = record { text_is = here }

  pub equals_read : (equals : List ℕ) → equals ≡ behind_libfunc p → HasName equals EQUALS.now p.operation (behind_equals p)
  equals_read equals here = record { text_is = here }

  pub third_read : (body : List ℕ) → body ≡ behind_equals p → HasNumber body BODY.now GREATEST p.constant (behind_third p)
  third_read body here = has_number body BODY.now GREATEST p.constant _ (omega (arith, is.below)) (omega (arith, is.below)) (λ digit. omega (arith, digit)) here

  pub call_read : (call : List ℕ) → call ≡ behind_third p → HasName call CALL.now p.operation END.now
  call_read call here = record { text_is = here }

  -- and what is read is the program's
  pub after_first : (n : ℕ) (declared : List ℕ) → HasNumber text HEAD.now GREATEST n declared → IsNext n p.constant declared (behind_first p)
  after_first n declared read = one_number text HEAD.now GREATEST n declared p.constant _ read first_read

  pub after_second : (n : ℕ) (declared libfunc : List ℕ) → declared ≡ behind_first p → HasNumber declared DECLARED.now GREATEST n libfunc → IsNext n p.constant libfunc (behind_second p)
  after_second n declared libfunc here read = one_number declared DECLARED.now GREATEST n libfunc p.constant _ read (second_read declared here)

  pub after_libfunc : (operation : Operation) (libfunc equals : List ℕ) → libfunc ≡ behind_second p → HasName libfunc LIBFUNC.now operation equals → IsNext operation p.operation equals (behind_libfunc p)
  after_libfunc operation libfunc equals here read = one_name libfunc LIBFUNC.now operation equals p.operation _ read (libfunc_read libfunc here)

  pub after_equals : (operation : Operation) (equals body : List ℕ) → equals ≡ behind_libfunc p → HasName equals EQUALS.now operation body → IsNext operation p.operation body (behind_equals p)
  after_equals operation equals body here read = one_name equals EQUALS.now operation body p.operation _ read (equals_read equals here)

  pub after_third : (n : ℕ) (body call : List ℕ) → body ≡ behind_equals p → HasNumber body BODY.now GREATEST n call → IsNext n p.constant call (behind_third p)
  after_third n body call here read = one_number body BODY.now GREATEST n call p.constant _ read (third_read body here)

  pub after_call : (operation : Operation) (call end : List ℕ) → call ≡ behind_third p → HasName call CALL.now operation end → IsNext operation p.operation end END.now
  after_call operation call end here read = one_name call CALL.now operation end p.operation _ read (call_read call here)

  pub are_parts : (first second third : ℕ) (operation : Operation) (end : List ℕ) → Reads text first second third operation end → AreParts p.constant first second third end
  are_parts first second third operation end reads =
      let one = after_first first reads.declared reads.at_head in
      let two = after_second second reads.declared reads.libfunc one.1 reads.at_declared in
      let three = after_libfunc operation reads.libfunc reads.equals two.1 reads.at_libfunc in
      let four = after_equals operation reads.equals reads.body three.1 reads.at_equals in
      let five = after_third third reads.body reads.call four.1 reads.at_body in
      let six = after_call operation reads.call end five.1 reads.at_call in
      record { first_is = one.0; second_is = two.0; third_is = five.0; end_is = six.1 }

-- parts put together
whole_text : (text head digits behind declared second before name equals is body between third before_call end last : List ℕ) →
    text ≡ head ++ (digits ++ behind) → behind ≡ declared ++ (digits ++ second) → second ≡ before ++ (name ++ equals) → equals ≡ is ++ (name ++ body) →
    body ≡ between ++ (digits ++ third) → third ≡ before_call ++ (name ++ end) → end ≡ last →
    text ≡ head ++ (digits ++ (declared ++ (digits ++ (before ++ (name ++ (is ++ (name ++ (between ++ (digits ++ (before_call ++ (name ++ last)))))))))))
whole_text text head digits behind declared second before name equals is body between third before_call end last a b c d e f g = cc

-- a text that was read to its end is the program's
pub is_program : (text : List ℕ) (n first second third : ℕ) (operation : Operation) (end : List ℕ) → Reads text first second third operation end → AreParts first first second third end → n ≡ first % modulus → IsProgram text (record { operation = operation; constant = n })
is_program text n first second third operation end reads parts is =
    let at_declared = rw parts.second_is at reads.at_declared in
    let at_body = rw parts.third_is at reads.at_body in
    let below : first ≤ GREATEST = reads.at_head.below in
    rw (is, remainder_same first (omega (arith, below))) record {
      below = omega (arith, below);
      text_is = whole_text text HEAD.now (decimal first) reads.declared DECLARED.now reads.libfunc LIBFUNC.now (libfunc_name operation) reads.equals EQUALS.now reads.body BODY.now reads.call CALL.now end END.now
          (text_of _ _ _ first _ (omega (arith, below)) reads.at_head) (text_of _ _ _ first _ (omega (arith, below)) at_declared)
          reads.at_libfunc.text_is reads.at_equals.text_is
          (text_of _ _ _ first _ (omega (arith, below)) at_body) reads.at_call.text_is parts.end_is;
    }

-- a text is one program's at most
pub one_program : (text : List ℕ) (p q : Program) → IsProgram text p → IsProgram text q → p ≡ q
one_program text p q p_is q_is =
    let first = after_first text q q_is p.constant (behind_first p) (first_read text p p_is) in
    let second = after_second text q q_is p.constant (behind_first p) (behind_second p) first.1 (second_read text p p_is (behind_first p) refl) in
    let third = after_libfunc text q q_is p.operation (behind_second p) (behind_libfunc p) second.1 (libfunc_read text p p_is (behind_second p) refl) in
    same_program p.operation q.operation p.constant q.constant third.0 first.0
  where
    same_program : (operation other : Operation) (constant other_constant : ℕ) → operation ≡ other → constant ≡ other_constant → ◌≡◌ {A = Program} (record { operation = operation; constant = constant }) (record { operation = other; constant = other_constant })
    same_program operation other constant other_constant same same_constant = cc

-- ---- an input

abbrev pub largest_gas : ℕ
largest_gas = 4294967295

pub gas_behind : (program : Program) (text : List ℕ) (i : Input) → IsInput program text i → HasNumber text GAS.now largest_gas i.gas (LINE_END.now ++ (decimal i.argument ++ LINE_END.now))
gas_behind program text i is = has_number text GAS.now largest_gas i.gas _ (omega (arith, is.gas_below)) (omega (arith, is.gas_below)) (λ digit. omega (arith, digit)) is.text_is

pub argument_behind : (n : ℕ) → n ≤ GREATEST → HasNumber (LINE_END.now ++ (decimal n ++ LINE_END.now)) LINE_END.now GREATEST n LINE_END.now
argument_behind n below = has_number _ LINE_END.now GREATEST n _ below (omega arith) (λ digit. omega (arith, digit)) refl

pub argument_read : (program : Program) (text : List ℕ) (gas : ℕ) (line : List ℕ) (i : Input) → HasNumber text GAS.now largest_gas gas line → IsInput program text i → HasNumber line LINE_END.now GREATEST i.argument LINE_END.now
argument_read program text gas line i read is =
    let same = (one_number text GAS.now largest_gas gas line i.gas _ read (gas_behind program text i is)).1 in
    rw same (argument_behind i.argument (omega (arith, is.argument_below)))

pub end_is : (program : Program) (text : List ℕ) (gas : ℕ) (line : List ℕ) (argument : ℕ) (end : List ℕ) (i : Input) → HasNumber text GAS.now largest_gas gas line → HasNumber line LINE_END.now GREATEST argument end → IsInput program text i → (argument ≡ i.argument) × (end ≡ LINE_END.now)
end_is program text gas line argument end i first second is =
    one_number line LINE_END.now GREATEST argument end i.argument _ second (argument_read program text gas line i first is)

-- two lines put together
whole_lines : (text front gas line between argument end last : List ℕ) → text ≡ front ++ (gas ++ line) → line ≡ between ++ (argument ++ end) → end ≡ last → text ≡ front ++ (gas ++ (between ++ (argument ++ last)))
whole_lines text front gas line between argument end last a b c = cc

-- a text that was read to its end is the input's
pub is_input : (program : Program) (text : List ℕ) (gas : ℕ) (line : List ℕ) (argument : ℕ) (end : List ℕ) (n : ℕ) → HasNumber text GAS.now largest_gas gas line → HasNumber line LINE_END.now GREATEST argument end → end ≡ LINE_END.now → n ≡ argument % modulus → IsInput program text (record { gas = gas; argument = n })
is_input program text gas line argument end n first second last is = rw (is, remainder_same argument (omega (arith, second.below))) record {
  gas_below = omega (arith, first.below);
  argument_below = omega (arith, second.below);
  text_is = whole_lines text GAS.now (decimal gas) line LINE_END.now (decimal argument) end LINE_END.now
      (text_of _ _ _ gas _ (omega (arith, first.below)) first) (text_of _ _ _ argument _ (omega (arith, second.below)) second) last;
}

-- a text is one input's at most
pub one_input : (program : Program) (text : List ℕ) (p q : Input) → IsInput program text p → IsInput program text q → p ≡ q
one_input program text p q p_is q_is =
    let first = gas_behind program text p p_is in
    let gas = (one_number text GAS.now largest_gas p.gas _ q.gas _ first (gas_behind program text q q_is)).0 in
    let argument = (end_is program text p.gas _ p.argument _ q first (argument_behind p.argument (omega (arith, p_is.argument_below))) q_is).0 in
    same_input p.gas p.argument q.gas q.argument gas argument
  where
    same_input : (gas argument other_gas other_argument : ℕ) → gas ≡ other_gas → argument ≡ other_argument → ◌≡◌ {A = Input} (record { gas = gas; argument = argument }) (record { gas = other_gas; argument = other_argument })
    same_input gas argument other_gas other_argument same_gas same_argument = cc
