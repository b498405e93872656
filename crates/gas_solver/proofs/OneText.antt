-- The text of a plan is that of no other one.
use Rattle.std.proofs.Common.{◌≡◌, ℕ, suc, ◌+◌, ◌<◌, ◌≤◌, ◌^◌, List, [], ◌∷◌, ◌++◌, length, drop, get_or, codes, decimal, Option, Some, None, refl, sym, ap, ◌∙◌, arith}
use Rattle.std.specs.List.{AllByRecursion}
use Rattle.std.proofs.lemmas.Fmt.{decimal_is_IsNumeral, decimal_injective}
use Rattle.std.proofs.lemmas.List.{append_assoc}
use Rattle.std.proofs.lemmas.Str.Parse.{digit_at}
use Rattle.gas_solver.specs.Plans.{PlanView}
use Rattle.gas_solver.specs.Printing.{statement_line, statement_lines, plan_text, IsWordOrNone, HasWords}
use Rattle.gas_solver.proofs.OneAnswer.{same_plan}

-- digits, and then a byte below them

abbrev AreDigits : List ℕ → Type 0
AreDigits ds = (i : ℕ) → i < length ds → 48 ≤ get_or ds i 0

decimal_digits : (n : ℕ) → n < 2 ^ 64 → AreDigits (decimal n)
decimal_digits n few i lt = (digit_at (decimal n) i (decimal_is_IsNumeral n few).0.1 lt).0

abbrev StartsLow : List ℕ → Type 0
StartsLow [] = Unit {0}
StartsLow (c ∷ cs) = c < 48

head_same : (c d : ℕ) (xs ys : List ℕ) → c ∷ xs ≡ d ∷ ys → c ≡ d
head_same c d xs ys is = ap (λ l. get_or l 0 0) is

tail_same : (c d : ℕ) (xs ys : List ℕ) → c ∷ xs ≡ d ∷ ys → xs ≡ ys
tail_same c d xs ys is = ap (drop 1) is

not_digit : (d : ℕ) (ds x y : List ℕ) → AreDigits (d ∷ ds) → StartsLow x → x ≡ d ∷ y → ⊥
not_digit d ds [] y digits low is = absurd (let none : 0 ≡ suc (length y) = ap length is in omega arith)
not_digit d ds (c ∷ x) y digits low is =
    let one : 48 ≤ d = digits 0 (omega arith) in
    let two = head_same c d x y is in
    omega arith

cut : (ds es x y : List ℕ) → AreDigits ds → AreDigits es → StartsLow x → StartsLow y → ds ++ x ≡ es ++ y → (ds ≡ es) × (x ≡ y)
cut [] [] x y one two low also is = (refl, is)
cut [] (e ∷ es) x y one two low also is = absurd (not_digit e es x (es ++ y) two low is)
cut (d ∷ ds) [] x y one two low also is = absurd (not_digit d ds y (ds ++ x) one also (sym is))
cut (d ∷ ds) (e ∷ es) x y one two low also is =
    let more = cut ds es x y (λ i lt. one (suc i) (omega arith)) (λ i lt. two (suc i) (omega arith)) low also (tail_same d e (ds ++ x) (es ++ y) is) in
    (ap (λ c. c ∷ ds) (head_same d e (ds ++ x) (es ++ y) is) ∙ ap (λ l. e ∷ l) more.0, more.1)

number_cut : (m n : ℕ) (x y : List ℕ) → m < 2 ^ 64 → n < 2 ^ 64 → StartsLow x → StartsLow y → decimal m ++ x ≡ decimal n ++ y → (m ≡ n) × (x ≡ y)
number_cut m n x y few small low also is =
    let both = cut (decimal m) (decimal n) x y (decimal_digits m few) (decimal_digits n small) low also is in
    (decimal_injective m n few small both.0, both.1)

cancel : (xs y z : List ℕ) → xs ++ y ≡ xs ++ z → y ≡ z
cancel [] y z is = is
cancel (x ∷ xs) y z is = cancel xs y z (tail_same x x (xs ++ y) (xs ++ z) is)

-- the line of a statement, and what is behind it

behind_need : Option ℕ → List ℕ → List ℕ
behind_need None more = 10 ∷ more
behind_need (Some amount) more = codes " amount " ++ (decimal amount ++ (10 ∷ more))

line_is : (s need : ℕ) (amount : Option ℕ) (more : List ℕ) → statement_line s need amount ++ more ≡ decimal s ++ (codes " need " ++ (decimal need ++ behind_need amount more))
unfolding behind_need
line_is s need None more =
    append_assoc (decimal s) (codes " need " ++ (decimal need ++ (10 ∷ []))) more ∙ ap (λ z. decimal s ++ (codes " need " ++ z)) (append_assoc (decimal need) (10 ∷ []) more)
line_is s need (Some amount) more =
    append_assoc (decimal s) (codes " need " ++ (decimal need ++ (codes " amount " ++ (decimal amount ++ (10 ∷ []))))) more
    ∙ ap (λ z. decimal s ++ (codes " need " ++ z)) (append_assoc (decimal need) (codes " amount " ++ (decimal amount ++ (10 ∷ []))) more ∙ ap (λ z. decimal need ++ (codes " amount " ++ z)) (append_assoc (decimal amount) (10 ∷ []) more))

low_behind : (amount : Option ℕ) (more : List ℕ) → StartsLow (behind_need amount more)
unfolding behind_need
low_behind None more = omega arith
low_behind (Some amount) more = omega arith

behind_same : (a b : Option ℕ) (x y : List ℕ) → IsWordOrNone a → IsWordOrNone b → behind_need a x ≡ behind_need b y → (a ≡ b) × (x ≡ y)
unfolding behind_need
behind_same None None x y one two is = (refl, tail_same 10 10 x y is)
behind_same None (Some b) x y one two is = absurd (let wrong : 10 ≡ 32 = ap (λ l. get_or l 0 0) is in omega arith)
behind_same (Some a) None x y one two is = absurd (let wrong : 32 ≡ 10 = ap (λ l. get_or l 0 0) is in omega arith)
behind_same (Some a) (Some b) x y one two is =
    let both = number_cut a b (10 ∷ x) (10 ∷ y) one two (omega arith) (omega arith) (cancel (codes " amount ") (decimal a ++ (10 ∷ x)) (decimal b ++ (10 ∷ y)) is) in
    (ap (λ n. Some n) both.0, tail_same 10 10 x y both.1)

line_same : (s need other : ℕ) (amount another : Option ℕ) (x y : List ℕ) → need < 2 ^ 64 → other < 2 ^ 64 → IsWordOrNone amount → IsWordOrNone another → statement_line s need amount ++ x ≡ statement_line s other another ++ y
    → (need ≡ other) × (amount ≡ another) × (x ≡ y)
line_same s need other amount another x y few small one two is =
    let whole = sym (line_is s need amount x) ∙ is ∙ line_is s other another y in
    let numbers = cancel (codes " need ") (decimal need ++ behind_need amount x) (decimal other ++ behind_need another y)
    (cancel (decimal s) (codes " need " ++ (decimal need ++ behind_need amount x)) (codes " need " ++ (decimal other ++ behind_need another y)) whole) in
    let both = number_cut need other (behind_need amount x) (behind_need another y) few small (low_behind amount x) (low_behind another y) numbers in
    let rest = behind_same amount another x y one two both.1 in
    (both.0, rest.0, rest.1)

some_line : (s need : ℕ) (amount : Option ℕ) (more : List ℕ) → [] ≡ statement_line s need amount ++ more → ⊥
some_line s need amount more is = not_empty (decimal s) (drop 1 (codes " need " ++ (decimal need ++ behind_need amount more))) (is ∙ line_is s need amount more)
  where
    not_empty : (xs ys : List ℕ) → [] ≡ xs ++ (32 ∷ ys) → ⊥
    not_empty [] ys is = absurd (let none : 0 ≡ suc (length ys) = ap length is in omega arith)
    not_empty (x ∷ xs) ys is = absurd (let none : 0 ≡ suc (length (xs ++ (32 ∷ ys))) = ap length is in omega arith)

lines_same : (s : ℕ) (needs others : List ℕ) (amounts more : List (Option ℕ)) → length amounts ≡ length needs → length more ≡ length others → AllByRecursion (λ n. n < 2 ^ 64) needs → AllByRecursion (λ n. n < 2 ^ 64) others
    → AllByRecursion IsWordOrNone amounts → AllByRecursion IsWordOrNone more → statement_lines s needs amounts ≡ statement_lines s others more → (needs ≡ others) × (amounts ≡ more)
lines_same s [] [] [] [] long also few small one two is = (refl, refl)
lines_same s [] others (a ∷ amounts) more long also few small one two is = absurd (omega arith)
lines_same s [] [] [] (b ∷ more) long also few small one two is = absurd (omega arith)
lines_same s [] (n ∷ others) [] [] long also few small one two is = absurd (omega arith)
lines_same s [] (n ∷ others) [] (b ∷ more) long also few small one two is = absurd (some_line s n b (statement_lines (s + 1) others more) is)
lines_same s (m ∷ needs) others [] more long also few small one two is = absurd (omega arith)
lines_same s (m ∷ needs) [] (a ∷ amounts) [] long also few small one two is = absurd (some_line s m a (statement_lines (s + 1) needs amounts) (sym is))
lines_same s (m ∷ needs) [] (a ∷ amounts) (b ∷ more) long also few small one two is = absurd (omega arith)
lines_same s (m ∷ needs) (n ∷ others) (a ∷ amounts) [] long also few small one two is = absurd (omega arith)
lines_same s (m ∷ needs) (n ∷ others) (a ∷ amounts) (b ∷ more) long also few small one two is =
    let here = line_same s m n a b (statement_lines (s + 1) needs amounts) (statement_lines (s + 1) others more) few.0 small.0 one.0 two.0 is in
    let rest = lines_same (s + 1) needs others amounts more (omega arith) (omega arith) few.1 small.1 one.1 two.1 here.2 in
    (ap (λ x. x ∷ needs) here.0 ∙ ap (λ l. n ∷ l) rest.0, ap (λ x. x ∷ amounts) here.1 ∙ ap (λ l. b ∷ l) rest.1)

pub one_text : (plan other : PlanView) → HasWords plan → HasWords other → plan_text plan ≡ plan_text other → plan ≡ other
one_text plan other has also is =
    let whole = sym (entry_is plan) ∙ is ∙ entry_is other in
    let numbers = cancel (codes "entry ") (decimal plan.entry ++ (10 ∷ statement_lines 0 plan.need plan.amount)) (decimal other.entry ++ (10 ∷ statement_lines 0 other.need other.amount)) whole in
    let both = number_cut plan.entry other.entry (10 ∷ statement_lines 0 plan.need plan.amount) (10 ∷ statement_lines 0 other.need other.amount) has.entry also.entry (omega arith) (omega arith) numbers in
    let lines = tail_same 10 10 (statement_lines 0 plan.need plan.amount) (statement_lines 0 other.need other.amount) both.1 in
    let lists = lines_same 0 plan.need other.need plan.amount other.amount has.one_length also.one_length has.needs also.needs has.amounts also.amounts lines in
    same_plan plan other lists.0 lists.1 both.0
  where
    entry_is : (x : PlanView) → plan_text x ≡ codes "entry " ++ (decimal x.entry ++ (10 ∷ statement_lines 0 x.need x.amount))
    entry_is x = ap (λ z. codes "entry " ++ z) (append_assoc (decimal x.entry) (10 ∷ []) (statement_lines 0 x.need x.amount))
