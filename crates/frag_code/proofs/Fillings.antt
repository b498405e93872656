-- What the equation of a step gives keeps each word that was there, and is one.
use Rattle.std.proofs.Common.{◌≡◌, ◌≢◌, ℕ, ◌⊎◌, inl, inr, Option, Some, None, refl, sym, ap, subst, ◌∙◌}
use Rattle.std.specs.FinMap.{get, insert}
use Rattle.felt64.specs.Field.{product}
use Rattle.casm_word.specs.declared.flags.Op1.{Op1}
use Rattle.casm_word.specs.declared.flags.Op1.TheVariants as op1
use Rattle.casm_word.specs.declared.flags.ResKind.{ResKind}
use Rattle.casm_word.specs.declared.flags.ResKind.TheVariants as res
use Rattle.casm_word.specs.declared.flags.Flags.{Flags}
use Rattle.ro_machine.specs.declared.machine.State.{State}
use Rattle.ro_machine.specs.Cells.{Cells}
use Rattle.ro_machine.specs.Extends.{Extends}
use Rattle.ro_machine.specs.Step.{op0_address, op1_address, res_of}
use Rattle.ro_machine.proofs.ExtendLaws.{extends_itself, extends_trans, insert_extends}
use Rattle.frag_code.specs.Filling.{Dst, Op0, Op1At, Op1Is, ResIs, IsOperandBeside, SavesFrame, SavesPlace, GivesRight, GivesAddend, GivesFactor, GivesLeft, TakesRow, Gives}

-- ---- Each word that was there is kept

abbrev AnyRow : Type 1
AnyRow = Cells → Flags → State → ℕ → ℕ → Type 0

row_extends : (row : AnyRow) (f : Flags) (s : State) (m more : Cells) → TakesRow row f s m more → Extends (get m) (get more)
row_extends row f s m more (inl (at, w, gives, none, is)) = subst (λ cells. Extends (get m) (get cells)) (sym is) (insert_extends m at w (inl none))
row_extends row f s m more (inr (full, is)) = subst (λ cells. Extends (get m) (get cells)) (sym is) (extends_itself (get m))

pub gives_extends : (f : Flags) (s : State) (m more : Cells) → Gives f s m more → Extends (get m) (get more)
gives_extends f s m more gives =
    extends_trans _ _ _ (row_extends SavesFrame f s m gives.saved_frame gives.saves_frame)
    (extends_trans _ _ _ (row_extends SavesPlace f s gives.saved_frame gives.saved_place gives.saves_place)
    (extends_trans _ _ _ (row_extends GivesRight f s gives.saved_place gives.right gives.gives_right)
    (extends_trans _ _ _ (row_extends GivesAddend f s gives.right gives.addend gives.gives_addend)
    (extends_trans _ _ _ (row_extends GivesFactor f s gives.addend gives.factor gives.gives_factor)
    (row_extends GivesLeft f s gives.factor more gives.gives_left)))))

-- ---- What is given is one

-- a row gives one cell without a word, and one word
abbrev GivesOnce : AnyRow → Type 0
GivesOnce row =
    (f : Flags) (s : State) (m : Cells) (a b v w : ℕ) → row m f s a v → row m f s b w → get m a ≡ None → get m b ≡ None → (a ≡ b) × (v ≡ w)

takes_once : (row : AnyRow) → GivesOnce row → (f : Flags) (s : State) (m more most : Cells) → TakesRow row f s m more → TakesRow row f s m most → more ≡ most
takes_once row once f s m more most (inl (a, v, first, none, is)) (inl (b, w, second, none', is')) =
    let same = once f s m a b v w first second none none' in
    is ∙ ap (λ at. insert m at v) same.0 ∙ ap (insert m b) same.1 ∙ sym is'
takes_once row once f s m more most (inl (a, v, first, none, is)) (inr (full, is')) = absurd (full a v first none)
takes_once row once f s m more most (inr (full, is)) (inl (b, w, second, none, is')) = absurd (full b w second none)
takes_once row once f s m more most (inr (full, is)) (inr (full', is')) = is ∙ sym is'

one_word : (m : Cells) (a b v w : ℕ) → a ≡ b → get m a ≡ Some v → get m b ≡ Some w → v ≡ w
one_word m a b v w same first second = cc

no_word : (m : Cells) (a b w : ℕ) → a ≡ b → get m a ≡ None → get m b ≡ Some w → ⊥
no_word m a b w same none some = absurd (cc)

module _ (f : Flags) (s : State) (m : Cells) where
  one_address : (kind : Op1) (a b : ℕ) → Op1At m f s kind a → Op1At m f s kind b → a ≡ b
  one_address op1.Op0 a b (v, first, is) (w, second, is') = is ∙ ap (op1_address f s) (one_word m _ _ v w refl first second) ∙ sym is'
  one_address op1.Imm a b first second = first ∙ sym second
  one_address op1.Fp a b first second = first ∙ sym second
  one_address op1.Ap a b first second = first ∙ sym second

  one_operand : (v w : ℕ) → Op1Is m f s v → Op1Is m f s w → v ≡ w
  one_operand v w (a, at, is) (b, at', is') = one_word m a b v w (one_address f.op1 a b at at') is is'

  one_res : (kind : ResKind) (v w : ℕ) → ResIs m f s kind v → ResIs m f s kind w → v ≡ w
  one_res res.Op1 v w first second = one_operand v w first second
  one_res res.Add v w (x, y, left, right, is) (x', y', left', right', is') =
      is ∙ ap (λ n. res_of res.Add n y) (one_word m _ _ x x' refl left left') ∙ ap (res_of res.Add x') (one_operand y y' right right') ∙ sym is'
  one_res res.Mul v w (x, y, left, right, is) (x', y', left', right', is') =
      is ∙ ap (λ n. res_of res.Mul n y) (one_word m _ _ x x' refl left left') ∙ ap (res_of res.Mul x') (one_operand y y' right right') ∙ sym is'

  -- at most one operand has no word beside the other's
  one_beside : (a b v w : ℕ) → IsOperandBeside m f s a v → IsOperandBeside m f s b w → get m a ≡ None → get m b ≡ None → (a ≡ b) × (v ≡ w)
  one_beside a b v w (inl (at, is)) (inl (at', is')) none none' = (at ∙ sym at', one_operand v w is is')
  one_beside a b v w (inl (at, is)) (inr (at', is')) none none' = absurd (no_word m a (op0_address f s) w at none is')
  one_beside a b v w (inr (at, is)) (inl (at', is')) none none' = absurd (no_word m b (op0_address f s) v at' none' is)
  one_beside a b v w (inr (at, is)) (inr (at', is')) none none' = (one_address f.op1 a b at at', one_word m _ _ v w refl is is')

frame_once : GivesOnce SavesFrame
frame_once f s m a b v w (call, at, is) (call', at', is') none none' = (at ∙ sym at', is ∙ sym is')

place_once : GivesOnce SavesPlace
place_once f s m a b v w (call, at, is) (call', at', is') none none' = (at ∙ sym at', is ∙ sym is')

right_once : GivesOnce GivesRight
right_once f s m a b v w (asserts, plain, at, is) (asserts', plain', at', is') none none' =
    (one_address f s m f.op1 a b at at', one_word m _ _ v w refl is is')

addend_once : GivesOnce GivesAddend
addend_once f s m a b v w (asserts, adds, d, x, left, beside, is) (asserts', adds', d', x', left', beside', is') none none' =
    let same = one_beside f s m a b x x' beside beside' none none' in
    let total = one_word m _ _ d d' refl left left' in
    (same.0, is ∙ rw (total, same.1) refl ∙ sym is')

factor_once : GivesOnce GivesFactor
factor_once f s m a b v w (asserts, times, d, x, left, beside, some, below, is, only) (asserts', times', d', x', left', beside', some', below', is', only') none none' =
    let same = one_beside f s m a b x x' beside beside' none none' in
    let total = one_word m _ _ d d' refl left left' in
    (same.0, sym (only w below' (ap (product w) same.1 ∙ is' ∙ sym total)))

left_once : GivesOnce GivesLeft
left_once f s m a b v w (asserts, at, is) (asserts', at', is') none none' = (at ∙ sym at', one_res f s m f.res v w is is')

-- the next row is taken over the same cells
next_once : (row : AnyRow) → GivesOnce row → (f : Flags) (s : State) (m m' more most : Cells) → m ≡ m' → TakesRow row f s m more → TakesRow row f s m' most → more ≡ most
next_once row once f s m m' more most same first second =
    takes_once row once f s m' more most (subst (λ (cells : Cells). TakesRow row f s cells more) same first) second

pub gives_once : (f : Flags) (s : State) (m more most : Cells) → Gives f s m more → Gives f s m most → more ≡ most
gives_once f s m more most g h =
    let one = next_once SavesFrame frame_once f s m m g.saved_frame h.saved_frame refl g.saves_frame h.saves_frame in
    let two = next_once SavesPlace place_once f s _ _ g.saved_place h.saved_place one g.saves_place h.saves_place in
    let three = next_once GivesRight right_once f s _ _ g.right h.right two g.gives_right h.gives_right in
    let four = next_once GivesAddend addend_once f s _ _ g.addend h.addend three g.gives_addend h.gives_addend in
    let five = next_once GivesFactor factor_once f s _ _ g.factor h.factor four g.gives_factor h.gives_factor in
    next_once GivesLeft left_once f s _ _ more most five g.gives_left h.gives_left
