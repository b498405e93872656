use Rattle.std.proofs.Common.{◌≡◌, ℕ, Option, Some, None, IsSome, refl}
use Rattle.casm_steps.proofs.Instructions.{steps}
use Rattle.casm_steps.proofs.laws.instructions_step.Goals as goal

listed_word : (o : Option ℕ) → IsSome o → (u : ℕ) × (o ≡ Some u)
listed_word None is = absurd (cc)
listed_word (Some u) is = (u, refl)

pub returns : goal.returns
returns c = λ m i s t near small has frame does. let u = listed_word _ frame in steps m s small u.0 u.1 i t near has does
