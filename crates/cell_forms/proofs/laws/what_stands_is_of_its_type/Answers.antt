use Rattle.value_trees.specs.Of.{AreWords, IsOpenMap}
use Rattle.cell_forms.specs.Standing.{Asked}
use Rattle.cell_forms.proofs.Typed.{stands_of}
use Rattle.cell_forms.proofs.laws.what_stands_is_of_its_type.Goals as goal

pub returns : goal.returns
returns c padding m ty cells v in_field h =
    stands_of (Asked padding) m in_field _ _ AreWords IsOpenMap (λ k cells d h. absurd h) (λ k cells e h. absurd h) ty cells v h
