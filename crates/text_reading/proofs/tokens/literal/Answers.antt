use Rattle.std.proofs.Common.{◌∙◌, sym, ap, List, ℕ}
use Rattle.std.proofs.lemmas.List.{nil_from_length}
use Rattle.text_reading.specs.TokenReading.{literal_at}
use Rattle.text_reading.proofs.TokenFacts.{literal_from, literal_end_here}
use Rattle.text_reading.proofs.tokens.literal.Goals as goal

pub returns : goal.returns
unfolding literal_at
returns g c =
    let none = nil_from_length c.loop-first.wanted.now c.in_default.ensures.cases in
    sym c.loop-first.invariant ∙ ap (λ (w : List ℕ). literal_from w c.loop-first.rest.now) none ∙ literal_end_here c.loop-first.rest.now
