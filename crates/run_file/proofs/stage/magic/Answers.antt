use Rattle.std.proofs.Common.{◌≡◌, refl, sym, ◌∙◌}
use Rattle.std.proofs.lemmas.Bool.{false≢true}
use Rattle.std.proofs.lemmas.Bool.Decides.{Decides-eqb}
use Rattle.std.proofs.lemmas.Slice.Eq.{slice_eq-Decides}
use Rattle.run_file.specs.Spelling.{magic}
use Rattle.run_file.specs.Stages.{from_word, from_stage}
use Rattle.run_file.proofs.StageLaws.{magic_step, magic_refused}
use Rattle.run_file.proofs.stage.magic.Goals as goal

pub returns-then-eq-clause-goes_on : goal.returns-then-eq-clause-goes_on
unfolding from_stage from_word
returns-then-eq-clause-goes_on c at l more =
    let next = c.without_part.ensures in
    let same : c.args.bytes ≡ magic = (slice_eq-Decides Decides-eqb c.args.bytes magic c.eq.result c.eq.ensures).0 c.if-eq.true in
    rw (next, same, magic_step at more) refl

pub returns-else-eq-clause-goes_on : goal.returns-else-eq-clause-goes_on
unfolding from_stage
returns-else-eq-clause-goes_on c at =
    (tt, λ l more. rw (magic_refused at c.args.bytes more c.requires (λ same. false≢true (sym c.if-eq.false ∙ (slice_eq-Decides Decides-eqb c.args.bytes magic c.eq.result c.eq.ensures).1 same))) refl)
