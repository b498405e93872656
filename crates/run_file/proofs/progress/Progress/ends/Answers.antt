use Rattle.std.proofs.Common.{◌≡◌, ◌<◌, ◌++◌, [], length, refl, sym, ◌∙◌, arith, length-append}
use Rattle.std.proofs.lemmas.Bool.{eqb-true, eqb-false}
use Rattle.std.proofs.lemmas.List.{nil_from_length}
use Rattle.run_file.specs.Stages.{from_stage}
use Rattle.run_file.proofs.EndLaws.{magic_cut, magic_stays, magic_refused_now, stage_cut, ends_behind}
use Rattle.run_file.proofs.progress.Progress.ends.Goals as goal

pub returns-then-starts_with-clause-refusal : goal.returns-then-starts_with-clause-refusal
unfolding from_stage
returns-then-starts_with-clause-refusal c = (
  λ other. absurd cc,
  rw (c.in-Magic.is, magic_cut c.args.self.now.at c.args.unfinished.now c.requires.short (sym c.starts_with.ensures.value ∙ c.if-starts_with.true)) refl,
)

pub returns-else-starts_with-clause-refusal : goal.returns-else-starts_with-clause-refusal
unfolding from_stage
returns-else-starts_with-clause-refusal c = (
  λ other. absurd cc,
  rw (c.in-Magic.is, magic_refused_now c.args.self.now.at c.args.unfinished.now c.requires.short (sym c.starts_with.ensures.value ∙ c.if-starts_with.false)) refl,
)

pub returns-else-starts_with-clause-stays : goal.returns-else-starts_with-clause-stays
unfolding from_stage
returns-else-starts_with-clause-stays c final more =
    rw (c.in-Magic.is, magic_stays c.args.self.now.at c.args.unfinished.now more c.requires.short (sym c.starts_with.ensures.value ∙ c.if-starts_with.false)) refl

pub returns-then-is_empty-clause-whole : goal.returns-then-is_empty-clause-whole
unfolding from_stage
returns-then-is_empty-clause-whole c =
    let none : c.args.unfinished.now ≡ [] = nil_from_length c.args.unfinished.now (eqb-true _ _ (sym c.is_empty.ensures ∙ c.if-is_empty.true)) in
    rw (c.in-End.is, none) refl

pub returns-else-is_empty-clause-refusal : goal.returns-else-is_empty-clause-refusal
unfolding from_stage
returns-else-is_empty-clause-refusal c =
    let some : 0 < length c.args.unfinished.now = omega (arith, eqb-false _ _ (sym c.is_empty.ensures ∙ c.if-is_empty.false)) in
    (λ other. absurd cc, rw c.in-End.is (ends_behind _ c.args.self.now.at c.args.unfinished.now some))

pub returns-else-is_empty-clause-stays : goal.returns-else-is_empty-clause-stays
unfolding from_stage
returns-else-is_empty-clause-stays c final more =
    let some : 0 < length c.args.unfinished.now = omega (arith, eqb-false _ _ (sym c.is_empty.ensures ∙ c.if-is_empty.false)) in
    rw c.in-End.is (ends_behind _ c.args.self.now.at (c.args.unfinished.now ++ more) (omega (arith, length-append c.args.unfinished.now more)))

pub returns-in_default : goal.returns-in_default
returns-in_default c = record {
  whole = tt;
  refusal = (λ other. absurd cc, stage_cut c.args.self.now.stage _ c.args.self.now.at c.args.unfinished.now c.requires.short c.in_default.not-Magic c.in_default.not-End);
  stays = λ final. absurd final;
}
