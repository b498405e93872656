-- Behind one prefix stands one text, and that text starts with one number at most.
use Rattle.std.proofs.Common.{◌≡◌, Some, None, Err, ap, sym, ◌∙◌}
use Rattle.std.proofs.lemmas.Bool.Decides.{Decides-eqb}
use Rattle.std.proofs.lemmas.List.{append_cancel_left}
use Rattle.std.proofs.lemmas.Slice.Eq.{strip_prefix_is}
use Rattle.byte_reading.proofs.DecimalLaws.{none_leads}
use Rattle.first_form.proofs.scan.number_behind.Goals as goal

pub returns-in-Ok : goal.returns-in-Ok
returns-in-Ok c =
    let is = strip_prefix_is Decides-eqb c.args.text.now c.args.prefix.now (Some c.in-Some.number) c.in-Some.ensures.cases in
    record { behind = c.in-Some.number.now; text_is = is; number = c.in-Ok.ensures.found.1; below = c.in-Ok.ensures.found.0 }

pub returns-in-Err : goal.returns-in-Err
returns-in-Err c n rest has =
    let is = strip_prefix_is Decides-eqb c.args.text.now c.args.prefix.now (Some c.in-Some.number) c.in-Some.ensures.cases in
    let same : has.behind ≡ c.in-Some.number.now = append_cancel_left c.args.prefix.now _ _ (sym has.text_is ∙ is) in
    none_leads c.in-Some.number.now c.args.greatest c.in-Err.field-0 (λ fault. c.in-Err.ensures.not_digits.0 (ap Err fault)) (λ fault. c.in-Err.ensures.too_large.0 (ap Err fault)) n rest has.below (rw (← same) has.number)

pub returns-in-None : goal.returns-in-None
returns-in-None c n rest has = strip_prefix_is Decides-eqb c.args.text.now c.args.prefix.now None c.in-None.ensures.cases has.behind has.text_is
