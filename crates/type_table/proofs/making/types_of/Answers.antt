use Rattle.std.proofs.Common.{◌≡◌, ◌≢◌, ◌<◌, ◌∙◌, ap, sym, refl, subst, ℕ, length, get_or, Some, None}
use Rattle.std.proofs.lemmas.Option.{slice_get_read, slice_get_within}
use Rattle.type_table.specs.declared.fault.TypeFault.TheVariants as faults
use Rattle.type_table.specs.declared.outcome.Known.{Known}
use Rattle.type_table.specs.declared.rules.TypeRule.TheVariants as rules
use Rattle.type_table.specs.Found.{IsKnownAt}
use Rattle.type_table.specs.Judged.{AreJudged}
use Rattle.type_table.specs.Made.{FirstTypeFault, fault_told}
use Rattle.type_table.specs.Refusals.{BreaksType}
use Rattle.type_table.proofs.Plain.{some_is}
use Rattle.type_table.proofs.FaultLaws.{told_breaks}
use Rattle.type_table.proofs.RowsMade.{none_break}
use Rattle.type_table.proofs.SignatureLaws.{fault_passed}
use Rattle.type_table.proofs.making.types_of.Goals as goal

pub returns-in-Some-clause-refused : goal.returns-in-Some-clause-refused
returns-in-Some-clause-refused c = λ real.
    let ds = c.args.declarations.now in
    let positions = c.in_ok-resolved.resolved.positions in
    let at = c.in-Some.broken.position in
    let rule = c.in-Some.broken.rule in
    let judged : AreJudged ds (Some c.in-Some.broken) c.in_ok-judged.judged.known.items =
    subst (λ first. AreJudged ds first c.in_ok-judged.judged.known.items) c.in-Some.is c.in_ok-judged.ensures in
    let (d, here, first, none_before) = judged in
    let read = slice_get_read ds (length ds) at c.index-declarations-broken.result refl (slice_get_within ds at d here) c.index-declarations-broken.is in
    let same : c.index-declarations-broken.result ≡ d = some_is c.index-declarations-broken.result d (sym read ∙ here) in
    let told : c.fault_of.result ≡ fault_told positions d rule = c.fault_of.ensures real ∙ ap (λ e. fault_told positions e rule) same in
    record {
      at = at;
      decl = d;
      rule = rule;
      here = here;
      first = first;
      breaks = subst (BreaksType ds at d rule) (sym told) (told_breaks ds positions c.in_ok-resolved.ensures.first at d rule first);
      none_before = none_before;
    }

pub rows_of-requires-clause-known : goal.rows_of-requires-clause-known
rows_of-requires-clause-known c =
    let ds = c.args.declarations.now in
    let judged : AreJudged ds None c.in_ok-judged.judged.known.items =
    subst (λ first. AreJudged ds first c.in_ok-judged.judged.known.items) c.in_default.is c.in_ok-judged.ensures in
    subst (λ known. (i : ℕ) → i < length ds → (k : Known) × (get_or known i None ≡ Some k) × IsKnownAt ds i k) (sym c.deref.ensures.value) judged.1

pub returns-in_err-rows-clause-refused : goal.returns-in_err-rows-clause-refused
returns-in_err-rows-clause-refused c =
    fault_passed (λ e. e ≢ faults.Memory → FirstTypeFault c.args.declarations.now e) faults.Memory c.from_residual-in_err-rows.result c.from_residual-in_err-rows.ensures.1 (λ real. absurd (real refl))

pub returns-clause-found : goal.returns-clause-found
returns-clause-found c =
    let ds = c.args.declarations.now in
    let made = c.in_ok-rows.ensures in
    let listed = c.in_ok-resolved.ensures.listed (λ i d here repeated. none_break ds c.in_ok-rows.rows.items made i d rules.DeclaredOnce (faults.Duplicate d.id) here (repeated, refl)) in
    record { made = made; first = c.in_ok-resolved.ensures.first; names = listed.0; numbered = listed.1 }
