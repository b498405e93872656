-- Behind one prefix stands one text, and behind the name in it another.
use Rattle.std.proofs.Common.{◌≡◌, ◌≢◌, ℕ, List, ◌++◌, Option, Some, None, MatchOption, Bor, ap, sym, ◌∙◌}
use Rattle.std.proofs.lemmas.Bool.Decides.{Decides-eqb}
use Rattle.std.proofs.lemmas.List.{append_cancel_left}
use Rattle.std.proofs.lemmas.Slice.Eq.{strip_prefix_is}
use Rattle.first_form.specs.declared.operation.Operation.{Operation}
use Rattle.first_form.specs.Forms.{libfunc_name}
use Rattle.first_form.specs.Scan.{HasName}
use Rattle.first_form.proofs.scan.name_behind.Goals as goal

found : (text before named name : List ℕ) (operation : Operation) (r : Option (Bor (List ℕ))) → text ≡ before ++ named → name ≡ libfunc_name operation →
    MatchOption r ((rest : List ℕ) → named ≢ name ++ rest) (λ x. named ≡ name ++ x.now) →
    MatchOption r ((rest : List ℕ) → HasName text before operation rest → ⊥) (λ rest. HasName text before operation rest.now)
found text before named name operation None is name_is none =
    λ rest has. none rest (append_cancel_left before _ _ (sym is ∙ has.text_is) ∙ ap (λ n. n ++ rest) (sym name_is))
found text before named name operation (Some x) is name_is some =
    record { text_is = is ∙ ap (λ behind. before ++ behind) (some ∙ ap (λ n. n ++ x.now) name_is) }

pub returns-in-Some : goal.returns-in-Some
returns-in-Some c =
    let is = strip_prefix_is Decides-eqb c.args.text.now c.args.prefix.now (Some c.in-Some.named) c.in-Some.ensures.cases in
    let rest = strip_prefix_is Decides-eqb c.in-Some.named.now c.libfunc.result.now c.strip_prefix-in-Some.result c.strip_prefix-in-Some.ensures.cases in
    found _ _ _ c.libfunc.result.now c.args.operation c.strip_prefix-in-Some.result is c.libfunc.ensures rest

pub returns-in-None : goal.returns-in-None
returns-in-None c rest has = strip_prefix_is Decides-eqb c.args.text.now c.args.prefix.now None c.in-None.ensures.cases _ has.text_is
