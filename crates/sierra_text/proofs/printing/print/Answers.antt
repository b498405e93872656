use Rattle.std.proofs.Common.{◌≡◌, rules, sym, subst}
use Rattle.std.specs.String.{string_bytes}
use Rattle.sierra_text.specs.Text.{Text, standard}
use Rattle.sierra_text.specs.Layout.{layout}
use Rattle.sierra_text.proofs.PrintedTexts.{layout_is_text}
use Rattle.sierra_text.proofs.printing.print.Goals as goal

-- what is printed is the plain layout
pub returns-clause-is_text : goal.returns-clause-is_text
returns-clause-is_text c = λ source is.
    let same : string_bytes c.push_part-4.new.text ≡ layout c.args.program.now = search rules in
    subst (Text standard c.args.program.now) (sym same) (layout_is_text c.args.program.now source is)
