use Rattle.std.proofs.Common.{◌≡◌, ◌↔◌, Some, sym, subst}
use Rattle.first_form.specs.Forms.{IsProgram}
use Rattle.sierra_text.specs.AsciiNames.{HasAsciiNames}
use Rattle.sierra_text.specs.Layout.{layout}
use Rattle.sierra_types.specs.declared.program.Program.{Program as Tree}
use Rattle.sierra_tool.proofs.work.of_form.Goals as goal

pub of_layout-requires : goal.of_layout-requires
of_layout-requires c = subst HasAsciiNames (sym c.program.ensures.program) c.requires

-- the program of the layout, where main takes one number
pub returns : goal.returns
returns c = λ program.
    let found = subst (λ (t : Tree). (c.in_ok-found.found ≡ Some program) ↔ IsProgram (layout t) program) c.program.ensures.program (c.in_ok-found.ensures program) in
    let so = c.if_so.ensures program in
    (λ is. let both = so.0 is in (found.0 both.0, c.in_ok-takes.ensures.0 both.1), λ form. so.1 (found.1 form.0, c.in_ok-takes.ensures.1 form.1))
