use Rattle.std.proofs.Common.{◌≤◌, ◌-◌, length, get_or, take, drop, ap, ◌∙◌, rules, arith}
use Rattle.least_needs.proofs.RowLaws.{row_at, row_rises, row_within}
use Rattle.least_needs.proofs.terms.row.Goals as goal

pub offset_bounds-terms-start : goal.offset_bounds-terms-start
offset_bounds-terms-start c =
    let rises = row_rises 0 c.args.ends.now (length c.args.terms.now) c.args.statement c.requires.kept c.requires.statement in
    let within = row_within 0 c.args.ends.now (length c.args.terms.now) c.args.statement c.requires.kept c.requires.statement in
    let start : c.start.result ≤ length c.args.terms.now = omega (arith, c.start.ensures) in
    search rules

pub slice_bounds-result-count : goal.slice_bounds-result-count
slice_bounds-result-count c =
    let rises = row_rises 0 c.args.ends.now (length c.args.terms.now) c.args.statement c.requires.kept c.requires.statement in
    omega (arith, c.start.ensures)

pub slice_bounds-result-start : goal.slice_bounds-result-start
slice_bounds-result-start c =
    let rises = row_rises 0 c.args.ends.now (length c.args.terms.now) c.args.statement c.requires.kept c.requires.statement in
    omega (arith, c.start.ensures)

pub slice_bounds-result-end : goal.slice_bounds-result-end
slice_bounds-result-end c =
    let within = row_within 0 c.args.ends.now (length c.args.terms.now) c.args.statement c.requires.kept c.requires.statement in
    omega arith

pub returns : goal.returns
returns c =
    ap (λ start. take (get_or c.args.ends.now c.args.statement 0 - start) (drop start c.args.terms.now)) c.start.ensures
    ∙ row_at 0 c.args.ends.now c.args.terms.now c.args.statement c.requires.statement
