use Rattle.std.proofs.Common.{◌≤◌, ◌-◌, length, get_or, take, drop, ap, ◌∙◌, rules, arith}
use Rattle.graph_cycles.proofs.RowLaws.{row_at, row_rises, row_within}
use Rattle.graph_cycles.proofs.graph.row.Goals as goal

pub offset_bounds-targets-start : goal.offset_bounds-targets-start
offset_bounds-targets-start c =
    let rises = row_rises 0 c.args.ends.now (length c.args.targets.now) c.args.node c.requires.kept c.requires.node in
    let within = row_within 0 c.args.ends.now (length c.args.targets.now) c.args.node c.requires.kept c.requires.node in
    let start : c.start.result ≤ length c.args.targets.now = omega (arith, c.start.ensures) in
    search rules

pub slice_bounds-result-count : goal.slice_bounds-result-count
slice_bounds-result-count c =
    let rises = row_rises 0 c.args.ends.now (length c.args.targets.now) c.args.node c.requires.kept c.requires.node in
    omega (arith, c.start.ensures)

pub slice_bounds-result-start : goal.slice_bounds-result-start
slice_bounds-result-start c =
    let rises = row_rises 0 c.args.ends.now (length c.args.targets.now) c.args.node c.requires.kept c.requires.node in
    omega (arith, c.start.ensures)

pub slice_bounds-result-end : goal.slice_bounds-result-end
slice_bounds-result-end c =
    let within = row_within 0 c.args.ends.now (length c.args.targets.now) c.args.node c.requires.kept c.requires.node in
    omega arith

pub returns : goal.returns
returns c =
    ap (λ start. take (get_or c.args.ends.now c.args.node 0 - start) (drop start c.args.targets.now)) c.start.ensures
    ∙ row_at 0 c.args.ends.now c.args.targets.now c.args.node c.requires.node
