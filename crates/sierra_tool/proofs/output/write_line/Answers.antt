use Rattle.std.proofs.Common.{◌++◌, [], ◌∷◌}
use Rattle.std.specs.Prelude.{Err}
use Rattle.edge_io.specs.Sinks.{Writes}
use Rattle.edge_io.proofs.Writing.{writes_part, writes_then}
use Rattle.sierra_tool.proofs.Stages.{passed_on}
use Rattle.sierra_tool.proofs.output.write_line.Goals as goal

-- a fault in the word, ..
pub returns-in_err-write_all : goal.returns-in_err-write_all
returns-in_err-write_all g c =
    let out = g.S.Sink.view in
    let line = c.args.word.now ++ (c.args.name.now ++ 10 ∷ []) in
    passed_on (Writes (out c.args.out.now) (out c.write_all.new.sink) line) c.in_err-write_all.field-0.0 c.from_residual.result c.from_residual.ensures.1
    (writes_part (out c.args.out.now) (out c.write_all.new.sink) c.args.word.now (c.args.name.now ++ 10 ∷ []) c.in_err-write_all.ensures)

-- .. in the name, ..
pub returns-in_err-write_all-2 : goal.returns-in_err-write_all-2
returns-in_err-write_all-2 g c =
    let out = g.S.Sink.view in
    let line = c.args.word.now ++ (c.args.name.now ++ 10 ∷ []) in
    passed_on (Writes (out c.args.out.now) (out c.write_all-2.new.sink) line) c.in_err-write_all-2.field-0.0 c.from_residual-in_err-write_all-2.result c.from_residual-in_err-write_all-2.ensures.1
    (writes_then (out c.args.out.now) (out c.write_all.new.sink) (out c.write_all-2.new.sink) c.args.word.now (c.args.name.now ++ 10 ∷ []) (Err c.in_err-write_all-2.field-0.0) c.in_ok-write_all.ensures
    (writes_part (out c.write_all.new.sink) (out c.write_all-2.new.sink) c.args.name.now (10 ∷ []) c.in_err-write_all-2.ensures))

-- .. or all of them, up to one in the end of the line
pub returns : goal.returns
returns g c =
    let out = g.S.Sink.view in
    writes_then (out c.args.out.now) (out c.write_all.new.sink) (out c.write_all-3.new.sink) c.args.word.now (c.args.name.now ++ 10 ∷ []) c.write_all-3.result c.in_ok-write_all.ensures
    (writes_then (out c.write_all.new.sink) (out c.write_all-2.new.sink) (out c.write_all-3.new.sink) c.args.name.now (10 ∷ []) c.write_all-3.result c.in_ok-write_all-2.ensures c.write_all-3.ensures)
