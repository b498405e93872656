use Rattle.graph_cycles.specs.Searching.{state_of}
use Rattle.graph_cycles.proofs.Entering.{starts}
use Rattle.graph_cycles.proofs.search.Search.explore.Goals as goal

pub loop-frame-init : goal.loop-frame-init
loop-frame-init c =
    starts c.args.graph.now (state_of c.args.self.now) c.args.root (state_of c.enter.new.self) c.requires.kept c.requires.between c.requires.root c.requires.unseen c.in_ok-enter.ensures
