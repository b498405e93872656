use Rattle.std.proofs.Common.{◌≡◌, ◌-◌, length, take, sym, ap, subst, ◌∙◌, arith, vec_len}
use Rattle.std.proofs.lemmas.Result.{on_ok_weaker}
use Rattle.graph_cycles.specs.Kept.{Steps}
use Rattle.graph_cycles.specs.Searching.{state_of, lowered_top, Closes}
use Rattle.graph_cycles.proofs.GoingBack.{with_frames, goes_back, closes_part}
use Rattle.graph_cycles.proofs.search.Search.leave.Goals as goal

pub returns-then-frame : goal.returns-then-frame
returns-then-frame c =
    let s = state_of c.args.self.now in
    let size : vec_len c.args.self.now.frames ≡ length s.frames = omega arith in
    let frames : c.pop.new.self.items ≡ take (length s.frames - 1) s.frames = c.pop.ensures.rest ∙ ap (λ n. take (n - 1) s.frames) size in
    on_ok_weaker c.close.result
    (λ closes. closes_part c.args.graph.now s c.args.frame (state_of c.close.new.self) c.requires c.if-frame.true
    (subst (λ fs. Closes c.args.graph.now c.args.frame.place (with_frames s fs) (state_of c.close.new.self)) frames closes))
    c.close.ensures

pub returns-else-frame : goal.returns-else-frame
returns-else-frame c =
    let s = state_of c.args.self.now in
    let size : vec_len c.args.self.now.frames ≡ length s.frames = omega arith in
    let frames : c.pop.new.self.items ≡ take (length s.frames - 1) s.frames = c.pop.ensures.rest ∙ ap (λ n. take (n - 1) s.frames) size in
    let now : state_of c.lower_top.new.self ≡ lowered_top (with_frames s (take (length s.frames - 1) s.frames)) c.args.frame.lowest = c.lower_top.ensures ∙ ap (λ fs. lowered_top (with_frames s fs) c.args.frame.lowest) frames in
    subst (λ x. Steps c.args.graph.now s x) (sym now) (goes_back c.args.graph.now s c.args.frame c.requires c.if-frame.false)
