use Rattle.std.proofs.Common.{◌∙◌, map, ap}
use Rattle.std.specs.String.{string_bytes}
use Rattle.edge_io.proofs.Names.{got}
use Rattle.edge_io.proofs.mem_files.MemFiles.find.Goals as goal

pub returns : goal.returns
returns c =
    got c.args.self.now (λ f. string_bytes f.0) (λ f. f.1.items) c.args.name.now c.deref.result.now c.find_file.result
    (ap (map (λ f. (string_bytes f.0, f.1.items))) c.deref.ensures.value ∙ ap (λ t. t.files) c.self.view_is) c.find_file.ensures
