use Rattle.std.proofs.Common.{◌≡◌, ◌++◌, take}
use Rattle.std.specs.List.{All, flat_map}
use Rattle.std.specs.String.{string_bytes}
use Rattle.sierra_text.proofs.plain.push_joined.Given as goal

-- the first, and each that was gone over behind a separator
abbrev pub invariant-loop-part : goal.invariant-loop-part
invariant-loop-part g l = record {
  text : string_bytes l.text ≡ string_bytes l.initial.text ++ flat_map (λ part. l.separator ++ g.T.Plain.plain part) (take l.part-index l.more);
  named : All g.T.Plain.has_ascii_names l.more;
}
