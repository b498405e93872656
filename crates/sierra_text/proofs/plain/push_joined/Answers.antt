use Rattle.std.proofs.Common.{sym}
use Rattle.std.proofs.lemmas.List.{append-nil}
use Rattle.std.proofs.lemmas.List.Elements.{All-rest}
use Rattle.std.specs.String.{string_bytes}
use Rattle.sierra_text.proofs.plain.push_joined.Goals as goal

-- the first was printed, and the others have ASCII names as all have
pub loop-part-init : goal.loop-part-init
loop-part-init g c = record {
  text = sym (append-nil (string_bytes c.push_to.new.text));
  named = All-rest g.T.Plain.has_ascii_names c.in-Some.first.now c.in-Some.more.now c.args.parts.now c.in-Some.ensures.cases.0 c.requires;
}
