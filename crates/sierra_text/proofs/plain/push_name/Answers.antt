use Rattle.std.proofs.Common.{rules}
use Rattle.std.proofs.lemmas.Str.{IsUtf8-from_ascii}
use Rattle.sierra_text.proofs.plain.push_name.Goals as goal

-- ASCII is UTF-8
pub unwrap-requires : goal.unwrap-requires
unwrap-requires c = search (rules, IsUtf8-from_ascii)
