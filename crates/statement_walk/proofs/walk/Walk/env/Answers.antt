use Rattle.std.proofs.Common.{sym, ap, ◌∙◌}
use Rattle.std.specs.Option.{option_copied}
use Rattle.statement_walk.proofs.Driving.{copied_some}
use Rattle.statement_walk.proofs.walk.Walk.env.Goals as goal

pub unwrap-requires : goal.unwrap-requires
unwrap-requires g c = copied_some _ _ c.given.ensures c.requires

pub returns : goal.returns
returns g c = (c.unwrap.result.now.0, sym c.given.ensures ∙ ap option_copied c.unwrap.ensures)
