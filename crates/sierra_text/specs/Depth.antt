-- How many groups are open around a byte of a label.
use Rattle.std.specs.Prelude.{ℕ}
use Rattle.sierra_text.specs.declared.labels.LabelSpot.{LabelSpot}
use Rattle.sierra_text.specs.declared.labels.LabelSpot.TheVariants as spots

abbrev pub depth_of : LabelSpot → ℕ
depth_of spots.Start = 0
depth_of spots.FirstWord = 0
depth_of spots.Colon = 0
depth_of spots.Path = 0
depth_of spots.Word = 0
depth_of (spots.Group around) = around
depth_of spots.Bracket = 0
depth_of spots.InBracket = 0
depth_of spots.Behind = 0
