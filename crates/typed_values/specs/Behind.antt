-- Values that were read before those of an answer.
use Rattle.std.specs.Prelude.{◌++◌, List, Ok, Err}
use Rattle.text_reading.specs.Reading.{Answer, Answer.answers}
use Rattle.value_trees.specs.Val.{Plain, Vals, WordMap, OpenMap, vals_of, list_of}
use Rattle.typed_values.specs.declared.fault.ValueLimit.{ValueLimit}

abbrev pub behind_values : List Plain → Answer ValueLimit (Vals WordMap OpenMap) → Answer ValueLimit (Vals WordMap OpenMap)
behind_values front (answers (Ok vs) rest) = answers (Ok (vals_of (front ++ list_of vs))) rest
behind_values front (answers (Err why) rest) = answers (Err why) rest

abbrev pub behind_lines : List Plain → Answer ValueLimit (List Plain) → Answer ValueLimit (List Plain)
behind_lines front (answers (Ok vs) rest) = answers (Ok (front ++ vs)) rest
behind_lines front (answers (Err why) rest) = answers (Err why) rest
