use Rattle.sierra_tool.proofs.Arguments.{main_faults}
use Rattle.sierra_tool.proofs.laws.known.Goals as goal

pub returns : goal.returns
returns c = record {
  texts = c.texts_of_inputs.ensures;
  faults = main_faults c.given_types.ensures c.told_faults.ensures.whole;
  one_fault = c.one_fault.ensures.one;
  no_input = c.one_fault.ensures.not_both;
  one_meaning = c.one_meaning.ensures;
  every_meaning_ends = c.every_meaning_ends.ensures;
}
