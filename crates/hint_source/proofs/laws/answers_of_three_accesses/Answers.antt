use Rattle.hint_source.specs.declared.kind.Kind.TheVariants.{Previous, KeyCount, KeyAt, FirstAt, NextIn}
use Rattle.hint_source.specs.Example.{start, top}
use Rattle.hint_source.proofs.Answering.{no_log}
use Rattle.hint_source.proofs.Example.{previous, count, key, first, next}
use Rattle.hint_source.proofs.laws.answers_of_three_accesses.Goals as goal

pub returns : goal.returns
returns c = record {
  previous = previous;
  key_count = count;
  key_at = key;
  first_at = first;
  next_in = next;
  previous_before = no_log 0 (Previous start top) tt;
  key_count_before = no_log 0 (KeyCount start) tt;
  key_at_before = no_log 0 (KeyAt start 0) tt;
  first_at_before = no_log 0 (FirstAt start top) tt;
  next_in_before = no_log 0 (NextIn start top 0) tt;
}
