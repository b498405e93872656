use Rattle.hint_source.proofs.Answering.{answer_of-silent, view_after_query-plain, view_after_note-plain}
use Rattle.hint_source.proofs.laws.silent_sources.Goals as goal

pub returns : goal.returns
returns c = record { answer = answer_of-silent; query = view_after_query-plain; note = view_after_note-plain }
