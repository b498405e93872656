use Rattle.std.proofs.Common.{◌++◌, ◌∷◌, [], not, map, if◌then◌else◌, ap, ◌∙◌}
use Rattle.type_table.specs.Written.{has_written, written_view}
use Rattle.type_table.proofs.Plain.{on_ok}
use Rattle.type_table.proofs.WrittenLaws.{has_keys, keys_after}
use Rattle.type_table.proofs.written.WrittenSet.add.Goals as goal
use Rattle.type_table.proofs.written.WrittenSet.add.Goals.{in-Ok, in-Err}

pub returns-clause-told : goal.returns-clause-told
returns-clause-told c =
    elim c.match-insert.branch [
      | in-Ok w ↦ rw w.result-is (w.in-Ok.ensures.added ∙ ap not (has_keys c.self.inside.set.keys c.args.written ∙ ap (λ ws. has_written ws (written_view c.args.written)) c.self.view_is))
      | in-Err w ↦ rw w.result-is tt
    ]

pub returns-clause-added : goal.returns-clause-added
returns-clause-added c =
    elim c.match-insert.branch [
      | in-Ok w ↦ on_ok _ _ (ap (map written_view) w.in-Ok.ensures.keys ∙ keys_after c.self.inside.set.keys c.args.written
          ∙ ap (λ ws. if has_written ws (written_view c.args.written) then ws else ws ++ written_view c.args.written ∷ []) c.self.view_is)
      | in-Err w ↦ rw w.result-is tt
    ]
