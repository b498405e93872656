use Rattle.std.proofs.Common.{◌++◌, ◌∷◌, [], map, ap, ◌∙◌}
use Rattle.std.proofs.lemmas.List.{map-append}
use Rattle.std.specs.Str.{bytes_eq}
use Rattle.indexmap.proofs.CallerLemmas.{insert_entry-new}
use Rattle.type_table.specs.Lookups.{found}
use Rattle.type_table.proofs.Plain.{on_ok}
use Rattle.type_table.proofs.LookupLaws.{found-lookup}
use Rattle.type_table.proofs.positions.Positions.add.Goals as goal
use Rattle.type_table.proofs.positions.Positions.add.Goals.{in-Ok, in-Err}

pub returns-clause-ok : goal.returns-clause-ok
returns-clause-ok c =
    let own = c.in_ok-own.own in
    let m = c.self.inside.map in
    let same = c.in_ok-own.ensures.items in
    let none =
    found-lookup (λ k. k.items) own.items m.entries
    ∙ ap (found (map (λ e. (e.0.items, e.1)) m.entries)) same
    ∙ ap (λ v. found v c.args.name.now) c.self.view_is ∙ c.requires in
    elim c.match-insert.branch [
      | in-Ok w ↦ on_ok _ _ (
          ap (map (λ e. (e.0.items, e.1))) (w.in-Ok.ensures.entries ∙ insert_entry-new (λ a b. bytes_eq a.items b.items) m own c.args.position none)
          ∙ map-append (λ e. (e.0.items, e.1)) m.entries ((own, c.args.position) ∷ [])
          ∙ ap (λ v. v ++ (own.items, c.args.position) ∷ []) c.self.view_is
          ∙ ap (λ bytes. c.args.self.now ++ (bytes, c.args.position) ∷ []) same)
      | in-Err w ↦ rw w.result-is tt
    ]
