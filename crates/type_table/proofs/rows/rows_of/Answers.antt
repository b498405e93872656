use Rattle.std.proofs.Common.{◌≡◌, ◌++◌, ◌∷◌, [], ◌+◌, ◌∙◌, ap, sym, refl, subst, length, get_or, Some, slice_get, is_ok, true, cond}
use Rattle.std.proofs.lemmas.Option.{slice_get_read}
use Rattle.type_table.specs.Found.{IsKnownAt}
use Rattle.type_table.specs.Made.{AreMadeTo, IsMadeOf}
use Rattle.type_table.specs.Rows.{targets}
use Rattle.type_table.proofs.Plain.{some_is}
use Rattle.type_table.proofs.Acyclic.{targets_are}
use Rattle.type_table.proofs.RowsMade.{one_made}
use Rattle.type_table.proofs.rows.rows_of.Goals as goal

pub known_at-here-requires : goal.known_at-here-requires
known_at-here-requires c = let known = c.requires.known c.loop-i.i c.loop-i-test.true in (known.0, known.1)

pub loop-i-preserved : goal.loop-i-preserved
loop-i-preserved c =
    let ds = c.args.declarations.now in
    let i = c.loop-i.i in
    let d = c.index-declarations-i.result in
    let rows = c.loop-i.rows.items in
    let row = c.in_ok-row.row in
    let here : slice_get ds i ≡ Some d = slice_get_read ds (length ds) i d refl c.loop-i-test.true c.index-declarations-i.is in
    let known = c.requires.known i c.loop-i-test.true in
    let same : known.0 ≡ c.known_at-here.result = some_is known.0 c.known_at-here.result (sym known.1 ∙ c.known_at-here.ensures) in
    let at : IsKnownAt ds i c.known_at-here.result = subst (IsKnownAt ds i) same known.2 in
    let named : c.targets.result.now ≡ targets ds d = c.targets.ensures ∙ ap (λ g. get_or g i []) c.requires.graph ∙ targets_are ds i d here in
    let made : IsMadeOf d c.known_at-here.result (targets ds d) row = subst (λ ts. IsMadeOf d c.known_at-here.result ts row) named c.in_ok-row.ensures in
    let pushed : is_ok c.push.result ≡ true = sym c.map_err.ensures.variant ∙ ap is_ok c.in_ok-map_err.was in
    let rows_are : c.push.new.self.items ≡ rows ++ row ∷ [] = c.push.ensures.items ∙ ap (λ b. cond b (rows ++ row ∷ []) rows) pushed in
    subst (AreMadeTo ds (i + 1)) (sym rows_are) (one_made ds i rows d c.known_at-here.result row c.loop-i.invariant here at made)
