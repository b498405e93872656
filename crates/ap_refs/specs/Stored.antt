-- What a stored place means as a place.
use Rattle.std.specs.Prelude.{ℕ, ◌<◌, List, [], ◌∷◌, Option, Some, None}
use Rattle.casm_word.specs.declared.cell_expr.CellExpr.{CellExpr}
use Rattle.casm_word.specs.declared.cell_expr.CellExpr.TheVariants as expr
use Rattle.held_list.specs.Held.{Held}
use Rattle.ap_refs.specs.declared.place.Locals.{Locals}
use Rattle.ap_refs.specs.declared.place.Locals.TheVariants as state
use Rattle.ap_refs.specs.declared.place.Place.{Place}
use Rattle.ap_refs.specs.declared.stored.Near.{Near}
use Rattle.ap_refs.specs.declared.stored.Frame.{Frame}
use Rattle.ap_refs.specs.declared.stored.Frame.TheVariants as frames
use Rattle.ap_refs.specs.declared.stored.Kept.{Kept}
use Rattle.ap_refs.specs.declared.stored.Kept.TheVariants as kept
use Rattle.ap_refs.specs.declared.stored.Pairs.{Pairs}
use Rattle.ap_refs.specs.declared.stored.Pairs.TheVariants as pairs
use Rattle.ap_refs.specs.Arguments.{Cells, Argument}

-- the one cell of a variable
abbrev pub cell_of : Near → CellExpr
cell_of near = expr.Cell (record { base = near.base; off = near.off })

-- a variable with its one cell
abbrev pub pair_of : Near → Argument
pair_of near = (near.variable, cell_of near ∷ [])

-- how far ap is from where it was at the function's begin
abbrev pub ap_of : Frame → Option ℕ
ap_of (frames.Before ap) = Some ap
ap_of frames.BeforeUnknown = None
ap_of (frames.Done ap) = Some ap
ap_of frames.DoneUnknown = None

-- the local state
abbrev pub locals_of : Frame → Locals
locals_of (frames.Before ap) = state.Before
locals_of frames.BeforeUnknown = state.Before
locals_of (frames.Done ap) = state.Done
locals_of frames.DoneUnknown = state.Done

-- the place that is kept
abbrev pub meant : Kept → Place
meant (kept.One own frame) = record { cells = pair_of own ∷ []; ap = ap_of frame; locals = locals_of frame }
meant (kept.Two first second frame) = record { cells = pair_of first ∷ pair_of second ∷ []; ap = ap_of frame; locals = locals_of frame }
meant (kept.Wide place) = place.value

-- the first of two variables is the lesser
abbrev pub IsInOrder : Kept → Type 0
IsInOrder (kept.One own frame) = Unit {0}
IsInOrder (kept.Two first second frame) = first.variable < second.variable
IsInOrder (kept.Wide place) = Unit {0}

-- the variables with their cells, as they are read
abbrev pub listed : Pairs → Held Cells
listed (pairs.One own) = own
listed (pairs.Two both) = both
listed (pairs.Lent all) = all.now
