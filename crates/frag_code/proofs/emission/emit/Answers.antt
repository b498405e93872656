use Rattle.std.proofs.Common.{◌≡◌, ℕ, ◌<◌, List, length, ap, sym, subst, ◌∙◌, arith}
use Rattle.casm_word.specs.declared.instr.Instr.{Instr}
use Rattle.frag_code.specs.declared.piece.Piece.{Piece}
use Rattle.frag_code.specs.declared.piece.Piece.TheVariants as piece
use Rattle.frag_code.specs.Emit.{code_of}
use Rattle.frag_code.specs.Meaning.{IsPut, MeansFragment}
use Rattle.frag_code.specs.Tables.{places_from}
use Rattle.frag_code.proofs.Meanings.{means}
use Rattle.frag_code.proofs.Tables.{known, places_length, is_small, knows_leap, code_step, hints_step, code_end}
use Rattle.frag_code.proofs.emission.emit.Goals as goal

pub loop-i-preserved : goal.loop-i-preserved
loop-i-preserved c =
    let k = known _ _ _ _ _ c.pieces-pieces.ensures.pieces c.has_jump-jumps.ensures c.requires.well_formed c.requires.code_fits c.requires.entries in
    record {
      code = code_step _ _ _ _ k _ _ c.loop-i-test.true _ (c.as_slice-places.ensures.value ∙ c.in_ok-places.ensures) _ _ _ _ c.leap-distance.ensures.leap c.in_ok-add.ensures.code c.loop-i.invariant.code;
      hints = hints_step _ _ _ _ k _ _ c.loop-i-test.true _ (c.as_slice-places.ensures.value ∙ c.in_ok-places.ensures) _ _ _ c.in_ok-add.ensures.hints c.loop-i.invariant.hints;
    }

within_table : (jumps : _) (at i : ℕ) (f : List Piece) (table : List ℕ) → i < length f → table ≡ places_from jumps at f → i < length table
within_table jumps at i f table within is_table = let long = ap length is_table ∙ places_length jumps at f in omega arith

pub bounds-places-i : goal.bounds-places-i
bounds-places-i c = within_table _ _ _ _ _ c.loop-i-test.true (c.as_slice-places.ensures.value ∙ c.in_ok-places.ensures)

pub leap-distance-requires-clause-place : goal.leap-distance-requires-clause-place
leap-distance-requires-clause-place c =
    let k = known _ _ _ _ _ c.pieces-pieces.ensures.pieces c.has_jump-jumps.ensures c.requires.well_formed c.requires.code_fits c.requires.entries in
    is_small _ _ _ _ k _ (piece.Exit 0) c.loop-i-test.true _ (c.as_slice-places.ensures.value ∙ c.in_ok-places.ensures)

pub leap-distance-requires-clause-leap : goal.leap-distance-requires-clause-leap
leap-distance-requires-clause-leap c =
    let k = known _ _ _ _ _ c.pieces-pieces.ensures.pieces c.has_jump-jumps.ensures c.requires.well_formed c.requires.code_fits c.requires.entries in
    knows_leap _ _ _ _ k _ _ c.loop-i-test.true _ (c.as_slice-places.ensures.value ∙ c.in_ok-places.ensures)

means_whole : (whole f : List Piece) (at : ℕ) (exits : ℕ → ℕ) (code : List Instr) → f ≡ whole → code ≡ code_of f at exits → IsPut whole at exits → MeansFragment whole at exits code
means_whole whole f at exits code same is put = subst (MeansFragment whole at exits) (sym (is ∙ ap (λ f. code_of f at exits) same)) (means whole at exits put)

pub returns-clause-means : goal.returns-clause-means
returns-clause-means c = means_whole _ _ _ _ _ c.pieces-pieces.ensures.pieces (code_end _ _ _ _ _ _ _ c.loop-i-test.false c.loop-i.invariant.code)
