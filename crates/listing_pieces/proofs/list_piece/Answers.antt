-- `listing_pieces::list_piece` meets its contract. Assumes nothing.
use mathlib.Core.Path.{◌≡◌, refl, sym, ◌∙◌}
use Prim.Native.Nat.{◌+◌}
use native.Mathlib.Omega.{arith}
use lib.ListN.{length}
use Rattle.listing.specs.Lines.{list_count}
use Rattle.listing.proofs.LineLengths.{list-within, end-within}
use Rattle.listing_turns.proofs.Room.{fits-true}
use Rattle.listing_pieces.proofs.Cases.{turn-refused, turn_more, turn_last}
use Rattle.listing_pieces.proofs.list_piece.Goals as goal

pub returns-then-not-fits : goal.returns-then-not-fits
returns-then-not-fits c =
    let both = turn-refused _ _ _ _ _ _ c.piece_count-count.ensures (sym c.fits.ensures ∙ c.if-not-fits.true) in
    record { told = both.0; text = both.1 }

pub overflow_add-listed : goal.overflow_add-listed
overflow_add-listed c = let f = fits-true _ _ _ (sym c.fits.ensures ∙ c.if-not-fits.false) in omega arith

pub overflow_cast-after : goal.overflow_cast-after
overflow_cast-after c = let f = fits-true _ _ _ (sym c.fits.ensures ∙ c.if-not-fits.false) in omega arith

pub overflow_add-after : goal.overflow_add-after
overflow_add-after c = let f = fits-true _ _ _ (sym c.fits.ensures ∙ c.if-not-fits.false) in omega arith

pub returns-then-wanted-ne0 : goal.returns-then-wanted-ne0
returns-then-wanted-ne0 c =
    let a = c.args in
    let told : c.list-at.result ≡ list_count a.edition a.pieces a.part.now (a.listed + 1) (length a.out.now) = c.list-at.ensures.count in
    let both = turn_more _ _ _ _ _ _ _ _ _ c.piece_count-count.ensures (sym c.fits.ensures ∙ c.if-not-fits.false) told
    c.list-at.ensures.text c.wanted_after-wanted.ensures c.if-wanted-ne0.true in
    record { told = both.0; text = both.1 }

pub slice_bounds-end-count : goal.slice_bounds-end-count
slice_bounds-end-count c = omega (arith, list-within _ _ _ _ _ _ c.list-at.ensures.count (omega arith))

pub slice_bounds-end-start : goal.slice_bounds-end-start
slice_bounds-end-start c = omega (arith, list-within _ _ _ _ _ _ c.list-at.ensures.count (omega arith))

pub overflow_add-written : goal.overflow_add-written
overflow_add-written c =
    let f = fits-true _ _ _ (sym c.fits.ensures ∙ c.if-not-fits.false) in
    omega (arith, list-within _ _ _ _ _ _ c.list-at.ensures.count (omega arith), end-within _ _ _ c.end.ensures.count (omega arith))

pub returns : goal.returns
returns c =
    let both = turn_last _ _ _ _ _ _ _ _ _ _ _ _ _ c.piece_count-count.ensures (sym c.fits.ensures ∙ c.if-not-fits.false)
    c.list-at.ensures.count c.list-at.ensures.text c.wanted_after-wanted.ensures c.if-wanted-ne0.false c.end.ensures.count c.end.ensures.text (omega arith) refl in
    record { told = both.0; text = both.1 }
