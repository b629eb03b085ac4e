-- `listing_writer::list` meets its contract. Assumes nothing.
use Prim.Native.Nat.{◌*◌}
use native.Mathlib.Omega.{arith}
use Rattle.std.proofs.Common.{rules}
use lib.ListN.{length}
use Rattle.listing.specs.Lines.{piece_count, lines, list_count, list_of}
use Rattle.listing.proofs.LineLengths.{length-line}
use Rattle.decimals.proofs.Stores.{answered-none, answered-text}
use Rattle.listing_writer.proofs.Listed.{listed-none, listed-length, listed-room, listed_next, listed-all}
use Rattle.listing_writer.proofs.list.Goals as goal

pub returns-then-out-piece_count : goal.returns-then-out-piece_count
unfolding list_count list_of
returns-then-out-piece_count c =
    let a = c.args in
    let n = piece_count a.pieces (length a.input.now) in
    let both = answered-none (32 * n) (lines a.edition a.pieces n a.first a.input.now) a.out.now (omega arith) in
    record { count = both.0; text = both.1 }

pub loop-piece-init : goal.loop-piece-init
loop-piece-init c =
    let a = c.args in listed-none a.edition a.pieces a.input.now a.first a.out.now _ _ (omega arith) (search rules) (search rules)

pub put_line-at-requires : goal.put_line-at-requires
put_line-at-requires c = listed-room c.loop-piece.invariant c.in-Some.ensures.steps.1.2

pub loop-piece-preserved : goal.loop-piece-preserved
loop-piece-preserved c =
    let e = c.in-Some.ensures.steps in
    let short = length-line c.loop-piece.number c.judge_piece-verdict.result (omega arith) (omega arith) (omega arith) in
    listed_next c.loop-piece.invariant _ _ _ c.judge_piece-verdict.result _ _ e.0 (record { whole = e.1.0; size = e.1.1; some = e.1.2 })
    c.judge_piece-verdict.ensures short c.put_line-at.ensures

pub shape_of-out : goal.shape_of-out
shape_of-out c = listed-length c.loop-piece.invariant

pub returns : goal.returns
unfolding list_count list_of
returns c =
    let a = c.args in
    let n = piece_count a.pieces (length a.input.now) in
    let r = listed-all c.loop-piece.invariant c.in-None.ensures.steps.1.0 in
    let both = answered-text (32 * n) (lines a.edition a.pieces n a.first a.input.now) a.out.now _ _ (omega arith) r.1 r.0 in
    record { count = both.0; text = both.1 }
