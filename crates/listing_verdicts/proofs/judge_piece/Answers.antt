-- `listing_verdicts::judge_piece` meets its contract. Assumes nothing.
use native.Mathlib.Omega.{arith}
use lib.ListN.{length-take}
use borrow.Author.Rules.{rules}
use Rattle.listing_verdicts.proofs.Judging.{frame-judged, marked-judged}
use Rattle.listing_verdicts.proofs.judge_piece.Goals as goal

pub slice_bounds-judge_marked-end : goal.slice_bounds-judge_marked-end
slice_bounds-judge_marked-end c = simp length-take (omega arith)

pub returns-in-Frames : goal.returns-in-Frames
returns-in-Frames c = frame-judged c.args.edition c.args.pieces c.args.piece.now _ c.in-Frames.is (search rules)

pub returns-in-MarkedFrames : goal.returns-in-MarkedFrames
returns-in-MarkedFrames c =
    marked-judged _ _ _ _ _ c.in-MarkedFrames.is c.smaller-cut.ensures c.judge_marked.ensures
