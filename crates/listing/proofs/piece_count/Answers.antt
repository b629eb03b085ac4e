-- `listing::piece_count` meets its contract. Assumes nothing.
use native.Mathlib.Omega.{arith}
use Rattle.listing.proofs.Counts.{size-least, count-even, count-odd, count_most}
use Rattle.listing.proofs.piece_count.Goals as goal

pub nonzero_rem-n : goal.nonzero_rem-n
nonzero_rem-n c = omega (arith, size-least c.args.pieces)

pub nonzero_div-result : goal.nonzero_div-result
nonzero_div-result c = omega (arith, size-least c.args.pieces)

pub returns-then-n-size-eq0 : goal.returns-then-n-size-eq0
returns-then-n-size-eq0 c = let a = c.args in omega (arith, count-even a.pieces a.n _ c.piece_size-size.ensures c.if-n-size-eq0.true)

pub nonzero_div-result-2 : goal.nonzero_div-result-2
nonzero_div-result-2 c = omega (arith, size-least c.args.pieces)

pub overflow_add-result : goal.overflow_add-result
overflow_add-result c =
    let a = c.args in
    omega (arith, count-odd a.pieces a.n _ c.piece_size-size.ensures c.if-n-size-eq0.false, count_most a.pieces a.n)

pub returns : goal.returns
returns c = let a = c.args in omega (arith, count-odd a.pieces a.n _ c.piece_size-size.ensures c.if-n-size-eq0.false)
