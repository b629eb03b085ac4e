-- `listing_turns::turn_bytes` meets its contract. Assumes nothing.
use mathlib.Core.Path.{sym}
use native.Mathlib.Omega.{arith}
use Rattle.listing_turns.proofs.TurnSizes.{bytes_most, bytes-over, bytes-last, bytes_whole}
use Rattle.listing_turns.proofs.turn_bytes.Goals as goal

pub returns-then-listed-gt999999 : goal.returns-then-listed-gt999999
returns-then-listed-gt999999 c = let a = c.args in sym (bytes-over a.pieces a.listed (omega arith))

pub overflow_mul-result : goal.overflow_mul-result
overflow_mul-result c =
    let a = c.args in
    let last = bytes-last a.pieces a.listed _ _ _ (omega arith) c.per_turn.ensures c.piece_size.ensures c.if-left-per_turn.true in
    omega (arith, bytes_most a.pieces a.listed)

pub returns-then-left-per_turn : goal.returns-then-left-per_turn
returns-then-left-per_turn c =
    let a = c.args in
    bytes-last a.pieces a.listed _ _ _ (omega arith) c.per_turn.ensures c.piece_size.ensures c.if-left-per_turn.true

pub returns : goal.returns
returns c =
    let a = c.args in
    bytes_whole a.pieces a.listed _ _ (omega arith) c.per_turn.ensures c.if-left-per_turn.false
