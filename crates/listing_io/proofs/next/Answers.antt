use Rattle.std.proofs.Common.{arith, length-take}
use Rattle.listing_turns.proofs.Ahead.{told-ahead}
use Rattle.listing_io.proofs.next.Goals as goal

pub slice_bounds-write_all-end : goal.slice_bounds-write_all-end
slice_bounds-write_all-end g c = omega (arith, told-ahead _ _ _ _ _ c.list_piece-turn.ensures.told)

pub slice_bounds-write_all-end-2 : goal.slice_bounds-write_all-end-2
slice_bounds-write_all-end-2 g c = simp length-take (omega (arith, told-ahead _ _ _ _ _ c.list_piece-turn.ensures.told))
