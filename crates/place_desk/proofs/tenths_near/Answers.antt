-- `place_desk::tenths_near` meets its contract. Assumes nothing.
use lib.Ieee.{of_bits, of_int}
use Rattle.place.specs.Degrees.{whole}
use Rattle.place_desk.proofs.Cases.{near-negated, near-plain}
use Rattle.place_desk.proofs.tenths_near.Goals as goal

pub returns-then-flag-eq1 : goal.returns-then-flag-eq1
unfolding whole of_int of_bits
returns-then-flag-eq1 c = near-negated _ _ _ c.if-flag-eq1.true c.whole_part.ensures

pub returns : goal.returns
unfolding whole of_int of_bits
returns c = near-plain _ _ _ c.if-flag-eq1.false c.whole_part-2.ensures
