-- `place_desk::whole_part` meets its contract. Assumes nothing.
use Rattle.std.proofs.Common.{◌∙◌}
use lib.Ieee.{of_bits, neg}
use Rattle.place.proofs.Equality.{passes}
use Rattle.place_desk.proofs.Cases.{truncated-inside, truncated-above, truncated-below}
use Rattle.place_desk.proofs.whole_part.Goals as goal

pub truncating_f64_to_u64-requires : goal.truncating_f64_to_u64-requires
unfolding of_bits neg
truncating_f64_to_u64-requires c = record { lower_bound = passes c.if-x.true; upper_bound = passes c.if-x-2.true }

pub returns-then-x-2 : goal.returns-then-x-2
unfolding of_bits neg
returns-then-x-2 c = c.truncating_f64_to_u64.ensures ∙ truncated-inside _ c.if-x.true c.if-x-2.true

pub returns-else-x-2 : goal.returns-else-x-2
unfolding of_bits neg
returns-else-x-2 c = truncated-above _ c.if-x.true c.if-x-2.false

pub returns-else-x : goal.returns-else-x
unfolding of_bits neg
returns-else-x c = truncated-below _ c.if-x.false
