-- `abi_receiver::state_of` meets its contract. Assumes nothing.
use Rattle.abi_receiver.proofs.Numbers.{below-four, to-nineteen, above-nineteen}
use Rattle.abi_receiver.proofs.state_of.Goals as goal

pub returns-then-number-lt4 : goal.returns-then-number-lt4
returns-then-number-lt4 c = below-four _ c.if-number-lt4.true

pub returns-then-number-le19 : goal.returns-then-number-le19
returns-then-number-le19 c = to-nineteen _ c.if-number-lt4.false c.if-number-le19.true c.kind_at.ensures

pub returns : goal.returns
returns c = above-nineteen _ c.if-number-le19.false
