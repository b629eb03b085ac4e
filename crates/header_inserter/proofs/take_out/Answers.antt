-- `header_inserter::take_out` meets its contract. Assumes nothing.
use Rattle.header_inserter.proofs.Cases.{accepted-size, out-refused, taken}
use Rattle.header_inserter.proofs.take_out.Goals as goal

pub returns-then-number-ne0 : goal.returns-then-number-ne0
returns-then-number-ne0 c =
    let both = out-refused _ _ c.refusal-number.ensures c.if-number-ne0.true in
    record { number = both.0; header = both.1 }

pub put_into-requires : goal.put_into-requires
put_into-requires c = accepted-size _ _ c.refusal-number.ensures c.if-number-ne0.false

pub returns : goal.returns
returns c =
    let both = taken _ _ _ _ c.refusal-number.ensures c.if-number-ne0.false c.ac_ones-values.ensures c.put_into.ensures in
    record { number = both.0; header = both.1 }
